-- The slots of a table that is filled in its own bytes.
pub mod SlotBytes
pub mod Filling
pub mod RunLemmas
