-- Tables that were filled, and runs of their slots.
pub mod Filled
pub mod Reached
pub mod Fits
pub mod SlotTables
pub mod FileTables
pub mod Once
pub mod RunEnds
