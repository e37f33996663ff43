-- Tables, slot by slot, and their pointers.
pub mod HeadPointers
pub mod TableBytes
pub mod Counts
