-- The walk over the records.
pub mod Walks
pub mod WalkedLengths
pub mod AheadRecords
