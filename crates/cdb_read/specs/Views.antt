-- What clauses read of the types of this crate.
pub mod Reader
pub mod Finder
pub mod Window
pub mod TableRecords
pub mod RecordLists
pub mod Search
pub mod Check
pub mod Stats
pub mod Walking
pub mod Reads
pub mod Spans
