-- What making a database is to do.
pub mod Views
pub mod Unfinished
pub mod Rolls
pub mod Chains
pub mod Tables
pub mod Survivors
pub mod Spans
