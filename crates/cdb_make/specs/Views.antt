-- What clauses read of the types of this crate.
pub mod Appending
pub mod Chains
pub mod Long
pub mod Places
pub mod Roll
pub mod Writing
pub mod Maker
