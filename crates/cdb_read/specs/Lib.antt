-- What a look-up finds in any bytes, and what clauses read of this crate's types.
pub mod Differing
pub mod Laws
pub mod Memory
pub mod Statistics
pub mod Views
pub mod Lookup
pub mod Sound
pub mod Difference
pub mod Examples
