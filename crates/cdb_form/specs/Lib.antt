-- The format of constant databases and its texts, and what clauses read of this crate's types.
pub mod Format
pub mod Text
pub mod Views
pub mod Laws
pub mod Examples
