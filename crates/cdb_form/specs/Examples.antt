-- Files that were worked out by hand, and what the definitions make of them.
pub mod Maps
mod Texts
pub mod Files
