-- Files that were worked out by hand, each with the walk that the definitions compute.
pub mod Walks
