-- Files that were worked out by hand, each with the first fault that the definitions compute.
pub mod Faults
