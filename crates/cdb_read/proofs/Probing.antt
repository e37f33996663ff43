-- A search, probe by probe.
pub mod Probes
pub mod Beginnings
pub mod Headers
pub mod Searches
pub mod Pairs
