-- What clauses read of the types of this crate.
pub mod Fault
pub mod Window
pub mod WindowRests
pub mod Output
pub mod ItemReader
pub mod KeyReader
pub mod LookUps
pub mod Noted
