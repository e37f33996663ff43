-- What the runs that make a database are to do.
pub mod Runs
pub mod Laws
