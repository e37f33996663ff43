-- What the runs that make a database leave.
pub mod Batches
pub mod LongValues
pub mod Make
pub mod InputsRead
pub mod Made
pub mod MakesSo
