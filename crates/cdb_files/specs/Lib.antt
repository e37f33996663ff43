pub mod FileFault
pub mod Made
pub mod Opening
pub mod Callers
