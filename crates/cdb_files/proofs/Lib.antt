mod Failing
pub mod Asking
pub mod Finishing
pub mod Stepping
