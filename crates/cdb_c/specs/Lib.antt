-- What the exports answer.
pub mod Answers
pub mod Codes
pub mod Addresses
pub mod Calls
