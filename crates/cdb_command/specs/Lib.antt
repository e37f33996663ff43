-- What a command line means, and what is said of one that means nothing.
pub mod Line
pub mod Letters
pub mod Asked
pub mod BadWord
pub mod Rules
pub mod Words
pub mod Usage
pub mod Examples
pub mod Refused
