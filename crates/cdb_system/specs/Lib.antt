pub mod Inputs
pub mod NotedExamples
pub mod Opening
mod OracleExamples
pub mod Reading
pub mod Telling
pub mod Causes
pub mod State
pub mod Oracle
pub mod Answered
