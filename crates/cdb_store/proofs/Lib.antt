pub mod Traces
pub mod Parts
pub mod Compared
pub mod Moves
pub mod OverLemmas
pub mod FuseLemmas
pub mod RawCalls
pub mod Puts
pub mod Answered
pub mod FileLemmas
pub mod FileFaults
pub mod Reading
mod Words
