-- The parts of a file, and the walk over it.
pub mod Sizes
pub mod Places
pub mod Prefixes
pub mod WalkSteps
pub mod Standing
pub mod WalkLaws
pub mod TableLemmas
