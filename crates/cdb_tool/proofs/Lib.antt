pub mod WholeRuns
pub mod BaseRecords
pub mod Batches
pub mod Courses
pub mod InputRuns
pub mod FedRuns
pub mod FedEnds
pub mod AgreeingRuns
pub mod RunEnds
pub mod RestoreLaws
pub mod BaseDifferences
pub mod MadeOf
pub mod ToldLines
pub mod Batched
pub mod InputBatches
pub mod FrontItems
pub mod LongValues
mod MakerSteps
mod Words
