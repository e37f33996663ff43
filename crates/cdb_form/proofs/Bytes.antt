-- Bytes, words and what is written of them.
pub mod ByteLemmas
pub mod CopyLemmas
pub mod HashLemmas
pub mod HeadLemmas
pub mod WordLemmas
pub mod ReadBack
pub mod WritingLemmas
pub mod LaneRuns
pub mod NumeralLemmas
pub mod ShortNumerals
