-- Statistics.
pub mod Counters
pub mod SlotCounts
pub mod StatsLaws
