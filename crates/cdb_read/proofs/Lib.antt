pub mod Bytes
pub mod Lists
pub mod Walked
pub mod FilledTables
pub mod WholeFiles
pub mod Probing
pub mod Counting
pub mod Checks
pub mod Differences
pub mod DoneAgain
pub mod DifferenceBytes
pub mod InOrderFiles
pub mod FirstKeys
pub mod FoundSoFar
pub mod Lacking
pub mod TablesInside
mod Words
pub mod Passes
pub mod ComparedValues
pub mod WholeDifferences
pub mod PassStops
pub mod PassSteps
pub mod PutValues
pub mod MarkBits
pub mod Marked
pub mod Steps
mod Looked
mod DifferenceWords
pub mod MemoryBytes
pub mod MemoryRecords
