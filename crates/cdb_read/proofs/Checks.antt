-- A check, slot by slot and record by record.
pub mod TableChecks
pub mod FilledChecks
pub mod FaultSteps
pub mod Entered
pub mod Buckets
pub mod Tells
pub mod SlotChecks
pub mod ListMarks
pub mod Elsewhere
pub mod Earliest
pub mod AllTables
pub mod EnteredWalk
pub mod CheckLaws
