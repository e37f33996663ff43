-- Map texts.
pub mod MapLines
pub mod MapReads
pub mod WholeMap
pub mod LinePrefix
