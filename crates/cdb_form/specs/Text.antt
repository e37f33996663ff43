-- The texts of a list of records, and of a list of changes.
pub mod Form
pub mod Native
pub mod Map
pub mod Parse
