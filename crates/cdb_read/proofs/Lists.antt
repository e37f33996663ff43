-- Lists of slots and entries.
pub mod Counts
pub mod Apart
pub mod Meeting
pub mod Rising
