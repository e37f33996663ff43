pub mod Folder
pub mod Wanted
pub mod Refusals
pub mod Replacing
