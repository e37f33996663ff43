pub mod Coming
pub mod ComparedFiles
pub mod Explained
pub mod FilesRead
pub mod InputsKnown
pub mod ManyKeys
pub mod Opens
pub mod OutputTaken
pub mod Said
pub mod Streams
pub mod StreamsRead
mod Words
