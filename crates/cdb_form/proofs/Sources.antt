-- What a source read, piece after piece.
pub mod SourceLemmas
pub mod AskingLemmas
