-- Readers of which something is known at the end.
pub mod FeedLemmas
pub mod KnownReaders
