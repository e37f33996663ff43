-- Records read one after the other.
pub mod RecordAreas
pub mod RecordReads
pub mod Stored
pub mod StreamLemmas
