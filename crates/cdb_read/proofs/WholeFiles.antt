-- Laws of whole files.
pub mod SoundFiles
pub mod FaultLaws
pub mod LookupLaws
pub mod SoundLookups
pub mod Searched
