-- Laws of the format and of its texts, as propositions.
pub mod Text
pub mod Parse
