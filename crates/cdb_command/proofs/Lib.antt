-- Lemmas that answers name.
pub mod Characters
pub mod Plans
pub mod ShownText
