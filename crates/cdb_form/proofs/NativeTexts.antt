-- Native and amending texts.
pub mod Grammar
pub mod Spelling
pub mod WholeForm
pub mod Stops
pub mod TextLaws
pub mod RecordLemmas
pub mod FormReads
pub mod LongValues
pub mod KeyTexts
pub mod PrefixLemmas
pub mod ShortLengths
pub mod Parsing
