pub mod Bytes
pub mod Files
pub mod Sources
pub mod RecordReading
pub mod NativeTexts
pub mod MapTexts
pub mod Slots
pub mod Fed
pub mod Filling
mod Words
