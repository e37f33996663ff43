-- Bytes that are read, piece by piece.
pub mod RecordsAt
pub mod Heads
pub mod PieceReads
pub mod Compare
pub mod Windows
