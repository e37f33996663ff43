pub mod WholeMaps
pub mod WholeWalks
