-- What writers and readers of pieces hold.
pub mod Written
pub mod Fitting
pub mod Compare
pub mod Headers
