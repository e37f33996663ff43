pub mod Replacing
mod Locking
mod Stops
