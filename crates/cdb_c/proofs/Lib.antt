-- What a slot owns is what a box owns, how its parts are moved, and what a look of a maker finds.
pub mod AsBox
pub mod PartMoves
pub mod Looks
