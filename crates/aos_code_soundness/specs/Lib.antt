pub mod Piece
pub mod Bodies
pub mod Images
pub mod Parts
