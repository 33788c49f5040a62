pub mod Piece
pub mod Table
