pub mod PieceKinds
pub mod Pushes
