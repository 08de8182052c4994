pub use Rattle.edge_text.specs.Edges
pub mod Bands
pub mod Counted
pub mod Pairs
pub mod Rows
pub mod Vertices
