pub use Rattle.edge_text.specs.Edges
pub use Rattle.graph_store.specs.Vertices
pub mod Draws
pub mod Levels
pub mod Marks
pub mod Walks
