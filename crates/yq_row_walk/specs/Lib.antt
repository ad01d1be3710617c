pub use Rattle.yq_outline.specs.Outline
pub use Rattle.yq_outline.specs.Ends
pub use Rattle.yq_outline.specs.Places
pub use Rattle.yq_outline.specs.Positions
pub use Rattle.yq_outline.specs.Comments
pub use Rattle.yq_outline.specs.View
pub mod Walk
