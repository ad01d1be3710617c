pub use Rattle.yq_core.specs.Anchors
pub use Rattle.yq_core.specs.Tree
pub use Rattle.yq_core.specs.Paths
pub use Rattle.yq_core.specs.Keys
pub use Rattle.yq_core.specs.Shapes
pub use Rattle.yq_outline.specs.Outline
pub use Rattle.yq_outline.specs.Grammar
pub use Rattle.yq_outline.specs.Group
pub use Rattle.yq_outline.specs.LineAnchors
pub use Rattle.yq_outline.specs.Sound
pub use Rattle.yq_outline.specs.Ends
pub use Rattle.yq_outline.specs.Places
pub use Rattle.yq_outline.specs.Labelled
pub use Rattle.yq_outline.specs.Bodies as LineBodies
pub use Rattle.yq_outline.specs.Counts
pub use Rattle.yq_outline.specs.Comments
pub use Rattle.yq_outline.specs.Laws
pub use Rattle.yq_outline.specs.ShapedLines
