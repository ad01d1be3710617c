pub mod ReadAnswers
pub mod Lexing
pub mod Outcome
pub mod Parse
pub mod TokenView
pub use Rattle.yq_core.specs.Values
pub use Rattle.yq_core.specs.Tree
pub mod FormAnswers
