pub mod CutRows
mod KnownDocumentLaws
mod DocumentFronts
mod RowItems
pub mod RowParts
mod HeldUptoLaws
mod RowFrontLaws
mod RowNodes
pub mod PathLineLaws
