pub mod HeldRows
pub mod Knowledge
pub mod KnownDocuments
pub mod PartNodes
pub mod PathLines
pub mod RowFronts
