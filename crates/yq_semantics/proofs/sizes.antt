pub mod TextSizes
pub mod FlowSizes
pub mod RowSizes
pub mod AfterSizes
