pub mod ClosedLaws
pub mod AskedLaws
pub mod PlacedValueLaws
pub mod PushedLaws
pub mod AboveLaws
pub mod RowKeptLaws
