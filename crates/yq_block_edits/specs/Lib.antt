pub mod SegmentsPut
pub mod TextsPut
