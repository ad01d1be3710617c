pub mod HeadCases
