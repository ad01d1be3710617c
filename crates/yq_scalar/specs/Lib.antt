pub mod WrittenScalars
pub mod RepairedGaps
pub mod QuotedTexts
pub mod WrittenLines
