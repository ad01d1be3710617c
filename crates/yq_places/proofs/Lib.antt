pub mod RootPlaceLaws
pub mod CommentPlaceLaws
pub mod CommentLocationLaws
pub mod EntryPlaceLaws
pub mod FlowPlaceLaws
pub mod HeadEnds
pub mod StartLaws
pub mod EntryPlacedLaws
pub mod HeldLaws
pub mod UncommentedLaws
pub mod CommentPieceLaws
pub mod CommentSpans
pub mod SeamLaws
pub mod SearchLaws
pub mod FinishLaws
pub mod HeadSpanLaws
pub mod FlowSpanLaws
pub mod DashLineLaws
pub mod RowPathLaws
pub mod RowLineSpans
pub mod WalkDocuments
pub mod WalkLines
pub mod WalkNodes
pub mod UnderExchange
pub mod PrintedTexts
pub mod PieceTexts
pub mod PrintedLaws
pub mod FoundEntries
pub mod FlowPieces
pub mod PieceSpelling
pub mod PrintedRowLines
pub mod RunSpans
pub mod UnderCounts
pub mod FlowSpans
pub mod PieceSpans
pub mod PieceHolds
pub mod PieceExists
pub mod PieceBegins
pub mod PieceExamples
pub mod LineEndLaws
pub mod PlacedRowLaws
pub mod CommentEndLaws
pub mod PlacedPartLaws
pub mod RemovalTexts
pub mod RemovalLines
pub mod RemovalPlaceLaws
pub mod RemovalBounds
pub mod RemovalViewLaws
pub mod FirstLaws
pub mod FirstExamples
pub mod StepLaws
pub mod FoundLaws
pub mod NodePlaceLaws
pub mod RowHeads
pub mod NodeAtLaws
pub mod LastBreakLaws
pub mod ContentEndLaws
pub mod FlowViewLaws
pub mod HeadSteps
pub mod FlowNodeLaws
pub mod DashLaws
pub mod KnownEndLaws
pub mod KnownFronts
pub mod UptoLaws
pub mod StrippedLines
pub mod KeptLines
mod HalvesLaws
mod FirstBreakLaws
pub mod EntryNumbers
mod LinesCutLaws
mod EntryRowLaws
mod HeldTexts
pub mod HeldRowLaws
pub mod PlacementViewLaws
mod CutLaws
mod LoneLaws
pub mod RootPlacementLaws
