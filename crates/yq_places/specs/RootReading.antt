-- Reading (own; you may skip it): documents without rows, by the bounds of parts, as the code counts.
use Rattle.std.specs.Prelude.{ℕ, [], ◌++◌, length, Option, Some, None, option_map, if◌then◌else◌}
use Rattle.yq_core.specs.Answers.{◌>>=◌}
use Rattle.yq_row_table.{specs.Grammar.no_rows, specs.Rows.Cut}
use Rattle.yq_documents.specs.Pieces.{TextPiece}
use Rattle.yq_places.specs.PlacedRows.{PlacedPart, placed_document}

-- a document in its text, if it has no rows
abbrev pub if_rowless : PlacedPart → Option TextPiece
if_rowless d = if no_rows d.part.rows then Some (record { before = d.before ++ d.part.end; text = []; after = d.after }) else None

-- document n in its text, if it has no rows
abbrev pub rowless_place : ℕ → Cut → Option TextPiece
rowless_place n c = placed_document n c >>= if_rowless

-- where its gap ends, in bytes
abbrev pub rowless_at : ℕ → Cut → Option ℕ
rowless_at n c = option_map (λ (w : TextPiece). length w.before) (rowless_place n c)
