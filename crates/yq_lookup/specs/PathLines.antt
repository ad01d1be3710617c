-- Reading (own; you may skip it): the lines of items and entries at paths.
use Rattle.std.specs.Prelude.{◌≡◌, Some, option_map}
use Rattle.yq_row_table.specs.Rows.{Cut}
use Rattle.yq_documents.{specs.LinesInRows.{document_row, row_line_at}, specs.declared.path.Path.Path}
use Rattle.yq_outline.specs.declared.line_position.Position.{Position}
use Rattle.yq_places.specs.RowLineReading.{position_in}

-- A line is that of the item or entry at a path.
abbrev pub IsLineOf : Path → Cut → Position → Type 0
IsLineOf p c q = Some q ≡ option_map (position_in (document_row p.doc c)) (row_line_at p c)
