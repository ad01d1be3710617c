-- Reading (own; you may skip it): the line of a path, by the pieces of rows.
use Rattle.std.specs.Prelude.{ℕ, ◌+◌}
use Rattle.yq_documents.specs.LinesInRows.{RowLine}
use Rattle.yq_outline.specs.declared.line_position.Position.{Position}

-- the position of a line, after so many rows
abbrev pub position_in : ℕ → RowLine → Position
position_in k s = record { row = k + s.before; line = s.line }
