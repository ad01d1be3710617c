-- Where rows begin in their text (own), by the pieces of the rows and of the ends of parts in front of them.
use Rattle.std.{specs.Prelude.{ℕ, ◌+◌, ◌*◌, nat_le, length, take, if◌then◌else◌}, specs.List.sum_by}
use Rattle.yq_core.specs.Text.{is_empty}
use Rattle.yq_row_table.{specs.Offsets.row_length, specs.View.{Slices, Bound, RowsView}}

-- how long the end of a part is, with the marker after it (own)
abbrev pub bound_length : Bound → ℕ
bound_length b = length b.end + length b.marker

-- the same where that part ends before row i, else 0 (own)
abbrev pub passed_length : ℕ → Bound → ℕ
passed_length i b = if nat_le b.rows i then bound_length b else 0

-- how long the pieces of the rows and the ends of the parts before row i are (own)
abbrev pub row_start : ℕ → RowsView → ℕ
row_start i s = sum_by row_length (take i s.rows) + sum_by (passed_length i) s.bounds

-- how long the pieces of the rows and the ends of the parts before the end of part i are, with its own gap (own)
abbrev pub part_end : ℕ → Bound → RowsView → ℕ
part_end i b s = sum_by row_length (take b.rows s.rows) + sum_by bound_length (take i s.bounds) + length b.end

-- how long the pieces of a row before its head are (own)
abbrev pub front_length : Slices → ℕ
front_length s = length s.gap + s.column + length s.dashes + length s.key + length s.colon + length s.space + length s.anchor + length s.apart

-- how deep a row begins: three for each column, and 3 for a dash, 2 for a key, or 1 for a node itself (YAML 1.2.2, section 8.2.3; own)
abbrev pub row_level : Slices → ℕ
row_level s = 3 * s.column + (if is_empty s.dashes then (if is_empty s.colon then 1 else 2) else 3)
