-- The ends of the parts of a text on both sides of a split, as they are kept (own; you may skip it).
use Rattle.std.specs.Prelude.{ℕ, ◌+◌, ◌-◌, ◌%◌, ◌^◌, List, ◌++◌, drop, map, reverse, take}
use Rattle.yq_row_table.{specs.declared.ends.EndPlace.EndPlace, specs.declared.ends.Measure.Measure, specs.declared.ends.Shift.Shift}
use Rattle.yq_row_table.specs.declared.ends.Measure.TheVariants as measures

-- the end of a part before which so many rows and so many bytes more come, each number counted from 0 on again after the largest one (own)
abbrev pub shifted : Shift → EndPlace → EndPlace
shifted by e = record e { rows = (e.rows + by.rows) % 2 ^ 64; start = (e.start + by.bytes) % 2 ^ 32 }

-- from after so many rows and bytes to after so many others (own)
abbrev pub shift_between : (rows bytes new_rows new_bytes : ℕ) → Shift
shift_between rows bytes new_rows new_bytes = record { rows = (new_rows + (2 ^ 64 - rows)) % 2 ^ 64; bytes = (new_bytes + (2 ^ 32 - bytes)) % 2 ^ 32 }

-- one shift after another one (own)
abbrev pub both_shifts : Shift → Shift → Shift
both_shifts a b = record { rows = (a.rows + b.rows) % 2 ^ 64; bytes = (a.bytes + b.bytes) % 2 ^ 32 }

-- ends in front of a split, and those after it, the last one first, which are to be shifted (own)
abbrev pub both_ends : Shift → (front after : List EndPlace) → List EndPlace
both_ends by front after = front ++ map (shifted by) (reverse after)

-- how many rows or bytes come before the end of a part (own)
abbrev pub measure_of : Measure → EndPlace → ℕ
measure_of measures.Rows e = e.rows
measure_of measures.Bytes e = e.start

-- ends in front of those that are replaced, the others, and the ends after them, these two shifted (own)
abbrev pub ends_exchanged : (from to : ℕ) (place later : Shift) (ends found : List EndPlace) → List EndPlace
ends_exchanged from to place later ends found = take from ends ++ (map (shifted place) found ++ map (shifted later) (drop to ends))
