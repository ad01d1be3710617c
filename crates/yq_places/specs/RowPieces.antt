-- The pieces of a row after its mark, and of one that is cut after a dash (YAML 1.2.2, 8.1 and 8.2.1; own).
use Rattle.std.specs.Prelude.{ℕ, List, [], ◌∷◌, ◌++◌, replicate, take, if◌then◌else◌}
use Rattle.yq_core.specs.Text.{is_empty}
use Rattle.yq_row_table.{specs.Joined.dashed_row, specs.Rows.{Nothing, Row, dashes_text}, specs.View.Slices}

-- the anchor of a row with the white space before it, if it has one
abbrev pub anchor_before : Slices → List ℕ
anchor_before s = if is_empty s.anchor then [] else s.space ++ s.anchor

-- the white space before the head of a row; without a head there is none, it is in the tail
abbrev pub space_before : Slices → List ℕ
space_before s = if is_empty s.anchor then s.space else s.apart

-- a row up to the dash before which so many others are (8.2.1)
abbrev pub upto_dash : ℕ → Row → Row
upto_dash line r = dashed_row (take line r.dashes) (Nothing []) r

-- what comes after a dash, by the spaces after it and after each dash after it (8.2.1)
abbrev pub past_dash : List ℕ → List ℕ → List ℕ
past_dash [] rest = rest
past_dash (n ∷ ns) rest = replicate n 32 ++ dashes_text ns rest
