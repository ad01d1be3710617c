-- What is put after a text that has no final break.
use Rattle.std.specs.Prelude.{◌≡◌, ℕ, Bool, true, false, ◌&&◌, List, [], ◌++◌}
use Rattle.yq_core.specs.Text.{is_break, is_empty, is_line}
use Rattle.yq_row_table.{specs.Grammar.{IsPart, begins_document}, specs.Rows.{Row, Part, Cut, last, marked}}
use Rattle.yq_row_table.{specs.Seams.{tail_after, retail, is_block}, specs.Splices.{nth_part, after_part, IsRowAmong}}

-- a break and nothing else (YAML 1.2.2, section 5.4)
abbrev pub is_one_break : List ℕ → Bool
is_one_break break = is_break break && is_line break

-- a row with a break after its tail (own)
abbrev pub closed_by : List ℕ → Row → Row
closed_by break r = retail (tail_after r.content ++ break) r

-- A row may get a break: it holds no block scalar, and its tail has none (own).
pub record TakesBreak (r : Row) (break : List ℕ) : Type 0 where
  pub inline : is_block r.content ≡ false
  pub bare : is_line (tail_after r.content) ≡ false
  pub break_is : is_one_break break ≡ true

-- After these rows of part k is a row, and nothing after that (own).
pub record IsLastRow (k : ℕ) (front : List Row) (r : Row) (c : Cut) : Type 0 where
  pub row : IsRowAmong k front r [] c
  pub end : (nth_part k c).end ≡ []
  pub nothing : after_part k c ≡ []

-- the line of the last marker of a text, if it has one (YAML 1.2.2, section 9.1)
abbrev pub last_marker : Cut → List ℕ
last_marker (last p) = []
last_marker (marked p marker (last q)) = marker
last_marker (marked p marker (marked q other c)) = last_marker (marked q other c)

-- a cut, whose last marker gets a break, and then comes this part (own)
abbrev pub with_last_part : (break : List ℕ) → Part → Cut → Cut
with_last_part break new (last p) = last p
with_last_part break new (marked p marker (last q)) = marked p (marker ++ break) (last new)
with_last_part break new (marked p marker (marked q other c)) = marked p marker (with_last_part break new (marked q other c))

-- A part may come after the last marker of a text: there is a marker, which may get a break, and it is a part after it (own).
pub record PartFits (break : List ℕ) (new : Part) (c : Cut) : Type 0 where
  pub some : is_empty (last_marker c) ≡ false
  pub bare : is_line (last_marker c) ≡ false
  pub break_is : is_one_break break ≡ true
  pub part : IsPart (begins_document (last_marker c)) new []
