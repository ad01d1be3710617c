-- By how many columns the collections of a document are deeper than their keys (own).
use Rattle.std.specs.Prelude.{ℕ, ◌-◌, ◌&&◌, nat_lt, List, [], ◌∷◌, Option, Some, None, slice_get, Bool, true, false, not, if◌then◌else◌}
use Rattle.yq_row_table.specs.Rows.{Cut, Part}
use Rattle.yq_outline.{specs.Outline.{LineMark, Bare, Key, Dash, Line, level}, specs.Lines.lines_of_rows}
use Rattle.yq_documents.specs.Documents.{document_parts}

-- a line begins with a key (8.2.2)
abbrev pub is_key : LineMark → Bool
is_key Bare = false
is_key (Key k) = true
is_key Dash = false

-- a line begins with a dash, or with a key, as the flag asks
abbrev pub is_kind : (dashes : Bool) → LineMark → Bool
is_kind dashes Bare = false
is_kind dashes (Key k) = not dashes
is_kind dashes Dash = dashes

-- a line begins a collection of a kind under the key of the line before it
abbrev pub begins_under : (LineMark → Bool) → Line → Line → Bool
begins_under is l m = is_key l.mark && (is m.mark && nat_lt (level l) (level m))

-- by how many columns the first collection of a kind that is under a key is deeper than that key; 2 where there is none
abbrev pub first_step : (LineMark → Bool) → List Line → ℕ
first_step is [] = 2
first_step is (l ∷ []) = 2
first_step is (l ∷ (m ∷ ls)) = if begins_under is l m then m.column - l.column else first_step is (m ∷ ls)

-- The steps of a document: how much deeper than its key a mapping, and a sequence, is.
pub record IndentSteps : Type 0 where
  pub mapping : ℕ
  pub sequence : ℕ

-- the steps of lines
abbrev pub steps_in : List Line → IndentSteps
steps_in ls = record { mapping = first_step (is_kind false) ls; sequence = first_step (is_kind true) ls }

-- the steps of a part; where there is none, 2 and 2
abbrev pub steps_of_part : Option Part → IndentSteps
steps_of_part None = record { mapping = 2; sequence = 2 }
steps_of_part (Some p) = steps_in (lines_of_rows p.rows)

-- the steps of document n of a cut
abbrev pub document_steps : ℕ → Cut → IndentSteps
document_steps n c = steps_of_part (slice_get (document_parts c) n)
