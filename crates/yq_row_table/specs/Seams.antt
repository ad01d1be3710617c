-- Seams: what a row asks of the text after it, and a row that takes the place of another one.
use Rattle.std.specs.Prelude.{◌≡◌, ℕ, ℤ, Bool, true, false, ◌||◌, List, [], ◌∷◌, ◌++◌, Some, if◌then◌else◌}
use Rattle.yq_core.{specs.Block.{ends_block, keeps}, specs.Piece.deeper, specs.Plain.ends_plain, specs.Text.{is_empty, is_line, text_lines}}
use Rattle.yq_core.specs.Alike.{Alike}
use Rattle.yq_row_table.specs.Exchange.{asked_after, with_content}
use Rattle.yq_row_table.specs.Grammar.{IsTail, is_plain_content, IsRow, Limit, AreRows, no_rows, ends_part}
use Rattle.yq_row_table.specs.Rows.{Content, Nothing, Inline, Block, Row, print_row, rows_text}

-- a tail has a break, or nothing is after it (YAML 1.2.2, section 6.6)
abbrev pub is_closed : List ℕ → List ℕ → Bool
is_closed tail rest = is_line tail || is_empty rest

-- What a content asks of the text after it that no column tells: after a tail without a break there is none, and after a block scalar is what
-- ends it; a plain scalar asks for a column alone (YAML 1.2.2, sections 6.6 and 8.1.1.2).
abbrev pub is_seam : Content → List ℕ → Bool
is_seam (Nothing tail) rest = is_closed tail rest
is_seam (Inline space node tail) rest = is_closed tail rest
is_seam (Block space anchor block) rest = ends_block (keeps block.chomping) block.indent (text_lines rest)

-- what the last of these rows asks of the text after it (own)
abbrev pub are_seamed : List Row → List ℕ → Bool
are_seamed [] rest = true
are_seamed (r ∷ rs) rest = if no_rows rs then is_seam r.content rest else are_seamed rs rest

-- Rows with a gap may come after others, of which a limit was asked: they begin where those allow, their text may be there, and after them the
-- part ends (own).
pub record MayFollowRows (limit : Limit) (front new : List Row) (end rest : List ℕ) : Type 0 where
  pub rows : AreRows (asked_after limit front) new end rest
  pub seam : are_seamed front (rows_text new (end ++ rest)) ≡ true
  pub ends : ends_part rest ≡ true

-- A row before a text takes the place of another one before another text: it is a row there, and their texts begin alike (own).
pub record TakesPlace (limit : Limit) (r : Row) (t : List ℕ) (s : Row) (u : List ℕ) : Type 0 where
  pub row : IsRow limit s u
  pub alike : Alike (Some false) (print_row r t) (print_row s u)

-- the tail after a content; a block scalar has none (YAML 1.2.2, section 6.6)
abbrev pub tail_after : Content → List ℕ
tail_after (Nothing tail) = tail
tail_after (Inline space node tail) = tail
tail_after (Block space anchor block) = []

-- a content with another tail; a block scalar has none after it (own)
abbrev pub with_tail : List ℕ → Content → Content
with_tail new (Nothing tail) = Nothing new
with_tail new (Inline space node tail) = Inline space node new
with_tail new (Block space anchor block) = Block space anchor block

-- a row with another tail (own)
abbrev pub retail : List ℕ → Row → Row
retail new r = with_content (with_tail new r.content) r

-- A tail may come after a content in the place of its own, before a rest: it is one there, and a plain scalar ends in front of it; after a block
-- scalar is what ends it (own).
abbrev pub TailFits : ℤ → List ℕ → Content → List ℕ → Type 0
TailFits n new (Nothing tail) rest = IsTail new rest
TailFits n new (Inline space node tail) rest = IsTail new rest × (is_plain_content node ≡ true → ends_plain false (Some (deeper n)) (new ++ rest) ≡ true)
TailFits n new (Block space anchor block) rest = ends_block (keeps block.chomping) block.indent (text_lines rest) ≡ true

-- a content is a block scalar (YAML 1.2.2, section 8.1)
abbrev pub is_block : Content → Bool
is_block (Nothing tail) = false
is_block (Inline space node tail) = false
is_block (Block space anchor block) = true

-- the last of these rows holds a block scalar (own)
abbrev pub ends_in_block : List Row → Bool
ends_in_block [] = false
ends_in_block (r ∷ rs) = if no_rows rs then is_block r.content else ends_in_block rs

-- the last of these rows has a break after its tail (own)
abbrev pub ends_in_line : List Row → Bool
ends_in_line [] = true
ends_in_line (r ∷ rs) = if no_rows rs then is_line (tail_after r.content) else ends_in_line rs
