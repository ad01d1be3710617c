-- Rows taken away, and the gap that then is in their place.
use Rattle.std.specs.Prelude.{◌≡◌, ℕ, Bool, true, false, ◌||◌, not, List, [], ◌∷◌, ◌++◌, take, drop, ◌<◌, Option, Some, None, if◌then◌else◌}
use Rattle.yq_core.{specs.Block.{BlockText, keeps}, specs.BlockRepair.repair, specs.Lines.is_blank, specs.Text.{joined, text_lines}}
use Rattle.yq_row_table.{specs.Exchange.allows_first, specs.Grammar.no_rows, specs.Rows.{Content, Nothing, Inline, Block, Row, Part, Cut}}
use Rattle.yq_row_table.specs.Splices.{first_gap, splice, nth_part, front_rows, back_rows, gap_before, asked_at}

-- the block scalar of a content, if it is one (YAML 1.2.2, section 8.1)
abbrev pub block_of : Content → Option BlockText
block_of (Nothing tail) = None
block_of (Inline space node tail) = None
block_of (Block space anchor block) = Some block

-- whether a block scalar keeps the empty lines at its end, and how far its text is indented (YAML 1.2.2, sections 8.1.1.1 and 8.1.1.2)
abbrev pub block_numbers : BlockText → Bool × ℕ
block_numbers b = (keeps b.chomping, b.indent.columns)

-- the block scalar that the last of these rows holds, if it does (own)
abbrev pub last_block : List Row → Option BlockText
last_block [] = None
last_block (r ∷ rs) = if no_rows rs then block_of r.content else last_block rs

-- one of these lines isn't blank (own)
abbrev pub hold_comment : List (List ℕ) → Bool
hold_comment [] = false
hold_comment (l ∷ ls) = not (is_blank l) || hold_comment ls

-- The gap in which a gap ends up after what stays of another one: after a block scalar, if no comment stays in front of it, it is repaired
-- (own).
abbrev pub seam_gap : Option BlockText → (column : ℕ) → (kept next : List ℕ) → List ℕ
seam_gap None column kept next = kept ++ next
seam_gap (Some b) column kept next =
    if hold_comment (text_lines kept) then kept ++ next else kept ++ joined (repair (keeps b.chomping) b.indent.columns column (text_lines next))

-- the column of the next row, or 0 where a part ends (own)
abbrev pub next_column : List Row → ℕ
next_column [] = 0
next_column (r ∷ rs) = r.column

-- A column is less than the indentation of a block scalar's text, if there is one (own).
abbrev pub IsLessDeep : Option BlockText → (column : ℕ) → Type 0
IsLessDeep None column = Unit {0}
IsLessDeep (Some b) column = column < b.indent.columns

-- the gap where rows from i up to j of a part are taken away, and these lines of the gap before them stay (own)
abbrev pub removed_gap : (i j : ℕ) → (kept : List (List ℕ)) → Part → List ℕ
removed_gap i j kept p = seam_gap (last_block (take i p.rows)) (next_column (drop j p.rows)) (joined kept) (first_gap (drop j p.rows) p.end)

-- a cut without the rows from i up to j of part k, where these lines of the gap before them stay (own)
abbrev pub without_rows : (k i j : ℕ) → (kept : List (List ℕ)) → Cut → Cut
without_rows k i j kept c = splice k i j [] (removed_gap i j kept (nth_part k c)) c

-- Rows from i up to j of part k may be taken away, of which there are some, and the front of the gap before them stays: the next row may follow, and
-- comes before the column of a block scalar's text (own).
pub record RepairFits (k i j : ℕ) (kept run : List (List ℕ)) (c : Cut) : Type 0 where
  pub some : no_rows (back_rows k i c) ≡ false
  pub lines : text_lines (gap_before k i c) ≡ kept ++ run
  pub next : allows_first (asked_at k i c) (back_rows k j c) ≡ true
  pub less : IsLessDeep (last_block (front_rows k i c)) (next_column (back_rows k j c))
