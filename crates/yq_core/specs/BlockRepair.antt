-- A gap put after a block scalar (own).
use Rattle.std.specs.Prelude.{◌≡◌, ℕ, Bool, true, ◌||◌, ◌&&◌, not, nat_le, nat_lt, List, [], ◌∷◌, ◌++◌, replicate, if◌then◌else◌}
use Rattle.yq_core.{specs.declared.block_lines.TextIndent.TextIndent, specs.Block.{RawLines, is_less_indented}}
use Rattle.yq_core.{specs.Lines.{spaces, without_spaces, is_tab, is_hash, is_blank}, specs.Text.{ends_line, past_white}}

-- each line is blank or a comment line (own)
abbrev pub AreGap : RawLines → Type 0
AreGap [] = Unit {0}
AreGap (l ∷ ls) = ((is_blank l || is_hash (past_white l)) ≡ true) × AreGap ls

-- a blank line that stays as it is: of spaces alone, no more than the scalar's text is indented by (own)
abbrev pub is_short : ℕ → List ℕ → Bool
is_short m l = ends_line (without_spaces l) && nat_le (spaces l) m

-- a comment line that stays as it is: less indented, with no tab before its `#` (own)
abbrev pub is_outdented_comment : ℕ → List ℕ → Bool
is_outdented_comment m l = nat_lt (spaces l) m && not (is_tab (without_spaces l))

-- a blank line, emptied if it doesn't stay as it is; its break stays (own)
abbrev pub repaired_blank : ℕ → List ℕ → List ℕ
repaired_blank m l = if is_short m l then l else past_white l

-- a comment line, moved to this column if it doesn't stay as it is (own)
abbrev pub repaired_comment : ℕ → ℕ → List ℕ → List ℕ
repaired_comment m column l = if is_outdented_comment m l then l else replicate column 32 ++ past_white l

-- A gap after a block scalar whose text is indented by m columns: the blank lines in front go if the scalar keeps empty lines, else those are
-- emptied that don't stay as they are; the first comment line is moved to this column if it doesn't stay as it is (own).
unfoldable pub repair : Bool → ℕ → ℕ → RawLines → RawLines
repair keep m column [] = []
repair keep m column (l ∷ ls) =
    if is_blank l then (if keep then repair keep m column ls else (repaired_blank m l ∷ repair keep m column ls))
    else (repaired_comment m column l ∷ ls)

-- the comments, with what comes after them on their lines (own)
unfoldable pub comment_lines : RawLines → RawLines
comment_lines [] = []
comment_lines (l ∷ ls) = if is_blank l then comment_lines ls else (past_white l ∷ comment_lines ls)

-- the end, or a less indented line (own)
abbrev pub comes_later : TextIndent → RawLines → Bool
comes_later f [] = true
comes_later f (l ∷ ls) = is_less_indented f l
