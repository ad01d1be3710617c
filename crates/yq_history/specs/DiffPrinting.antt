-- How hunks are printed part by part (own).
use Rattle.std.specs.Prelude.{ℕ, ◌+◌, ◌-◌, List, [], ◌∷◌, ◌++◌, length, flat_map, string_bytes, codes}
use Rattle.yq_core.specs.Text.{text_lines}
use Rattle.yq_history.{specs.Unified.{marked_line, print_ranges}, specs.declared.diff.open.OpenHunk.OpenHunk as Held}
use Rattle.yq_history.specs.declared.diff.part.Part.{Part}
use Rattle.yq_history.specs.declared.diff.part.Part.TheVariants as part

-- What is printed of the lines of a hunk so far: how many lines of either text are before it, how many up to here, and the bytes.
pub record Open : Type 0 where
  pub old_before : ℕ
  pub new_before : ℕ
  pub old_at : ℕ
  pub new_at : ℕ
  pub body : List ℕ

-- that of the code
abbrev pub open_of : Held → Open
open_of h = record { old_before = h.old_before; new_before = h.new_before; old_at = h.old_at; new_at = h.new_at; body = string_bytes h.body }

-- nothing is printed of a hunk with so many lines of either text before it
abbrev pub opened : ℕ → ℕ → Open
opened m n = record { old_before = m; new_before = n; old_at = m; new_at = n; body = [] }

-- the line above the lines of a hunk
abbrev pub ranges_line : Open → List ℕ
ranges_line o = print_ranges o.old_before (o.old_at - o.old_before) o.new_before (o.new_at - o.new_before)

-- bytes after the line above them, if there are any
abbrev pub with_ranges : ℕ → ℕ → ℕ → ℕ → List ℕ → List ℕ
with_ranges m k n l [] = []
with_ranges m k n l (b ∷ bs) = print_ranges m k n l ++ (b ∷ bs)

-- a hunk that ends here; of one without lines nothing is printed
abbrev pub print_closed : Open → List ℕ
print_closed o = with_ranges o.old_before (o.old_at - o.old_before) o.new_before (o.new_at - o.new_before) o.body

-- lines after a mark
abbrev pub marked_lines : List ℕ → List (List ℕ) → List ℕ
marked_lines mark ls = flat_map (marked_line mark) ls

-- what a part ends
abbrev pub print_ended : Open → Part → List ℕ
print_ended o (part.Skipped t) = print_closed o
print_ended o _ = []

-- the hunk after a part
abbrev pub open_after : Open → Part → Open
open_after o (part.Skipped t) = opened (o.old_at + length (text_lines t.now)) (o.new_at + length (text_lines t.now))
open_after o (part.Unchanged t) =
    record o {
      old_at = o.old_at + length (text_lines t.now);
      new_at = o.new_at + length (text_lines t.now);
      body = o.body ++ marked_lines (codes " ") (text_lines t.now);
    }
open_after o (part.Deleted t) = record o { old_at = o.old_at + length (text_lines t.now); body = o.body ++ marked_lines (codes "-") (text_lines t.now) }
open_after o (part.Added t) = record o { new_at = o.new_at + length (text_lines t.now); body = o.body ++ marked_lines (codes "+") (text_lines t.now) }

-- the hunks of parts
abbrev pub print_parts : Open → List Part → List ℕ
print_parts o [] = print_closed o
print_parts o (p ∷ ps) = print_ended o p ++ print_parts (open_after o p) ps
