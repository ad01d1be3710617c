-- How a diff is printed (own): as `diff -u` does (POSIX.1-2024, diff), with names in quotes as GNU diff writes them.
use Rattle.std.specs.Prelude.{◌≡◌, ℕ, ◌+◌, ◌==◌, ◌||◌, Bool, List, [], ◌∷◌, ◌++◌, length, flat_map, nat_le, if◌then◌else◌, codes, decimal}
use Rattle.std.specs.List.{list_any}
use Rattle.json.specs.Print.{quoted}
use Rattle.yq_core.specs.Text.{is_line}
use Rattle.yq_history.specs.Hunks.{LineChange, unchanged, deleted, added, old_side, new_side, Hunk, IsDiff}

-- what follows a line without a break (POSIX.1-2024, diff)
abbrev pub no_break_note : List ℕ
no_break_note = 10 ∷ (codes "\\ No newline at end of file" ++ 10 ∷ [])

-- a line after its mark (POSIX.1-2024, diff)
abbrev pub marked_line : List ℕ → List ℕ → List ℕ
marked_line mark l = mark ++ (l ++ (if is_line l then [] else no_break_note))

-- a line of a hunk: a space, `-` or `+` is before it (POSIX.1-2024, diff)
abbrev pub print_change : LineChange → List ℕ
print_change (unchanged l) = marked_line (codes " ") l
print_change (deleted l) = marked_line (codes "-") l
print_change (added l) = marked_line (codes "+") l

-- the lines of a hunk (POSIX.1-2024, diff)
abbrev pub print_changes : List LineChange → List ℕ
print_changes cs = flat_map print_change cs

-- where so many lines begin that have n lines before them: by the number of the first one, or where there is none by n; how many they are, unless it is one
-- (POSIX.1-2024, diff)
abbrev pub print_range : ℕ → ℕ → List ℕ
print_range n count = decimal (if count == 0 then n else n + 1) ++ (if count == 1 then [] else codes "," ++ decimal count)

-- the line above the lines of a hunk (POSIX.1-2024, diff)
abbrev pub print_ranges : ℕ → ℕ → ℕ → ℕ → List ℕ
print_ranges old_before old_count new_before new_count =
    codes "@@ -" ++ print_range old_before old_count ++ codes " +" ++ print_range new_before new_count ++ codes " @@\n"

-- a hunk (POSIX.1-2024, diff)
abbrev pub print_hunk : Hunk → List ℕ
print_hunk h = print_ranges h.old_before (length (old_side h.changes)) h.new_before (length (new_side h.changes)) ++ print_changes h.changes

-- a byte of a name that wants quotes: a space, a control character, `"` or `\` (own, as GNU diff)
abbrev pub wants_quotes : ℕ → Bool
wants_quotes b = nat_le b 32 || b == 34 || b == 92

-- a name, in quotes where it wants them (own, as GNU diff)
abbrev pub print_name : List ℕ → List ℕ
print_name name = if list_any wants_quotes name then quoted name else name

-- the two lines above the hunks (POSIX.1-2024, diff)
abbrev pub print_names : List ℕ → List ℕ
print_names name = codes "--- " ++ print_name name ++ codes "\n+++ " ++ print_name name ++ codes "\n"

-- a diff of a file's text; of one without hunks nothing is printed (own)
abbrev pub print_diff : List ℕ → List Hunk → List ℕ
print_diff name [] = []
print_diff name (h ∷ hs) = print_names name ++ flat_map print_hunk (h ∷ hs)

-- Bytes are a printed diff of an old text of a file and a new one (own).
pub record IsPrintedDiff (name old new printed : List ℕ) : Type 0 where
  pub hunks : List Hunk
  pub diff : IsDiff hunks old new
  pub print : printed ≡ print_diff name hunks
