-- What is asked of the lines of a collection, by their indexes.
use Rattle.std.proofs.Common.{◌≡◌, ℕ, suc, ◌+◌, ◌<◌, List, [], Some, is_some, Bool, true, false, not, ◌&&◌, sym, ap, ◌∙◌, append-nil, rules}
use Rattle.std.{proofs.lemmas.Bool.{ltb-true, le-leb, false≢true}, specs.List.slice_get}
use Rattle.yq_outline.{specs.Outline.{Bare, Line, level, Outline, end, row}, specs.Group.{deeper_lines, group, level_or}}
use Rattle.yq_outline.specs.Ends.{part, has_no_lines, IsEndOf}
use Rattle.yq_outline.specs.Sound.{is_sound_outline, head_is_sound, line_is_sound, is_entry_line}
use Rattle.yq_outline.proofs.EndsLaws.{deeper_line, not_end, part_row, row_parts}
use Rattle.yq_outline.proofs.SoundLaws.{asked, keys_with, IsEntryLevel, asked_line, sound_entries, too_deep, sound_bare, lone}
use Rattle.yq_core.specs.Keys.{are_distinct}

first_deeper : (n d : ℕ) (o : Outline) → n < d → n < level_or d (deeper_lines n o)
first_deeper n d end h = h
first_deeper n d (row l u a) h = search (rules, ltb-true)

-- the first line of a collection
module _ (ls : List Line) (start floor depth : ℕ) (l : Line) (is : slice_get ls start ≡ Some l) (deep : true ≡ not (has_no_lines (part ls start floor))) where
  first_lt : floor < level l
  first_lt = deeper_line ls start floor l is (not_end _ deep)

  pub start_asked : (d : ℕ) → is_entry_line l.mark ≡ true → depth ≡ suc d → is_sound_outline depth (part ls start floor) ≡ asked d (level l) [] (part ls start floor)
  start_asked d entry more =
      let parts = part_row ls start floor l is first_lt in
      ap (λ x. is_sound_outline x (part ls start floor)) more ∙ (ap (is_sound_outline (suc d)) parts ∙ (sound_entries d l _ _ entry ∙ ap (asked d (level l) []) (sym parts)))

  pub start_deep : is_entry_line l.mark ≡ true → depth ≡ 0 → is_sound_outline depth (part ls start floor) ≡ false
  start_deep entry none = ap (λ x. is_sound_outline x (part ls start floor)) none ∙ (ap (is_sound_outline 0) (part_row ls start floor l is first_lt) ∙ too_deep l _ _ entry)

  pub start_bare : l.mark ≡ Bare → is_sound_outline depth (part ls start floor) ≡ ((is_some l.head && has_no_lines (part ls (start + 1) floor)) && head_is_sound depth l.head)
  start_bare mark = cc (part_row ls start floor l is first_lt, sound_bare depth l _ _ mark, lone (level l) floor (group _) first_lt)

-- one line, with those under it and those after it
one_line : (ls : List Line) (at floor next d n : ℕ) (keys : List (List ℕ)) (l : Line) → slice_get ls at ≡ Some l → true ≡ not (has_no_lines (part ls at floor)) → IsEndOf ls at next → IsEntryLevel n →
    asked d n keys (part ls at floor) ≡ (line_is_sound d n l (part ls (at + 1) (level l)) && (is_sound_outline d (part ls (at + 1) (level l)) && asked d n (keys_with keys l.mark) (part ls next floor)))
one_line ls at floor next d n keys l is deep ends entries =
    let lt = deeper_line ls at floor l is (not_end _ deep) in
    search (rules, asked, row_parts, asked_line, first_deeper, lt)

-- a line that fails, or under which lines fail
both_fail : (all x y z : Bool) → all ≡ (x && (y && z)) → false ≡ (x && y) → false ≡ all
both_fail all x y z h1 h2 = search (rules, false≢true)

pub one_fails : (ls : List Line) (at floor next d n : ℕ) (keys : List (List ℕ)) (l : Line) → slice_get ls at ≡ Some l → true ≡ not (has_no_lines (part ls at floor)) → IsEndOf ls at next → IsEntryLevel n →
    (all : Bool) → all ≡ asked d n keys (part ls at floor) → false ≡ (line_is_sound d n l (part ls (at + 1) (level l)) && is_sound_outline d (part ls (at + 1) (level l))) → false ≡ all
one_fails ls at floor next d n keys l is deep ends entries all so_far e =
    both_fail all (line_is_sound d n l (part ls (at + 1) (level l))) (is_sound_outline d (part ls (at + 1) (level l)))
    (asked d n (keys_with keys l.mark) (part ls next floor)) (so_far ∙ one_line ls at floor next d n keys l is deep ends entries) e

-- a line that passes, under which lines pass
both_pass : (all x y z : Bool) → all ≡ (x && (y && z)) → true ≡ (x && y) → all ≡ z
both_pass all x y z h1 h2 = search (rules, false≢true)

pub one_passes : (ls : List Line) (at floor next d n : ℕ) (keys : List (List ℕ)) (l : Line) → slice_get ls at ≡ Some l → true ≡ not (has_no_lines (part ls at floor)) → IsEndOf ls at next → IsEntryLevel n →
    (all : Bool) → all ≡ asked d n keys (part ls at floor) → true ≡ (line_is_sound d n l (part ls (at + 1) (level l)) && is_sound_outline d (part ls (at + 1) (level l))) → all ≡ asked d n (keys_with keys l.mark) (part ls next floor)
one_passes ls at floor next d n keys l is deep ends entries all so_far e =
    both_pass all (line_is_sound d n l (part ls (at + 1) (level l))) (is_sound_outline d (part ls (at + 1) (level l)))
    (asked d n (keys_with keys l.mark) (part ls next floor)) (so_far ∙ one_line ls at floor next d n keys l is deep ends entries) e

-- after the last line the keys are left to ask of
pub no_more : (d n : ℕ) (keys : List (List ℕ)) (o : Outline) → false ≡ not (has_no_lines o) → asked d n keys o ≡ are_distinct keys
no_more d n keys o h1 = search (rules, le-leb, append-nil, false≢true)
