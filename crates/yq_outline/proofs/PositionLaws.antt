-- Where a step leads among lines, one line after the other.
use Rattle.std.proofs.Common.{◌≡◌, ℕ, suc, ◌+◌, ◌-◌, ◌<◌, eqb, List, ◌++◌, length, drop, Option, Some, None, option_map, true, false, not}
use Rattle.std.proofs.Common.{◌&&◌, sym, ap, ◌∙◌, arith, length-append, length-drop, rules}
use Rattle.std.{proofs.lemmas.Bool.{cond-true, cond-false, ne_eqb, false≢true}, specs.List.slice_get}
use Rattle.yq_core.specs.Paths.{Step, Nth, is_here, further, is_item}
use Rattle.yq_outline.{specs.Ends.{part, has_no_lines, IsEndOf}, specs.Group.{deeper_lines, shallow, group}}
use Rattle.yq_outline.{specs.Outline.{Line, level, Outline, flatten, key_of, label}, specs.Places.{FoundLine, next_to, find_row}}
use Rattle.yq_outline.{specs.Positions.{position, line_here}, proofs.Decides.{flatten-parts, flatten-group}}
use Rattle.yq_outline.proofs.EndsLaws.{deeper_line, not_end, part_row, row_parts}

-- how many lines are under a line
pub under-length : (ls : List Line) (i next : ℕ) (l : Line) → slice_get ls i ≡ Some l → IsEndOf ls i next → suc i + length (flatten (part ls (i + 1) (level l))) ≡ next
under-length ls i next l is ends =
    let o : Outline = group (drop (i + 1) ls) in
    let parts : flatten (deeper_lines (level l) o) ++ flatten (shallow (level l) o) ≡ drop (i + 1) ls = flatten-parts (level l) o ∙ flatten-group (drop (i + 1) ls) in
    let after : flatten (shallow (level l) o) ≡ drop next ls = ap flatten (ends.2 l is) ∙ flatten-group (drop next ls) in
    let sum : length (flatten (deeper_lines (level l) o)) + length (drop next ls) ≡ length (drop (i + 1) ls) = search (rules, length-append, o, after, parts) in
    omega (arith, sum, length-drop next ls, length-drop (i + 1) ls, ends.0, ends.1)

position-next : (at next : ℕ) (l : Line) (u : Outline) (r : Option FoundLine) → suc at + length (flatten u) ≡ next → position at (option_map (next_to l u) r) ≡ position next r
position-next at next l u r h1 = search (rules, length-append)

module _ (ls : List Line) (at floor : ℕ) (l : Line) (is : slice_get ls at ≡ Some l) (deep : true ≡ not (has_no_lines (part ls at floor))) where
  lt : floor < level l
  lt = deeper_line ls at floor l is (not_end _ deep)

  pub position_here : (s : Step) → is_here s (label l) ≡ true → position at (find_row s (part ls at floor)) ≡ line_here ls (Some at)
  position_here s here =
      ap (λ o. position at (find_row s o)) (part_row ls at floor l is lt)
      ∙ (ap (position at) (cond-true _ _ _ here) ∙ (ap (λ i. Some (i, l, part ls (at + 1) (level l))) (omega arith)
      ∙ sym (ap (option_map (λ m. (at, m, part ls (at + 1) (level m)))) is)))

  pub position_passed : (s : Step) (next : ℕ) → IsEndOf ls at next → is_here s (label l) ≡ false →
      position at (find_row s (part ls at floor)) ≡ position next (find_row (further s) (part ls next floor))
  position_passed s next ends other =
      ap (λ o. position at (find_row s o)) (row_parts ls at floor next l is lt (ends.2 l is))
      ∙ (ap (position at) (cond-false _ _ _ other) ∙ position-next at next l (part ls (at + 1) (level l)) (find_row (further s) (part ls next floor)) (under-length ls at next l is ends))

pub position_end : (at : ℕ) (s : Step) (o : Outline) → false ≡ not (has_no_lines o) → position at (find_row s o) ≡ None
position_end at s o h1 = search (rules, false≢true)

-- an index leads to the first item where it is 0
pub here_item : (n : ℕ) (l : Line) → is_here (Nth n) (label l) ≡ (eqb n 0 && is_item (key_of l.mark))
here_item n l = search (rules, ne_eqb)

pub further_item : (n : ℕ) → further (Nth n) ≡ Nth (n - 1)
further_item n = search rules
