-- The items or entries of nodes.
use Rattle.std.{proofs.Common.{◌≡◌, ℕ, ◌+◌, List, Option, Some, option_map, true, not, ap, rules}, specs.List.slice_get}
use Rattle.yq_core.{specs.Tree.{Label, Node, child, children_of}, specs.Trees.with_anchor_name, specs.Paths.Step}
use Rattle.yq_outline.{specs.Ends.{part, has_no_lines, IsEndOf}, specs.Labelled.labelled_at}
use Rattle.yq_outline.{specs.Outline.{Line, level, Outline, anchored, label, children}, specs.Places.{find_row, content_under}}
use Rattle.yq_outline.{specs.Positions.{position, line_here}, proofs.EndsLaws.{deeper_line, not_end, row_parts}}
use Rattle.yq_outline.proofs.Finding.{entry_of, row_labelled}

pub anchored_children : (a : Option (List ℕ)) (n : Node) → children_of (anchored a n) ≡ children_of n
anchored_children a n = search rules

pub inline_children : (a : Option (List ℕ)) (n : Node) → children_of (with_anchor_name a n) ≡ children_of n
inline_children a n = search rules

pub first_child : (ls : List Line) (at floor next : ℕ) (l : Line) → slice_get ls at ≡ Some l → true ≡ not (has_no_lines (part ls at floor)) → IsEndOf ls at next →
    children (part ls at floor) ≡ child (label l) (content_under l (part ls (at + 1) (level l))) (children (part ls next floor))
first_child ls at floor next l is deep ends = ap children (row_parts ls at floor next l is (deeper_line ls at floor l is (not_end _ deep)) (ends.2 l is))

-- where a step leads among lines, by the line that was found
pub child_position : (s : Step) (u : Outline) (start : ℕ) (x : Option (ℕ × Line × Outline)) → position start (find_row s u) ≡ x → labelled_at s (children u) ≡ option_map (λ y. entry_of y.1 y.2) x
child_position s u start x e = search (rules, row_labelled, entry_of)

pub child_found : (s : Step) (ls : List Line) (first floor at : ℕ) (l : Line) (x : Label) (n : Node) → slice_get ls at ≡ Some l → position first (find_row s (part ls first floor)) ≡ line_here ls (Some at) →
    x ≡ label l → n ≡ content_under l (part ls (at + 1) (level l)) → Some (x, n) ≡ labelled_at s (children (part ls first floor))
child_found s ls first floor at l x n is e agrees same = search (rules, child_position)
