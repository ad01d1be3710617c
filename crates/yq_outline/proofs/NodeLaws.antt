-- The nodes that lines mean.
use Rattle.std.{proofs.Common.{◌≡◌, ℕ, ◌+◌, ◌<◌, List, Option, Some, None, ap, ◌∙◌, rules}, specs.List.slice_get}
use Rattle.yq_core.specs.Tree.{Node, list, map}
use Rattle.yq_outline.{specs.Ends.{part, rest}, specs.Group.deeper_lines}
use Rattle.yq_outline.specs.Outline.{Bare, Key, Dash, Line, level, Outline, row, first_anchor, anchored, head_or, outline_node, children}
use Rattle.yq_outline.{specs.Outline.value, proofs.EndsLaws.part_row}

pub anchored_twice : (a b : Option (List ℕ)) (n : Node) → anchored a (anchored b n) ≡ anchored (first_anchor a b) n
anchored_twice a b n = search rules

module _ (ls : List Line) (at floor : ℕ) (l : Line) (is : slice_get ls at ≡ Some l) (deep : floor < level l) where
  value_row : value (part ls at floor) ≡ outline_node l.mark (children (part ls at floor))
  value_row = cc (part_row ls at floor l is deep)

  pub map_value : (k : List ℕ) → l.mark ≡ Key k → value (part ls at floor) ≡ map None (children (part ls at floor))
  map_value k e = value_row ∙ ap (λ m. outline_node m (children (part ls at floor))) e

  pub list_value : l.mark ≡ Dash → value (part ls at floor) ≡ list None (children (part ls at floor))
  list_value e = value_row ∙ ap (λ m. outline_node m (children (part ls at floor))) e

  pub bare_value : (a : Option (List ℕ)) → l.mark ≡ Bare → anchored a (value (part ls at floor)) ≡ anchored (first_anchor a l.anchor) (head_or l.head (value (part ls (at + 1) (level l))))
  bare_value a e =
      let o : Outline = row l (part ls (at + 1) (level l)) (deeper_lines floor (rest ls (at + 1) (level l))) in
      cc (part_row ls at floor l is deep, anchored_twice a l.anchor (head_or l.head (value (part ls (at + 1) (level l)))))

pub anchored_none : (n : Node) → anchored None n ≡ n
anchored_none n = search rules

pub first_none : (a : Option (List ℕ)) → first_anchor a None ≡ a
first_none a = search rules
