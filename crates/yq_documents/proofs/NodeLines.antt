-- What lines of documents begin with, and the nodes that they mean.
use Rattle.std.{proofs.Common.{rules, ◌≡◌, ℕ, List, true, false, not}, proofs.lemmas.Bool.false≢true}
use Rattle.yq_core.{specs.Paths.is_item, specs.Tree.none}
use Rattle.yq_outline.{specs.Ends.has_no_lines, specs.Outline.{LineMark, Bare, Key, Dash, Outline, children, key_of, null_node, value}}
use Rattle.yq_outline.specs.Positions.{has_no_mark}

-- where there are no lines there are no items and entries, and a null
pub no_children : (o : Outline) → false ≡ not (has_no_lines o) → children o ≡ none
no_children o e = search (rules, false≢true)

pub no_value : (o : Outline) → false ≡ not (has_no_lines o) → value o ≡ null_node
no_value o e = search (rules, false≢true)

-- a line that is no node itself is an item's or an entry's
pub dash_mark : (m : LineMark) → false ≡ has_no_mark m → true ≡ is_item (key_of m) → m ≡ Dash
dash_mark m a b = search (rules, false≢true)

pub bare_mark : (m : LineMark) → true ≡ has_no_mark m → m ≡ Bare
bare_mark m a = search (rules, false≢true)

pub key_mark : (m : LineMark) → false ≡ has_no_mark m → false ≡ is_item (key_of m) → (k : List ℕ) × (m ≡ Key k)
key_mark m a b = search (rules, false≢true)
