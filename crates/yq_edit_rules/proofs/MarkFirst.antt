-- Lines begin with an entry or item, or not, by the mark of the first one.
use Rattle.std.proofs.Common.{◌≡◌, List, [], ◌∷◌, ◌++◌, refl, ap}
use Rattle.yq_outline.{specs.Outline.Line, specs.Sound.is_entry_line}
use Rattle.yq_documents.specs.Ready.{begins_no_node}

pub no_node_first : (xs : List Line) (l m : Line) (ls ms : List Line) → l.mark ≡ m.mark → begins_no_node (xs ++ (l ∷ ls)) ≡ begins_no_node (xs ++ (m ∷ ms))
no_node_first [] l m ls ms e = ap (λ k. is_entry_line k) e
no_node_first (x ∷ xs) l m ls ms e = refl
