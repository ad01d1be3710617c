-- How many items and entries nodes have.
use Rattle.std.proofs.Common.{◌≡◌, List, [], ◌∷◌, length, refl, ap, suc}
use Rattle.yq_core.{specs.declared.inline.Inline.Inline, specs.Trees.parts_tree, specs.View.{items_end, entries_end}}
use Rattle.yq_outline.specs.Counts.{count}
use Rattle.yq_documents.proofs.FlowLaws.{Field}

pub items_count : (is : List Inline) → count (parts_tree (items_end is)) ≡ length is
items_count [] = refl
items_count (x ∷ is) = ap suc (items_count is)

pub entries_count : (es : List Field) → count (parts_tree (entries_end es)) ≡ length es
entries_count [] = refl
entries_count (e ∷ es) = ap suc (entries_count es)
