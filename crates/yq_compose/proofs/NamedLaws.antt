-- The names of the code, one by one.
use Rattle.std.proofs.Common.{rules, ◌≡◌, ℕ, ◌+◌, ◌<◌, List, ◌∷◌, length, drop, get_or, ap, ◌∙◌, ◌++◌, sym, append_assoc, String}
use Rattle.std.{proofs.lemmas.List.drop_more, specs.declared.alloc.Global.Global}
use Rattle.yq_core.{specs.Anchors.{Name, names_in, names_of}, specs.declared.piece.Piece.Piece}
use Rattle.yq_core.{specs.View.{entries_end, items_end, inline_view}, specs.Trees.{parts_tree, placed_tree, with_anchor_name}}
use Rattle.yq_core.specs.declared.inline.Inline.{Inline}
use Rattle.yq_compose.specs.Named.{name_view, all_named}
use Rattle.yq_compose.specs.declared.names.Name as declared

-- the name at a place, before those after it
pub named_at : (ns : List declared.Name) (i : ℕ) (d : declared.Name) (n : Name) → i < length ns → name_view (get_or ns i d) ≡ n → all_named (drop i ns) ≡ n ∷ all_named (drop (i + 1) ns)
named_at ns i d n within is = ap all_named (drop_more ns i d within) ∙ ap (λ x. x ∷ all_named (drop (i + 1) ns)) is

abbrev Field : Type 0
Field = String Global × Piece × Inline

first_of : {A : Type 0} (xs : List A) (i : ℕ) (x : A) → i < length xs → x ≡ get_or xs i x → drop i xs ≡ x ∷ drop (i + 1) xs
first_of xs i x within is = drop_more xs i x within ∙ ap (λ y. y ∷ drop (i + 1) xs) (sym is)

-- the names of one more item or entry come after those before it
pub items_named : (is : List Inline) (i : ℕ) (x : Inline) (old new all : List Name) → i < length is → x ≡ get_or is i x → new ≡ old ++ names_of
    (placed_tree (inline_view x)) → old ++ names_in (parts_tree (items_end (drop i is))) ≡ all →
    new ++ names_in (parts_tree (items_end (drop (i + 1) is))) ≡ all
items_named is i x old new all within at with_anchor_name so_far = search (rules, append_assoc, first_of)

pub entries_named : (es : List Field) (i : ℕ) (e : Field) (old new all : List Name) → i < length es → e ≡ get_or es i e → new ≡ old ++ names_of
    (placed_tree (inline_view e.2)) → old ++ names_in (parts_tree (entries_end (drop i es))) ≡ all →
    new ++ names_in (parts_tree (entries_end (drop (i + 1) es))) ≡ all
entries_named es i e old new all within at with_anchor_name so_far = search (rules, append_assoc, first_of)

-- ---- a node, by its form
