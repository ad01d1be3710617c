-- The items and entries of flow collections, one after the other.
use Rattle.std.proofs.Common.{rules, ◌≡◌, ℕ, zero, suc, ◌+◌, ◌<◌, ◌≤◌, true, false, ltb, List, [], ◌∷◌, length, drop, get_or, Option, Some}
use Rattle.std.proofs.Common.{None, refl, sym, ap, ◌∙◌, ⊎_elim, arith, String, string_bytes}
use Rattle.std.{proofs.lemmas.Bool.{false≢true, ltb-true, lt-ltb, cases_lt}, proofs.lemmas.List.{drop_more, drop_all}}
use Rattle.std.{specs.declared.alloc.Global.Global, specs.Str.bytes_eq}
use Rattle.yq_core.{specs.declared.piece.Piece.Piece, specs.Paths.{To, Nth}, specs.Tree.{Children, key_label}}
use Rattle.yq_core.{specs.declared.inline.Inline.Inline, specs.Trees.{placed_tree, parts_tree}}
use Rattle.yq_core.specs.View.{inline_view, items_end, entries_end}
use Rattle.yq_outline.specs.Labelled.{Labelled, labelled_at}

abbrev pub items_tree : List Inline → Children
items_tree is = parts_tree (items_end is)

abbrev pub Field : Type 0
Field = String Global × Piece × Inline

abbrev pub entries_tree : List Field → Children
entries_tree es = parts_tree (entries_end es)

item_there : (is : List Inline) (i : ℕ) (d : Inline) → i < length is → labelled_at (Nth i) (items_tree is) ≡ Some (key_label None, placed_tree (inline_view (get_or is i d)))
item_there [] i d lt = absurd (omega (arith, lt))
item_there (x ∷ is) zero d lt = refl
item_there (x ∷ is) (suc i) d lt = item_there is i d (omega (arith, lt))

no_item : (is : List Inline) (i : ℕ) → length is ≤ i → labelled_at (Nth i) (items_tree is) ≡ None
no_item (x ∷ is) zero h = absurd (omega (arith, h))
no_item (x ∷ is) (suc i) h = no_item is i (omega (arith, h))
no_item [] _ h = refl

pub item_found : (is : List Inline) (i : ℕ) (x d : Inline) → true ≡ ltb i (length is) → x ≡ get_or is i d → Some (key_label None, placed_tree (inline_view x)) ≡ labelled_at (Nth i) (items_tree is)
item_found is i x d lt at = ap (λ (y : Inline). Some (key_label None, placed_tree (inline_view y))) at ∙ sym (item_there is i d (ltb-true i (length is) (sym lt)))

pub item_missing : (is : List Inline) (i : ℕ) → false ≡ ltb i (length is) → None ≡ labelled_at (Nth i) (items_tree is)
item_missing is i ge = ⊎_elim (λ lt. absurd (false≢true (ge ∙ lt-ltb i (length is) lt))) (λ le. sym (no_item is i le)) (cases_lt i (length is))

pub entry_found : (key : List ℕ) (es : List Field) (i : ℕ) (e d : Field) (s : List ℕ) (all : Option Labelled) → i < length es → e ≡ get_or es i d → s ≡ string_bytes e.0 → bytes_eq s key ≡ true →
    labelled_at (To key) (entries_tree (drop i es)) ≡ all → Some (key_label (Some s), placed_tree (inline_view e.2)) ≡ all
entry_found key es i e d s all lt at text same so_far = search (rules, drop_more)

pub entry_past : (key : List ℕ) (es : List Field) (i : ℕ) (e d : Field) (s : List ℕ) (all : Option Labelled) → i < length es → e ≡ get_or es i d → s ≡ string_bytes e.0 → bytes_eq s key ≡ false →
    labelled_at (To key) (entries_tree (drop i es)) ≡ all → labelled_at (To key) (entries_tree (drop (i + 1) es)) ≡ all
entry_past key es i e d s all lt at text other so_far = search (rules, drop_more)

pub entry_missing : (key : List ℕ) (es : List Field) (i : ℕ) (all : Option Labelled) → length es ≤ i → labelled_at (To key) (entries_tree (drop i es)) ≡ all → None ≡ all
entry_missing key es i all ge so_far = ap (λ (l : List Field). labelled_at (To key) (entries_tree l)) (sym (drop_all i es ge)) ∙ so_far

-- a key leads to no item, and an index to no entry
pub no_key : (key : List ℕ) (is : List Inline) → labelled_at (To key) (items_tree is) ≡ None
no_key key [] = refl
no_key key (x ∷ is) = no_key key is

pub no_index : (i : ℕ) (es : List Field) → labelled_at (Nth i) (entries_tree es) ≡ None
no_index zero (e ∷ es) = no_index zero es
no_index (suc i) (e ∷ es) = no_index i es
no_index _ [] = refl
