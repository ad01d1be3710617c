-- The items and entries of the code, one after the other.
use Rattle.std.proofs.Common.{rules, ◌≡◌, ℕ, zero, suc, ◌+◌, ◌<◌, ◌≤◌, true, false, ltb, List, [], ◌∷◌, length, drop, get_or, Option, Some}
use Rattle.std.proofs.Common.{None, option_map, refl, sym, ap, ◌∙◌, arith, String, string_bytes}
use Rattle.std.{proofs.lemmas.Bool.{false≢true, ltb-true, lt-ltb, cases_lt}, proofs.lemmas.List.{drop_more, drop_all}}
use Rattle.std.{specs.declared.alloc.Global.Global, specs.Str.bytes_eq}
use Rattle.yq_core.{specs.declared.piece.Piece.Piece, specs.Paths.{Step, To, Nth, node_at}, specs.declared.inline.Inline.Inline}
use Rattle.yq_core.{specs.declared.path.Entry.Entry, specs.Entries.{PlacedEntry, entry_view, tree_step, flow_part_at, placed_entry_at}}
use Rattle.yq_core.{specs.Trees.placed_tree, specs.View.{inline_view, items_end, entries_end}, proofs.PathLaws.{path_tree, entry_tree}}
use Rattle.yq_core.specs.declared.path.Step as declared

item_part : (is : List Inline) (i : ℕ) (d : Inline) → i < length is → flow_part_at (Nth i) (items_end is) ≡ Some (None, inline_view (get_or is i d))
item_part [] i d lt = absurd (omega (arith, lt))
item_part (x ∷ is) zero d lt = refl
item_part (x ∷ is) (suc i) d lt = item_part is i d (omega (arith, lt))

no_item : (is : List Inline) (i : ℕ) → length is ≤ i → flow_part_at (Nth i) (items_end is) ≡ None
no_item (x ∷ is) zero h = absurd (omega (arith, h))
no_item (x ∷ is) (suc i) h = no_item is i (omega (arith, h))
no_item [] _ h = refl

pub item_found : (is all : List Inline) (i : ℕ) (x d : Inline) → is ≡ all → true ≡ ltb i (length is) → x ≡ get_or is i d → Some (None, inline_view x) ≡ flow_part_at (Nth i) (items_end all)
item_found is all i x d same lt at = ap (λ (y : Inline). Some (None, inline_view y)) at ∙ (sym (item_part is i d (ltb-true i (length is) (sym lt))) ∙ ap (λ (l : List Inline). flow_part_at (Nth i) (items_end l)) same)

pub item_missing : (is all : List Inline) (i : ℕ) → is ≡ all → false ≡ ltb i (length is) → None ≡ flow_part_at (Nth i) (items_end all)
item_missing is all i same ge = search (rules, cases_lt, false≢true, lt-ltb, no_item)

abbrev pub Field : Type 0
Field = String Global × Piece × Inline

first_entry : (key : List ℕ) (e : Field) (es : List Field) → bytes_eq (string_bytes e.0) key ≡ true → flow_part_at (To key) (entries_end (e ∷ es)) ≡ Some (Some (string_bytes e.0, e.1), inline_view e.2)
first_entry key e es h = rw h refl

next_entry : (key : List ℕ) (e : Field) (es : List Field) → bytes_eq (string_bytes e.0) key ≡ false → flow_part_at (To key) (entries_end (e ∷ es)) ≡ flow_part_at (To key) (entries_end es)
next_entry key e es h = rw h refl

entries_from : (key : List ℕ) (es : List Field) (i : ℕ) (e d : Field) → i < length es → e ≡ get_or es i d → flow_part_at (To key) (entries_end (drop i es)) ≡ flow_part_at (To key) (entries_end (e ∷ drop (i + 1) es))
entries_from key es i e d lt at = ap (λ (l : List Field). flow_part_at (To key) (entries_end l)) (drop_more es i d lt ∙ ap (λ (x : Field). x ∷ drop (i + 1) es) (sym at))

pub entry_found : (key : List ℕ) (es : List Field) (i : ℕ) (e d : Field) (s : List ℕ) (all : Option PlacedEntry) → i < length es →
    e ≡ get_or es i d → s ≡ string_bytes e.0 → bytes_eq s key ≡ true → flow_part_at (To key) (entries_end (drop i es)) ≡ all →
    Some (Some (s, e.1), inline_view e.2) ≡ all
entry_found key es i e d s all lt at text same so_far =
    ap (λ (l : List ℕ). Some (Some (l, e.1), inline_view e.2)) text
    ∙ (sym (first_entry key e (drop (i + 1) es) (ap (λ (l : List ℕ). bytes_eq l key) (sym text) ∙ same)) ∙ (sym (entries_from key es i e d lt at) ∙ so_far))

pub entry_past : (key : List ℕ) (es : List Field) (i : ℕ) (e d : Field) (s : List ℕ) (all : Option PlacedEntry) → i < length es → e ≡ get_or es i d →
    s ≡ string_bytes e.0 → bytes_eq s key ≡ false → flow_part_at (To key) (entries_end (drop i es)) ≡ all →
    flow_part_at (To key) (entries_end (drop (i + 1) es)) ≡ all
entry_past key es i e d s all lt at text other so_far =
    sym (next_entry key e (drop (i + 1) es) (ap (λ (l : List ℕ). bytes_eq l key) (sym text) ∙ other)) ∙ (sym (entries_from key es i e d lt at) ∙ so_far)

pub entry_missing : (key : List ℕ) (es : List Field) (i : ℕ) (all : Option PlacedEntry) → length es ≤ i → flow_part_at (To key) (entries_end (drop i es)) ≡ all → None ≡ all
entry_missing key es i all ge so_far = ap (λ (l : List Field). flow_part_at (To key) (entries_end l)) (sym (drop_all i es ge)) ∙ so_far

-- a key leads to no item, and an index to no entry
no_key : (key : List ℕ) (is : List Inline) → flow_part_at (To key) (items_end is) ≡ None
no_key key [] = refl
no_key key (x ∷ is) = no_key key is

no_index : (i : ℕ) (es : List Field) → flow_part_at (Nth i) (entries_end es) ≡ None
no_index zero (e ∷ es) = no_index zero es
no_index (suc i) (e ∷ es) = no_index i es
no_index _ [] = refl

pub key_in_items : (is : List Inline) (k : String Global) (s : declared.Step) → s ≡ declared.TheVariants.Key k → None ≡ flow_part_at (tree_step s) (items_end is)
key_in_items is k s same = sym (ap (λ (t : declared.Step). flow_part_at (tree_step t) (items_end is)) same ∙ no_key (string_bytes k) is)

pub index_in_entries : (es : List Field) (i : ℕ) (s : declared.Step) → s ≡ declared.TheVariants.Index i → None ≡ flow_part_at (tree_step s) (entries_end es)
index_in_entries es i s same = sym (ap (λ (t : declared.Step). flow_part_at (tree_step t) (entries_end es)) same ∙ no_index i es)

-- where a path leads by the places, it leads in the tree
pub by_tree : (r : Option Entry) (ss : List Step) (n : Inline) → option_map entry_view r ≡ placed_entry_at ss (None, inline_view n) → option_map (λ e. placed_tree (inline_view e.node.now)) r ≡ node_at ss (placed_tree (inline_view n))
by_tree r ss n h = go r ∙ (ap (option_map entry_tree) h ∙ path_tree ss (None, inline_view n)) where
  go : (r : Option Entry) → option_map (λ e. placed_tree (inline_view e.node.now)) r ≡ option_map entry_tree (option_map entry_view r)
  go None = refl
  go (Some e) = refl
