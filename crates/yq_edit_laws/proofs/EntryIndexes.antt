-- The items and entries of the code, by their index.
use Rattle.std.proofs.Common.{rules, ◌≡◌, ℕ, zero, suc, ◌<◌, ◌∙◌, List, [], ◌∷◌, length, get_or, Option, Some, None, true, cond, refl, sym}
use Rattle.std.{proofs.Common.{ap, ltb, subst, arith, string_bytes}, proofs.lemmas.Bool.ltb-true, specs.Str.bytes_eq}
use Rattle.std.{proofs.lemmas.Slice.Eq.bytes_eq-Decides, specs.Prelude.Vec, specs.declared.alloc.Global.Global}
use Rattle.yq_core.{specs.declared.inline.Inline.Inline, specs.declared.inline.Form.TheFolds.the_lemmas}
use Rattle.yq_core.{specs.Keys.{AreDistinct, HasUniqueKeys, keys_of}, specs.Entries.{PlacedEntry, flow_part_at, tree_step}}
use Rattle.yq_core.{specs.Paths.{Step, Nth, To, further}, specs.Tree.Children, specs.Places.{mapping, placed}}
use Rattle.yq_core.specs.Trees.{parts_tree, placed_tree, with_anchor_name}
use Rattle.yq_core.{specs.View.{anchor_name, entries_end, form_view, inline_view, items_end}, proofs.DistinctKeys.differs}
use Rattle.yq_edit_laws.specs.NearParts.{Field, HasKeyAt, HaveDistinctKeys, LeadsToPart}
use Rattle.yq_core.specs.declared.path.Step as declared
use Rattle.yq_core.specs.Tree as tree
use Rattle.yq_core.specs.declared.inline.Form as forms

-- ---- items

item_leads : (is : List Inline) (i : ℕ) → i < length is → LeadsToPart (Nth i) i (items_end is)
item_leads [] i lt = absurd (omega (arith, lt))
item_leads (x ∷ is) zero lt = refl
item_leads (x ∷ is) (suc i) lt = (refl, item_leads is i (omega (arith, lt)))

pub index_leads : (is : List Inline) (i : ℕ) (s : declared.Step) → s ≡ declared.TheVariants.Index i → i < length is → LeadsToPart (tree_step s) i (items_end is)
index_leads is i s same lt = subst (λ (x : declared.Step). LeadsToPart (tree_step x) i (items_end is)) (sym same) (item_leads is i lt)

-- ---- keys

-- the keys of entries, in order
key_at : (es : List Field) (i : ℕ) (e : Field) (k : List ℕ) → i < length es → get_or (keys_of (parts_tree (entries_end es))) i k ≡ string_bytes (get_or es i e).0
key_at [] i e k lt = absurd (omega (arith, lt))
key_at (x ∷ es) zero e k lt = refl
key_at (x ∷ es) (suc i) e k lt = key_at es i e k (omega (arith, lt))

count_keys : (es : List Field) → length (keys_of (parts_tree (entries_end es))) ≡ length es
count_keys [] = refl
count_keys (x ∷ es) = ap suc (count_keys es)

-- Where keys differ, no entry before one with a key has it.
key_leads : (key : List ℕ) (es : List Field) (i : ℕ) (e : Field) → HaveDistinctKeys es → i < length es → bytes_eq (string_bytes (get_or es i e).0) key ≡ true → LeadsToPart (To key) i (entries_end es)
key_leads key [] i e differ lt is = absurd (omega (arith, lt))
key_leads key (x ∷ es) zero e differ lt is = is
key_leads key (x ∷ es) (suc i) e differ lt is =
    let less : i < length es = omega (arith, lt) in
    let own : string_bytes (get_or es i e).0 ≡ key = (bytes_eq-Decides (string_bytes (get_or es i e).0) key).0 is in (
      differs (string_bytes x.0) key (λ same. differ zero (suc i) [] (omega arith) (omega (arith, less, count_keys es)) (same ∙ (sym own ∙ sym (key_at es i e [] less)))),
      key_leads key es i e (λ a b d order within. differ (suc a) (suc b) d (omega (arith, order)) (omega (arith, within))) less is,
    )

pub key_there : (key : List ℕ) (es : List Field) (i : ℕ) → HaveDistinctKeys es → HasKeyAt i key es → LeadsToPart (To key) i (entries_end es)
key_there key es i differ h = key_leads key es i h.entry differ h.within (ap (λ (e : Field). bytes_eq (string_bytes e.0) key) (sym h.at) ∙ h.key_is)

-- as the code reads an entry
pub has_key_there : (es all : List Field) (i : ℕ) (x : Field) (key text : List ℕ) → es ≡ all → true ≡ ltb i (length es) → x ≡ get_or es i x → text ≡ string_bytes x.0 → bytes_eq text key ≡ true → HasKeyAt i key all
has_key_there es all i x key text same lt at text_is is = subst (HasKeyAt i key) same (record {
  entry = x;
  within = ltb-true i (length es) (sym lt);
  at = at;
  key_is = ap (λ (l : List ℕ). bytes_eq l key) (sym text_is) ∙ is;
})

-- ---- entries

abbrev entry_part : Field → PlacedEntry
entry_part e = (Some (string_bytes e.0, e.1), inline_view e.2)

part_leads : (s : Step) (es : List Field) (i : ℕ) (e : Field) → i < length es → LeadsToPart s i (entries_end es) → flow_part_at s (entries_end es) ≡ Some (entry_part (get_or es i e))
part_leads s [] i e lt h = absurd (omega (arith, lt))
part_leads s (x ∷ es) zero e lt h = ap (λ b. cond b (Some (entry_part x)) (flow_part_at (further s) (entries_end es))) h
part_leads s (x ∷ es) (suc i) e lt h = ap (λ b. cond b (Some (entry_part x)) (flow_part_at (further s) (entries_end es))) h.0 ∙ part_leads (further s) es i e (omega (arith, lt)) h.1

pub entry_leads : (s : Step) (es all : List Field) (i : ℕ) (e : Field) (key : List ℕ) → es ≡ all → true ≡ ltb i (length es) → e ≡ get_or es i e → key ≡ string_bytes e.0 → LeadsToPart s i (entries_end all) →
    Some (Some (key, e.1), inline_view e.2) ≡ flow_part_at s (entries_end all)
entry_leads s es all i e key same lt at text h = search (rules, ltb-true, part_leads)

-- ---- the entries of a node

by_anchor : (a : Option (List ℕ)) (cs : Children) → HasUniqueKeys (with_anchor_name a (tree.map None cs)) → AreDistinct (keys_of cs)
by_anchor a cs h = search rules

of_node : (node : Inline) → inline_view node ≡ placed (anchor_name node.anchor) node.start node.content node.end (form_view node.form)
of_node node = search (rules, the_lemmas)

of_map : (v : Vec Field Global) → form_view (forms.TheVariants.Map v) ≡ mapping (entries_end v.items)
of_map v = simp (the_lemmas) refl

pub map_differs : (node : Inline) (v : Vec Field Global) → node.form ≡ forms.TheVariants.Map v → HasUniqueKeys (placed_tree (inline_view node)) → HaveDistinctKeys v.items
map_differs node v is h = search (rules, by_anchor, node.anchor, of_node, is, of_map)
