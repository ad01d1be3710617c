-- Where an item or entry of a flow collection is that is taken out, by the places of it and of those next to it; and where one more comes.
use Rattle.std.proofs.Common.{rules, ◌≡◌, ℕ, ◌-◌, Bool, true, false, cond, List, length, Option, Some, None, option_map, refl, sym, ap, ◌∙◌}
use Rattle.std.{proofs.Common.subst, specs.Option.option_or, specs.Prelude.is_some}
use Rattle.yq_core.{specs.Answers.◌>>=◌, specs.Collections.{CollAt, CollPieces, IsCollAt}, specs.Entries.entry_start}
use Rattle.yq_core.specs.Nodes.{FlowNode, Items, Key, Sep, coll, flow_items_text, item, key_text, node_text, none, sep_text}
use Rattle.yq_core.{specs.Paths.{Step, further, is_here}, specs.Places.{Parts, key_placed, locate, locate_items}, specs.Tree.key_label}
use Rattle.yq_core.{specs.Trees.key_content, proofs.EditPlaces.{end_placed, entry_placed}, proofs.TreeLaws.key_tree}
use Rattle.yq_inline.specs.Neighbours.{PartTexts, PartsAround, around_part, coll_around, coll_end, first_ends, first_text, last_ends}
use Rattle.yq_inline.specs.Neighbours.{past_last}
use Rattle.yq_flow_edits.specs.FlowEdits.{appending, after_last}
use Rattle.yq_flow_edits.specs.FlowPlaces.{PlacedEdit, first_start, only_end, place_edit, remove_before, remove_between, remove_end}
use Rattle.yq_flow_edits.{specs.FlowPlaces.{remove_part, remove_place}, specs.Removals.removing, proofs.RemovePlaces.coll_parts}
use Rattle.yq_places.specs.FlowViews.{placed_collection}
use Rattle.yq_edit_laws.{specs.EditPlaces.{end_place, remove_around}, proofs.FlowHeads.remove_found}

-- ---- an item or entry is taken out

module _ (t : List ℕ) (k : ℕ) where
  abbrev total : ℕ
  total = length t

  abbrev gone : PartsAround → Option PlacedEdit
  gone = remove_around t

  -- what goes with the last one, after this one
  abbrev last_gone : Step → PartTexts → Parts → Option PlacedEdit
  last_gone s e parts = option_map (remove_end t (total - length e.0) (total - length e.1)) (only_end s parts)

  -- the begin of the next one
  next_start : (is : Items) (rest : List ℕ) → first_start (locate_items total k is rest) ≡ option_map (λ (l : List ℕ). total - length l) (first_text k is rest)
  unfolding locate_items
  next_start none rest = refl
  next_start (item key n sep is) rest = ap Some (entry_placed total (record { key = key; node = n; rest = sep_text sep (flow_items_text k is rest) }))

  -- the first of several
  before_gone : (s e : ℕ) (o : Option ℕ) → option_map (remove_before t s) o ≡ remove_between t None s e o
  before_gone s e None = refl
  before_gone s e (Some n) = refl

  -- where the code looks at an item or entry
  at_first : (s : Step) (key : Key) (n : FlowNode) (sep : Sep) (is : Items) (rest : List ℕ) → remove_part t s (locate_items total k (item key n sep is) rest) ≡
      cond (is_here s (key_label (key_content key))) (option_map (remove_before t (total - length (first_ends k key n sep is rest).0)) (first_start (locate_items total k is rest)))
      (option_or (last_gone (further s) (first_ends k key n sep is rest) (locate_items total k is rest)) (remove_part t (further s) (locate_items total k is rest)))
  unfolding locate_items
  at_first s key n sep is rest =
      let after : List ℕ = sep_text sep (flow_items_text k is rest) in
      let own : List ℕ = key_text key (node_text n after) in
      let parts : Parts = locate_items total k is rest in
      let start : entry_start (key_placed total own key, locate total n after) ≡ total - length own = entry_placed total (record { key = key; node = n; rest = after }) in
      λ i. cond (is_here s (key_label (key_tree total own key i))) (option_map (remove_before t (start i)) (first_start parts))
      (option_or (option_map (remove_end t (start i) (end_placed total n after i)) (only_end (further s) parts)) (remove_part t (further s) parts))

  -- the one to which the step leads is the first of these, after this one
  after_one : (s : Step) (e : PartTexts) (is : Items) (rest : List ℕ) →
      option_or (last_gone s e (locate_items total k is rest)) (remove_part t s (locate_items total k is rest)) ≡ (around_part k s (Some e) is rest >>= gone)
  unfolding locate_items
  after_one s e none rest = refl
  after_one s e (item key n sep none) rest = search (rules, key_tree, end_placed, at_first)
  after_one s e (item key n sep (item key2 n2 sep2 is)) rest =
      at_first s key n sep (item key2 n2 sep2 is) rest
      ∙ go (is_here s (key_label (key_content key))) (after_one (further s) (first_ends k key n sep (item key2 n2 sep2 is) rest) (item key2 n2 sep2 is) rest) where
        go : (b : Bool) → option_or
            (last_gone (further s) (first_ends k key n sep (item key2 n2 sep2 is) rest) (locate_items total k (item key2 n2 sep2 is) rest))
            (remove_part t (further s) (locate_items total k (item key2 n2 sep2 is) rest))
            ≡ (around_part k (further s) (Some (first_ends k key n sep (item key2 n2 sep2 is) rest)) (item key2 n2 sep2 is) rest >>= gone) →
            cond b (option_map (remove_before t (total - length (first_ends k key n sep (item key2 n2 sep2 is) rest).0)) (first_start (locate_items total k (item key2 n2 sep2 is) rest)))
            (option_or (last_gone (further s) (first_ends k key n sep (item key2 n2 sep2 is) rest) (locate_items total k (item key2 n2 sep2 is) rest)) (remove_part t (further s) (locate_items total k (item key2 n2 sep2 is) rest)))
            ≡ (cond b (Some (record { before = Some e; here = first_ends k key n sep (item key2 n2 sep2 is) rest; next = first_text k (item key2 n2 sep2 is) rest }))
            (around_part k (further s) (Some (first_ends k key n sep (item key2 n2 sep2 is) rest)) (item key2 n2 sep2 is) rest) >>= gone)
        go true again = ap (option_map (remove_before t (total - length (first_ends k key n sep (item key2 n2 sep2 is) rest).0))) (next_start (item key2 n2 sep2 is) rest)
        go false again = again

  part_gone : (s : Step) (is : Items) (rest : List ℕ) → remove_part t s (locate_items total k is rest) ≡ (around_part k s None is rest >>= gone)
  unfolding locate_items
  part_gone s none rest = refl
  part_gone s (item key n sep is) rest = at_first s key n sep is rest ∙ go (is_here s (key_label (key_content key)))
    where
      go : (b : Bool) → cond b (option_map (remove_before t (total - length (first_ends k key n sep is rest).0)) (first_start (locate_items total k is rest)))
          (option_or (last_gone (further s) (first_ends k key n sep is rest) (locate_items total k is rest)) (remove_part t (further s) (locate_items total k is rest)))
          ≡ (cond b (Some (record { before = None; here = first_ends k key n sep is rest; next = first_text k is rest })) (around_part k (further s) (Some (first_ends k key n sep is rest)) is rest) >>= gone)
      go true = simp (next_start, before_gone) refl
      go false = after_one (further s) (first_ends k key n sep is rest) is rest

-- in a collection of a text alone
pub around_gone : (z : CollAt) → IsCollAt z → (row : List ℕ) → row ≡ node_text z.node z.rest → (s : Step) →
    (coll_around s z.coll >>= remove_around row) ≡ option_map (place_edit (length row)) (removing s z.coll)
around_gone z is row text s =
    sym (part_gone row z.coll.close s z.coll.items z.coll.rest)
    ∙ (ap (remove_part row s) (sym (coll_parts (length row) (coll z.coll.close z.coll.gap z.coll.items) z.coll.rest z.coll refl))
    ∙ subst (λ (l : List ℕ). remove_place l s (placed_collection (length l) z.coll) ≡ option_map (place_edit (length l)) (removing s z.coll)) (sym text) (remove_found z is s))

-- ---- one more

after_part : (k : ℕ) (gap : List ℕ) (key : Key) (n : FlowNode) (sep : Sep) (is : Items) (rest : List ℕ) (w : CollPieces) →
    past_last w (last_ends k (Some (first_ends k key n sep is rest)) is rest) ≡ after_last k gap (item key n sep is) rest
unfolding flow_items_text
after_part k gap key n sep none rest w = refl
after_part k gap key n sep (item key2 n2 sep2 is) rest w = after_part k gap key2 n2 sep2 is rest w

some_ends : (k : ℕ) (e : PartTexts) (is : Items) (rest : List ℕ) → is_some (last_ends k (Some e) is rest) ≡ true
some_ends k e none rest = refl
some_ends k e (item key n sep is) rest = some_ends k (first_ends k key n sep is rest) is rest

-- the place where one more comes after the end of a collection
pub end_is_there : (total : ℕ) (key : Key) (m : FlowNode) (w : CollPieces) → end_place (coll_end w).1 (total - length (coll_end w).2) ≡ place_edit total (appending key m w)
end_is_there total key m w = search (rules, some_ends, after_part)
