-- The items and entries of a node that a text lends, as those of its tree.
use Rattle.std.proofs.Common.{◌≡◌, ℕ, Bool, true, false, cond, List, Option, Some, None, option_map, refl, sym, ap, ◌∙◌}
use Rattle.yq_core.{specs.Entries.{PlacedEntry, flow_part_at}, specs.Paths.{Step, is_here, further}, specs.Places.{Parts, end, part}}
use Rattle.yq_core.{specs.Tree.{Node, alias, scalar, list, map, key_label, anchor_of}, specs.Trees.{parts_tree, placed_tree, unplaced_key}}
use Rattle.yq_core.proofs.BorrowedNames.{IsUnnamed}
use Rattle.yq_outline.{specs.Labelled.{Labelled, labelled_at}, specs.Outline.{anchored, first_anchor}, proofs.NodeLaws.first_none}
use Rattle.yq_nodes.specs.Nodes.{labelled_of}
use Rattle.yq_nodes.specs.declared.nodes.node.Node as declared

-- an item or entry with places, as one of a tree
abbrev pub labelled : PlacedEntry → Labelled
labelled e = (key_label (unplaced_key e.0), placed_tree e.1)

pub labelled_parts : (s : Step) (ps : Parts) → labelled_at s (parts_tree ps) ≡ option_map labelled (flow_part_at s ps)
labelled_parts s end = refl
labelled_parts s (part key n ps) = go (is_here s (key_label (unplaced_key key))) (labelled_parts (further s) ps) where
  go : (b : Bool) → labelled_at (further s) (parts_tree ps) ≡ option_map labelled (flow_part_at (further s) ps) →
      cond b (Some (key_label (unplaced_key key), placed_tree n)) (labelled_at (further s) (parts_tree ps)) ≡ option_map labelled (cond b (Some (key, n)) (flow_part_at (further s) ps))
  go true rest = refl
  go false rest = rest

-- where a step leads
pub part_found : (s : Step) (ps : Parts) (e : PlacedEntry) (n : declared.Node) → Some e ≡ flow_part_at s ps → labelled_of n ≡ labelled e → Some (labelled_of n) ≡ labelled_at s (parts_tree ps)
part_found s ps e n found is = ap Some is ∙ (ap (option_map labelled) found ∙ sym (labelled_parts s ps))

pub part_missing : (s : Step) (ps : Parts) → None ≡ flow_part_at s ps → None ≡ labelled_at s (parts_tree ps)
part_missing s ps missing = ap (option_map labelled) missing ∙ sym (labelled_parts s ps)

-- a node without an anchor has the one before it
pub anchor_before : (a : Option (List ℕ)) (n : Node) → IsUnnamed n → a ≡ anchor_of (anchored a n)
anchor_before a (alias name) h = absurd h
anchor_before a (scalar b k t) h = sym (ap (first_anchor a) h ∙ first_none a)
anchor_before a (list b cs) h = sym (ap (first_anchor a) h ∙ first_none a)
anchor_before a (map b cs) h = sym (ap (first_anchor a) h ∙ first_none a)
