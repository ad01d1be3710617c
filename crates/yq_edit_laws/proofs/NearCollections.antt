-- Collections to which steps lead in a node, each item or entry found on its own.
use Rattle.std.proofs.lemmas.Grind.{common_steps}
use Rattle.std.proofs.Common.{rules, ◌≡◌, ◌<◌, ◌≤◌, List, [], ◌∷◌, Option, Some, None, true, false, length, map, slice_index_or, arith, sym}
use Rattle.std.{proofs.Common.{ap, ◌∙◌}, proofs.lemmas.Option.{none-some, same_Some}, proofs.lemmas.Bool.false≢true}
use Rattle.yq_core.{specs.Answers.◌>>=◌, specs.Entries.{PlacedEntry, flow_part_at, parts_of, placed_entry_at, tree_step}}
use Rattle.yq_core.{specs.Keys.{EachHasUniqueKeys, HasUniqueKeys}, specs.Paths.{Step, further}, specs.Places.{Parts, Placed, end, part}}
use Rattle.yq_core.specs.Trees.{parts_tree, placed_tree}
use Rattle.yq_places.specs.FlowViews.{following_anchor, collection_along, collection_of}
use Rattle.yq_edit_laws.{specs.NearParts.{IsUniqueNode, is_collection}, proofs.OperationsLaws.{first_apart, later}}
use Rattle.yq_core.specs.declared.path.Step as declared

-- ---- one step

-- an item or entry of a node without a key twice has none
unique_part : (s : Step) (ps : Parts) (e : PlacedEntry) → flow_part_at s ps ≡ Some e → EachHasUniqueKeys (parts_tree ps) → HasUniqueKeys (placed_tree e.1)
unique_part s end e at h = absurd (none-some _ at)
unique_part s (part key n ps) e at h = grind (arith, common_steps, same_Some, unique_part (further s) ps e)

parts_unique : (p : Placed) → IsUniqueNode p → (s : Step) (e : PlacedEntry) → flow_part_at s (parts_of p) ≡ Some e → HasUniqueKeys (placed_tree e.1)
parts_unique p h s e at = search (rules, none-some, unique_part)

pub part_unique : (p : Placed) (s : Step) (e : PlacedEntry) → IsUniqueNode p → Some e ≡ flow_part_at s (parts_of p) → IsUniqueNode e.1
part_unique p s e h at is = parts_unique p h s e (sym at)

-- the steps after it lead on from there
pub goes_on : (ss : List declared.Step) (s : declared.Step) (slot e : PlacedEntry) (o : Option PlacedEntry) → 1 ≤ length ss → s ≡ slice_index_or ss 0 s → Some e ≡ flow_part_at (tree_step s) (parts_of slot.1) →
    placed_entry_at (map tree_step ss) slot ≡ o → placed_entry_at (map tree_step (later ss)) e ≡ o
goes_on ss s slot e o some first at leads = search (rules, first_apart, first, leads)

-- or it leads nowhere
pub stops : (ss : List declared.Step) (s : declared.Step) (slot : PlacedEntry) (o : Option PlacedEntry) → 1 ≤ length ss → s ≡ slice_index_or ss 0 s → None ≡ flow_part_at (tree_step s) (parts_of slot.1) →
    placed_entry_at (map tree_step ss) slot ≡ o → None ≡ o
stops ss s slot o some first at leads = search (rules, first_apart, first, leads)

pub ended : (ss : List declared.Step) (slot : PlacedEntry) (o : Option PlacedEntry) → length ss < 1 → placed_entry_at (map tree_step ss) slot ≡ o → Some slot ≡ o
ended [] slot o none leads = leads
ended (s ∷ ss) slot o none leads = absurd (omega (arith, none))

-- ---- the collection there

abbrev coll_or_none : Option PlacedEntry → Option Placed
coll_or_none o = o >>= λ e. collection_of e.1

pub none_along : (steps : List Step) (p : Placed) → None ≡ placed_entry_at steps (None, p) → None ≡ collection_along steps p
none_along steps p e = ap coll_or_none e

is_own : (p : Placed) → is_collection p ≡ true → collection_of p ≡ Some (following_anchor p)
is_own p h = search (rules, false≢true)

is_no_own : (p : Placed) → is_collection p ≡ false → collection_of p ≡ None
is_no_own p h = search (rules, false≢true)

pub own_along : (steps : List Step) (p : Placed) (e : PlacedEntry) → Some e ≡ placed_entry_at steps (None, p) → is_collection e.1 ≡ true → Some (following_anchor e.1) ≡ collection_along steps p
own_along steps p e at is = sym (is_own e.1 is) ∙ ap coll_or_none at

pub no_own_along : (steps : List Step) (p : Placed) (e : PlacedEntry) → Some e ≡ placed_entry_at steps (None, p) → is_collection e.1 ≡ false → None ≡ collection_along steps p
no_own_along steps p e at is = sym (is_no_own e.1 is) ∙ ap coll_or_none at
