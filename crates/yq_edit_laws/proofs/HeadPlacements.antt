-- Where a flow collection is at a path, no block collection is there, which gets rows more.
use Rattle.std.proofs.Common.{rules, ◌≡◌, ℕ, List, [], ◌∷◌, Option, Some, None, option_map, refl, sym, ap, ◌∙◌, subst}
use Rattle.std.proofs.lemmas.Option.{none-some, same_Some}
use Rattle.yq_core.{specs.Paths.Step, specs.Tree.Node, specs.Collections.CollPieces}
use Rattle.yq_text.specs.Script.{Segment}
use Rattle.yq_outline.{specs.Outline.Outline, specs.Places.FoundLine}
use Rattle.yq_row_table.specs.Rows.{Cut, Part, cut_text}
use Rattle.yq_documents.specs.Reading.{part_outline, read_at}
use Rattle.yq_places.specs.FlowNodes.{bare_line, find_head, flow_collection}
use Rattle.yq_edit_rules.{specs.EntryEdits.more_at, specs.FlowRows.FlowAt, specs.Siblings.{HasEntries, IsCollectionAt, NodeLines}}
use Rattle.yq_edit_laws.proofs.MoreLaws.{more_place}
use Rattle.yq_edit_laws.proofs.FlowPlacements as placement

-- the first line of a block collection isn't a node itself
none_bare : (o : Outline) → HasEntries o → bare_line o ≡ None
none_bare o h = search rules

-- no head is that of a block collection
none_headed : (steps : List Step) (o : Outline) (h : NodeLines) → IsCollectionAt steps o h → find_head steps o ≡ None
none_headed [] o h at = ap (option_map (λ (f : FoundLine). (f, []))) (none_bare o (subst HasEntries (sym (ap (λ (z : NodeLines). z.lines) (same_Some _ _ at.place_is))) at.block))
none_headed (s ∷ ss) o h at = search (rules, none-some, none_bare, same_Some)

-- so no rows more are put there
pub no_rows_more : (c : Cut) (n : ℕ) (steps : List Step) (w : CollPieces) (key : Option (List ℕ)) (v : Node) → read_at (cut_text c) ≡ Some c → flow_collection n steps c ≡ Some w → more_at n steps c key v ≡ None
no_rows_more c n steps w key v read found = go (more_at n steps c key v) refl
  where
    at : FlowAt c n steps w
    at = placement.at c n steps w read found

    go : (o : Option (List Segment)) → more_at n steps c key v ≡ o → more_at n steps c key v ≡ None
    go None is = is
    go (Some us) is =
        let x = more_place n steps key v c us read is in
        let same : x.1.part ≡ at.part = same_Some _ _ (sym x.1.there ∙ at.there) in
        absurd (none-some _ (sym (none_headed steps (part_outline x.1.part) x.1.end.h x.1.end.collection) ∙ (ap (λ (p : Part). find_head steps (part_outline p)) same ∙ at.at.found)))
