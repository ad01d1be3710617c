-- Parts and ends of collections that come after a change of one collection in a head, in the cut after it.
use Rattle.std.proofs.Common.{◌≡◌, ℕ, List, [], ◌∷◌, ◌++◌, Option, Some, sym, ap, ◌∙◌}
use Rattle.yq_core.{specs.Answers.◌>>=◌, specs.Paths.Step, specs.Collections.{CollPieces, coll_along, collection_put}}
use Rattle.yq_core.{specs.Entries.{EntryPieces, entry_pieces_at, item_at}, specs.Nodes.{Items, bare}}
use Rattle.yq_row_table.specs.Rows.{Cut}
use Rattle.yq_places.{specs.FlowNodes.flow_collection, specs.FlowViews.LeadsToHead}
use Rattle.yq_edit_rules.{specs.Changed.put_document, specs.FlowRows.{FlowAt, text_after_node, with_node}}
use Rattle.yq_edit_laws.{specs.PartPuts.{EndsAsIn, IsCollBefore, IsPartBefore, IsPartOf}, proofs.EarlierParts.ComesBefore}
use Rattle.yq_edit_laws.proofs.LaterEnds.{EndsThere}
use Rattle.yq_lookup.proofs.RowParts.{parts_along}
use Rattle.yq_edit_rules.proofs.FlowStayLaws as stay

module _ (c : Cut) (doc : ℕ) (steps : List Step) (w : CollPieces) (at : FlowAt c doc steps w) (gap : List ℕ) (is : Items)
    (stem left : List Step) (init : steps ≡ stem ++ left) (h : LeadsToHead c doc stem) where
  abbrev next : Cut
  next = put_document doc (with_node at.part at.row (collection_put at.rest gap is at.row.node)) c

  abbrev pub slot : EntryPieces
  slot = record { key = bare; node = at.row.node; rest = text_after_node c doc at.part at.row }

  abbrev new_slot : EntryPieces
  new_slot = record slot { node = collection_put at.rest gap is at.row.node }

  abbrev part_in : Step → Option CollPieces → Option EntryPieces
  part_in r o = o >>= λ w. item_at w.close r w.items w.rest

  -- a part in the head, which may come before another text then
  pub part_then : (ss : List Step) (r : Step) (z z2 : EntryPieces) → IsPartOf c doc (stem ++ ss) r z →
      (entry_pieces_at (ss ++ (r ∷ [])) slot ≡ Some z → entry_pieces_at (ss ++ (r ∷ [])) new_slot ≡ Some z2) → IsPartOf next doc (stem ++ ss) r z2
  part_then ss r z z2 part then =
      let before = sym (parts_along ss r slot) ∙ (sym (ap (part_in r) (stay.collection_before c doc steps w at gap is stem left init h ss)) ∙ part) in
      ap (part_in r) (stay.collection_after c doc steps w at gap is stem left init h ss) ∙ (parts_along ss r new_slot ∙ then before)

  -- one that stays
  pub part_after : (ss : List Step) (r : Step) (z : EntryPieces) → IsPartOf c doc (stem ++ ss) r z → (entry_pieces_at (ss ++ (r ∷ [])) slot ≡ Some z → entry_pieces_at (ss ++ (r ∷ [])) new_slot ≡ Some z) → IsPartOf next doc (stem ++ ss) r z
  part_after ss r z part stays = part_then ss r z z part stays

  -- a part that comes before another text then
  pub part_turned : (ss : List Step) (r : Step) (z : EntryPieces) (t t2 : List ℕ) → IsPartOf c doc (stem ++ ss) r z →
      (entry_pieces_at (ss ++ (r ∷ [])) slot ≡ Some z → ComesBefore t t2 z (entry_pieces_at (ss ++ (r ∷ [])) new_slot)) →
      IsPartBefore next doc (stem ++ ss) r z t t2
  part_turned ss r z t t2 part turned =
      let before = sym (parts_along ss r slot) ∙ (sym (ap (part_in r) (stay.collection_before c doc steps w at gap is stem left init h ss)) ∙ part) in
      let b = turned before in
      (b.0, b.1, part_then ss r z (record z { rest = b.0 ++ t2 }) part (λ _. b.2))

  -- a collection that comes before another text then
  pub coll_turned : (ss : List Step) (z : CollPieces) (t t2 : List ℕ) → flow_collection doc (stem ++ ss) c ≡ Some z →
      (coll_along ss slot.node slot.rest ≡ Some z → (m : List ℕ) × (z.rest ≡ m ++ t) × (coll_along ss new_slot.node slot.rest ≡ Some (record z { rest = m ++ t2 }))) → IsCollBefore next doc (stem ++ ss) z t t2
  coll_turned ss z t t2 found turned =
      let b = turned (sym (stay.collection_before c doc steps w at gap is stem left init h ss) ∙ found) in
      (b.0, b.1, stay.collection_after c doc steps w at gap is stem left init h ss ∙ b.2)

  -- the end of a collection that stays there
  pub end_after : (ss : List Step) (z : CollPieces) → flow_collection doc (stem ++ ss) c ≡ Some z → (coll_along ss slot.node slot.rest ≡ Some z → EndsThere z ss new_slot.node slot.rest) → EndsAsIn z next doc (stem ++ ss)
  end_after ss z found stays =
      let e = stays (sym (stay.collection_before c doc steps w at gap is stem left init h ss) ∙ found) in
      (e.0, stay.collection_after c doc steps w at gap is stem left init h ss ∙ e.1, e.2)
