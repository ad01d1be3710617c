-- The flow collection at a path, in its row and in the text, and an item or entry of it.
use Rattle.std.proofs.Common.{◌≡◌, ℕ, ◌≤◌, true, List, [], ◌∷◌, ◌++◌, length, Option, Some, None, option_map, refl, sym, ap, ◌∙◌, subst}
use Rattle.std.{proofs.Common.{arith, length-append}, proofs.lemmas.Bool.and_parts, proofs.lemmas.Option.{none-some, same_Some}}
use Rattle.std.specs.Prelude.{option_and_then}
use Rattle.yq_core.{specs.Answers.◌>>=◌, specs.Characters.pairs_returns, specs.Paths.Step, proofs.Bools.bind_some}
use Rattle.yq_core.specs.Collections.{CollAt, CollPieces, IsCollAt, coll_in}
use Rattle.yq_core.specs.Entries.{EntryPieces, entry_pieces_at, path_inside, item_at, locate_entry, placed_entry_at}
use Rattle.yq_core.{specs.Nodes.{bare, node_text}, specs.Places.locate, specs.Spans.HasSpans, proofs.PathLaws.path_places}
use Rattle.yq_row_table.{specs.Rows.{Cut, cut_text}, proofs.CharacterLaws.all_text}
use Rattle.yq_places.{specs.FlowNodes.flow_collection, specs.Placements.{FlowPart, flow_placement, last_step}}
use Rattle.yq_places.{proofs.FlowSpanLaws.entry_spans, proofs.HeadSteps.stem_found}
use Rattle.yq_lookup.proofs.RowParts.{node_entry}
use Rattle.yq_documents.specs.Reading.{part_outline, read_at}
use Rattle.yq_edit_rules.{specs.DocumentRows.IsDocumentPart, specs.FlowRows.{row_collection, FlowAt, NodeIsThere}, specs.TextPieces.IsPiece}
use Rattle.yq_edit_rules.{proofs.FlowPathLaws.{flow_found, row_texts}, proofs.FlowRowLaws.flow_is_there}
use Rattle.yq_edit_rules.{proofs.FlowLocationLaws.{CollIsThere, coll_is_there}, proofs.TextPieceLaws.text_is_piece}
use Rattle.yq_core.specs.Nodes as inline

-- ---- the collection

module _ (c : Cut) (doc : ℕ) (steps : List Step) (w : CollPieces) (read : read_at (cut_text c) ≡ Some c) (found : flow_collection doc steps c ≡ Some w) where
  abbrev pub at : FlowAt c doc steps w
  at = flow_found (cut_text c) c doc steps w read found

  abbrev pub old : IsDocumentPart (cut_text c) c doc at.part
  old = record { read = read; there = at.there }

  abbrev pub x : CollAt
  x = row_collection c doc at.part at.row at.rest w

  pub is_located : IsCollAt x
  is_located = flow_is_there (cut_text c) c doc at.part steps at.line at.rest at.row w old at.at

  pub row_text : NodeIsThere c doc at.part at.row
  row_text = row_texts c doc at.part at.row at.there at.at.rows_are at.at.content_is

  pub piece : IsPiece (cut_text c)
  piece = text_is_piece c read

  pub pairs : pairs_returns (row_text.before ++ node_text x.node x.rest) ≡ true
  pairs = subst (λ (l : List ℕ). pairs_returns l ≡ true) row_text.old (and_parts (all_text (cut_text c)) (pairs_returns (cut_text c)) piece.characters).1

  -- the steps that go on in the head are no more than all
  pub fewer : length at.rest ≤ length steps
  fewer = let h = stem_found steps (part_outline at.part) (at.line, at.rest) at.at.found in omega (arith, ap length h.steps_are, length-append h.stem at.rest)

  abbrev pub placed : CollIsThere c w
  placed = coll_is_there c doc steps w read at

-- ---- an item or entry

-- A path leads to an item or entry of a flow collection.
pub record EntryAt (c : Cut) (doc : ℕ) (path : List Step) : Type 0 where
  pub init : List Step
  pub step : Step
  pub last : last_step path ≡ Some (init, step)
  pub coll : CollPieces
  pub found : flow_collection doc init c ≡ Some coll
  pub item : EntryPieces
  pub at : item_at coll.close step coll.items coll.rest ≡ Some item

-- The part of a collection in which a path ends is such an item or entry.
pub entry_found : (c : Cut) (doc : ℕ) (path : List Step) (x : FlowPart) → flow_placement doc c (last_step path) ≡ Some x → (a : EntryAt c doc path) × (record { step = a.step; collection = a.coll; part = a.item } ≡ x)
entry_found c doc path x e = go (last_step path) refl e
  where
    here' : (y : List Step × Step) → last_step path ≡ Some y → (w : CollPieces) → flow_collection doc y.0 c ≡ Some w → (o : Option EntryPieces) → item_at w.close y.1 w.items w.rest ≡ o →
        option_map {U = FlowPart} (λ z. record { step = y.1; collection = w; part = z }) o ≡ Some x → (a : EntryAt c doc path) × (record { step = a.step; collection = a.coll; part = a.item } ≡ x)
    here' y is w found None own e = absurd (none-some _ e)
    here' y is w found (Some z) own e = (record { init = y.0; step = y.1; last = is; coll = w; found = found; item = z; at = own }, same_Some _ _ e)

    go : (o : Option (List Step × Step)) → last_step path ≡ o → flow_placement doc c o ≡ Some x → (a : EntryAt c doc path) × (record { step = a.step; collection = a.coll; part = a.item } ≡ x)
    go None is e = absurd (none-some _ e)
    go (Some y) is e = let w = bind_some (flow_collection doc y.0 c) e in here' y is w.0 w.1 (item_at w.0.close y.1 w.0.items w.0.rest) refl w.2

pub coll_entry : (s : Step) (node : inline.FlowNode) (rest : List ℕ) (w : CollPieces) → coll_in node rest ≡ Some w → path_inside s node rest ≡ item_at w.close s w.items w.rest
coll_entry s node rest w e = sym (node_entry s node rest) ∙ ap (λ (o : Option CollPieces). o >>= λ w. item_at w.close s w.items w.rest) e

-- the item or entry has its places in a text with those of the collection's node
pub entry_placed : (t : List ℕ) (s : Step) (node : inline.FlowNode) (rest : List ℕ) (w : CollPieces) (y : EntryPieces) → coll_in node rest ≡ Some w → item_at w.close s w.items w.rest ≡ Some y →
    HasSpans t (locate (length t) node rest) → HasSpans t (locate (length t) y.node y.rest)
entry_placed t s node rest w y is at spans =
    let slot : EntryPieces = record { key = bare; node = node; rest = rest } in
    let found : entry_pieces_at (s ∷ []) slot ≡ Some y = ap (option_and_then (entry_pieces_at [])) (coll_entry s node rest w is ∙ at) in
    let there : placed_entry_at (s ∷ []) (locate_entry (length t) slot) ≡ Some (locate_entry (length t) y) = path_places (length t) (s ∷ []) slot ∙ ap (option_map (locate_entry (length t))) found in
    (entry_spans t (s ∷ []) (locate_entry (length t) slot) (locate_entry (length t) y) (tt, spans) there).1
