-- An operation that fits has its edit: where a node is, something is.
use Rattle.std.proofs.Common.{rules, ◌≡◌, ◌⊎◌, inl, inr, ltb, ℕ, Bool, true, false, cond, List, [], ◌∷◌, Option, Some, None, option_map}
use Rattle.std.{proofs.Common.{refl, sym, ap, ◌∙◌, subst}, proofs.lemmas.Bool.{cond-true, false≢true}, proofs.lemmas.Option.none-some}
use Rattle.std.{specs.List.slice_get, specs.Option.option_or}
use Rattle.yq_core.{specs.Answers.◌>>=◌, specs.BlockWritten.break_text, specs.Paths.{Step, child_at, further, is_here, node_at}}
use Rattle.yq_core.{specs.Tree.{Node, children_of, key_label}, proofs.Bools.bind_some, specs.Collections.CollPieces}
use Rattle.yq_core.{specs.Entries.{EntryPieces, item_at}, specs.Nodes.{Items, none, item, flow_items_text, sep_text}}
use Rattle.yq_core.specs.Trees.{items_tree, key_content}
use Rattle.yq_flow_edits.{specs.FlowEdits.FlowEdit, specs.Removals.{before_next, edit_from_item, gap_of, last_removed, removing_from}}
use Rattle.yq_outline.specs.Counts.{count}
use Rattle.yq_row_table.specs.Rows.{Cut, cut_text}
use Rattle.yq_documents.{specs.declared.path.Part.Part, specs.declared.path.Part.TheVariants.{HeadComment, LineComment}}
use Rattle.yq_documents.{specs.Documents.{Document, document_parts}, specs.Reading.{cut_of, documents, read_at}}
use Rattle.yq_documents.specs.LinesInRows.{RowLine, line_has_room, row_line_has_room, row_line_of}
use Rattle.yq_places.{specs.FirstBreak.first_break, specs.FlowNodes.flow_collection, specs.NodesAt.node_in}
use Rattle.yq_places.{specs.PlacedRows.{PlacedPart, placed_document}, specs.RemovalPlaces.has_others_at}
use Rattle.yq_places.specs.Placements.{FlowPart, RowsOfEntry, Placement, entry_rows_at, entry_placement, flow_part, flow_placement, held}
use Rattle.yq_places.{specs.Placements.{last_step, rows_of_entry, placement_at}, proofs.PlacedRowLaws.{document_placed, part_of}}
use Rattle.yq_places.proofs.PrintedTexts.{map_some}
use Rattle.yq_edit_rules.specs.PlacementLaws.{EntriesOccur, RootsOccur}
use Rattle.yq_edit_rules.specs.CommentEdits.{above_rows, comment_put, head_comment_put, head_comment_segments, line_comment_put}
use Rattle.yq_edit_rules.specs.EditLaws.{FittingHasEdit, AppendHasEdit}
use Rattle.yq_edit_rules.specs.Edits.{op_edits, empty_collection, part_removed, removed, replace_segments, rows_or_sole, sole_removed}
use Rattle.yq_edit_rules.{specs.EntryEdits.one_removed, specs.FlowParts.{flow_put, flow_removed, flow_segments}, specs.Layouts.layout_of}
use Rattle.yq_edit_rules.{specs.ReplaceEdits.{has_text, value_put}, specs.Replacing.keeps_scalar, proofs.DoneLaws.read_cut}
use Rattle.yq_semantics.{specs.Fits.Fits, specs.Operations.{replace, append, remove, line_comment, head_comment}, specs.Rooms.room_of}
use Rattle.yq_text.specs.Script.{Segment, keep}
use Rattle.yq_edit_laws.{proofs.FlowSoundLaws.{above_is, last_is}, proofs.PlacementExists.last_there}
use Rattle.yq_edit_laws.proofs.RemoveExists.{IsThere, first_there, one_there, second_there}
use Rattle.yq_core.specs.Tree as tree
use Rattle.yq_row_table.specs.Rows as rows
use Rattle.yq_edit_laws.proofs.DocumentParts as parts

-- ---- a part of a flow collection that has others beside it

-- two items or more
is_several : Items → Bool
is_several (item key n sep (item key2 n2 sep2 is)) = true
is_several _ = false

several_items : (is : Items) → ltb 1 (count (items_tree is)) ≡ true → is_several is ≡ true
unfolding is_several items_tree
several_items is h = search rules

removing_there : (k : ℕ) (rest : List ℕ) (s : Step) (g : List ℕ) (is : Items) (y : EntryPieces) → item_at k s is rest ≡ Some y → is_several is ≡ true → (e : FlowEdit) × (removing_from k rest s g is ≡ Some e)
unfolding is_several
removing_there k rest s g none y at more = absurd (none-some _ at)
removing_there k rest s g (item key n sep none) y at more = absurd (false≢true more)
removing_there k rest s g (item key n sep (item key2 n2 sep2 none)) y at more = go (is_here s (key_label (key_content key))) (is_here (further s) (key_label (key_content key2))) at
  where
    others : Option FlowEdit
    others = option_map (edit_from_item g key n sep) (removing_from k rest (further s) (gap_of sep) (item key2 n2 sep2 none))

    go : (a b : Bool) → cond a (Some (record { key = key; node = n; rest = sep_text sep (flow_items_text k (item key2 n2 sep2 none) rest) }))
        (cond b (Some (record { key = key2; node = n2; rest = sep_text sep2 (flow_items_text k none rest) })) None) ≡ Some y →
        (e : FlowEdit) × (cond a (before_next k rest g key n sep (item key2 n2 sep2 none)) (option_or (cond b (Some (last_removed k rest g key n sep key2 n2 sep2)) None) others) ≡ Some e)
    go false false at = absurd (none-some _ at)
    go _ _ at = (_, refl)
removing_there k rest s g (item key n sep (item key2 n2 sep2 (item key3 n3 sep3 is))) y at more =
    go (is_here s (key_label (key_content key)))
    (λ x. removing_there k rest (further s) (gap_of sep) (item key2 n2 sep2 (item key3 n3 sep3 is)) y x refl) at
  where
    tail : Items
    tail = item key2 n2 sep2 (item key3 n3 sep3 is)

    go : (a : Bool) → (item_at k (further s) tail rest ≡ Some y → (e : FlowEdit) × (removing_from k rest (further s) (gap_of sep) tail ≡ Some e)) →
        cond a (Some (record { key = key; node = n; rest = sep_text sep (flow_items_text k tail rest) })) (item_at k (further s) tail rest) ≡ Some y →
        (e : FlowEdit) × (cond a (before_next k rest g key n sep tail) (option_map (edit_from_item g key n sep) (removing_from k rest (further s) (gap_of sep) tail)) ≡ Some e)
    go true again at = (_, refl)
    go false again at = let e = again at in (edit_from_item g key n sep e.0, ap (option_map (edit_from_item g key n sep)) e.1)

-- ---- where nodes are

module _ (roots : RootsOccur) (entries : EntriesOccur) where
  -- where a node is, something is
  is_located : (n : ℕ) (steps : List Step) (c : Cut) (w : Node) → read_at (cut_text c) ≡ Some c → node_in n steps c ≡ Some w →
      ((t : Placement) × (placement_at n steps c ≡ Some t)) ⊎ ((x : FlowPart) × (flow_placement n c (last_step steps) ≡ Some x))
  is_located n [] c w read at = let d = bind_some (slice_get (documents c) n) at in let p = parts.part_of c n d.0 d.1 in inl (roots n c p.part p.there)
  is_located n (s ∷ ss) c w read at = go (entries n s ss c w read at)
    where
      go : ((e : RowsOfEntry) × (rows_of_entry n (s ∷ ss) c ≡ Some e)) ⊎ ((x : FlowPart) × (flow_placement n c (last_step (s ∷ ss)) ≡ Some x) × (has_others_at n (s ∷ ss) c ≡ ltb 1 (count (items_tree x.collection.items)))) →
          ((t : Placement) × (placement_at n (s ∷ ss) c ≡ Some t)) ⊎ ((x : FlowPart) × (flow_placement n c (last_step (s ∷ ss)) ≡ Some x))
      go (inl e) = inl (entry_placement e.0, ap (option_map entry_placement) e.1)
      go (inr x) = inr (x.0, x.1)

  -- a node is replaced
  replaced_there : (n : ℕ) (steps : List Step) (v : Node) (c : Cut) (w : Node) → read_at (cut_text c) ≡ Some c → node_in n steps c ≡ Some w → IsThere (replace_segments n steps v c)
  replaced_there n steps v c w read at = go (keeps_scalar (node_in n steps c) v)
    where
      block : Option (List Segment)
      block = option_map (value_put (has_text (node_in n steps c)) (layout_of n c) v) (placement_at n steps c)

      flow : Option (List Segment)
      flow = option_map (flow_put (cut_text c) v) (flow_placement n c (last_step steps))

      put_there : ((t : Placement) × (placement_at n steps c ≡ Some t)) ⊎ ((x : FlowPart) × (flow_placement n c (last_step steps) ≡ Some x)) → IsThere (option_or block flow)
      put_there (inl t) = first_there block flow (value_put (has_text (node_in n steps c)) (layout_of n c) v t.0, ap (option_map (value_put (has_text (node_in n steps c)) (layout_of n c) v)) t.1)
      put_there (inr x) = second_there block flow (flow_put (cut_text c) v x.0, ap (option_map (flow_put (cut_text c) v)) x.1)

      go : (b : Bool) → IsThere (cond b (Some (keep (cut_text c) ∷ [])) (option_or block flow))
      go true = (keep (cut_text c) ∷ [], refl)
      go false = put_there (is_located n steps c w read at)

  -- one of several is taken out
  several_there : (n : ℕ) (s : Step) (ss : List Step) (c : Cut) (w : Node) → read_at (cut_text c) ≡ Some c → node_in n (s ∷ ss) c ≡ Some w →
      has_others_at n (s ∷ ss) c ≡ true → IsThere (part_removed n c (last_step (s ∷ ss))) ⊎ IsThere (one_removed n (s ∷ ss) c)
  several_there n s ss c w read at others = go (entries n s ss c w read at)
    where
      part : (o : Option (List Step × Step)) (x : FlowPart) → flow_placement n c o ≡ Some x → ltb 1 (count (items_tree x.collection.items)) ≡ true → IsThere (part_removed n c o)
      part None x e more = absurd (none-some _ e)
      part (Some y) x e more =
          let v = bind_some {f = λ (z : CollPieces). flow_part y.1 z} (flow_collection n y.0 c) e in
          let i = map_some (item_at v.0.close y.1 v.0.items v.0.rest) v.2 in
          let own : ltb 1 (count (items_tree v.0.items)) ≡ true = ap (λ (z : FlowPart). ltb 1 (count (items_tree z.collection.items))) i.2 ∙ more in
          let r = removing_there v.0.close v.0.rest y.1 v.0.gap v.0.items i.0 i.1 (several_items v.0.items own) in
          (flow_segments (cut_text c) r.0, ap (λ (o : Option CollPieces). o >>= flow_removed (cut_text c) y.1) v.1 ∙ ap (option_map (flow_segments (cut_text c))) r.1)

      go : ((e : RowsOfEntry) × (rows_of_entry n (s ∷ ss) c ≡ Some e)) ⊎ ((x : FlowPart) × (flow_placement n c (last_step (s ∷ ss)) ≡ Some x) × (has_others_at n (s ∷ ss) c ≡ ltb 1 (count (items_tree x.collection.items)))) →
          IsThere (part_removed n c (last_step (s ∷ ss))) ⊎ IsThere (one_removed n (s ∷ ss) c)
      go (inl e) = inr (one_there n s ss c e.0 read e.1)
      go (inr x) = inl (part (last_step (s ∷ ss)) x.0 x.1 (sym x.2 ∙ others))

  -- the collection of an item or entry becomes empty
  holds : (s : Step) (o : Node) (w : Node) → child_at s (children_of o) ≡ Some w → (v : Node) × (empty_collection o ≡ Some v)
  holds s (tree.list a cs) w e = (tree.list None tree.none, refl)
  holds s (tree.map a cs) w e = (tree.map None tree.none, refl)
  holds s _ w e = absurd (none-some _ e)

  sole_there : (n : ℕ) (s : Step) (ss : List Step) (c : Cut) (w : Node) → read_at (cut_text c) ≡ Some c → node_in n (s ∷ ss) c ≡ Some w → IsThere (sole_removed n c (last_step (s ∷ ss)))
  sole_there n s ss c w read at =
      let d = bind_some (slice_get (documents c) n) at in
      let x = last_there s ss in
      let a = above_is x.0.0 x.0.1 d.0.root w (subst (λ (path : List Step). node_at path d.0.root ≡ Some w) (last_is (s ∷ ss) x.0.0 x.0.1 x.1) d.2) in
      let v = holds x.0.1 a.0 w a.2 in
      let above : node_in n x.0.0 c ≡ Some a.0 = ap (λ (o : Option Document). o >>= λ e. node_at x.0.0 e.root) d.1 ∙ a.1 in
      let r = replaced_there n x.0.0 v.0 c a.0 read above in (
        r.0,
        ap (sole_removed n c) x.1 ∙ (ap (λ (o : Option Node). o >>= empty_collection >>= λ u. replace_segments n x.0.0 u c) above ∙ (ap (λ (o : Option Node). o >>= λ u. replace_segments n x.0.0 u c) v.1 ∙ r.1)),
      )

  removed_there : (n : ℕ) (s : Step) (ss : List Step) (c : Cut) (w : Node) → read_at (cut_text c) ≡ Some c → node_in n (s ∷ ss) c ≡ Some w → IsThere (removed n (s ∷ ss) c)
  removed_there n s ss c w read at = go (has_others_at n (s ∷ ss) c) refl
    where
      part : Option (List Segment)
      part = part_removed n c (last_step (s ∷ ss))

      rows_there : (b : Bool) → has_others_at n (s ∷ ss) c ≡ b → IsThere (cond b (one_removed n (s ∷ ss) c) (sole_removed n c (last_step (s ∷ ss)))) → IsThere (rows_or_sole n (s ∷ ss) c)
      rows_there b is h = subst (λ x. IsThere (cond x (one_removed n (s ∷ ss) c) (sole_removed n c (last_step (s ∷ ss))))) (sym is) h

      either_there : has_others_at n (s ∷ ss) c ≡ true → IsThere part ⊎ IsThere (one_removed n (s ∷ ss) c) → IsThere (option_or part (rows_or_sole n (s ∷ ss) c))
      either_there is (inl h) = first_there part (rows_or_sole n (s ∷ ss) c) h
      either_there is (inr h) = second_there part (rows_or_sole n (s ∷ ss) c) (rows_there true is h)

      go : (b : Bool) → has_others_at n (s ∷ ss) c ≡ b → IsThere (option_or part (rows_or_sole n (s ∷ ss) c))
      go true is = either_there is (several_there n s ss c w read at is)
      go false is = second_there part (rows_or_sole n (s ∷ ss) c) (rows_there false is (sole_there n s ss c w read at))

-- ---- comments

-- The line to which steps lead in document n of a cut is in rows that are found, and has room for a comment.
record HasRoomAt (part : Part) (n : ℕ) (steps : List Step) (c : Cut) : Type 0 where
  document : PlacedPart
  row_line : RowLine
  entry : rows_of_entry n steps c ≡ Some (entry_rows_at document row_line)
  room : line_has_room part row_line ≡ true

-- whether a document, if it is there, has room for a comment
abbrev has_room_by : Part → List Step → Option rows.Part → Type 0
has_room_by part steps o = row_line_has_room part (o >>= λ p. row_line_of steps p.rows) ≡ true

room_there : (part : Part) (n : ℕ) (steps : List Step) (c : Cut) → has_room_by part steps (slice_get (document_parts c) n) → HasRoomAt part n steps c
room_there part n steps c room = go (placed_document n c) refl (sym (ap (λ (o : Option rows.Part). row_line_has_room part (o >>= λ p. row_line_of steps p.rows)) (document_placed n c)) ∙ room)
  where
    printed_line : (d : PlacedPart) → placed_document n c ≡ Some d → (o : Option RowLine) → row_line_of steps d.part.rows ≡ o → row_line_has_room part o ≡ true → HasRoomAt part n steps c
    printed_line d there None is e = absurd (false≢true e)
    printed_line d there (Some x) is e = record {
      document = d;
      row_line = x;
      entry = ap (λ (o : Option PlacedPart). o >>= λ s. option_map (entry_rows_at s) (row_line_of steps s.part.rows)) there ∙ ap (option_map (entry_rows_at d)) is;
      room = e;
    }

    go : (o : Option PlacedPart) → placed_document n c ≡ o → has_room_by part steps (part_of o) → HasRoomAt part n steps c
    go None there e = absurd (false≢true e)
    go (Some d) there e = printed_line d there (row_line_of steps d.part.rows) refl e

-- the same of a cut that has a reading, by what its text has room for
read_there : (part : Part) (n : ℕ) (steps : List Step) (c : Cut) → read_at (cut_text c) ≡ Some c → has_room_by part steps (slice_get (document_parts (cut_of (cut_text c))) n) → HasRoomAt part n steps c
read_there part n steps c read room =
    room_there part n steps c (ap (λ (z : Cut). row_line_has_room part (slice_get (document_parts z) n >>= λ p. row_line_of steps p.rows)) (sym (read_cut (cut_text c) c read)) ∙ room)

line_comment_there : (n : ℕ) (steps : List Step) (text : List ℕ) (c : Cut) → read_at (cut_text c) ≡ Some c → Fits (room_of (cut_text c)) (line_comment n steps text) (documents c) →
    IsThere (op_edits (line_comment n steps text) c)
line_comment_there n steps text c read fits =
    let h = read_there LineComment n steps c read fits.2.0 in
    let e : RowsOfEntry = entry_rows_at h.document h.row_line in
    (comment_put text (held e), ap (λ (o : Option RowsOfEntry). o >>= line_comment_put text) h.entry ∙ cond-true _ _ _ h.room)

head_comment_there : (n : ℕ) (steps : List Step) (text : List ℕ) (c : Cut) → read_at (cut_text c) ≡ Some c → Fits (room_of (cut_text c)) (head_comment n steps text) (documents c) →
    IsThere (op_edits (head_comment n steps text) c)
head_comment_there n steps text c read fits =
    let h = read_there HeadComment n steps c read fits.2.0 in
    let e : RowsOfEntry = entry_rows_at h.document h.row_line in
    let br : List ℕ = break_text (first_break (cut_text c)) in
    (head_comment_segments br text (above_rows e), ap (λ (o : Option RowsOfEntry). o >>= head_comment_put br text) h.entry ∙ cond-true _ _ _ h.room)

-- ---- each operation

-- An operation that fits has its edit.
pub fitting_has_edit : RootsOccur → EntriesOccur → AppendHasEdit → FittingHasEdit
fitting_has_edit roots entries takers (replace n steps v) c read operand fits = replaced_there roots entries n steps v c fits.2.1.0 read (ap (λ (o : Option Document). o >>= λ d. node_at steps d.root) fits.1 ∙ fits.2.1.1)
fitting_has_edit roots entries takers (append n steps key v) c read operand fits = takers n steps key v c read fits
fitting_has_edit roots entries takers (remove n []) c read operand fits = absurd fits.2.0
fitting_has_edit roots entries takers (remove n (s ∷ ss)) c read operand fits = removed_there roots entries n s ss c fits.2.1.0 read (ap (λ (o : Option Document). o >>= λ d. node_at (s ∷ ss) d.root) fits.1 ∙ fits.2.1.1)
fitting_has_edit roots entries takers (line_comment n steps text) c read operand fits = line_comment_there n steps text c read fits
fitting_has_edit roots entries takers (head_comment n steps text) c read operand fits = head_comment_there n steps text c read fits
