-- The only item or entry that is left of the own collection of a head in a row, taken out: an empty collection comes there.
use Rattle.std.proofs.lemmas.Grind.{common_steps}
use Rattle.std.proofs.Common.{◌≡◌, ℕ, ℤ, suc, ◌+◌, ◌≤◌, ◌<◌, Bool, true, false, cond, eqb, leb, List, [], ◌∷◌, ◌++◌, length, Option, Some}
use Rattle.std.proofs.Common.{None, is_some, option_map, refl, sym, ap, ◌∙◌, subst, append-nil, arith, rules, length-append}
use Rattle.std.{proofs.lemmas.Bool.{false≢true, le-leb, lt-leb, ltb-false}, proofs.lemmas.List.append_cancel_right}
use Rattle.std.{proofs.lemmas.Option.{none-some, same_Some}, specs.List.slice_get, specs.Prelude.nat_lt, specs.Str.IsCharBoundary}
use Rattle.yq_text.{specs.Limit.text_limit, specs.Script.{Segment, changes, new_text, splice_at}}
use Rattle.yq_core.{specs.Answers.◌>>=◌, specs.Paths.{Step, node_at}, specs.Collections.{CollPieces, coll_in}}
use Rattle.yq_core.specs.Nodes.{FlowNode, IsFlowNode, Items, anchored, coll, flow_items_text, item, node_text, none, without_anchor}
use Rattle.yq_core.{specs.NodesWritten.flow_of, specs.Text.is_empty, specs.Tree.Node, specs.Trees.{items_tree, node_head, tree_of}}
use Rattle.yq_core.{specs.declared.style.Place.TheVariants.Block as InBlock, proofs.NodesWrittenLaws.items_append}
use Rattle.yq_core.proofs.NodeAgain.{items_longer}
use Rattle.yq_flow_edits.specs.Removals.{removing_from}
use Rattle.yq_outline.{specs.Counts.count, specs.Lines.{content_anchor, head_of}}
use Rattle.yq_row_table.{specs.Exchange.row_front, specs.Grammar.IsContent, specs.Seams.is_block}
use Rattle.yq_row_table.specs.View.{anchor_cut, content_cut, slices}
use Rattle.yq_row_table.specs.Rows.{Content, Cut, Inline, Part, Row, cut_text, parent_indent, print_row, rows_text}
use Rattle.yq_documents.{specs.Documents.Document, specs.Reading.{documents, read_at}, proofs.ReadLaws.parts_read}
use Rattle.yq_places.{specs.CommentPlaces.text_to_line_end, specs.FlowNodes.{content_flow, flow_collection}, specs.NodesAt.node_in}
use Rattle.yq_places.{specs.RemovalPlaces.{has_others_at, has_several}, specs.RowPieces.{anchor_before, space_before}}
use Rattle.yq_places.specs.Placements.{RowsOfEntry, after_entry, before_entry, held, last_step, rows_of_entry}
use Rattle.yq_places.proofs.CommentEndLaws.{row_text_parts}
use Rattle.yq_semantics.{specs.Fits.Fits, specs.Operations.{remove, replace}, specs.Rooms.room_of}
use Rattle.yq_semantics.specs.declared.refusal.Refusal.TheVariants.{TooLarge}
use Rattle.yq_edit_rules.{specs.BlockReading.is_filled, specs.Operands.HasOperand, specs.PlacementLaws.HasItsRows}
use Rattle.yq_edit_rules.specs.Edits.{empty_collection, op_edits, or_stay, part_removed, replace_segments, sole_removed}
use Rattle.yq_edit_rules.{specs.FlowParts.{flow_removed, flow_segments}, specs.Replacing.keeps_scalar}
use Rattle.yq_edit_rules.{specs.RowChanges.{ChangesRow, HoldsInline}, specs.RowStays.StaysInRows, specs.WrittenValues.value_text}
use Rattle.yq_edit_rules.{proofs.CommentRowLaws.rows_front, proofs.HeldLaws.front_is, proofs.PlaceTextLaws.around}
use Rattle.yq_edit_rules.{proofs.PlacementMarks.row_there, proofs.PlacementRows.rows_located, proofs.RemovalChangeLaws.take_init}
use Rattle.yq_edit_rules.proofs.RowStayLaws.{rows_stay_there}
use Rattle.yq_edit_laws.{proofs.LaterEnds.rest_in, proofs.MarkHeads.no_raw, proofs.SoleLaws.{empty_value, sole_fits}}
use Rattle.yq_edit_laws.{proofs.SoleEntries.{coll_size, empty_bytes, empty_tree, node_emptied}, proofs.SoleParts.{IsEmptiedBy, last_of}}
use Rattle.yq_edit_laws.{specs.Carried.{carried, carry_one}, specs.Edit.{by_reading, edit_of_segments, exchange_edit, gives, refuses}}
use Rattle.yq_edit_laws.specs.Theorems.{IsFitting}
use Rattle.yq_batch.{specs.HeadRows.IsHeadInRow, specs.RowRuns.PutsText, proofs.HeadRowLaws.entry_collections}
use Rattle.yq_batch.{proofs.HeadsBefore.{entry_of, following, row_apart, start_is, upto}, proofs.RowFronts.equal_parts}
use Rattle.yq_batch.proofs.RowPutLaws.{value_changes, value_comes, value_ends, value_starts, value_text_is}
use Rattle.yq_text.specs.Exchanging as exchange
use Rattle.yq_core.specs.Tree as tree
use Rattle.yq_outline.specs.Outline as outline

-- ---- the collection in the content of a row

-- The content of a row is a collection.
record IsColl (x : Content) (rest : List ℕ) (z : CollPieces) : Type 0 where
  space : List ℕ
  node : FlowNode
  tail : List ℕ
  is : x ≡ Inline space node tail
  inside : coll_in node (tail ++ rest) ≡ Some z

is_coll : (x : Content) (rest : List ℕ) (z : CollPieces) → content_flow [] x rest ≡ Some z → IsColl x rest z
is_coll x rest z e = search (rules, none-some)

-- after its anchor it is the collection
only_coll : (flow : Bool) (spaces : Option ℕ) (d : ℕ) (node : FlowNode) (rest more : List ℕ) (z : CollPieces) → IsFlowNode flow spaces d node rest → coll_in node more ≡ Some z → without_anchor node ≡ coll z.close z.gap z.items
unfolding IsFlowNode
only_coll flow spaces d node rest more z h e = grind (arith, common_steps, none-some, same_Some, false≢true)

valid_coll : (x : Content) (space : List ℕ) (node : FlowNode) (tail more : List ℕ) (n : ℤ) (rest : List ℕ) (z : CollPieces) → x ≡ Inline space node tail → IsContent n x rest →
    coll_in node more ≡ Some z → without_anchor node ≡ coll z.close z.gap z.items
valid_coll x space node tail more n rest z is h e = let c : IsContent n (Inline space node tail) rest = subst (λ (y : Content). IsContent n y rest) is h in only_coll _ _ _ node (tail ++ rest) more z c.1.valid e

cut_head : (node : FlowNode) → (anchor_cut node).2 ≡ node_text (without_anchor node) []
unfolding node_text
cut_head node = search rules

-- what it spells
coll_head : (node : FlowNode) (rest : List ℕ) (z : CollPieces) → coll_in node rest ≡ Some z → node_head node ≡ Some (tree_of (coll z.close z.gap z.items))
coll_head (anchored n gap node) rest z e = coll_head node rest z e
coll_head (coll k gap is) rest z e = ap (λ (w : CollPieces). Some (tree_of (coll w.close w.gap w.items))) (same_Some _ _ e)
coll_head _ rest z e = absurd (none-some _ e)

anchored_empty : (a : Option (List ℕ)) (n : Node) → empty_collection (outline.anchored a n) ≡ empty_collection n
anchored_empty a n = search rules

anchored_several : (a : Option (List ℕ)) (n : Node) → has_several (Some (outline.anchored a n)) ≡ has_several (Some n)
anchored_several a n = search rules

-- ---- an empty one in the place of it

no_scalar : (old : Option Node) (k : ℕ) → keeps_scalar old (empty_tree k) ≡ false
no_scalar old k = search rules depth 9

pub unfilled : (k : ℕ) → is_filled (empty_tree k) ≡ false
unfilled k = elim (eqb k 125) as (λ b. is_filled (cond b (tree.map None tree.none) (tree.list None tree.none)) ≡ false) [ true ↦ refl | false ↦ refl ]

written_empty : (old : List ℕ) (k : ℕ) → value_text InBlock old (empty_tree k) ≡ empty_bytes k
unfolding node_text flow_of
written_empty old k =
    elim (eqb k 125) as (λ b. value_text InBlock old (cond b (tree.map None tree.none) (tree.list None tree.none)) ≡ cond b (123 ∷ (125 ∷ [])) (91 ∷ (93 ∷ [])))
    [ true ↦ refl | false ↦ refl ]

sole_items : (k : ℕ) (rest : List ℕ) (s : Step) (g : List ℕ) (is : Items) → nat_lt 1 (count (items_tree is)) ≡ false → removing_from k rest s g is ≡ None
unfolding items_tree
sole_items k rest s g none few = refl
sole_items k rest s g (item key n sep none) few = grind (arith, common_steps)
sole_items k rest s g (item key n sep (item key2 n2 sep2 is)) few = absurd (omega (arith, ltb-false 1 (count (items_tree (item key n sep (item key2 n2 sep2 is)))) few))

module _ (d : Cut) (n : ℕ) (s : Step) (ss : List Step) (t : Step) (i : ℕ) (z : CollPieces) (read : read_at (cut_text d) ≡ Some d) (head : IsHeadInRow d n (s ∷ ss) i) (found : flow_collection n (s ∷ ss) d ≡ Some z)
    (few : nat_lt 1 (count (items_tree z.items)) ≡ false) where
  abbrev pub gone : List Step
  gone = (s ∷ ss) ++ (t ∷ [])

  abbrev pub v : Node
  v = empty_tree z.close

  pub entry : (e : RowsOfEntry) × (rows_of_entry n (s ∷ ss) d ≡ Some e) × (length e.front ≡ i) × (e.line ≡ length e.row.dashes) × (is_some (head_of e.row.content) ≡ true)
  entry = entry_of d n (s ∷ ss) i head

  abbrev pub e : RowsOfEntry
  e = entry.0

  own : HasItsRows n s ss d e
  own = rows_located n s ss d e read entry.1

  inside : IsColl e.row.content (following e) z
  inside =
      is_coll e.row.content (following e) z
      (sym (entry_collections d n s ss e read entry.1 entry.3 entry.4 []) ∙ (ap (λ (us : List Step). flow_collection n us d) (append-nil (s ∷ ss)) ∙ found))

  node_is : without_anchor inside.node ≡ coll z.close z.gap z.items
  node_is =
      valid_coll e.row.content inside.space inside.node inside.tail (inside.tail ++ following e) (parent_indent e.row) (rows_text e.under (after_entry e)) z inside.is (row_there n s ss d e own).content inside.inside

  pub head_text : (held e).head ≡ node_text (coll z.close z.gap z.items) []
  head_text = ap (λ (x : Content). (content_cut x).3) inside.is ∙ (cut_head inside.node ∙ ap (λ (m : FlowNode). node_text m []) node_is)

  tail_is : (slices e.row).tail ≡ inside.tail
  tail_is = ap (λ (x : Content). (content_cut x).4) inside.is

  plain : is_block e.row.content ≡ false
  plain = ap is_block inside.is

  some_head : is_empty (held e).head ≡ false
  unfolding node_text
  some_head = ap is_empty head_text

  pub holds : HoldsInline e
  holds = record { last = entry.3; block = plain; some = some_head }

  -- ---- the operation

  abbrev spelled : Node
  spelled = outline.anchored (content_anchor e.row.content) (tree_of (coll z.close z.gap z.items))

  node_there : node_in n (s ∷ ss) d ≡ Some spelled
  node_there = rows_stay_there.nodes n s ss d e (tree_of (coll z.close z.gap z.items)) own entry.3 (ap head_of inside.is ∙ coll_head inside.node (inside.tail ++ following e) z inside.inside)

  emptied : IsEmptiedBy v spelled
  emptied =
      let a : Option (List ℕ) = content_anchor e.row.content in
      let m : Node = tree_of (coll z.close z.gap z.items) in
      let h : IsEmptiedBy v m = node_emptied (coll z.close z.gap z.items) z.rest z refl few in
      (anchored_empty a m ∙ h.0, anchored_several a m ∙ h.1)

  others : has_others_at n gone d ≡ false
  others = (λ j. has_several (slice_get (documents d) n >>= λ (x : Document). node_at (take_init (s ∷ ss) t j) x.root)) ∙ (ap has_several node_there ∙ emptied.1)

  no_part : part_removed n d (last_step gone) ≡ None
  no_part =
      ap (part_removed n d) (last_of (s ∷ ss) t)
      ∙ (ap (λ (o : Option CollPieces). o >>= flow_removed (cut_text d) t) found
      ∙ ap (option_map (flow_segments (cut_text d))) (sole_items z.close z.rest t z.gap z.items few))

  sole : sole_removed n d (last_step gone) ≡ replace_segments n (s ∷ ss) v d
  sole =
      ap (sole_removed n d) (last_of (s ∷ ss) t)
      ∙ (ap (λ (o : Option Node). o >>= empty_collection >>= λ x. replace_segments n (s ∷ ss) x d) node_there
      ∙ ap (λ (o : Option Node). o >>= λ x. replace_segments n (s ∷ ss) x d) emptied.0)

  same_edits : op_edits (remove n gone) d ≡ op_edits (replace n (s ∷ ss) v) d
  same_edits = simp (no_part, others, sole) refl

  pub other : keeps_scalar (node_in n (s ∷ ss) d) v ≡ false
  other = no_scalar (node_in n (s ∷ ss) d) z.close

  abbrev still : StaysInRows e n (s ∷ ss) d
  still = record { start = e.start; front = e.front; found = entry.1; size = refl }

  abbrev puts : PutsText (replace n (s ∷ ss) v) d e (held e).head (value_text InBlock (held e).head v) ((held e).white ++ ((held e).comment ++ ((held e).last ++ (held e).after)))
  puts = value_comes n s ss v d e read entry.1 holds (unfilled z.close) d read still other

  abbrev pub before : List ℕ
  before = (held e).before ++ (held e).space

  abbrev pub after : List ℕ
  after = (held e).white ++ ((held e).comment ++ ((held e).last ++ (held e).after))

  pub text_is : cut_text d ≡ before ++ ((held e).head ++ after)
  text_is = value_text_is n s ss v d e read entry.1 holds (unfilled z.close)

  pub starts : IsCharBoundary (cut_text d) (length before)
  starts = value_starts n s ss v d e read entry.1 holds (unfilled z.close)

  pub finishes : IsCharBoundary (cut_text d) (length before + length (held e).head)
  finishes = value_ends n s ss v d e read entry.1 holds (unfilled z.close)

  front_same : puts.front ≡ before
  front_same = append_cancel_right puts.front before ((held e).head ++ after) (sym puts.puts.old_is ∙ (puts.whole ∙ text_is))

  written : value_text InBlock (held e).head v ≡ empty_bytes z.close
  written = written_empty (held e).head z.close

  abbrev pub segments : List Segment
  segments = puts.segments

  new_is : new_text segments ≡ before ++ (empty_bytes z.close ++ after)
  new_is = puts.puts.new_is ∙ λ j. front_same j ++ (written j ++ after)

  changes_are : changes segments ≡ splice_at (length before) (held e).head (empty_bytes z.close)
  changes_are = puts.puts.changes_are ∙ λ j. splice_at (length (front_same j)) (held e).head (written j)

  comes : carried (remove n gone) (cut_text d) ≡ edit_of_segments segments
  comes =
      ap (by_reading (carry_one (remove n gone))) read
      ∙ ap (λ (o : Option (List Segment)). edit_of_segments (or_stay d o)) (same_edits ∙ puts.edited)

  pub empty_there : length (before ++ (empty_bytes z.close ++ after)) ≤ text_limit →
      carried (remove n gone) (cut_text d) ≡ gives (before ++ (empty_bytes z.close ++ after)) (splice_at (length before) (held e).head (empty_bytes z.close))
  empty_there small =
      comes
      ∙ ((λ j. exchange_edit (cond (leb (length (new_is j)) text_limit) (exchange.gives (new_is j) (changes_are j)) exchange.too_large))
      ∙ ap (λ (b : Bool). exchange_edit (cond b (exchange.gives (before ++ (empty_bytes z.close ++ after)) (splice_at (length before) (held e).head (empty_bytes z.close))) exchange.too_large))
      (le-leb (length (before ++ (empty_bytes z.close ++ after))) text_limit small))

  pub empty_large : text_limit < length (before ++ (empty_bytes z.close ++ after)) → carried (remove n gone) (cut_text d) ≡ refuses TooLarge
  empty_large large =
      comes
      ∙ ((λ j. exchange_edit (cond (leb (length (new_is j)) text_limit) (exchange.gives (new_is j) (changes_are j)) exchange.too_large))
      ∙ ap (λ (b : Bool). exchange_edit (cond b (exchange.gives (before ++ (empty_bytes z.close ++ after)) (splice_at (length before) (held e).head (empty_bytes z.close))) exchange.too_large))
      (lt-leb (length (before ++ (empty_bytes z.close ++ after))) text_limit large))

  -- ---- where it is

  left_size : length after ≡ length z.rest
  left_size =
      let b : List ℕ = before_entry e in
      let sl = slices e.row in
      omega (
        arith,
        ap length text_is,
        length-append before ((held e).head ++ after),
        length-append (held e).head after,
        length-append ((b ++ row_front e.row) ++ anchor_before sl) (space_before sl),
        ap length (front_is b e.row),
        length-append b (text_to_line_end e.row),
        length-append ((b ++ row_front e.row) ++ anchor_before sl) (space_before sl ++ sl.head),
        length-append (space_before sl) sl.head,
        ap length (row_apart d n s ss e own),
        length-append (upto e) (following e),
        length-append e.start (rows_text (e.front ++ (e.row ∷ [])) []),
        ap length (rows_front e.front (e.row ∷ []) []),
        length-append (rows_text e.front []) (print_row e.row []),
        length-append e.start (rows_text e.front []),
        ap length (row_text_parts e.row []),
        length-append (text_to_line_end e.row) (sl.tail ++ (sl.raw ++ [])),
        length-append sl.tail (sl.raw ++ []),
        ap length (append-nil sl.raw),
        ap length (no_raw e.row.content plain),
        ap length tail_is,
        ap length (rest_in inside.node (inside.tail ++ following e) z inside.inside),
        length-append inside.tail (following e),
      )

  pub opens : (opening : List ℕ) → cut_text d ≡ opening ++ flow_items_text z.close z.items z.rest → length before + suc (length z.gap) ≡ length opening
  opens opening is =
      omega (
        arith,
        left_size,
        ap length is,
        ap length text_is,
        ap length head_text,
        length-append opening (flow_items_text z.close z.items z.rest),
        length-append before ((held e).head ++ after),
        length-append (held e).head after,
        coll_size z.close z.gap z.items [],
        ap length (items_append z.close z.items [] z.rest),
        length-append (flow_items_text z.close z.items []) z.rest,
      )

  pub ends : length before + length (held e).head + length z.rest ≡ length (cut_text d)
  ends = omega (arith, left_size, ap length text_is, length-append before ((held e).head ++ after), length-append (held e).head after)

  pub head_long : 2 ≤ length (held e).head
  head_long = omega (arith, ap length head_text, coll_size z.close z.gap z.items [], items_longer z.close z.items [])

  -- ---- the row that comes there

  fitting : IsFitting (remove n gone) (cut_text d) → Fits (room_of (cut_text d)) (replace n (s ∷ ss) v) (documents d)
  fitting f =
      let is = parts_read (cut_text d) f.before f.read in
      let same : documents d ≡ f.before = ap documents (same_Some _ _ (sym read ∙ is.0)) ∙ is.1 in
      sole_fits n (s ∷ ss) t v spelled d read others node_there emptied.0 (subst (Fits (room_of (cut_text d)) (remove n gone)) (sym same) f.fits)

  operand : HasOperand (replace n (s ∷ ss) v)
  operand = empty_value spelled v emptied.0

  module _ (fits : IsFitting (remove n gone) (cut_text d)) (small : length (before ++ (empty_bytes z.close ++ after)) ≤ text_limit) where
    pub row_changes : ChangesRow n d e segments
    row_changes = value_changes n s ss v d e read entry.1 holds (unfilled z.close) d read still other operand (fitting fits) (omega (arith, small, ap length new_is))

    pub row_size : length row_changes.front ≡ i
    row_size = row_changes.front_size ∙ entry.2

    front_rows : e.front ≡ row_changes.front
    front_rows =
        (equal_parts e.front (e.row ∷ (e.under ++ e.back)) row_changes.front (row_changes.row ∷ row_changes.back)
        (sym own.rows_are ∙ (ap (λ (p : Part). p.rows) (same_Some _ _ (sym own.old.there ∙ row_changes.there)) ∙ row_changes.rows_are)) (sym row_changes.front_size)).0

    pub row_text : new_text segments ≡ before ++ (empty_bytes z.close ++ after)
    row_text = new_is

    pub reach : length ((around n d row_changes.part row_changes.there).start ++ rows_text row_changes.front []) ≤ length before
    reach =
        let b : List ℕ = before_entry e in
        let sl = slices e.row in
        omega (
          arith,
          length-append (around n d row_changes.part row_changes.there).start (rows_text row_changes.front []),
          ap (λ (l : List ℕ). length l) (start_is d n s ss e row_changes.part row_changes.there own),
          ap (λ (rs : List Row). length (rows_text rs [])) front_rows,
          length-append e.start (rows_text e.front []),
          length-append b (row_front e.row),
          length-append (b ++ row_front e.row) (anchor_before sl),
          length-append ((b ++ row_front e.row) ++ anchor_before sl) (space_before sl),
        )
