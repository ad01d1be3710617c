-- Heads in rows in front of one that is exchanged for another one of its shape: they are there, with their collections.
use Rattle.std.proofs.Common.{◌≡◌, ℕ, ◌+◌, ◌≤◌, ◌<◌, true, List, [], ◌∷◌, ◌++◌, length, drop, Option, Some, is_some, option_map, sym, ap}
use Rattle.std.proofs.Common.{◌∙◌, subst, append_assoc, arith, length-append}
use Rattle.std.proofs.lemmas.List.{append_cancel_left, append_cancel_right, length-take-le}
use Rattle.std.{proofs.lemmas.Option.{same_Some, slice_get_within}, specs.List.slice_get}
use Rattle.yq_core.{specs.Answers.◌>>=◌, specs.Paths.Step, specs.Collections.CollPieces, specs.Nodes.node_text}
use Rattle.yq_flow_edits.specs.FlowEdits.{FlowEdit}
use Rattle.yq_outline.{specs.Ends.line_at_steps, specs.Lines.{head_of, lines_of_rows}}
use Rattle.yq_row_table.specs.Exchange.{row_front, with_content}
use Rattle.yq_row_table.specs.Rows.{Content, Cut, Inline, Part, Row, content_text, cut_text, part_text, rows_text}
use Rattle.yq_row_table.proofs.PlaceLaws.{row_front-append}
use Rattle.yq_documents.{specs.Documents.document_parts, specs.LinesInRows.{document_row, row_line_of}, specs.Reading.read_at}
use Rattle.yq_places.{specs.FlowNodes.{content_flow, flow_collection}, specs.FlowViews.LeadsToHead, specs.PlacedRows.PlacedPart}
use Rattle.yq_places.{specs.Placements.{RowsOfEntry, entry_rows_at, rows_of_entry}, proofs.FlowNodeLaws.{content_more, with_more}}
use Rattle.yq_places.{proofs.HeldRowLaws.no_root_rows, proofs.PlacedPartLaws.{map_some, placed_is}, proofs.RowLineSpans.steps_row}
use Rattle.yq_edit_rules.{specs.Appends.inserted, specs.Changed.put_document, specs.DocumentRows.after_document}
use Rattle.yq_edit_rules.{specs.FlowRows.{FlowAt, text_after_node, with_node}, specs.PlacementLaws.HasItsRows, specs.Rooms.row_shape}
use Rattle.yq_edit_rules.{proofs.CommentRowLaws.rows_front, proofs.PlaceTextLaws.{IsAround, around}, proofs.PlacementRows.rows_located}
use Rattle.yq_edit_laws.proofs.FlowEditLaws.{FlowTexts, edited_at}
use Rattle.yq_batch.{specs.HeadRows.{HeadRowKeeps, HeadsStayBefore, IsHeadInRow}, proofs.HeadRowLaws.{entry_collections, entry_head}}
use Rattle.yq_batch.{proofs.HeadRunLaws.{head_on, own_row, same_shape}, proofs.RowOrder.{StaysBefore, front_stays}}
use Rattle.yq_batch.proofs.RowsBeforeOffset.{split_front}

-- a collection before other bytes
rest_on : (left : List Step) (x : Content) (y r r2 m : List ℕ) (w : CollPieces) → content_flow left x (y ++ r) ≡ Some w → w.rest ≡ m ++ r → content_flow left x (y ++ r2) ≡ Some (record w { rest = m ++ r2 })
rest_on left x y r r2 m w found is =
    let z = map_some (with_more (y ++ r)) (content_flow left x []) w (sym (content_more left x (y ++ r)) ∙ found) in
    let same : z.0.rest ++ y ≡ m = append_cancel_right (z.0.rest ++ y) m r (append_assoc z.0.rest y r ∙ (ap (λ (v : CollPieces). v.rest) z.2 ∙ is)) in
    let rest : z.0.rest ++ (y ++ r2) ≡ m ++ r2 = sym (append_assoc z.0.rest y r2) ∙ ap (λ (l : List ℕ). l ++ r2) same in
    content_more left x (y ++ r2) ∙ (ap (option_map (with_more (y ++ r2))) z.1 ∙ λ i. Some (record (z.2 i) { rest = rest i }))

-- ---- the row of a head, as that of an item or entry

pub entry_of : (c : Cut) (n : ℕ) (steps : List Step) (i : ℕ) → IsHeadInRow c n steps i →
    (e : RowsOfEntry) × (rows_of_entry n steps c ≡ Some e) × (length e.front ≡ i) × (e.line ≡ length e.row.dashes) × (is_some (head_of e.row.content) ≡ true)
entry_of c n steps i h =
    let d = placed_is n c h.part h.there in
    let found : row_line_of steps d.0.part.rows ≡ Some h.line = ap (λ (p : Part). row_line_of steps p.rows) d.2 ∙ h.found in
    let within = slice_get_within d.0.part.rows h.line.before h.line.row (steps_row (line_at_steps steps (lines_of_rows d.0.part.rows)) d.0.part.rows h.line found) in (
      entry_rows_at d.0 h.line,
      ap (λ (o : Option PlacedPart). o >>= λ x. option_map (entry_rows_at x) (row_line_of steps x.part.rows)) d.1 ∙ ap (option_map (entry_rows_at d.0)) found,
      length-take-le h.line.before d.0.part.rows (omega (arith, within)) ∙ h.row,
      h.last,
      h.headed,
    )

-- the text up to the end of its row, and what comes after that
abbrev pub upto : RowsOfEntry → List ℕ
upto e = e.start ++ rows_text (e.front ++ (e.row ∷ [])) []

abbrev pub following : RowsOfEntry → List ℕ
following e = rows_text (e.under ++ e.back) (e.end ++ e.after)

pub start_is : (c : Cut) (n : ℕ) (s : Step) (ss : List Step) (e : RowsOfEntry) (p : Part) (there : slice_get (document_parts c) n ≡ Some p) → HasItsRows n s ss c e → e.start ≡ (around n c p there).start
start_is c n s ss e p there h = append_cancel_right e.start (around n c p there).start (part_text p (after_document n c)) (sym (h.put p) ∙ (around n c p there).put p)

pub row_apart : (c : Cut) (n : ℕ) (s : Step) (ss : List Step) (e : RowsOfEntry) → HasItsRows n s ss c e → cut_text c ≡ upto e ++ following e
row_apart c n s ss e h =
    let a : IsAround n c h.part = around n c h.part h.old.there in
    let start : e.start ≡ a.start = start_is c n s ss e h.part h.old.there h in
    let rows : part_text h.part (after_document n c) ≡ rows_text (e.front ++ (e.row ∷ [])) [] ++ following e =
    (λ i. rows_text (h.rows_are i) (sym h.end_is i ++ sym h.following_is i))
    ∙ (ap (λ (rs : List Row). rows_text rs (e.end ++ e.after)) (sym (append_assoc e.front (e.row ∷ []) (e.under ++ e.back)))
    ∙ rows_front (e.front ++ (e.row ∷ [])) (e.under ++ e.back) (e.end ++ e.after)) in
    a.text ∙ ((λ i. sym start i ++ rows i) ∙ sym (append_assoc e.start (rows_text (e.front ++ (e.row ∷ [])) []) (following e)))

-- ---- in front of a row

module _ (d : Cut) (k : ℕ) (p : Part) (front back : List Row) (r new : Row) (there : slice_get (document_parts d) k ≡ Some p) (rows_are : p.rows ≡ front ++ (r ∷ back)) (shape : row_shape new ≡ row_shape r)
    (read : read_at (cut_text d) ≡ Some d) (read_next : read_at (cut_text (put_document k (inserted front (new ∷ []) back p) d)) ≡ Some (put_document k (inserted front (new ∷ []) back p) d))
    (before old made after : List ℕ) (was : cut_text d ≡ before ++ (old ++ after)) (is : cut_text (put_document k (inserted front (new ∷ []) back p) d) ≡ before ++ (made ++ after))
    (reach : length ((around k d p there).start ++ rows_text front []) ≤ length before) where
  abbrev next : Cut
  next = put_document k (inserted front (new ∷ []) back p) d

  -- an item or entry
  module _ (s : Step) (ss : List Step) (e : RowsOfEntry) (at : rows_of_entry k (s ∷ ss) d ≡ Some e) (last : e.line ≡ length e.row.dashes) (headed : is_some (head_of e.row.content) ≡ true) (less : length e.front < length front) where
    stays : StaysBefore e k (s ∷ ss) next
    stays = front_stays d k p front back r new there rows_are shape (s ∷ ss) e at less

    abbrev now : RowsOfEntry
    now = stays.now

    last_now : now.line ≡ length now.row.dashes
    last_now = stays.line ∙ (last ∙ ap (λ (x : Row). length x.dashes) (sym stays.row))

    headed_now : is_some (head_of now.row.content) ≡ true
    headed_now = ap (λ (x : Row). is_some (head_of x.content)) stays.row ∙ headed

    head_now : IsHeadInRow next k (s ∷ ss) (length e.front)
    head_now = subst (IsHeadInRow next k (s ∷ ss)) (ap (λ (rs : List Row). length rs) stays.front) (entry_head next k s ss now read_next stays.found last_now headed_now)

    own : HasItsRows k s ss d e
    own = rows_located k s ss d e read at

    rows_same : (e.front ++ (e.row ∷ [])) ++ (e.under ++ e.back) ≡ front ++ (r ∷ back)
    rows_same =
        append_assoc e.front (e.row ∷ []) (e.under ++ e.back)
        ∙ (sym own.rows_are ∙ (ap (λ (x : Part). x.rows) (same_Some _ _ (sym own.old.there ∙ there)) ∙ rows_are))

    split : (m : List Row) × (front ≡ (e.front ++ (e.row ∷ [])) ++ m) × (e.under ++ e.back ≡ m ++ (r ∷ back))
    split = split_front (e.front ++ (e.row ∷ [])) (e.under ++ e.back) front (r ∷ back) rows_same (omega (arith, less, length-append e.front (e.row ∷ [])))

    short : length (upto e) ≤ length before
    short =
        omega (
          arith,
          reach,
          length-append (around k d p there).start (rows_text front []),
          length-append e.start (rows_text (e.front ++ (e.row ∷ [])) []),
          ap (λ (l : List ℕ). length l) (start_is d k s ss e p there own),
          ap (λ (rs : List Row). length (rows_text rs [])) split.1,
          ap length (rows_front (e.front ++ (e.row ∷ [])) split.0 []),
          length-append (rows_text (e.front ++ (e.row ∷ [])) []) (rows_text split.0 []),
        )

    apart : (y : List ℕ) × (before ≡ upto e ++ y) × (following e ≡ y ++ (old ++ after))
    apart = split_front (upto e) (following e) before (old ++ after) (sym (row_apart d k s ss e own) ∙ was) short

    following_now : following now ≡ apart.0 ++ (made ++ after)
    following_now =
        let same : upto e ≡ upto now = λ i. sym stays.start i ++ rows_text (sym stays.front i ++ (sym stays.row i ∷ [])) [] in
        append_cancel_left (upto e) (following now) (apart.0 ++ (made ++ after))
        (ap (λ (l : List ℕ). l ++ following now) same
        ∙ (sym (row_apart next k s ss now (rows_located k s ss next now read_next stays.found))
        ∙ (is ∙ (ap (λ (l : List ℕ). l ++ (made ++ after)) apart.1 ∙ append_assoc (upto e) apart.0 (made ++ after)))))

    collections_now : (left : List Step) (w : CollPieces) (m : List ℕ) → flow_collection k ((s ∷ ss) ++ left) d ≡ Some w → w.rest ≡ m ++ (old ++ after) →
        flow_collection k ((s ∷ ss) ++ left) next ≡ Some (record w { rest = m ++ (made ++ after) })
    collections_now left w m found rest =
        let was_there : content_flow left e.row.content (apart.0 ++ (old ++ after)) ≡ Some w =
        ap (content_flow left e.row.content) (sym apart.2) ∙ (sym (entry_collections d k s ss e read at last headed left) ∙ found) in
        entry_collections next k s ss now read_next stays.found last_now headed_now left
        ∙ ((λ i. content_flow left (stays.row i).content (following_now i)) ∙ rest_on left e.row.content apart.0 (old ++ after) (made ++ after) m w was_there rest)

  -- a head
  abbrev Kept : List Step → ℕ → Type 0
  Kept steps j =
      IsHeadInRow next k steps j
      × ((left : List Step) (w : CollPieces) (m : List ℕ) → flow_collection k (steps ++ left) d ≡ Some w → w.rest ≡ m ++ (old ++ after) →
      flow_collection k (steps ++ left) next ≡ Some (record w { rest = m ++ (made ++ after) }))

  front_head : (steps : List Step) (j : ℕ) → IsHeadInRow d k steps j → j < length front → Kept steps j
  front_head [] j h less = let x = entry_of d k [] j h in absurd (no_root_rows k d x.0 x.1)
  front_head (s ∷ ss) j h less =
      let x = entry_of d k (s ∷ ss) j h in
      let low : length x.0.front < length front = omega (arith, less, x.2) in
      (subst (IsHeadInRow next k (s ∷ ss)) x.2 (head_now s ss x.0 x.1 x.3 x.4 low), collections_now s ss x.0 x.1 x.3 x.4 low)

  -- in the text of a run
  pub heads_stay : (c : Cut) (row keep start : ℕ) (tail first : List ℕ) → HeadsStayBefore c d k row keep tail → document_row k c + length front ≤ row →
      drop start (cut_text c) ≡ first ++ drop keep (cut_text c) → first ++ tail ≡ old ++ after →
      HeadsStayBefore c next k (document_row k c + length front) start (made ++ after)
  heads_stay c row keep start tail first heads low drop_is gone_is stem j h less =
      let was_there = heads stem j h (omega (arith, less, low)) in
      let on = front_head stem j was_there.0 (omega (arith, less)) in (
        on.0,
        λ left w m found rest.
            let whole : w.rest ≡ (m ++ first) ++ drop keep (cut_text c) = rest ∙ (ap (λ (l : List ℕ). m ++ l) drop_is ∙ sym (append_assoc m first (drop keep (cut_text c)))) in
            on.1 left (record w { rest = (m ++ first) ++ tail }) m (was_there.1 left w (m ++ first) found whole) (append_assoc m first tail ∙ ap (λ (l : List ℕ). m ++ l) gone_is),
      )

-- ---- an edit of a collection of a head

module _ (c d : Cut) (k : ℕ) (steps : List Step) (w : CollPieces) (at : FlowAt d k steps w) (e : FlowEdit) (stem left : List Step) (init : steps ≡ stem ++ left) (h : LeadsToHead d k stem) (read : read_at (cut_text d) ≡ Some d)
    (texts : FlowTexts d (put_document k (with_node at.part at.row (edited_at d k steps w at e)) d) e (node_text at.row.node (text_after_node d k at.part at.row)))
    (read_next : read_at (cut_text (put_document k (with_node at.part at.row (edited_at d k steps w at e)) d)) ≡ Some (put_document k (with_node at.part at.row (edited_at d k steps w at e)) d)) where
  abbrev edited_cut : Cut
  edited_cut = put_document k (with_node at.part at.row (edited_at d k steps w at e)) d

  abbrev row_made : Row
  row_made = with_content (Inline at.row.space (edited_at d k steps w at e) at.row.tail) at.row.row

  abbrev more : List ℕ
  more = at.part.end ++ after_document k d

  reaches : length ((around k d at.part at.there).start ++ rows_text at.row.front []) ≤ length texts.before
  reaches =
      let a : IsAround k d at.part = around k d at.part at.there in
      omega (
        arith,
        texts.inside,
        ap length a.text,
        length-append a.start (part_text at.part (after_document k d)),
        length-append a.start (rows_text at.row.front []),
        ap (λ (rs : List Row). length (rows_text rs more)) at.at.rows_are,
        ap length (rows_front at.row.front (at.row.row ∷ at.row.back) more),
        length-append (rows_text at.row.front []) (rows_text (at.row.row ∷ at.row.back) more),
        ap length (row_front-append at.row.row (rows_text at.row.back more)),
        length-append (row_front at.row.row) (content_text at.row.row.content (rows_text at.row.back more)),
        ap (λ (x : Content). length (content_text x (rows_text at.row.back more))) at.at.content_is,
        length-append at.row.space (node_text at.row.node (text_after_node d k at.part at.row)),
      )

  pub row_keeps : (keep start : ℕ) (tail first new : List ℕ) → HeadRowKeeps c d k stem keep tail → (e.lead ++ e.written) ++ e.after ≡ new → drop start (cut_text c) ≡ first ++ drop keep (cut_text c) → first ++ tail ≡ e.old ++ e.after →
      HeadRowKeeps c edited_cut k stem start new
  row_keeps keep start tail first new keeps new_is drop_is gone_is i x =
      let b = keeps i x in
      let own : i ≡ length at.row.front = own_row c d k steps w at e.gap e.items stem left init h i b.0 in
      let on = heads_stay d k at.part at.row.front at.row.back at.row.row row_made at.there at.at.rows_are (same_shape c d k steps w at e.gap e.items stem left init h) read read_next texts.before e.old (e.lead ++ e.written) e.after
      texts.old texts.is reaches c (document_row k c + i) keep start tail first b.1 (omega (arith, own)) drop_is gone_is in (
        head_on c d k steps w at e.gap e.items stem left init h i b.0,
        subst (λ (l : List ℕ). HeadsStayBefore c edited_cut k (document_row k c + i) start l) new_is
            (subst (λ (a : ℕ). HeadsStayBefore c edited_cut k (document_row k c + a) start ((e.lead ++ e.written) ++ e.after)) (sym own) on),
      )
