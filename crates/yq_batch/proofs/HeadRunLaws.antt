-- A run that changes the collections of a head begins after the row that was changed last, and the rows after the head's own stay.
use Rattle.std.proofs.Common.{◌≡◌, ℕ, suc, ◌+◌, true, List, [], ◌∷◌, ◌++◌, length, Option, Some, is_some, option_map, refl, sym, ap, ◌∙◌}
use Rattle.std.{proofs.Common.{subst, arith, string_bytes}, specs.Prelude.IfSome, proofs.lemmas.Option.same_Some}
use Rattle.yq_core.{specs.Answers.◌>>=◌, specs.Paths.Step, specs.Collections.{CollPieces, collection_put}, specs.Entries.item_at}
use Rattle.yq_core.specs.Nodes.{FlowNode, Items}
use Rattle.yq_outline.{specs.Ends.line_at_steps, specs.Lines.{head_of, lines_of_rows}}
use Rattle.yq_row_table.{specs.Exchange.with_content, specs.Rows.{Content, Cut, Inline, Part, Row, cut_text, parent_indent, rows_text}}
use Rattle.yq_row_table.proofs.splices.SpliceTexts.{own_gap}
use Rattle.yq_documents.{specs.LinesInRows.{RowLine, row_line}, specs.Reading.{cut_of, read_at}}
use Rattle.yq_places.{specs.FlowNodes.flow_collection, specs.FlowViews.LeadsToHead, specs.NodeReading.head_line_of}
use Rattle.yq_places.{specs.Placements.{RowsOfEntry, after_entry, rows_of_entry}, specs.PlacementViews.IsHeldRow}
use Rattle.yq_places.{specs.declared.places.held_row.HeldRow.HeldRow, proofs.HeldRowLaws.no_root_rows}
use Rattle.yq_places.proofs.FlowViewLaws.{head_found, numbered}
use Rattle.yq_edit_rules.{specs.Changed.put_document, specs.FlowRows.{FlowAt, InlineRow, text_after_node, with_node}, specs.Rooms.row_shape}
use Rattle.yq_edit_rules.{specs.RowStays.{IsAfter, StaysInRows, StaysFrom}, proofs.FlowRowLaws.node_holds}
use Rattle.yq_edit_rules.{proofs.RowStayLaws.{keeps_rows, rows_stay_there, there_then}, proofs.ShapeLaws.line_by_shape}
use Rattle.yq_edit_rules.{proofs.PlacementMarks.row_there, proofs.PlacementRows.rows_located}
use Rattle.yq_edit_laws.{proofs.CutLaws.text_read, proofs.HeldRows.head_there, proofs.LaterEnds.ends_same}
use Rattle.yq_batch.{specs.HeadRows.{EntriesStayFrom, HeadRowStays, IsHeadInRow}, specs.RowRuns.{IsRowRun, rows_still, IsRowsRun, Passed}}
use Rattle.yq_batch.{specs.HeadRuns.IsRowAt, specs.Runs.{IsPutRun, text_with_run}, specs.declared.run.PutRun.PutRun}
use Rattle.yq_batch.{proofs.RowRunAnswers.after_last, proofs.RowRunLaws.{after_both, sized}}
use Rattle.yq_batch.proofs.HeadRowLaws.{entry_collections, entry_head, leads_there, mark_between, number, number_is, same_row}

-- ---- another node in the row of a head

module _ (c d : Cut) (k : ℕ) (steps : List Step) (w : CollPieces) (at : FlowAt d k steps w) (gap : List ℕ) (is : Items) (stem left : List Step) (init : steps ≡ stem ++ left) (h : LeadsToHead d k stem) where
  abbrev i : InlineRow
  i = at.row

  abbrev p : Part
  p = at.part

  abbrev m : FlowNode
  m = collection_put at.rest gap is i.node

  abbrev q : Part
  q = with_node p i m

  abbrev next : Cut
  next = put_document k q d

  abbrev r : Row
  r = with_content (Inline i.space m i.tail) i.row

  rows_are : q.rows ≡ i.front ++ (r ∷ i.back)
  rows_are = ap (λ (rs : List Row). i.front ++ (r ∷ rs)) (own_gap i.back p.end)

  pub same_shape : row_shape r ≡ row_shape i.row
  same_shape =
      let holds = node_holds at.rest i.node (text_after_node d k p i) w gap is at.at.along in
      let headed : is_some (head_of (Inline i.space m i.tail)) ≡ is_some (head_of i.row.content) =
      ap is_some holds.head.1 ∙ (sym (ap is_some holds.old_head.1) ∙ sym (ap (λ (x : Content). is_some (head_of x)) at.at.content_is)) in
      λ j. record { column = i.row.column; dashes = i.row.dashes; mark = i.row.mark; headed = headed j }

  stays : StaysFrom (suc (length i.front)) p q
  stays = rows_stay_there.exchanges p i.front i.back i.row r at.at.rows_are same_shape

  -- the head's row is the one in which the collection is
  module _ (n : ℕ) (x : IsHeadInRow d k stem n) where
    number_there : h.number ≡ length (lines_of_rows i.front) + length i.row.dashes
    number_there =
        let same : h.part ≡ p = same_Some _ _ (sym h.there ∙ at.there) in
        ap (λ (y : ℕ × List Step). y.0)
        (same_Some _ _ (sym (h.leads left) ∙ (ap (λ (y : Part). head_line_of (stem ++ left) (lines_of_rows y.rows)) same
        ∙ (ap (λ (ss : List Step). head_line_of ss (lines_of_rows p.rows)) (sym init) ∙ (sym (head_found (lines_of_rows p.rows) steps) ∙ ap (option_map numbered) at.at.found)))))
        ∙ sym at.at.number

    abbrev own : (k : ℕ) × (line_at_steps stem (lines_of_rows x.part.rows) ≡ Some k) × (row_line k x.part.rows ≡ Some x.line)
    own = number d k stem n x

    line_number : own.0 ≡ length (lines_of_rows i.front) + length i.row.dashes
    line_number = sym (number_is d k stem n x h) ∙ number_there

    same_part : x.part ≡ p
    same_part = same_Some _ _ (sym x.there ∙ at.there)

    pub own_row : n ≡ length i.front
    own_row =
        sym x.row
        ∙ ap (λ (y : RowLine). y.before)
        (same_Some _ _ (sym own.2 ∙ ((λ j. row_line (line_number j) (same_part j).rows) ∙ mark_between p.rows i.front i.row i.back at.at.rows_are)))

    pub head_on : IsHeadInRow next k stem n
    head_on = record {
      part = q;
      there = there_then d k p q at.there (keeps_rows p.rows q.rows stays.shapes);
      line = record { before = length i.front; row = r; line = length r.dashes };
      found = ap (λ (o : Option ℕ). o >>= λ a. row_line a q.rows)
          (line_by_shape p q stays.shapes stem ∙ (ap (λ (y : Part). line_at_steps stem (lines_of_rows y.rows)) (sym same_part) ∙ (own.1 ∙ ap Some line_number)))
          ∙ mark_between q.rows i.front r i.back rows_are;
      last = refl;
      headed = ap is_some (node_holds at.rest i.node (text_after_node d k p i) w gap is at.at.along).head.1;
      row = sym own_row;
    }

  -- it is there, and so is what comes after it
  pub head_row_on : HeadRowStays c d k stem → HeadRowStays c next k stem
  head_row_on before n x =
      let b : IsHeadInRow d k stem n × EntriesStayFrom c d k (suc n) = before n x in (
        head_on n b.0,
        λ l path f found after.
            let first : StaysInRows f l path d = b.1 l path f found after in
            let from : IsAfter k (suc (length i.front)) l (length first.front) =
            subst (λ (a : ℕ). IsAfter k (suc a) l (length first.front)) (own_row n b.0)
            (sized k (suc n) l (length f.front) (length first.front) (sym first.size) after) in
            let z = rows_stay_there.entries d k (suc (length i.front)) p q l path (record f { start = first.start; front = first.front }) at.there stays first.found from in
            record { start = z.start; front = z.front; found = z.found; size = z.size ∙ first.size },
      )

-- ---- a run in a head, after the row that was changed last

module _ (c : Cut) (k n : ℕ) (out : List ℕ) (done : ℕ) (run : IsRowRun c k n out done) (m : ℕ) (s : Step) (ss : List Step) (e : RowsOfEntry) (read : read_at (cut_text c) ≡ Some c) (at : rows_of_entry m (s ∷ ss) c ≡ Some e)
    (last : e.line ≡ length e.row.dashes) (headed : is_some (head_of e.row.content) ≡ true) (later : IsAfter k n m (length e.front)) where
  abbrev stem : List Step
  stem = s ∷ ss

  abbrev still : StaysInRows e m stem run.cut
  still = run.stays m stem e at later

  read_now : read_at (cut_text run.cut) ≡ Some run.cut
  read_now = ap read_at (text_read (text_with_run (cut_text c) out done) run.cut run.read) ∙ run.read

  head_now : IsHeadInRow run.cut m stem (length e.front)
  head_now = subst (IsHeadInRow run.cut m stem) still.size (entry_head run.cut m s ss (rows_still e still) read_now still.found last headed)

  same_collections : (left : List Step) → flow_collection m (stem ++ left) run.cut ≡ flow_collection m (stem ++ left) c
  same_collections left = entry_collections run.cut m s ss (rows_still e still) read_now still.found last headed left ∙ sym (entry_collections c m s ss e read at last headed left)

  pub head_begins : IsPutRun c m (s ∷ ss) out done
  head_begins = record {
    within = run.within;
    edge = run.edge;
    cut = run.cut;
    read = run.read;
    leads = leads_there run.cut m stem (length e.front) head_now;
    stays = λ left r y part less begins. ap (λ (o : Option CollPieces). o >>= λ w. item_at w.close r w.items w.rest) (same_collections left) ∙ part;
    ends = λ left w found after. (w, same_collections left ∙ found, ends_same w);
    row = λ i x.
        let same : length e.front ≡ i = same_row c m stem (length e.front) (entry_head c m s ss e read at last headed) i x in (
          subst (IsHeadInRow run.cut m stem) same head_now,
          λ l path f found after. run.stays l path f found (after_both k n m (length e.front) l (length f.front) later (subst (λ (a : ℕ). IsAfter m (suc a) l (length f.front)) (sym same) after)),
        );
  }

-- it ends after the head's row
pub head_ends : (c : Cut) (n : ℕ) (path : List Step) (out : List ℕ) (done : ℕ) → IsPutRun c n path out done → (i : ℕ) → IsHeadInRow c n path i → IsRowRun c n (suc i) out done
head_ends c n path out done run i x = record { within = run.within; edge = run.edge; cut = run.cut; read = run.read; stays = (run.row i x).1 }

-- ---- the row that the code finds

pub row_found : (t : List ℕ) (n : ℕ) (steps : List Step) (x : HeldRow) → read_at t ≡ Some (cut_of t) → IsHeldRow n steps (cut_of t) x → x.inline ≡ true → IsRowAt (cut_of t) n steps x.row
row_found t n [] x read is inline = absurd (no_root_rows n (cut_of t) is.entry is.found)
row_found t n (s ∷ ss) x read is inline =
    let c : Cut = cut_of t in
    let again : read_at (cut_text c) ≡ Some c = ap read_at (text_read t c read) ∙ read in
    let e : RowsOfEntry = is.entry in
    let there = rows_located n s ss c e again is.found in
    record {
      entry = e;
      found = is.found;
      last = is.last;
      headed = head_there (parent_indent e.row) e.row.content (rows_text e.under (after_entry e)) (row_there n s ss c e there).content (is.inline inline).1;
      row_is = is.row;
    }

-- a run of rows goes on in a head after them
pub head_run : (t : List ℕ) (last : Option (ℕ × ℕ)) (r : PutRun) (n row : ℕ) (steps : List Step) → read_at t ≡ Some (cut_of t) →
    IsRowsRun (cut_of t) last r → IsRowAt (cut_of t) n steps row → Passed last n row → IsPutRun (cut_of t) n steps (string_bytes r.text) r.done
head_run t last r n row [] read run at passed = absurd (no_root_rows n (cut_of t) at.entry at.found)
head_run t last r n row (s ∷ ss) read run at passed =
    let c : Cut = cut_of t in
    let again : read_at (cut_text c) ≡ Some c = ap read_at (text_read t c read) ∙ read in
    head_begins c run.document run.row (string_bytes r.text) r.done run.run n s ss at.entry again at.found at.last at.headed
    (after_last c last run.document run.row n (length at.entry.front) row run.last passed at.row_is)

-- and then goes on after the row of that
pub rows_run : (t : List ℕ) (r : PutRun) (n row : ℕ) (steps : List Step) → read_at t ≡ Some (cut_of t) → IsPutRun (cut_of t) n steps (string_bytes r.text) r.done → IsRowAt (cut_of t) n steps row → IsRowsRun (cut_of t) (Some (n, row)) r
rows_run t r n row [] read run at = absurd (no_root_rows n (cut_of t) at.entry at.found)
rows_run t r n row (s ∷ ss) read run at =
    let c : Cut = cut_of t in
    let again : read_at (cut_text c) ≡ Some c = ap read_at (text_read t c read) ∙ read in
    let head : IsHeadInRow c n (s ∷ ss) (length at.entry.front) = entry_head c n s ss at.entry again at.found at.last at.headed in
    record {
      document = n;
      row = suc (length at.entry.front);
      last = (refl, omega (arith, at.row_is));
      run = head_ends c n (s ∷ ss) (string_bytes r.text) r.done run (length at.entry.front) head;
    }

-- what is known of an answer, if there is one
pub some_is : {A : Type 0} (P : A → Type 0) (o : Option A) (x : A) → IfSome o P → o ≡ Some x → P x
some_is {A = A} P o x h e = subst (λ (r : Option A). IfSome r P) e h
