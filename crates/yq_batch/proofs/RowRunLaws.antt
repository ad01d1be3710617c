-- One more operation that changes a row, after those that did: it comes to what it does on the rows as they were read, but for the text in front.
use Rattle.std.proofs.Common.{◌≡◌, inl, inr, ℕ, suc, ◌+◌, ◌≤◌, ◌<◌, Bool, cond, leb, List, [], ◌∷◌, ◌++◌, length, take, drop, Option, Some}
use Rattle.std.proofs.Common.{sym, ap, ◌∙◌, subst, append_assoc, append-nil, arith, length-append}
use Rattle.std.{proofs.Math.Seq.{take-append_seam, drop-append_seam}, proofs.lemmas.Bool.{le-leb, lt-leb}}
use Rattle.std.{proofs.lemmas.List.{append_cancel_right, drop-append-le}, proofs.lemmas.Option.same_Some, specs.Str.IsCharBoundary}
use Rattle.yq_text.{specs.Limit.text_limit, specs.Script.{Segment, changes, keep, new_text, splice_at}, proofs.ScriptLaws.kept_changes}
use Rattle.yq_row_table.specs.Rows.{Cut, cut_text}
use Rattle.yq_documents.{specs.Reading.{documents, read_at}, proofs.ReadLaws.parts_read}
use Rattle.yq_places.specs.Placements.{RowsOfEntry}
use Rattle.yq_edit_rules.{specs.Appends.inserted, specs.Changed.put_document, specs.RowStays.{IsAfter, StaysInRows, StaysPlaced}}
use Rattle.yq_edit_rules.{specs.Edits.{op_edits, or_stay}, specs.Operands.HasOperand}
use Rattle.yq_semantics.{specs.After.op_document, specs.Fits.Fits, specs.Operations.Operation, specs.Rooms.room_of}
use Rattle.yq_semantics.specs.declared.refusal.Refusal.TheVariants.{TooLarge}
use Rattle.yq_edit_laws.{proofs.CutLaws.{cut_read, text_read}, specs.Carried.{carried, carry_one}}
use Rattle.yq_edit_laws.{specs.Edit.{by_reading, edit_of_segments, exchange_edit, gives, refuses}, specs.Theorems.IsFitting}
use Rattle.yq_edit_laws.proofs.ApplyLaws.{fits}
use Rattle.yq_batch.{specs.RowRuns.{DocumentsStayFrom, ExchangesRow, IsRowRun, PutsText}, specs.Runs.text_with_run}
use Rattle.yq_batch.proofs.ExchangedRows.{exchanged_documents, exchanged_entries}
use Rattle.yq_text.specs.Exchanging as exchange

-- what is after one row after another is after that
pub after_both : (k n m i l j : ℕ) → IsAfter k n m i → IsAfter m (suc i) l j → IsAfter k n l j
after_both k n m i l j (inl a) (inl b) = inl (omega (arith, a, b))
after_both k n m i l j (inl a) (inr b) = inl (omega (arith, a, b.0))
after_both k n m i l j (inr a) (inl b) = inl (omega (arith, a.0, b))
after_both k n m i l j (inr a) (inr b) = inr (a.0 ∙ b.0, omega (arith, a.1, b.1))

pub sized : (k n m i j : ℕ) → i ≡ j → IsAfter k n m i → IsAfter k n m j
sized k n m i j e h = subst (λ (x : ℕ). IsAfter k n m x) e h

-- all rows of a document are after a row of another one alone
in_later : (m i l : ℕ) → IsAfter m (suc i) l 0 → m < l
in_later m i l (inl a) = a
in_later m i l (inr b) = absurd (omega (arith, b.1))

-- a run to which a row was added, after which items, entries and documents are as they were
abbrev pub GoesOn : (c : Cut) (m n : ℕ) (out : List ℕ) (done : ℕ) → Type 0
GoesOn c m n out done = (y : IsRowRun c m n out done) × DocumentsStayFrom c y.cut m n

-- after a run, of rows of the text as it is now
module _ (c : Cut) (k n : ℕ) (out : List ℕ) (done : ℕ) (run : IsRowRun c k n out done) (op : Operation) (e : RowsOfEntry) where
  abbrev now : List ℕ
  now = text_with_run (cut_text c) out done

  pub text_now : cut_text run.cut ≡ now
  text_now = text_read now run.cut run.read

  pub read_now : read_at (cut_text run.cut) ≡ Some run.cut
  read_now = ap read_at text_now ∙ run.read

  comes : (ss : List Segment) → op_edits op run.cut ≡ Some ss → carried op now ≡ edit_of_segments ss
  comes ss edited = ap (by_reading (carry_one op)) run.read ∙ ap (λ (o : Option (List Segment)). edit_of_segments (or_stay run.cut o)) edited

  -- all bytes stay
  pub row_stays : op_edits op run.cut ≡ Some (keep (cut_text run.cut) ∷ []) → carried op now ≡ gives now []
  row_stays edited =
      let t : List ℕ = cut_text run.cut in
      comes (keep t ∷ []) edited
      ∙ ((λ i. exchange_edit (cond (leb (length (append-nil t i)) text_limit) (exchange.gives (append-nil t i) (kept_changes (keep t ∷ []) (tt, tt) i)) exchange.too_large))
      ∙ (ap (λ (b : Bool). exchange_edit (cond b (exchange.gives t []) exchange.too_large)) (le-leb (length t) text_limit (cut_read t run.cut read_now).size) ∙ ap (λ (u : List ℕ). gives u []) text_now))

  -- a text is put there
  module _ (before old new following : List ℕ) (text_is : cut_text c ≡ before ++ (old ++ following)) (ordered : done ≤ length before) (x : PutsText op run.cut e old new following) where
    abbrev t : List ℕ
    t = cut_text c

    abbrev start : ℕ
    start = length before

    abbrev finish : ℕ
    finish = length before + length old

    abbrev new_front : List ℕ
    new_front = out ++ drop done (take start t)

    abbrev new_out : List ℕ
    new_out = new_front ++ new

    abbrev ss : List Segment
    ss = x.segments

    before_is : take start t ≡ before
    before_is = ap (take start) text_is ∙ take-append_seam before (old ++ following)

    -- the text in front is what the run has made, and what stays after that
    front_is : x.front ≡ new_front
    front_is =
        append_cancel_right x.front new_front (old ++ following)
        (sym x.puts.old_is
        ∙ (x.whole
        ∙ (text_now
        ∙ (ap (λ (u : List ℕ). out ++ drop done u) text_is
        ∙ (ap (λ (u : List ℕ). out ++ u) (drop-append-le done before (old ++ following) ordered)
        ∙ (sym (append_assoc out (drop done before) (old ++ following))
        ∙ ap (λ (u : List ℕ). (out ++ drop done u) ++ (old ++ following)) (sym before_is)))))))

    size : finish ≡ length (before ++ old)
    size = omega (arith, length-append before old)

    apart : t ≡ (before ++ old) ++ following
    apart = text_is ∙ sym (append_assoc before old following)

    left_is : drop finish t ≡ following
    left_is = (λ i. drop (size i) (apart i)) ∙ drop-append_seam (before ++ old) following

    pub old_is : drop start (take finish t) ≡ old
    old_is =
        let upto : take finish t ≡ before ++ old = (λ i. take (size i) (apart i)) ∙ take-append_seam (before ++ old) following in
        ap (drop start) upto ∙ drop-append_seam before old

    new_is : new_text ss ≡ text_with_run t new_out finish
    new_is = x.puts.new_is ∙ ((λ i. front_is i ++ (new ++ sym left_is i)) ∙ sym (append_assoc new_front new (drop finish t)))

    changes_are : changes ss ≡ splice_at (length new_front) old new
    changes_are = x.puts.changes_are ∙ ap (λ (u : List ℕ). splice_at (length u) old new) front_is

    pub row_put_comes : length (text_with_run t new_out finish) ≤ text_limit → carried op now ≡ gives (text_with_run t new_out finish) (splice_at (length new_front) old new)
    row_put_comes small =
        comes ss x.edited
        ∙ ((λ i. exchange_edit (cond (leb (length (new_is i)) text_limit) (exchange.gives (new_is i) (changes_are i)) exchange.too_large))
        ∙ ap (λ (b : Bool). exchange_edit (cond b (exchange.gives (text_with_run t new_out finish) (splice_at (length new_front) old new)) exchange.too_large)) (le-leb (length (text_with_run t new_out finish)) text_limit small))

    pub row_put_large : text_limit < length (text_with_run t new_out finish) → carried op now ≡ refuses TooLarge
    row_put_large large =
        comes ss x.edited
        ∙ ((λ i. exchange_edit (cond (leb (length (new_is i)) text_limit) (exchange.gives (new_is i) (changes_are i)) exchange.too_large))
        ∙ ap (λ (b : Bool). exchange_edit (cond b (exchange.gives (text_with_run t new_out finish) (splice_at (length new_front) old new)) exchange.too_large)) (lt-leb (length (text_with_run t new_out finish)) text_limit large))

    -- the run goes on after it
    pub row_goes_on : (i : ℕ) → length e.front ≡ i → IsAfter k n (op_document op) i → IsCharBoundary t finish → HasOperand op → IsFitting op now → length (text_with_run t new_out finish) ≤ text_limit →
        DocumentsStayFrom c run.cut k n → GoesOn c (op_document op) (suc i) new_out finish
    row_goes_on i number later edge operand fitting small others =
        let m : ℕ = op_document op in
        let same : fitting.read.parts ≡ run.cut = same_Some _ _ (sym (parts_read now fitting.before fitting.read).0 ∙ run.read) in
        let fit : Fits (room_of (cut_text run.cut)) op (documents run.cut) = subst (λ (d : Cut). Fits (room_of (cut_text d)) op (documents d)) same (fits op now operand fitting) in
        let y : ExchangesRow m run.cut e ss = x.changes operand fit (omega (arith, small, ap length new_is)) in
        let front_size : length y.front ≡ i = y.front_size ∙ number in (
          record {
            within = omega (arith, ap length text_is, length-append before (old ++ following), length-append old following);
            edge = edge;
            cut = put_document m (inserted y.front (y.new ∷ []) y.back y.part) run.cut;
            read = ap read_at (sym new_is) ∙ y.read;
            stays = λ l path f found after.
                let first : StaysInRows f l path run.cut = run.stays l path f found (after_both k n m i l (length f.front) later after) in
                let z = exchanged_entries run.cut m e ss read_now y l path (record f { start = first.start; front = first.front }) first.found
                (past front_size (sized m (suc i) l (length f.front) (length first.front) (sym first.size) after)) in
                record { start = z.start; front = z.front; found = z.found; size = z.size ∙ first.size };
          },
          λ l d placed after.
              let first : StaysPlaced d l run.cut = others l d placed (after_both k n m i l 0 later after) in
              let z = exchanged_documents run.cut m e ss read_now y l (record d { before = first.start }) first.found (in_later m i l after) in
              record { start = z.start; found = z.found },
        )
      where
        past : {j l q : ℕ} → j ≡ i → IsAfter (op_document op) (suc i) l q → IsAfter (op_document op) (suc j) l q
        past {j} {l} {q} same after = subst (λ (x : ℕ). IsAfter (op_document op) (suc x) l q) (sym same) after
