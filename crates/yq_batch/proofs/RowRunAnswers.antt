-- Runs of the code over rows: how they begin, and how they go on after one more text.
use Rattle.std.proofs.Common.{◌≡◌, inl, inr, ℕ, zero, suc, ◌+◌, ◌≤◌, List, [], ◌++◌, length, take, drop, Option, Some, None, refl, sym, ap}
use Rattle.std.{proofs.Common.{◌∷◌, ◌∙◌, subst, append-nil, arith, length-append, string_bytes}, proofs.lemmas.Str.IsCharBoundary-start}
use Rattle.std.{specs.Str.IsCharBoundary, specs.Prelude.String, specs.declared.alloc.Global.Global}
use Rattle.yq_row_table.specs.Rows.{Cut, cut_text}
use Rattle.yq_documents.{specs.Reading.{cut_of, read_at}, specs.LinesInRows.document_row}
use Rattle.yq_places.specs.Placements.{RowsOfEntry}
use Rattle.yq_edit_rules.specs.RowStays.{IsAfter}
use Rattle.yq_semantics.{specs.After.op_document, specs.Operations.Operation, specs.Judgement.ExprError}
use Rattle.yq_text.{specs.Script.splice_at, specs.Splice.Splice}
use Rattle.yq_edit_laws.{proofs.CutLaws.text_read, proofs.FlowAnswers.whole_text, specs.Answers.EditFails, specs.Carried.carried}
use Rattle.yq_edit_laws.{specs.Edit.{gives, refuses}, specs.Theorems.IsFitting, proofs.ApplyLaws.applied_by, proofs.TextFaults.text_utf8}
use Rattle.yq_batch.specs.RowRuns.{IsLast, IsPlacesRun, IsRowsPlace, IsRowRun, Passed, PutsInRow, PutsSo, PutsText, RowsPlace, RowsGoOn}
use Rattle.yq_batch.specs.RowRuns.{StaysThere, WritesSameBreak, bytes_in, first_at, of_entry, of_lone, of_root, place_rows, rows_now}
use Rattle.yq_batch.{specs.Runs.{HasPut, PutFails, now_text, run_front, text_with_run}, specs.declared.row_put.RowPut.RowPut}
use Rattle.yq_batch.specs.declared.run.PutRun.{PutRun}
use Rattle.yq_batch.proofs.RowRunLaws.{GoesOn, old_is, read_now, row_goes_on, row_put_comes, row_put_large, row_stays, text_now}
use Rattle.yq_failure.specs.declared.failure.Failure.TheVariants as failure

-- nothing was changed yet
pub rows_begin : (t : List ℕ) (r : PutRun) → read_at t ≡ Some (cut_of t) → string_bytes r.text ≡ [] → r.done ≡ 0 → IsPlacesRun (cut_of t) None r
rows_begin t r read text done =
    let same : cut_text (cut_of t) ≡ t = text_read t (cut_of t) read in
    let again : read_at (cut_text (cut_of t)) ≡ Some (cut_of t) = ap read_at same ∙ read in
    record {
      rows = record {
        document = 0;
        row = 0;
        last = (refl, refl);
        run = record {
          within = omega (arith, done);
          edge = subst (IsCharBoundary (cut_text (cut_of t))) (sym done) (IsCharBoundary-start (cut_text (cut_of t)) (text_utf8 (cut_text (cut_of t)) (cut_of t) again));
          cut = cut_of t;
          read = (λ i. read_at (text_with_run (cut_text (cut_of t)) (text i) (done i))) ∙ again;
          stays = λ m steps e found later. record { start = e.start; front = e.front; found = found; size = refl };
        };
      };
      others = λ m d placed later. record { start = d.before; found = placed };
    }

-- a row after the last one that was changed is after what was
pub after_last : (c : Cut) (o : Option (ℕ × ℕ)) (k n m i row : ℕ) → IsLast c o k n → Passed o m row → row ≡ document_row m c + i → IsAfter k n m i
after_last c None k n zero i row h p is = inr (h.0, omega (arith, h.1))
after_last c None k n (suc m) i row h p is = inl (omega (arith, h.0))
after_last c (Some x) k n m i row h (inl p) is = inl (omega (arith, p, h.0))
after_last c (Some x) k n m i row h (inr p) is =
    let same : k ≡ m = sym h.0 ∙ p.0 in
    inr (same, omega (arith, p.1, h.1, is, ap (λ (j : ℕ). document_row j c) same))

-- the same of later rows
after_more : (k n m i j : ℕ) → IsAfter k n m i → i ≤ j → IsAfter k n m j
after_more k n m i j (inl a) less = inl a
after_more k n m i j (inr a) less = inr (a.0, omega (arith, a.1, less))

first_less : (p : RowsPlace) → first_at p ≤ length (place_rows p).front
first_less (of_entry steps e) = omega arith
first_less (of_root d r rs) = omega arith
first_less (of_lone steps e r rs) = omega (arith, length-append e.front (e.row ∷ []))

-- where a run ends, and a text comes, in the text of the cut
module _ (t u : List ℕ) (read : read_at t ≡ Some (cut_of t)) (all : u ≡ t) where
  text_is_whole : u ≡ cut_text (cut_of t)
  text_is_whole = whole_text t u read all

  pub row_edge : (o : Option (ℕ × ℕ)) (r : PutRun) → IsPlacesRun (cut_of t) o r → IsCharBoundary u r.done
  row_edge o r run = subst (λ (l : List ℕ). IsCharBoundary l r.done) (sym text_is_whole) run.rows.run.edge

  pub row_starts : (op : Operation) (x : RowPut) → PutsInRow op (cut_of t) x → IsCharBoundary u x.start
  row_starts op x h = subst (λ (l : List ℕ). IsCharBoundary l x.start) (sym text_is_whole) h.starts

  pub row_ends : (op : Operation) (x : RowPut) → PutsInRow op (cut_of t) x → IsCharBoundary u x.end
  row_ends op x h = subst (λ (l : List ℕ). IsCharBoundary l x.end) (sym text_is_whole) h.ends

  pub row_order : (op : Operation) (x : RowPut) → PutsInRow op (cut_of t) x → x.start ≤ x.end
  row_order op x h = omega (arith, h.start, h.finish)

module _ (t u : List ℕ) (op : Operation) (o : Option (ℕ × ℕ)) (before : PutRun) (x : RowPut) (read : read_at t ≡ Some (cut_of t)) (all : u ≡ t)
    (run : IsPlacesRun (cut_of t) o before) (h : PutsInRow op (cut_of t) x) (passed : Passed o x.doc x.first) (ordered : before.done ≤ x.start)
    (fitting : IsFitting op (now_text (cut_of t) before))
    (same : WritesSameBreak op (cut_text (cut_of t)) (now_text (cut_of t) before)) where
  abbrev c : Cut
  c = cut_of t

  abbrev m : ℕ
  m = op_document op

  abbrev k : ℕ
  k = run.rows.document

  abbrev n : ℕ
  n = run.rows.row

  abbrev out : List ℕ
  out = string_bytes before.text

  abbrev now : IsRowRun c k n out before.done
  now = run.rows.run

  -- how many rows of its document come before the row
  abbrev number : ℕ
  number = length (place_rows h.place).front

  begins : IsAfter k n m (first_at h.place)
  begins = after_last c o k n m (first_at h.place) x.first run.rows.last (subst (λ (j : ℕ). Passed o j x.first) h.document passed) h.first

  later : IsAfter k n m number
  later = after_more k n m (first_at h.place) number begins (first_less h.place)

  there : StaysThere h.place m now.cut
  there = still h.place h.found begins
    where
      still : (p : RowsPlace) → IsRowsPlace p m c → IsAfter k n m (first_at p) → StaysThere p m now.cut
      still (of_entry steps e) found after = now.stays m steps e found after
      still (of_root d r rs) found after = run.others m d found.0 after
      still (of_lone steps e r rs) found after = now.stays m steps e found.0 after

  abbrev entry : RowsOfEntry
  entry = rows_now h.place m now.cut there

  numbered : length entry.front ≡ number
  numbered = same_number h.place there
    where
      same_number : (p : RowsPlace) → (s : StaysThere p m now.cut) → length (rows_now p m now.cut s).front ≡ length (place_rows p).front
      same_number (of_entry steps e) s = s.size
      same_number (of_root d r rs) s = refl
      same_number (of_lone steps e r rs) s = omega (arith, s.size, length-append s.front (e.row ∷ []), length-append e.front (e.row ∷ []))

  same_there : WritesSameBreak op (cut_text c) (cut_text now.cut)
  same_there = subst (WritesSameBreak op (cut_text c)) (sym (text_now c k n out before.done now op entry)) same

  so : PutsSo op now.cut entry h.old h.after (bytes_in string_bytes x.written)
  so = h.there now.cut (read_now c k n out before.done now op entry) same_there there

  -- all bytes stay
  pub row_kept_on : x.written ≡ None → RowsGoOn op c before o before
  row_kept_on none =
      let edited = subst (λ (o : Option (String Global)). PutsSo op now.cut entry h.old h.after (bytes_in string_bytes o)) none so in
      let comes = row_stays c k n out before.done now op entry edited in
      record { new_bytes = []; comes = comes; applied = applied_by op (now_text c before) h.valid fitting (now_text c before) [] comes; splices = sym (append-nil before.splices.items); run = run }

  module _ (s : String Global) (some : x.written ≡ Some s) where
    abbrev new : List ℕ
    new = string_bytes s

    puts : PutsText op now.cut entry h.old new h.after
    puts = subst (λ (o : Option (String Global)). PutsSo op now.cut entry h.old h.after (bytes_in string_bytes o)) some so

    whole_is : u ≡ cut_text c
    whole_is = whole_text t u read all

    after_done : before.done ≤ length h.before
    after_done = omega (arith, ordered, h.start)

    put_at_row : (after : PutRun) → HasPut (cut_text c) (length h.before) (length h.before + length h.old) new before after → RowsGoOn op c before (Some (x.doc, x.row)) after
    put_at_row after a =
        let start : ℕ = length h.before in
        let finish : ℕ = length h.before + length h.old in
        let old_there : drop start (take finish (cut_text c)) ≡ h.old = old_is c k n out before.done now op entry h.before h.old new h.after h.text after_done puts in
        let cs : List Splice = splice_at (length (run_front (cut_text c) before start)) (drop start (take finish (cut_text c))) new in
        let text : text_with_run (cut_text c) (run_front (cut_text c) before start ++ new) finish ≡ now_text c after = λ i. text_with_run (cut_text c) (sym a.text i) (sym a.done i) in
        let comes : carried op (now_text c before) ≡ gives (now_text c after) cs =
        row_put_comes c k n out before.done now op entry h.before h.old new h.after h.text after_done puts a.size
        ∙ (λ i. gives (text i) (splice_at (length (run_front (cut_text c) before start)) (sym old_there i) new)) in
        let edge : IsCharBoundary (cut_text c) finish = subst (IsCharBoundary (cut_text c)) h.finish h.ends in
        let on : GoesOn c m (suc number) (run_front (cut_text c) before start ++ new) finish =
        row_goes_on c k n out before.done now op entry h.before h.old new h.after h.text after_done puts number numbered later edge h.valid fitting a.size run.others in
        let past_it : GoesOn c m (suc number) (string_bytes after.text) after.done =
        subst (λ (d : ℕ). GoesOn c m (suc number) (string_bytes after.text) d) (sym a.done) (subst (λ (l : List ℕ). GoesOn c m (suc number) l finish) (sym a.text) on) in
        record {
          new_bytes = cs;
          comes = comes;
          applied = applied_by op (now_text c before) h.valid fitting (now_text c after) cs comes;
          splices = a.splices;
          run = record {
            rows = record { document = m; row = suc number; last = (h.document, omega (arith, h.row)); run = past_it.0 };
            others = past_it.1;
          };
        }

    -- a text comes there
    pub row_put_on : (after : PutRun) → HasPut u x.start x.end new before after → RowsGoOn op c before (Some (x.doc, x.row)) after
    row_put_on after a =
        put_at_row after (subst (λ (l : List ℕ). HasPut l (length h.before) (length h.before + length h.old) new before after) whole_is
        (subst (λ (i : ℕ). HasPut u (length h.before) i new before after) h.finish (subst (λ (i : ℕ). HasPut u i x.end new before after) h.start a)))

    large : (e : ExprError) → PutFails e (cut_text c) (length h.before) (length h.before + length h.old) new before → EditFails e (carried op (now_text c before))
    large (failure.Fault why) fails =
        row_put_large c k n out before.done now op entry h.before h.old new h.after h.text after_done puts fails.1
        ∙ ap refuses (sym fails.0)
    large failure.Memory fails = tt

    -- too large a text
    pub row_put_fails : (e : ExprError) → PutFails e u x.start x.end new before → EditFails e (carried op (now_text c before))
    row_put_fails e fails =
        large e (subst (λ (l : List ℕ). PutFails e l (length h.before) (length h.before + length h.old) new before) whole_is
        (subst (λ (i : ℕ). PutFails e u (length h.before) i new before) h.finish (subst (λ (i : ℕ). PutFails e u i x.end new before) h.start fails)))
