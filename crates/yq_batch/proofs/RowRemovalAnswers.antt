-- Runs of items and entries that are taken out with their lines, as the code makes them.
use Rattle.std.proofs.Common.{Bool, ◌≡◌, ℕ, zero, suc, ◌+◌, ◌-◌, ◌≤◌, ◌<◌, ◌^◌, true, List, [], ◌∷◌, ◌++◌, length, map, take, drop}
use Rattle.std.proofs.Common.{slice_get, rules, slice_index_or, Option, Some, option_map, sym, ap, ◌∙◌, subst, arith, length-append}
use Rattle.std.{proofs.Common.append_assoc, proofs.Math.Seq.take-append_seam, proofs.lemmas.Option.{none-some, same_Some}}
use Rattle.std.{specs.Str.{IsCharBoundary, IsUtf8}, proofs.lemmas.Str.{IsCharBoundary-from_take, IsUtf8-append}}
use Rattle.yq_text.{specs.Limit.text_limit, specs.Script.splice_at, specs.Splice.Splice, specs.TextGapBuffer.buffer_text}
use Rattle.yq_core.{specs.Answers.◌>>=◌, specs.Entries.tree_step, specs.Paths.{Step, node_at}, proofs.Bools.bind_some}
use Rattle.yq_row_table.specs.Rows.{Cut, Part, cut_text}
use Rattle.yq_documents.{specs.Documents.Document, specs.LinesInRows.document_row, specs.Reading.{cut_of, documents, read_at}}
use Rattle.yq_documents.{specs.TreeEdits.change_nth, proofs.ReadLaws.parts_read, specs.Located.steps_of, specs.declared.path.Path.Path}
use Rattle.yq_places.{specs.PlacedRows.{PlacedPart, placed_document}, proofs.PlacedPartLaws.map_some}
use Rattle.yq_places.specs.RemovalPlaces.{OwnRows, Removal, has_others_at, has_several, own_rows, removal_place, rows_out}
use Rattle.yq_places.{specs.Placements.last_step, specs.RemovalReading.{mark_counts, marks}}
use Rattle.yq_edit_rules.{proofs.PlacedPartLaws.document_is_there_at, proofs.RemovalChangeLaws.{removal_is_there, snoc}}
use Rattle.yq_semantics.{specs.After.{after_op, done_to}, specs.Changes.Room, specs.Fits.Fits, specs.Rooms.room_of}
use Rattle.yq_semantics.{specs.Operations.{Operation, remove}, specs.Under.{op_under, operation_under, ops_under}, specs.declared.op.Op.Op}
use Rattle.yq_semantics.specs.Judgement.{ExprError}
use Rattle.yq_batch.{specs.Under.op_at, specs.RemovalRuns.{HasExchanged, ExchangeFails, text_exchanged}}
use Rattle.yq_batch.specs.declared.removals.RemovalRun.{RemovalRun}
use Rattle.yq_batch.specs.RowRemovals.{HasOthersNow, IsLeast, IsRowRemovalRun, RemovesRows, RemovesRowsOn, StaysAt, stop_after, TakesFirst}
use Rattle.yq_batch.{specs.RowRemovals.removal_of, specs.declared.changed_rows.ChangedRows.ChangedRows, proofs.OthersFollow.others_follow}
use Rattle.yq_batch.{proofs.RowRunGoesOn.goes_on, proofs.RunEdits.fits_now}
use Rattle.yq_edit_laws.{proofs.ApplyLaws.applied_by, proofs.CutLaws.{text_read, text_small}, proofs.FlowSoundLaws.last_is}
use Rattle.yq_edit_laws.{proofs.TextFaults.text_utf8, specs.Answers.EditFails, specs.Carried.carried, specs.Edit.gives}
use Rattle.yq_edit_laws.{specs.Theorems.IsFitting, specs.Valid.AreServed}
use Rattle.yq_core.specs.declared.path.Step as declared
use Rattle.yq_semantics.specs.declared.op.Op.TheVariants as ops
use Rattle.yq_failure.specs.declared.failure.Failure.TheVariants as failure
use Rattle.yq_batch.proofs.RowsTaken as taken

-- Another text can come in the place of lines of the text of a run: it is cut at characters there, and the run goes on.
pub record CanTake (op : Operation) (c : Cut) (n : ℕ) (before : RemovalRun) (next : ChangedRows) (start finish : ℕ) (new : List ℕ) : Type 0 where
  pub utf8 : IsUtf8 (buffer_text before.text)
  pub starts : IsCharBoundary (buffer_text before.text) start
  pub finishes : IsCharBoundary (buffer_text before.text) finish
  pub on : (after : RemovalRun) → HasExchanged start finish new before after → RemovesRowsOn op c n before next after
  pub fails : (e : ExprError) → ExchangeFails e start finish new before → EditFails e (carried op (buffer_text before.text))

-- where lines are in a text that is small
pub out_small : (t : List ℕ) (n : ℕ) (steps : List Step) (x : Removal) → read_at t ≡ Some (cut_of t) → removal_place n steps (cut_of t) ≡ Some x → length x.before + length x.gone < 2 ^ 64
out_small t n steps x read place =
    let text : cut_text (cut_of t) ≡ t = text_read t (cut_of t) read in
    omega (
      arith,
      text_small t (cut_of t) read,
      ap length (sym text ∙ removal_is_there (cut_of t) n steps x (ap read_at text ∙ read) place),
      length-append x.before (x.gone ++ (x.gap ++ x.after)),
      length-append x.gone (x.gap ++ x.after),
    )

-- ---- which rows are changed

-- the rows that are changed, where those of an item or entry go, by where these are
abbrev pub rows_changed : ChangedRows → Option ℕ → ℕ × ℕ × ℕ → ChangedRows
rows_changed z next m = record { least = next; first = m.1; stop = stop_after z m.2 }

pub marks_are : (c : Cut) (n : ℕ) (steps : List Step) (d : PlacedPart) → placed_document n c ≡ Some d → (x : OwnRows) → own_rows steps d.part.rows ≡ Some x → (m : ℕ × ℕ × ℕ) → Some m ≡ mark_counts n steps c → m ≡ marks (document_row n c) x
marks_are c n steps d placed x own m counts =
    let k : ℕ = document_row n c in
    same_Some _ _ (counts ∙ (ap (λ (o : Option Part). o >>= λ p. option_map (marks k) (own_rows steps p.rows)) (document_is_there_at c n d placed).there ∙ ap (option_map (marks k)) own))

-- ---- an item or entry of a collection

module _ (c : Cut) (n : ℕ) (above : List Step) (s : Step) (z : ChangedRows) (next : Option ℕ) (before : RemovalRun) (read : read_at (cut_text c) ≡ Some c) (run : RemovesRows c n z before)
    (others : HasOthersNow n (above ++ (s ∷ [])) (buffer_text before.text)) (fitting : IsFitting (remove n (above ++ (s ∷ []))) (buffer_text before.text)) where
  abbrev steps : List Step
  steps = above ++ (s ∷ [])

  abbrev now : List ℕ
  now = take before.keep (cut_text c) ++ run.tail

  abbrev cut : Cut
  cut = run.run.cut

  text : cut_text cut ≡ now
  text = text_read now cut run.run.read

  others_at : has_others_at n steps cut ≡ true
  others_at = others cut (ap read_at run.text ∙ run.run.read)

  fits : Fits (room_of (cut_text cut)) (remove n steps) (documents cut)
  fits = fits_now (remove n steps) now cut tt (subst (IsFitting (remove n steps)) run.text fitting) run.run.read

  module _ (d : PlacedPart) (placed : placed_document n c ≡ Some d) (x : OwnRows) (own : own_rows steps d.part.rows ≡ Some x) (short : length (rows_out d x).before + length (rows_out d x).gone ≤ before.keep)
      (stays : StaysAt (rows_out d x).seam next) (low : IsLeast z.least (rows_out d x).gap next) where
    abbrev start : ℕ
    start = length (rows_out d x).before

    abbrev finish : ℕ
    finish = length (rows_out d x).before + length (rows_out d x).gone

    abbrev out : Removal
    out = taken.out c n above s z next before.keep run.tail run.run read d placed x own short others_at stays low

    before_is : out.before ≡ (rows_out d x).before
    before_is = taken.before_is c n above s z next before.keep run.tail run.run read d placed x own short others_at stays low

    gone_is : out.gone ≡ (rows_out d x).gone
    gone_is = taken.gone_is c n above s z next before.keep run.tail run.run read d placed x own short others_at stays low

    whole : now ≡ out.before ++ (out.gone ++ (out.gap ++ out.after))
    whole = taken.whole c n above s z next before.keep run.tail run.run read d placed x own short others_at stays low

    starts_with : now ≡ (rows_out d x).before ++ (out.gone ++ (out.gap ++ out.after))
    starts_with = whole ∙ ap (λ (b : List ℕ). b ++ (out.gone ++ (out.gap ++ out.after))) before_is

    in_two : now ≡ ((rows_out d x).before ++ (rows_out d x).gone) ++ (out.gap ++ out.after)
    in_two = whole ∙ (sym (append_assoc out.before out.gone (out.gap ++ out.after)) ∙ λ i. (before_is i ++ gone_is i) ++ (out.gap ++ out.after))

    utf8_now : IsUtf8 now
    utf8_now = subst IsUtf8 text (text_utf8 (cut_text cut) cut (ap read_at text ∙ run.run.read))

    starts_now : IsUtf8 (rows_out d x).before → IsCharBoundary now start
    starts_now utf8 =
        IsCharBoundary-from_take now start utf8_now (omega (arith, ap length starts_with, length-append (rows_out d x).before (out.gone ++ (out.gap ++ out.after))))
        (subst IsUtf8 (sym (ap (take start) starts_with ∙ take-append_seam (rows_out d x).before (out.gone ++ (out.gap ++ out.after)))) utf8)

    finishes_now : IsUtf8 (rows_out d x).before → IsUtf8 (rows_out d x).gone → IsCharBoundary now finish
    finishes_now utf8 gone_utf8 =
        let both : List ℕ = (rows_out d x).before ++ (rows_out d x).gone in
        let size : finish ≡ length both = sym (length-append (rows_out d x).before (rows_out d x).gone) in
        subst (IsCharBoundary now) (sym size)
        (IsCharBoundary-from_take now (length both) utf8_now (omega (arith, ap length in_two, length-append both (out.gap ++ out.after)))
        (subst IsUtf8 (sym (ap (take (length both)) in_two ∙ take-append_seam both (out.gap ++ out.after))) (IsUtf8-append (rows_out d x).before (rows_out d x).gone utf8 gone_utf8)))

    comes_now : carried (remove n steps) now ≡ gives (text_exchanged now start finish []) (splice_at start (drop start (take finish now)) [])
    comes_now = taken.removal_comes c n above s z next before.keep run.tail run.run read d placed x own short others_at stays low

    left_is : text_exchanged now start finish [] ≡ out.before ++ (out.gap ++ out.after)
    left_is = taken.left_is c n above s z next before.keep run.tail run.run read d placed x own short others_at stays low

    kept_is : out.before ≡ take start (cut_text c)
    kept_is =
        let place : removal_place n steps c ≡ Some (rows_out d x) =
        ap (λ (o : Option PlacedPart). o >>= λ e. option_map (rows_out e) (own_rows steps e.part.rows)) placed ∙ ap (option_map (rows_out d)) own in
        before_is ∙ sym (ap (take start) (removal_is_there c n steps (rows_out d x) read place) ∙ take-append_seam (rows_out d x).before _)

    -- which rows are changed then
    abbrev changed : ChangedRows
    changed = record { least = next; first = document_row n c + length x.front; stop = stop_after z (document_row n c + length x.front + length x.own) }

    goes : IsRowRemovalRun c n changed start (out.gap ++ out.after)
    goes = goes_on c n above s z next before.keep run.tail run.run read d placed x own short others_at stays low fits

    on_now : (after : RemovalRun) → HasExchanged start finish [] before after → RemovesRowsOn (remove n steps) c n before changed after
    on_now after out_of =
        let cs : List Splice = splice_at start (drop start (take finish now)) [] in
        let made : buffer_text after.text ≡ text_exchanged now start finish [] = out_of.text ∙ ap (λ (l : List ℕ). text_exchanged l start finish []) run.text in
        let comes : carried (remove n steps) (buffer_text before.text) ≡ gives (buffer_text after.text) cs =
        ap (carried (remove n steps)) run.text ∙ (comes_now ∙ ap (λ (l : List ℕ). gives l cs) (sym made)) in
        record {
          new_bytes = cs;
          comes = comes;
          applied = applied_by (remove n steps) (buffer_text before.text) tt fitting (buffer_text after.text) cs comes;
          splices = out_of.splices ∙ ap (λ (l : List ℕ). before.splices.items ++ splice_at start (drop start (take finish l)) []) run.text;
          run = record {
            tail = out.gap ++ out.after;
            text = made ∙ (left_is ∙ λ i. (kept_is ∙ ap (λ (m : ℕ). take m (cut_text c)) (sym out_of.keep)) i ++ (out.gap ++ out.after));
            run = subst (λ (m : ℕ). IsRowRemovalRun c n changed m (out.gap ++ out.after)) (sym out_of.keep) goes;
          };
        }

    small_now : length (text_exchanged now start finish []) ≤ text_limit
    small_now =
        subst (λ (l : List ℕ). length l ≤ text_limit) (sym left_is) (taken.small c n above s z next before.keep run.tail run.run read d placed x own short others_at stays low)

    fails_now : (e : ExprError) → ExchangeFails e start finish [] before → EditFails e (carried (remove n steps) (buffer_text before.text))
    fails_now (failure.Fault why) fails =
        let large = subst (λ (l : List ℕ). text_limit < length (text_exchanged l start finish [])) run.text fails.1 in
        absurd (omega (arith, large, small_now))
    fails_now failure.Memory fails = tt

    can_take_rows : IsUtf8 (rows_out d x).before → IsUtf8 (rows_out d x).gone → CanTake (remove n steps) c n before changed start finish []
    can_take_rows utf8 gone_utf8 = record {
      utf8 = subst IsUtf8 (sym run.text) utf8_now;
      starts = subst (λ (l : List ℕ). IsCharBoundary l start) (sym run.text) (starts_now utf8);
      finishes = subst (λ (l : List ℕ). IsCharBoundary l finish) (sym run.text) (finishes_now utf8 gone_utf8);
      on = on_now;
      fails = fails_now;
    }

  take_at : (x : Removal) (m : ℕ × ℕ × ℕ) → removal_place n steps c ≡ Some x → Some m ≡ mark_counts n steps c → length x.before + length x.gone ≤ before.keep → StaysAt x.seam next → IsLeast z.least x.gap next →
      IsUtf8 x.before → IsUtf8 x.gone → CanTake (remove n steps) c n before (rows_changed z next m) (length x.before) (length x.before + length x.gone) []
  take_at x m place counts =
      let placed = bind_some (placed_document n c) place in
      let own = map_some (rows_out placed.0) (own_rows steps placed.0.part.rows) x placed.2 in
      let same : m ≡ marks (document_row n c) own.0 = marks_are c n steps placed.0 placed.1 own.0 own.1 m counts in
      subst (λ (i : ℕ × ℕ × ℕ). length x.before + length x.gone ≤ before.keep → StaysAt x.seam next → IsLeast z.least x.gap next → IsUtf8 x.before → IsUtf8 x.gone →
      CanTake (remove n steps) c n before (rows_changed z next i) (length x.before) (length x.before + length x.gone) []) (sym same)
      (subst (λ (y : Removal). length y.before + length y.gone ≤ before.keep → StaysAt y.seam next → IsLeast z.least y.gap next → IsUtf8 y.before → IsUtf8 y.gone →
      CanTake (remove n steps) c n before (rows_changed z next (marks (document_row n c) own.0)) (length y.before) (length y.before + length y.gone) []) own.2
      (λ short stays low. can_take_rows placed.0 placed.1 own.0 own.1 short stays low))

-- as the code finds it, by all steps
pub can_take : (t : List ℕ) (n : ℕ) (steps : List Step) (x : Removal) (m : ℕ × ℕ × ℕ) (z : ChangedRows) (next : Option ℕ) (before : RemovalRun) → read_at t ≡ Some (cut_of t) →
    removal_place n steps (cut_of t) ≡ Some x → Some m ≡ mark_counts n steps (cut_of t) → RemovesRows (cut_of t) n z before → HasOthersNow n steps (buffer_text before.text) →
    IsFitting (remove n steps) (buffer_text before.text) → length x.before + length x.gone ≤ before.keep → StaysAt x.seam next → IsLeast z.least x.gap next → IsUtf8 x.before → IsUtf8 x.gone →
    CanTake (remove n steps) (cut_of t) n before (rows_changed z next m) (length x.before) (length x.before + length x.gone) []
can_take t n [] x m z next before read place counts run others fitting short stays low utf8 gone_utf8 = absurd fitting.fits.2.0
can_take t n (w ∷ ws) x m z next before read place counts run others fitting short stays low utf8 gone_utf8 =
    let y = snoc w ws in
    let read_c : read_at (cut_text (cut_of t)) ≡ Some (cut_of t) = ap read_at (text_read t (cut_of t) read) ∙ read in
    subst (λ (ss : List Step). removal_place n ss (cut_of t) ≡ Some x → Some m ≡ mark_counts n ss (cut_of t) → HasOthersNow n ss (buffer_text before.text) → IsFitting (remove n ss) (buffer_text before.text) →
    CanTake (remove n ss) (cut_of t) n before (rows_changed z next m) (length x.before) (length x.before + length x.gone) []) (sym y.2)
    (λ place counts others fitting. take_at (cut_of t) n y.0 y.1 z next before read_c run others fitting x m place counts short stays low utf8 gone_utf8)
    place counts others fitting

-- where the lines begin and end in the text of a cut
pub found_rows : (t : List ℕ) (n : ℕ) (steps : List Step) (x : Removal) (m : ℕ × ℕ × ℕ) (z : ChangedRows) (next : Option ℕ) (before : RemovalRun) (start size : ℕ) → read_at t ≡ Some (cut_of t) →
    Some x ≡ removal_place n steps (cut_of t) → Some m ≡ mark_counts n steps (cut_of t) → RemovesRows (cut_of t) n z before → HasOthersNow n steps (buffer_text before.text) →
    IsFitting (remove n steps) (buffer_text before.text) → start ≡ length x.before → size ≡ length x.gone → start + size ≤ before.keep →
    StaysAt x.seam next → IsLeast z.least x.gap next → IsUtf8 x.before → IsUtf8 x.gone → CanTake (remove n steps) (cut_of t) n before (rows_changed z next m) start (start + size) []
found_rows t n steps x m z next before start size read place counts run others fitting starts sizes within stays low utf8 gone_utf8 =
    let can = can_take t n steps x m z next before read (sym place) counts run others fitting (omega (arith, within, starts, sizes)) stays low utf8 gone_utf8 in
    subst (λ (i : ℕ). CanTake (remove n steps) (cut_of t) n before (rows_changed z next m) i (i + size) []) (sym starts)
    (subst (λ (j : ℕ). CanTake (remove n steps) (cut_of t) n before (rows_changed z next m) (length x.before) (length x.before + j) []) (sym sizes) can)

-- ---- two operations on one collection

nth_changed : {A : Type 0} (n : ℕ) (f : A → A) (xs : List A) (x : A) → slice_get xs n ≡ Some x → slice_get (change_nth n f xs) n ≡ Some (f x)
nth_changed n f [] x e = absurd (none-some _ e)
nth_changed zero f (y ∷ ys) x e = ap (option_map f) e
nth_changed (suc n) f (y ∷ ys) x e = nth_changed n f ys x e

module _ (rooms : ℕ → Room) (n : ℕ) (above : List Step) (s t : Step) (docs : List Document) (fits : Fits rooms (remove n (above ++ (s ∷ []))) docs)
    (next : Fits rooms (remove n (above ++ (t ∷ []))) (after_op rooms (remove n (above ++ (s ∷ []))) docs)) where
  abbrev op : Operation
  op = remove n (above ++ (s ∷ []))

  abbrev made : Document → Document
  made = done_to (rooms n).block op

  same : next.0 ≡ made fits.0
  same = same_Some _ _ (sym next.1 ∙ nth_changed n made docs fits.0 fits.1)

  others_there : has_several (slice_get docs n >>= λ d. node_at (take (length (above ++ (s ∷ [])) - 1) (above ++ (s ∷ []))) d.root) ≡ true
  others_there =
      ap (λ (o : Option Document). has_several (o >>= λ d. node_at (take (length (above ++ (s ∷ [])) - 1) (above ++ (s ∷ []))) d.root)) fits.1
      ∙ others_follow above s t fits.0.root fits.2.1.0 next.2.1.0 fits.2.1.1
      (subst (λ (d : Document). node_at (above ++ (t ∷ [])) d.root ≡ Some next.2.1.0) same next.2.1.1)

-- the first one has others beside what it takes out
pub others_now : (n : ℕ) (above : List Step) (s t : Step) (rest : List Operation) (text : List ℕ) → AreServed (remove n (above ++ (s ∷ [])) ∷ (remove n (above ++ (t ∷ [])) ∷ rest)) text → HasOthersNow n (above ++ (s ∷ [])) text
others_now n above s t rest text served cut read =
    let is = parts_read text served.0 served.1.read in
    let same : documents cut ≡ served.0 = ap documents (same_Some _ _ (sym read ∙ is.0)) ∙ is.1 in
    ap (λ (ds : List Document). has_several (slice_get ds n >>= λ d. node_at (take (length (above ++ (s ∷ [])) - 1) (above ++ (s ∷ []))) d.root)) same
    ∙ others_there (room_of text) n above s t served.0 served.1.follow.fit.0 served.1.follow.fit.1.0

-- operations, the first one or two of them apart
pub one_apart : (os : List Op) (a : Op) → 1 ≤ length os → a ≡ slice_index_or os 0 a → (rest : List Op) × (os ≡ a ∷ rest)
one_apart [] a some at = absurd (omega (arith, some))
one_apart (x ∷ os) a some at = (os, λ i. sym at i ∷ os)

pub two_apart : (os : List Op) (a b : Op) → 2 ≤ length os → a ≡ slice_index_or os 0 a → b ≡ slice_index_or os 1 b → (rest : List Op) × (os ≡ a ∷ (b ∷ rest))
two_apart [] a b some at be = absurd (omega (arith, some))
two_apart (x ∷ []) a b some at be = absurd (omega (arith, some))
two_apart (x ∷ (y ∷ os)) a b some at be = (os, λ i. sym at i ∷ (sym be i ∷ os))

-- an operation that means a removal at a path removes what is there
pub at_removal : (o : Op) (p : Path) (n : ℕ) (steps : List Step) → op_at p o ≡ remove n steps → (p.doc ≡ n) × (steps_of p ≡ steps)
at_removal (ops.Replace own v) p n steps is = absurd (cc)
at_removal (ops.Append own key v) p n steps is = absurd (cc)
at_removal (ops.Remove own) p n steps is = search rules
at_removal (ops.LineComment own text) p n steps is = absurd (cc)
at_removal (ops.HeadComment own text) p n steps is = absurd (cc)

-- what the first one takes out, at a path from the root
module _ (front : List declared.Step) (ops : List Op) (n : ℕ) (o : Op) (beside : Bool) (h : TakesFirst ops n o beside) (p : Path) (x : Op) (there : op_at p x ≡ op_under front o) where
  abbrev last : Step
  last = h.takes.1.1.0

  abbrev inside : List Step
  inside = map tree_step front ++ h.above

  front_is : (steps : List Step) (s : Step) → last_step steps ≡ Some (h.above, s) → map tree_step front ++ steps ≡ inside ++ (s ∷ [])
  front_is steps s is = ap (λ (ss : List Step). map tree_step front ++ ss) (last_is steps h.above s is) ∙ sym (append_assoc (map tree_step front) h.above (s ∷ []))

  first : op_under front o ≡ remove n (inside ++ (last ∷ []))
  first = ap (operation_under (map tree_step front)) h.takes.1.0 ∙ ap (remove n) (front_is h.takes.0 last h.takes.1.1.1)

  own : (p.doc ≡ n) × (steps_of p ≡ inside ++ (last ∷ []))
  own = at_removal x p n (inside ++ (last ∷ [])) (there ∙ first)

  pub first_is : op_under front o ≡ removal_of p
  first_is = first ∙ λ i. remove (sym own.0 i) (sym own.1 i)

  pub others_beside : beside ≡ true → (text : List ℕ) → AreServed (ops_under front ops) text → HasOthersNow p.doc (steps_of p) text
  others_beside is text served =
      let next = h.next_takes is in
      let other = next.3 in
      let second : op_under front next.0 ≡ remove n (inside ++ (other.1.1.0 ∷ [])) =
      ap (operation_under (map tree_step front)) other.1.0 ∙ ap (remove n) (front_is other.0 other.1.1.0 other.1.1.1) in
      let both = subst (λ (os : List Operation). AreServed os text) (ap (ops_under front) (h.ops_are ∙ ap (λ (os : List Op). o ∷ os) next.2) ∙ λ i. first i ∷ (second i ∷ ops_under front next.1)) served in
      subst (λ (j : ℕ). HasOthersNow j (steps_of p) text) (sym own.0)
      (subst (λ (zs : List Step). HasOthersNow n zs text) (sym own.1) (others_now n inside last other.1.1.0 (ops_under front next.1) text both))

  pub run_there : (c : Cut) (z : ChangedRows) (r : RemovalRun) → RemovesRows c n z r → RemovesRows c p.doc z r
  run_there c z r run = subst (λ (j : ℕ). RemovesRows c j z r) (sym own.0) run

  pub first_on : (c : Cut) (before : RemovalRun) (z : ChangedRows) (after : RemovalRun) → RemovesRowsOn (removal_of p) c p.doc before z after → RemovesRowsOn (op_under front o) c n before z after
  first_on c before z after on =
      subst (λ (x : Operation). RemovesRowsOn x c n before z after) (sym first_is) (subst (λ (j : ℕ). RemovesRowsOn (removal_of p) c j before z after) own.0 on)
