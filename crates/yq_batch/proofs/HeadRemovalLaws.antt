-- Runs of items and entries that are taken out of the collections of several heads, from the last one back.
use Rattle.std.proofs.Common.{◌≡◌, ℕ, suc, ◌+◌, ◌-◌, ◌≤◌, ◌<◌, Bool, true, false, cond, eqb, List, [], ◌∷◌, ◌++◌, length, take, drop, map}
use Rattle.std.proofs.Common.{Option, Some, None, refl, sym, ap, ◌∙◌, subst, append_assoc, append-nil, arith, length-append}
use Rattle.std.{proofs.Math.Seq.{take-append_seam, drop-append_seam}, proofs.lemmas.Option.same_Some, specs.Prelude.nat_lt}
use Rattle.std.specs.Str.{IsCharBoundary, IsUtf8}
use Rattle.yq_text.{specs.Limit.text_limit, specs.Script.{new_text, splice_at}, specs.Splice.Splice, specs.TextGapBuffer.buffer_text}
use Rattle.yq_core.{specs.Paths.Step, specs.Collections.CollPieces, specs.Entries.{end_of, tree_step}, specs.Nodes.{flow_items_text, none}}
use Rattle.yq_core.specs.Trees.{items_tree}
use Rattle.yq_flow_edits.specs.FlowEdits.{FlowEdit}
use Rattle.yq_outline.specs.Counts.{count}
use Rattle.yq_row_table.specs.Rows.{Cut, cut_text}
use Rattle.yq_documents.{specs.LinesInRows.document_row, specs.Reading.{cut_of, read_at}}
use Rattle.yq_places.{specs.FlowNodes.flow_collection, specs.FlowViews.FlowAgrees, specs.Placements.held}
use Rattle.yq_places.{specs.declared.places.flow_node.FlowHead.FlowHead, proofs.HeldRowLaws.no_root_rows}
use Rattle.yq_semantics.{specs.Operations.{Operation, remove}, specs.declared.refusal.Refusal.TheVariants.TooLarge}
use Rattle.yq_semantics.specs.Judgement.{ExprError}
use Rattle.yq_edit_rules.{specs.Appends.inserted, specs.Changed.put_document, specs.RowChanges.ChangesRow}
use Rattle.yq_edit_laws.{proofs.ApplyLaws.applied_by, proofs.CutLaws.text_read, proofs.FlowAnswers.{CollFound, coll_found}}
use Rattle.yq_edit_laws.{proofs.FlowSoundLaws.last_is, proofs.SoleEntries.empty_bytes, proofs.TextFaults.text_utf8, specs.Answers.EditFails}
use Rattle.yq_edit_laws.{specs.Carried.carried, specs.Edit.{gives, refuses}, specs.Theorems.IsFitting}
use Rattle.yq_batch.{specs.HeadRemovals.{EmptiesOn, RemovesHeads}, specs.HeadRows.{HeadsStayBefore, IsHeadInRow}, specs.HeadRuns.IsRowAt}
use Rattle.yq_batch.specs.RemovalRuns.{AreFirstLeft, ExchangeFails, HasExchanged, OwnEmptied, RemovesSo, left_coll, text_exchanged}
use Rattle.yq_batch.{specs.Runs.EndsAt, specs.declared.gone.LeftOf.LeftOf, specs.declared.gone.Removed.Removed}
use Rattle.yq_batch.{specs.declared.removals.RemovalRun.RemovalRun, proofs.Exchanges.{exchange_fails, few_left}}
use Rattle.yq_batch.{proofs.HeadRowLaws.{entry_head, leads_there, same_row}, proofs.HeadsBefore.heads_stay}
use Rattle.yq_batch.{proofs.LeftRemovals.{begins_at, empty_is, opened, opened_size, opening}, proofs.RemovalAnswers.{are_left, w}}
use Rattle.yq_batch.proofs.BackEdits as back
use Rattle.yq_batch.proofs.EmptiedHeads as empty
use Rattle.yq_core.specs.declared.path.Step as declared

-- a run goes on in a head in front of a row
pub head_goes_on : (t : List ℕ) (n row last : ℕ) (steps : List Step) (r : RemovalRun) → read_at t ≡ Some (cut_of t) → IsRowAt (cut_of t) n steps row → row < last → RemovesHeads (cut_of t) n last r → RemovesSo (cut_of t) n steps None r
head_goes_on t n row last [] r read at less h = absurd (no_root_rows n (cut_of t) at.entry at.found)
head_goes_on t n row last (s ∷ ss) r read at less h =
    let c : Cut = cut_of t in
    let again : read_at (cut_text c) ≡ Some c = ap read_at (text_read t c read) ∙ read in
    let i : ℕ = length at.entry.front in
    let head : IsHeadInRow c n (s ∷ ss) i = entry_head c n s ss at.entry again at.found at.last at.headed in
    let there = h.heads (s ∷ ss) i head (omega (arith, at.row_is, less)) in
    record {
      tail = h.tail;
      text = h.text;
      run = record {
        within = h.within;
        cut = h.cut;
        read = h.read;
        leads = leads_there h.cut n (s ∷ ss) i there.0;
        stays = there.1;
        row = λ j x.
            let same : i ≡ j = same_row c n (s ∷ ss) i head j x in
            (subst (IsHeadInRow h.cut n (s ∷ ss)) same there.0, λ other k y low. h.heads other k y (omega (arith, low, same, at.row_is, less)));
      };
      known_is = tt;
    }

-- and then in front of the row of that
pub head_ends : (t : List ℕ) (n row : ℕ) (steps : List Step) (known : Option LeftOf) (r : RemovalRun) → read_at t ≡ Some (cut_of t) → IsRowAt (cut_of t) n steps row → RemovesSo (cut_of t) n steps known r → RemovesHeads (cut_of t) n row r
head_ends t n row [] known r read at h = absurd (no_root_rows n (cut_of t) at.entry at.found)
head_ends t n row (s ∷ ss) known r read at h =
    let c : Cut = cut_of t in
    let again : read_at (cut_text c) ≡ Some c = ap read_at (text_read t c read) ∙ read in
    let kept = h.run.row (length at.entry.front) (entry_head c n s ss at.entry again at.found at.last at.headed) in
    record {
      tail = h.tail;
      text = h.text;
      within = h.run.within;
      cut = h.run.cut;
      read = h.run.read;
      heads = subst (λ (a : ℕ). HeadsStayBefore c h.run.cut n a r.keep h.tail) (sym at.row_is) kept.1;
    }

-- ---- the own collection of a head is emptied

-- An operation exchanges what is between two places of the text of a run, which goes on in front of a row after it.
pub record CanEmptyHead (op : Operation) (c : Cut) (n row : ℕ) (before : RemovalRun) (start finish : ℕ) (new : List ℕ) : Type 0 where
  pub order : start ≤ finish
  pub room : length new ≤ finish - start
  pub starts : IsCharBoundary (buffer_text before.text) start
  pub finishes : IsCharBoundary (buffer_text before.text) finish
  pub utf8 : IsUtf8 (buffer_text before.text)
  pub on : IsFitting op (buffer_text before.text) → (after : RemovalRun) → HasExchanged start finish new before after → EmptiesOn op c n row before after
  pub fails : (e : ExprError) → ExchangeFails e start finish new before → EditFails e (carried op (buffer_text before.text))

two_bytes : (k : ℕ) → length (empty_bytes k) ≡ 2
two_bytes k = go (eqb k 125)
  where
    go : (b : Bool) → length {A = ℕ} (cond b (123 ∷ (125 ∷ [])) (91 ∷ (93 ∷ []))) ≡ 2
    go true = refl
    go false = refl

module _ (t : List ℕ) (n : ℕ) (s : Step) (ss path : List Step) (x : FlowHead) (r : Removed) (before : RemovalRun) (known : Option LeftOf) (row : ℕ) (read : read_at t ≡ Some (cut_of t))
    (ends : EndsAt (s ∷ ss) (map tree_step x.left.now) path) (agrees : FlowAgrees t (flow_collection n ((s ∷ ss) ++ map tree_step x.left.now) (cut_of t)) (Some x)) (gone : OwnEmptied x known before r)
    (run : RemovesSo (cut_of t) n (s ∷ ss) known before) (at : IsRowAt (cut_of t) n (s ∷ ss) row) where
  abbrev c : Cut
  c = cut_of t

  abbrev d : Cut
  d = run.run.cut

  abbrev left : List Step
  left = map tree_step x.left.now

  abbrev i : ℕ
  i = length at.entry.front

  stem_is : (s ∷ ss) ++ left ≡ s ∷ ss
  stem_is = ap (λ (us : List declared.Step). (s ∷ ss) ++ map tree_step us) gone.own ∙ append-nil (s ∷ ss)

  path_is : path ≡ (s ∷ ss) ++ (ends.0 ∷ [])
  path_is = last_is path ((s ∷ ss) ++ left) ends.0 ends.1 ∙ ap (λ (us : List Step). us ++ (ends.0 ∷ [])) stem_is

  found_in : CollFound c n ((s ∷ ss) ++ left) x gone.node
  found_in = coll_found t n ((s ∷ ss) ++ left) (Some x) x gone.node read agrees refl gone.there

  abbrev coll : CollPieces
  coll = w c n (s ∷ ss) left path ends.0 ends.1 x gone.node found_in before known run

  one : AreFirstLeft coll c d n ((s ∷ ss) ++ left) before.keep 1 None gone.left.following
  one =
      let first = are_left c n (s ∷ ss) left path ends.0 ends.1 x gone.node found_in before known run (x.before + end_of gone.node) gone.left refl gone.first in
      subst (λ (o : Option Bool). AreFirstLeft coll c d n ((s ∷ ss) ++ left) before.keep 1 o gone.left.following) gone.empty.alone
      (subst (λ (k : ℕ). AreFirstLeft coll c d n ((s ∷ ss) ++ left) before.keep k gone.left.after gone.left.following) gone.empty.sole first)

  abbrev z : CollPieces
  z = left_coll coll 1 one.ending one.rest

  few : nat_lt 1 (count (items_tree z.items)) ≡ false
  few = few_left one.ending one.ends coll.items

  found : flow_collection n (s ∷ ss) d ≡ Some z
  found = ap (λ (us : List Step). flow_collection n us d) (sym stem_is) ∙ one.left

  abbrev now : List ℕ
  now = take before.keep (cut_text c) ++ run.tail

  text : cut_text d ≡ now
  text = text_read now d run.run.read

  read_d : read_at (cut_text d) ≡ Some d
  read_d = ap read_at text ∙ run.run.read

  kept : IsHeadInRow d n (s ∷ ss) i × HeadsStayBefore c d n (document_row n c + i) before.keep run.tail
  kept = run.run.row i (entry_head c n s ss at.entry (ap read_at (text_read t c read) ∙ read) at.found at.last at.headed)

  abbrev front : List ℕ
  front = empty.before d n s ss ends.0 i z read_d kept.0 found few

  abbrev old : List ℕ
  old = (held (empty.e d n s ss ends.0 i z read_d kept.0 found few)).head

  abbrev after : List ℕ
  after = empty.after d n s ss ends.0 i z read_d kept.0 found few

  abbrev new : List ℕ
  new = empty_bytes z.close

  split : now ≡ front ++ (old ++ after)
  split = sym text ∙ empty.text_is d n s ss ends.0 i z read_d kept.0 found few

  opens : length front + suc (length z.gap) ≡ length one.opening
  opens = empty.opens d n s ss ends.0 i z read_d kept.0 found few one.opening one.is

  start_is : r.start ≡ length front
  start_is =
      omega (
        arith,
        gone.empty.start,
        opens,
        ap length one.was,
        ap length (opened c n ((s ∷ ss) ++ left) x gone.node found_in),
        length-append one.opening (flow_items_text coll.close coll.items coll.rest),
        length-append (found_in.agrees.front ++ opening c n ((s ∷ ss) ++ left) x gone.node found_in) (flow_items_text coll.close coll.items coll.rest),
        opened_size c n ((s ∷ ss) ++ left) x gone.node found_in,
        begins_at c n ((s ∷ ss) ++ left) x gone.node found_in,
      )

  finish_is : r.end ≡ length (front ++ old)
  finish_is =
      omega (
        arith,
        gone.empty.finish,
        ap length run.text,
        ap length text,
        one.following_is,
        empty.ends d n s ss ends.0 i z read_d kept.0 found few,
        length-append front old,
      )

  short : r.start ≤ before.keep
  short = omega (arith, start_is, opens, one.kept 0 (omega arith))

  new_same : r.new.now ≡ new
  new_same = same_Some _ _ (sym gone.empty.new ∙ empty_is c n ((s ∷ ss) ++ left) x gone.node found_in)

  -- what it makes of the text
  apart : now ≡ (front ++ old) ++ after
  apart = split ∙ sym (append_assoc front old after)

  old_there : drop r.start (take r.end now) ≡ old
  old_there =
      let upto : take r.end now ≡ front ++ old = (λ j. take (finish_is j) (apart j)) ∙ take-append_seam (front ++ old) after in
      (λ j. drop (start_is j) (upto j)) ∙ drop-append_seam front old

  made : text_exchanged now r.start r.end new ≡ front ++ (new ++ after)
  made =
      let first : take r.start now ≡ front = (λ j. take (start_is j) (split j)) ∙ take-append_seam front (old ++ after) in
      let rest : drop r.end now ≡ after = (λ j. drop (finish_is j) (apart j)) ∙ drop-append_seam (front ++ old) after in
      λ j. first j ++ (new ++ rest j)

  there : length (text_exchanged now r.start r.end new) ≤ text_limit → carried (remove n path) now ≡ gives (text_exchanged now r.start r.end new) (splice_at r.start (drop r.start (take r.end now)) new)
  there small =
      (λ j. carried (remove n (path_is j)) (sym text j))
      ∙ (empty.empty_there d n s ss ends.0 i z read_d kept.0 found few (omega (arith, small, ap length made))
      ∙ λ j. gives (sym made j) (splice_at (sym start_is j) (sym old_there j) new))

  large : text_limit < length (text_exchanged now r.start r.end new) → carried (remove n path) now ≡ refuses TooLarge
  large more =
      (λ j. carried (remove n (path_is j)) (sym text j)) ∙ empty.empty_large d n s ss ends.0 i z read_d kept.0 found few (omega (arith, more, ap length made))

  abbrev g : FlowEdit
  g = record { gap = []; items = none; lead = []; written = new; old = old; after = after }

  back_is : text_exchanged now r.start r.end new ≡ take r.start (cut_text c) ++ (new ++ after)
  back_is = back.back_text c n (s ∷ ss) before.keep run.tail run.run g front split r.start r.end start_is finish_is short

  -- the row that comes there
  module _ (fitting : IsFitting (remove n path) now) (small : length (text_exchanged now r.start r.end new) ≤ text_limit) where
    fits : IsFitting (remove n ((s ∷ ss) ++ (ends.0 ∷ []))) (cut_text d)
    fits = subst (λ (us : List Step). IsFitting (remove n us) (cut_text d)) path_is (subst (IsFitting (remove n path)) (sym text) fitting)

    size : length (front ++ (new ++ after)) ≤ text_limit
    size = omega (arith, small, ap length made)

    changes : ChangesRow n d (empty.e d n s ss ends.0 i z read_d kept.0 found few) (empty.segments d n s ss ends.0 i z read_d kept.0 found few)
    changes = empty.row_changes d n s ss ends.0 i z read_d kept.0 found few fits size

    abbrev next : Cut
    next = put_document n (inserted changes.front (changes.new ∷ []) changes.back changes.part) d

    made_text : new_text (empty.segments d n s ss ends.0 i z read_d kept.0 found few) ≡ front ++ (new ++ after)
    made_text = empty.row_text d n s ss ends.0 i z read_d kept.0 found few fits size

    next_text : cut_text next ≡ new_text (empty.segments d n s ss ends.0 i z read_d kept.0 found few)
    next_text = text_read _ next changes.read

    read_next : read_at (take r.start (cut_text c) ++ (new ++ after)) ≡ Some next
    read_next = ap read_at (sym back_is ∙ (made ∙ sym made_text)) ∙ changes.read

    heads : HeadsStayBefore c next n row r.start (new ++ after)
    unfolding changes
    heads =
        let rows : length changes.front ≡ i = empty.row_size d n s ss ends.0 i z read_d kept.0 found few fits size in
        subst (λ (a : ℕ). HeadsStayBefore c next n a r.start (new ++ after)) (omega (arith, rows, at.row_is))
        (heads_stay d n changes.part changes.front changes.back changes.row changes.new changes.there changes.rows_are changes.shape read_d (ap read_at next_text ∙ changes.read) front old new after
        (empty.text_is d n s ss ends.0 i z read_d kept.0 found few) (next_text ∙ made_text) (empty.reach d n s ss ends.0 i z read_d kept.0 found few fits size)
        c (document_row n c + i) before.keep r.start run.tail (back.gone_first c n (s ∷ ss) before.keep run.tail run.run g front split r.start r.end start_is finish_is short) kept.1 (omega (arith, rows))
        (back.drop_is c n (s ∷ ss) before.keep run.tail run.run g front split r.start r.end start_is finish_is short)
        (back.gone_is c n (s ∷ ss) before.keep run.tail run.run g front split r.start r.end start_is finish_is short))

  goes_on : IsFitting (remove n path) (buffer_text before.text) → (made_run : RemovalRun) → HasExchanged r.start r.end new before made_run → EmptiesOn (remove n path) c n row before made_run
  goes_on fitting made_run ex =
      let small : length (text_exchanged now r.start r.end new) ≤ text_limit = subst (λ (l : List ℕ). length (text_exchanged l r.start r.end new) ≤ text_limit) run.text ex.size in
      let fit : IsFitting (remove n path) now = subst (IsFitting (remove n path)) run.text fitting in
      let cs : List Splice = splice_at r.start (drop r.start (take r.end now)) new in
      let text_now : buffer_text made_run.text ≡ text_exchanged now r.start r.end new = ex.text ∙ ap (λ (l : List ℕ). text_exchanged l r.start r.end new) run.text in
      let comes : carried (remove n path) (buffer_text before.text) ≡ gives (buffer_text made_run.text) cs = ap (carried (remove n path)) run.text ∙ (there small ∙ ap (λ (l : List ℕ). gives l cs) (sym text_now)) in
      record {
        new_bytes = cs;
        comes = comes;
        applied = applied_by (remove n path) (buffer_text before.text) tt fitting (buffer_text made_run.text) cs comes;
        splices = ex.splices ∙ ap (λ (l : List ℕ). before.splices.items ++ splice_at r.start (drop r.start (take r.end l)) new) run.text;
        run = record {
          tail = new ++ after;
          text = text_now ∙ (back_is ∙ ap (λ (m : ℕ). take m (cut_text c) ++ (new ++ after)) (sym ex.keep));
          within = omega (arith, ex.keep, short, run.run.within);
          cut = next fit small;
          read = ap (λ (m : ℕ). read_at (take m (cut_text c) ++ (new ++ after))) ex.keep ∙ read_next fit small;
          heads = subst (λ (m : ℕ). HeadsStayBefore c (next fit small) n row m (new ++ after)) (sym ex.keep) (heads fit small);
        };
      }

  pub can_empty_head : CanEmptyHead (remove n path) c n row before r.start r.end r.new.now
  can_empty_head = subst (λ (l : List ℕ). CanEmptyHead (remove n path) c n row before r.start r.end l) (sym new_same)
      (record {
        order = omega (arith, start_is, finish_is, length-append front old);
        room = omega (arith, start_is, finish_is, length-append front old, two_bytes z.close, empty.head_long d n s ss ends.0 i z read_d kept.0 found few);
        starts =
            subst (λ (l : List ℕ). IsCharBoundary l r.start) (text ∙ sym run.text)
            (subst (IsCharBoundary (cut_text d)) (sym start_is) (empty.starts d n s ss ends.0 i z read_d kept.0 found few));
        finishes =
            subst (λ (l : List ℕ). IsCharBoundary l r.end) (text ∙ sym run.text)
            (subst (IsCharBoundary (cut_text d)) (omega (arith, finish_is, length-append front old)) (empty.finishes d n s ss ends.0 i z read_d kept.0 found few));
        utf8 = subst IsUtf8 (text ∙ sym run.text) (text_utf8 (cut_text d) d read_d);
        on = goes_on;
        fails = exchange_fails (remove n path) before now run.text r.start r.end new large;
      })

-- what the code finds of an operation
pub can_empty : (t : List ℕ) (n : ℕ) (stem path : List Step) (x : FlowHead) (r : Removed) (before : RemovalRun) (known : Option LeftOf) (row : ℕ) → read_at t ≡ Some (cut_of t) → EndsAt stem (map tree_step x.left.now) path →
    FlowAgrees t (flow_collection n (stem ++ map tree_step x.left.now) (cut_of t)) (Some x) → OwnEmptied x known before r → RemovesSo (cut_of t) n stem known before →
    IsRowAt (cut_of t) n stem row → (m : ℕ) (op : Operation) → op ≡ remove m path → m ≡ n → CanEmptyHead op (cut_of t) n row before r.start r.end r.new.now
can_empty t n [] path x r before known row read ends agrees gone run at m op is same = absurd (no_root_rows n (cut_of t) at.entry at.found)
can_empty t n (s ∷ ss) path x r before known row read ends agrees gone run at m op is same =
    subst (λ (o : Operation). CanEmptyHead o (cut_of t) n row before r.start r.end r.new.now) (sym (is ∙ ap (λ (k : ℕ). remove k path) same))
    (can_empty_head t n s ss path x r before known row read ends agrees gone run at)
