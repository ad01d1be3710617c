-- An edit of a flow collection in the text of a run of removals, which begins in the bytes that stay.
use Rattle.std.proofs.Common.{◌≡◌, ℕ, ◌-◌, ◌≤◌, ◌<◌, List, ◌++◌, length, take, drop, sym, ap, ◌∙◌, subst, append_assoc, arith}
use Rattle.std.{proofs.Common.length-append, proofs.Math.Seq.{take-append_seam, drop-append_seam}, specs.Str.IsCharBoundary}
use Rattle.std.proofs.lemmas.List.{append_cancel_left, length-take-le, take-append-drop, take-append-le, take-take}
use Rattle.yq_text.{specs.Limit.text_limit, specs.Script.{new_text, splice_at}}
use Rattle.yq_core.specs.Paths.{Step}
use Rattle.yq_flow_edits.specs.FlowEdits.{FlowEdit}
use Rattle.yq_row_table.specs.Rows.{Cut, cut_text}
use Rattle.yq_semantics.{specs.Operations.Operation, specs.declared.refusal.Refusal.TheVariants.TooLarge}
use Rattle.yq_edit_rules.specs.FlowParts.{flow_segments}
use Rattle.yq_edit_laws.{proofs.CutLaws.text_read, proofs.FlowAnswers.HasBounds, specs.Carried.carried}
use Rattle.yq_edit_laws.specs.Edit.{edit_of_segments, gives, refuses}
use Rattle.yq_batch.{specs.RemovalRuns.{IsRemovalRun, text_exchanged}, proofs.PutComes.{made_text, new_is, segments_come, segments_large}}

module _ (c : Cut) (n : ℕ) (stem : List Step) (keep : ℕ) (tail : List ℕ) (run : IsRemovalRun c n stem keep tail) (g : FlowEdit) (before : List ℕ)
    (now_is : take keep (cut_text c) ++ tail ≡ before ++ (g.old ++ g.after)) (start finish : ℕ) (start_is : start ≡ length before)
    (finish_is : finish ≡ length (before ++ g.old)) (short : start ≤ keep) where
  abbrev t : List ℕ
  t = cut_text c

  abbrev now : List ℕ
  now = take keep t ++ tail

  abbrev new : List ℕ
  new = g.lead ++ g.written

  text : cut_text run.cut ≡ now
  text = text_read now run.cut run.read

  split : cut_text run.cut ≡ before ++ (g.old ++ g.after)
  split = text ∙ now_is

  whole_split : now ≡ (before ++ g.old) ++ g.after
  whole_split = now_is ∙ sym (append_assoc before g.old g.after)

  front_is : take start now ≡ before
  front_is = (λ i. take (start_is i) (now_is i)) ∙ take-append_seam before (g.old ++ g.after)

  left_is : drop finish now ≡ g.after
  left_is = (λ i. drop (finish_is i) (whole_split i)) ∙ drop-append_seam (before ++ g.old) g.after

  old_is : drop start (take finish now) ≡ g.old
  old_is =
      let front : take finish now ≡ before ++ g.old = (λ i. take (finish_is i) (whole_split i)) ∙ take-append_seam (before ++ g.old) g.after in
      (λ i. drop (start_is i) (front i)) ∙ drop-append_seam before g.old

  made_is : made_text before g ≡ text_exchanged now start finish new
  made_is = append_assoc before new g.after ∙ λ i. sym front_is i ++ (new ++ sym left_is i)

  -- an operation that makes this edit
  module _ (op : Operation) (comes : carried op now ≡ edit_of_segments (flow_segments (cut_text run.cut) g)) where
    pub back_there : length (text_exchanged now start finish new) ≤ text_limit →
        carried op now ≡ gives (text_exchanged now start finish new) (splice_at start (drop start (take finish now)) new)
    back_there small =
        comes
        ∙ (segments_come (cut_text run.cut) before g split (omega (arith, small, ap length made_is))
        ∙ λ i. gives (made_is i) (splice_at (sym start_is i) (sym old_is i) new))

    pub back_large : text_limit < length (text_exchanged now start finish new) → carried op now ≡ refuses TooLarge
    back_large large = comes ∙ segments_large (cut_text run.cut) before g split (omega (arith, large, ap length made_is))

  -- where it is, in the text as it is now
  module _ (bounds : HasBounds (cut_text run.cut) g) where
    pub back_start : IsCharBoundary now start
    back_start =
        subst (IsCharBoundary now) (omega (arith, start_is, ap length split, length-append before (g.old ++ g.after)))
        (subst (λ (l : List ℕ). IsCharBoundary l (length (cut_text run.cut) - length (g.old ++ g.after))) text bounds.0)

    pub back_finish : IsCharBoundary now finish
    back_finish =
        subst (IsCharBoundary now) (omega (arith, finish_is, ap length split, length-append before (g.old ++ g.after), length-append g.old g.after, length-append before g.old))
        (subst (λ (l : List ℕ). IsCharBoundary l (length (cut_text run.cut) - length g.after)) text bounds.1)

  pub back_order : start ≤ finish
  back_order = omega (arith, start_is, finish_is, length-append before g.old)

  -- what stays, in the text as it was read
  kept_front : take start (take keep t) ≡ take start t
  kept_front = take-take start keep t short

  pub own_front : take start t ≡ before
  own_front = sym kept_front ∙ (sym (take-append-le start (take keep t) tail (omega (arith, short, length-take-le keep t run.within))) ∙ front_is)

  -- what goes of it
  abbrev pub gone_first : List ℕ
  gone_first = drop start (take keep t)

  kept_is : take keep t ≡ before ++ gone_first
  kept_is = sym (take-append-drop start (take keep t)) ∙ ap (λ (l : List ℕ). l ++ gone_first) (kept_front ∙ own_front)

  pub gone_is : gone_first ++ tail ≡ g.old ++ g.after
  gone_is =
      append_cancel_left before (gone_first ++ tail) (g.old ++ g.after)
      (sym (append_assoc before gone_first tail) ∙ (ap (λ (l : List ℕ). l ++ tail) (sym kept_is) ∙ now_is))

  all_is : t ≡ before ++ (gone_first ++ drop keep t)
  all_is = sym (take-append-drop keep t) ∙ (ap (λ (l : List ℕ). l ++ drop keep t) kept_is ∙ append_assoc before gone_first (drop keep t))

  pub drop_is : drop start t ≡ gone_first ++ drop keep t
  drop_is = (λ i. drop (start_is i) (all_is i)) ∙ drop-append_seam before (gone_first ++ drop keep t)

  -- the text after it
  pub back_text : text_exchanged now start finish new ≡ take start t ++ (new ++ g.after)
  back_text = λ i. (front_is ∙ sym own_front) i ++ (new ++ left_is i)

  pub back_new : new_text (flow_segments (cut_text run.cut) g) ≡ text_exchanged now start finish new
  back_new = new_is (cut_text run.cut) before g split ∙ made_is
