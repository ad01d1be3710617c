-- What an operation exchanges in the text of a run of removals, which goes on after it.
use Rattle.std.proofs.Common.{◌≡◌, ℕ, ◌+◌, ◌-◌, ◌≤◌, ◌<◌, List, ◌++◌, length, take, drop, Option, None, refl, sym, ap, ◌∙◌, subst}
use Rattle.std.{proofs.Common.{append_assoc, arith}, proofs.lemmas.List.drop-drop, specs.Prelude.{false, nat_lt}}
use Rattle.std.specs.Str.{IsCharBoundary, IsUtf8}
use Rattle.yq_text.{specs.Limit.text_limit, specs.Script.splice_at, specs.Splice.Splice, specs.TextGapBuffer.buffer_text}
use Rattle.yq_core.{specs.Paths.Step, specs.Nodes.{Items, none, item}, specs.Trees.items_tree}
use Rattle.yq_outline.specs.Counts.{count}
use Rattle.yq_row_table.specs.Rows.{Cut, cut_text}
use Rattle.yq_semantics.{specs.Operations.Operation, specs.declared.refusal.Refusal.TheVariants.TooLarge, specs.Judgement.ExprError}
use Rattle.yq_edit_rules.specs.Operands.{HasOperand}
use Rattle.yq_edit_laws.{proofs.ApplyLaws.applied_by, specs.Answers.EditFails, specs.Carried.carried, specs.Edit.{gives, refuses}}
use Rattle.yq_edit_laws.specs.Theorems.{IsFitting}
use Rattle.yq_batch.specs.LeftItems.{Ending, closing, left_items, others}
use Rattle.yq_batch.specs.RemovalRuns.{AreAfter, ExchangeFails, HasExchanged, IsKnownLeft, IsRemovalRun, RemovesOn, text_exchanged}
use Rattle.yq_batch.{specs.declared.gone.LeftOf.LeftOf, specs.declared.removals.RemovalRun.RemovalRun}
use Rattle.yq_failure.specs.declared.failure.Failure.TheVariants as failure

-- the text that a gap buffer makes of it
pub exchanged : (t front after new made left : List ℕ) (start end : ℕ) → start ≤ end → front ≡ take start t → after ≡ drop start t → made ≡ front ++ new → left ≡ drop (end - start) after → made ++ left ≡ text_exchanged t start end new
exchanged t front after new made left start end order front_is following_is made_is left_is =
    let whole : start + (end - start) ≡ end = omega (arith, order) in
    let rest : left ≡ drop end t = left_is ∙ (ap (drop (end - start)) following_is ∙ (drop-drop (end - start) start t ∙ ap (λ (k : ℕ). drop k t) whole)) in
    (λ i. made_is i ++ rest i) ∙ (append_assoc front new (drop end t) ∙ ap (λ (l : List ℕ). l ++ (new ++ drop end t)) front_is)

-- an operation is carried out by an exchange in the text of a run, which goes on after it
pub exchange_on : (op : Operation) (c : Cut) (n : ℕ) (stem : List Step) (before : RemovalRun) (now : List ℕ) → buffer_text before.text ≡ now → (start finish : ℕ) (new tail : List ℕ) (known : Option LeftOf) → HasOperand op →
    IsFitting op (buffer_text before.text) →
    (length (text_exchanged now start finish new) ≤ text_limit → carried op now ≡ gives (text_exchanged now start finish new) (splice_at start (drop start (take finish now)) new)) →
    (length (text_exchanged now start finish new) ≤ text_limit → (r : IsRemovalRun c n stem start tail) × IsKnownLeft c r.cut n stem start known) →
    text_exchanged now start finish new ≡ take start (cut_text c) ++ tail → (after : RemovalRun) → HasExchanged start finish new before after → RemovesOn op c n stem before known after
exchange_on op c n stem before now text start finish new tail known operand fitting there goes_on text_is after ex =
    let small : length (text_exchanged now start finish new) ≤ text_limit = subst (λ (l : List ℕ). length (text_exchanged l start finish new) ≤ text_limit) text ex.size in
    let cs : List Splice = splice_at start (drop start (take finish now)) new in
    let made : buffer_text after.text ≡ text_exchanged now start finish new = ex.text ∙ ap (λ (l : List ℕ). text_exchanged l start finish new) text in
    let comes : carried op (buffer_text before.text) ≡ gives (buffer_text after.text) cs = ap (carried op) text ∙ (there small ∙ ap (λ (l : List ℕ). gives l cs) (sym made)) in
    let kept = subst (λ (m : ℕ). (r : IsRemovalRun c n stem m tail) × IsKnownLeft c r.cut n stem m known) (sym ex.keep) (goes_on small) in
    record {
      new_bytes = cs;
      comes = comes;
      applied = applied_by op (buffer_text before.text) operand fitting (buffer_text after.text) cs comes;
      splices = ex.splices ∙ ap (λ (l : List ℕ). before.splices.items ++ splice_at start (drop start (take finish l)) new) text;
      run = record { tail = tail; text = made ∙ (text_is ∙ ap (λ (m : ℕ). take m (cut_text c) ++ tail) (sym ex.keep)); run = kept.0; known_is = kept.1 };
    }

-- or not, where the text would be too large
pub exchange_fails : (op : Operation) (before : RemovalRun) (now : List ℕ) → buffer_text before.text ≡ now → (start finish : ℕ) (new : List ℕ) →
    (text_limit < length (text_exchanged now start finish new) → carried op now ≡ refuses TooLarge) →
    (e : ExprError) → ExchangeFails e start finish new before → EditFails e (carried op (buffer_text before.text))
exchange_fails op before now text start finish new large e fails = subst (λ (l : List ℕ). EditFails e (carried op l)) (sym text) (go e fails)
  where
    go : (e : ExprError) → ExchangeFails e start finish new before → EditFails e (carried op now)
    go (failure.Fault why) fails = large (subst (λ (l : List ℕ). text_limit < length (text_exchanged l start finish new)) text fails.1) ∙ ap refuses (sym fails.0)
    go failure.Memory fails = tt

-- no more than one is left
pub few_left : (e : Ending) → AreAfter None e → (is : Items) → nat_lt 1 (count (items_tree (left_items 1 is e))) ≡ false
unfolding items_tree
few_left (closing s) h none = refl
few_left (closing s) h (item key n sep is) = refl
few_left (others key n s is) h items = absurd h

-- An operation exchanges what is between two places of the text of a run, which is cut at characters there, and goes on after it.
pub record CanExchange (op : Operation) (c : Cut) (n : ℕ) (stem : List Step) (before : RemovalRun) (start finish : ℕ) (new : List ℕ) (known : Option LeftOf) : Type 0 where
  pub order : start ≤ finish
  pub room : length new ≤ finish - start
  pub starts : IsCharBoundary (buffer_text before.text) start
  pub finishes : IsCharBoundary (buffer_text before.text) finish
  pub utf8 : IsUtf8 (buffer_text before.text)
  pub on : IsFitting op (buffer_text before.text) → (after : RemovalRun) → HasExchanged start finish new before after → RemovesOn op c n stem before known after
  pub fails : (e : ExprError) → ExchangeFails e start finish new before → EditFails e (carried op (buffer_text before.text))
