use Rattle.std.{proofs.Common.{◌≤◌, subst, sym, rules}, proofs.lemmas.List.drop_all, proofs.lemmas.Result.on_ok_weaker}
use Rattle.yq_history.specs.DiffPrinting.{Open, open_of}
use Rattle.yq_history.proofs.PartLoops.{new_room, new_sum, next_part, old_after, old_room, old_sum, printed_step}
use Rattle.yq_history.proofs.diff.open.push_hunks.Goals as goal

pub take-requires-clause-old : goal.take-requires-clause-old
take-requires-clause-old c = old_room _ _ _ _ _ (next_part c.args.parts.now c.parts.part-index _ c.parts-test.true) c.parts.invariant.old_sum c.requires.old

pub take-requires-clause-new : goal.take-requires-clause-new
take-requires-clause-new c = new_room _ _ _ _ _ (next_part c.args.parts.now c.parts.part-index _ c.parts-test.true) c.parts.invariant.new_sum c.requires.new

pub parts-preserved : goal.parts-preserved
parts-preserved c =
    record {
      printed = printed_step (open_of c.parts.hunk) (open_of c.take.new.self) _ _ _ _ _ _ (next_part c.args.parts.now c.parts.part-index _ c.parts-test.true) c.in_ok-take.ensures.open c.in_ok-take.ensures.printed c.parts.invariant.printed;
      old_order = subst (λ (o : Open). o.old_before ≤ o.old_at) (sym c.in_ok-take.ensures.open) (old_after (open_of c.parts.hunk) _ c.parts.invariant.old_order);
      new_order = subst (λ (o : Open). o.new_before ≤ o.new_at) (sym c.in_ok-take.ensures.open) (search rules);
      old_sum = old_sum (open_of c.parts.hunk) (open_of c.take.new.self) _ _ _ _ (next_part c.args.parts.now c.parts.part-index _ c.parts-test.true) c.in_ok-take.ensures.open c.parts.invariant.old_sum;
      new_sum = new_sum (open_of c.parts.hunk) (open_of c.take.new.self) _ _ _ _ (next_part c.args.parts.now c.parts.part-index _ c.parts-test.true) c.in_ok-take.ensures.open c.parts.invariant.new_sum;
    }

pub returns : goal.returns
returns c =
    on_ok_weaker c.push_closed.result (λ closed. search (rules, drop_all)) c.push_closed.ensures
