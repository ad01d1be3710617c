use Rattle.std.{proofs.Common.{rules, IsTrue, Some, sym, ap, ◌∙◌}, proofs.lemmas.Result.err_from_is_err_and}
use Rattle.yq_journal.{specs.Refusals.way_fault, specs.State.moved_text}
use Rattle.yq_history.{proofs.MoveLaws.{IsMove, refused_move, other_move}, proofs.EffectLaws.{move_refused, move_other}}
use Rattle.yq_history.{specs.Pair.NamesDiffer, proofs.CallLaws.{fails, makes_none}}
use Rattle.yq_history.proofs.undoing.move_from.Goals as goal

pub returns-in_err-new-clause-arrives : goal.returns-in_err-new-clause-arrives
returns-in_err-new-clause-arrives g c =
    let p = err_from_is_err_and c.from_residual.result c.from_residual.ensures.1 in
    rw (← c.as_slice-old.ensures.value)
    (λ keeps apart h k. refused_move _ _ _ _ _ (g.D.Store.content c.args.store.now) _ _ _ c.step.ensures k c.from_residual.result p.0 _ p.1 p.2 c.in_err-new.ensures.err)

pub returns-in_err-new-clause-effect : goal.returns-in_err-new-clause-effect
returns-in_err-new-clause-effect g c =
    let p = err_from_is_err_and c.from_residual.result c.from_residual.ensures.1 in
    rw (← c.as_slice-old.ensures.value)
    (λ keeps apart there. move_refused c.args.open.pair.file.now c.args.open.pair.journal.now (g.D.Store.content c.args.store.now) c.args.open.state
    c.as_slice-old.result.now c.args.dir _ c.from_residual.result p.0 _ c.step.ensures p.1 p.2 c.in_err-new.ensures.err)

pub returns-in_err-new-clause-calls : goal.returns-in_err-new-clause-calls
returns-in_err-new-clause-calls g c = search (rules, err_from_is_err_and, makes_none, fails)

pub returns : goal.returns
returns g c =
    let e = c.carry_out.ensures in
    let o = c.args.open in
    let s = o.state in
    let is = sym c.as_slice-old.ensures.value in
    let leads = ap (λ x. moved_text s.records s.at x o.text.items) (c.step-else-eq.ensures ∙ sym c.step.ensures) ∙ ap (moved_text s.records s.at c.step.result) is ∙ c.in_ok-new.ensures.ok ∙ ap Some (sym c.deref.ensures.value) in
    let content = g.D.Store.content in
    let moves : IsTrue g.D.Store.keeps → NamesDiffer o.pair →
    IsMove (content c.args.store.now) (content c.carry_out.new.store) o.pair.file.now o.pair.journal.now s o.text.items c.deref.result.now
    c.step-else-eq.result c.carry_out.result = λ keeps apart. record {
      leads = leads;
      ok = e.ok keeps apart;
      err = e.err keeps apart;
      text = e.text keeps apart;
      beside = e.moved keeps;
      cut = e.cut keeps apart;
      fault = e.fault;
      refused = e.refused;
      barred = e.barred keeps;
    } in
    record {
      arrives = λ keeps apart h k.
          other_move _ _ _ _ _ _ _ _ _ c.step.ensures k c.carry_out.result _ _ c.step-else-eq.ensures
          (ap (way_fault s.records s.at c.step.result) is ∙ c.in_ok-new.ensures.free) (moves keeps apart);
      effect = λ keeps apart there.
          move_other o.pair.file.now o.pair.journal.now (content c.args.store.now) _ s o.text.items _ c.args.dir _
          c.carry_out.result c.step-else-eq.ensures (moves keeps apart);
      leaves = e.leaves;
      calls = search rules;
    }
