use Rattle.std.{proofs.Common.{◌≢◌, Err, ap, ◌∙◌, rules, subst}, specs.FinMap.get, proofs.lemmas.Result.err_from_is_err_and}
use Rattle.yq_store.specs.Count.{failures_after}
use Rattle.yq_history.{proofs.SquashLaws.squash_opened, specs.Effects.squash_effect, specs.Leaves.LeavesNames}
use Rattle.yq_history.{proofs.EffectLaws.{not_opened, from_opened}, proofs.CallLaws.{opened_calls, unopened_calls}}
use Rattle.yq_history.proofs.squashing.squash.Goals as goal

pub returns-clause-arrives : goal.returns-clause-arrives
returns-clause-arrives g c = search (rules, squash_opened, c.in_ok-text.ensures.opens, c.squash_from.ensures.arrives)

pub returns-in_err-text-clause-effect : goal.returns-in_err-text-clause-effect
returns-in_err-text-clause-effect g c = search (rules, err_from_is_err_and, not_opened, c.in_err-text.ensures.leaves.same, c.in_err-text.ensures.missed)

pub returns-clause-effect : goal.returns-clause-effect
returns-clause-effect g c = λ keeps apart.
    let same = c.in_ok-text.ensures.leaves.same keeps in
    from_opened _ _ (squash_effect c.args.n) _ _ (g.D.Store.content c.args.store.now) _ _ c.in_ok-text.text.items c.in_ok-text.state c.squash_from.result same (c.in_ok-text.ensures.found keeps (squash_effect c.args.n))
    (c.squash_from.ensures.effect keeps apart (ap (λ m. get m c.args.pair.now.file.now) same ∙ c.in_ok-text.ensures.text keeps))

pub returns-in_err-text-clause-calls : goal.returns-in_err-text-clause-calls
returns-in_err-text-clause-calls g c =
    let p = err_from_is_err_and c.from_residual.result c.from_residual.ensures.1 in
    unopened_calls g.D.Store.leads c.from_residual.result c.args.pair.now.file.now c.args.pair.now.journal.now (squash_effect c.args.n) _ (p.1 ∙ ap Err p.2) c.args.store.now c.open_pair.new.store c.in_err-text.ensures.calls

pub returns-clause-calls : goal.returns-clause-calls
returns-clause-calls g c =
    opened_calls g.D.Store.leads c.squash_from.result c.args.pair.now.file.now c.args.pair.now.journal.now (squash_effect c.args.n) (c.in_ok-text.text, c.in_ok-text.state)
    c.open_pair.new.store c.squash_from.new.store c.squash_from.ensures.calls c.args.store.now c.in_ok-text.ensures.calls

pub returns-clause-leaves : goal.returns-clause-leaves
returns-clause-leaves g c =
    let e = c.squash_from.ensures.leaves in
    let r = c.squash_from.result in
    record {
      store = record { no_output = e.store.no_output; count = e.store.count ∙ ap (failures_after r) c.in_ok-text.ensures.leaves.store.count };
      names = λ keeps. subst (λ m. LeavesNames (λ q. q ≢ c.args.pair.now.journal.now) m (g.D.Store.content c.squash_from.new.store) r)
          (c.in_ok-text.ensures.leaves.same keeps) (e.names keeps);
    }
