use Rattle.std.{proofs.Common.{Err, ap, ◌∙◌, rules}, proofs.lemmas.Result.err_from_is_err_and}
use Rattle.yq_history.{specs.Effects.move_effect, specs.Directions.walk_move, proofs.EffectLaws.{not_opened, from_opened}}
use Rattle.yq_history.proofs.CallLaws.{opened_calls, unopened_calls}
use Rattle.yq_history.proofs.undoing.move_file.Goals as goal

pub returns-in_err-text-clause-effect : goal.returns-in_err-text-clause-effect
returns-in_err-text-clause-effect g c = search (rules, err_from_is_err_and, not_opened, c.in_err-text.ensures.leaves.same, c.in_err-text.ensures.missed)

pub returns-clause-effect : goal.returns-clause-effect
returns-clause-effect g c =
    let e = c.in_ok-text.ensures in
    search (rules, from_opened, e.leaves.same, g.D.Store.content, e.found, c.move_from.ensures.effect, e.text)

pub returns-in_err-text-clause-calls : goal.returns-in_err-text-clause-calls
returns-in_err-text-clause-calls g c =
    let p = err_from_is_err_and c.from_residual.result c.from_residual.ensures.1 in
    unopened_calls g.D.Store.leads c.from_residual.result c.args.pair.now.file.now c.args.pair.now.journal.now (move_effect (walk_move c.args.dir)) _ (p.1 ∙ ap Err p.2) c.args.store.now c.open_pair.new.store c.in_err-text.ensures.calls

pub returns-clause-calls : goal.returns-clause-calls
returns-clause-calls g c =
    opened_calls g.D.Store.leads c.move_from.result c.args.pair.now.file.now c.args.pair.now.journal.now (move_effect (walk_move c.args.dir)) (c.in_ok-text.text, c.in_ok-text.state)
    c.open_pair.new.store c.move_from.new.store c.move_from.ensures.calls c.args.store.now c.in_ok-text.ensures.calls
