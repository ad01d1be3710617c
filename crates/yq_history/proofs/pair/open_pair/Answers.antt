use Rattle.std.{proofs.Common.{Ok, sym, ap, ◌∙◌, rules}, proofs.lemmas.Result.err_from_is_err_and}
use Rattle.yq_journal.specs.State.{settled_beside}
use Rattle.yq_history.{proofs.CallLaws.{misses_pair, opens_journal}, proofs.PairLaws.opens, proofs.EffectLaws.settles}
use Rattle.yq_history.proofs.pair.open_pair.Goals as goal

pub returns-clause-opens : goal.returns-clause-opens
returns-clause-opens g c =
    search (rules, opens, c.in_ok-text.ensures.same, c.in_ok-state.ensures.leaves.same, c.in_ok-text.ensures.found, c.in_ok-state.ensures.ok)

pub returns-clause-found : goal.returns-clause-found
returns-clause-found g c = search (rules, settles, c.in_ok-text.ensures.same, c.in_ok-text.ensures.found, c.in_ok-state.ensures.ok)

pub returns-clause-calls : goal.returns-clause-calls
returns-clause-calls g c = (
  Ok c.in_ok-text.text.items,
  c.read.new.self,
  c.in_ok-text.ensures.call,
  opens_journal g.D.Store.leads c.in_ok-text.text c.in_ok-state.state c.settle.new.self (sym (ap (settled_beside c.in_ok-state.state) c.deref.ensures.value) ∙ c.in_ok-settle.ensures.ok)
      c.args.pair.now.journal.now c.read.new.self c.read_journal.new.store c.in_ok-state.ensures.calls,
)

pub returns-in_err-settle-clause-calls : goal.returns-in_err-settle-clause-calls
returns-in_err-settle-clause-calls g c =
    let p = err_from_is_err_and c.from_residual-in_err-settle.result c.from_residual-in_err-settle.ensures.1 in (
      Ok c.in_ok-text.text.items,
      c.read.new.self,
      c.in_ok-text.ensures.call,
      misses_pair g.D.Store.leads c.in_ok-state.state c.in_ok-text.text.items _ _ p.1 c.args.pair.now.journal.now c.read.new.self c.read_journal.new.store c.in_ok-state.ensures.calls,
    )
