use Rattle.std.{proofs.Common.{rules, inl, inr, ℕ, refl, subst}, proofs.lemmas.Result.{err_from_is_err_and, on_ok_weaker, on_err_weaker}}
use Rattle.std.proofs.lemmas.Bool.{eq-eqb, ne_eqb}
use Rattle.yq_history.{proofs.MoveLaws.{none_of, either, journal_written}, proofs.SquashLaws.{squash_refused, squash_of_one, squash_ends}}
use Rattle.yq_history.{specs.Pair.IsJournal, proofs.EffectLaws.{squash_not_done, squash_one_works, squash_works}}
use Rattle.yq_history.proofs.CallLaws.{fails, makes_none, puts_as, squashed_one, squash_write}
use Rattle.yq_history.proofs.squashing.squash_from.Goals as goal

pub returns-in_err-squash-clause-arrives : goal.returns-in_err-squash-clause-arrives
returns-in_err-squash-clause-arrives g c = λ keeps apart h k.
    let p = err_from_is_err_and c.from_residual.result c.from_residual.ensures.1 in
    squash_refused (g.D.Store.content c.args.store.now) _ _ h _ _ _ (none_of _ c.args.open.at_rest) k c.from_residual.result p.0 _ p.1 p.2 c.in_err-squash.ensures.fault

pub returns-then-n-eq1-clause-arrives : goal.returns-then-n-eq1-clause-arrives
returns-then-n-eq1-clause-arrives g c = λ keeps apart h k.
    squash_of_one (g.D.Store.content c.args.store.now) _ _ h _ _ _ (none_of _ c.args.open.at_rest) k {T = ℕ} 0 _ c.if-n-eq1.true refl c.in_ok-squash.ensures.free

pub returns-clause-arrives : goal.returns-clause-arrives
returns-clause-arrives g c = λ keeps apart h k.
    squash_ends (g.D.Store.content c.args.store.now) _ _ h _ _ _ (none_of _ c.args.open.at_rest) k apart _ _ c.in_ok-squash.ensures.ok c.in_ok-squash.ensures.free c.write_journal.result
    (c.write_journal.ensures.ok keeps) (c.write_journal.ensures.err keeps) c.write_journal.ensures.outside

pub returns-in_err-squash-clause-effect : goal.returns-in_err-squash-clause-effect
returns-in_err-squash-clause-effect g c = search (rules, err_from_is_err_and, squash_not_done, g.D.Store.content)

pub returns-then-n-eq1-clause-effect : goal.returns-then-n-eq1-clause-effect
returns-then-n-eq1-clause-effect g c = search (rules, squash_one_works, eq-eqb, g.D.Store.content)

pub returns-clause-effect : goal.returns-clause-effect
returns-clause-effect g c = λ keeps apart there.
    squash_works c.args.open.pair.file.now c.args.open.pair.journal.now (g.D.Store.content c.args.store.now) c.args.open.state c.args.open.text.items
    c.args.n _ c.write_journal.result (ne_eqb c.args.n 1 c.if-n-eq1.false) c.in_ok-squash.ensures.free there
    ((c.write_journal.ensures.leaves.names keeps).others _ apart)
    (on_ok_weaker _ (λ w. subst (IsJournal _) c.in_ok-squash.ensures.ok (journal_written _ _ _ _ w)) (c.write_journal.ensures.ok keeps))
    (on_err_weaker _ (λ x. either x inl (λ w. inr (subst (IsJournal _) c.in_ok-squash.ensures.ok (journal_written _ _ _ _ w)))) (c.write_journal.ensures.err keeps))
    c.write_journal.ensures.outside

pub returns-in_err-squash-clause-calls : goal.returns-in_err-squash-clause-calls
returns-in_err-squash-clause-calls g c = search (rules, err_from_is_err_and, makes_none, fails)

pub returns-then-n-eq1-clause-calls : goal.returns-then-n-eq1-clause-calls
returns-then-n-eq1-clause-calls g c = search (rules, squashed_one, eq-eqb)

pub returns-clause-calls : goal.returns-clause-calls
returns-clause-calls g c =
    squash_write g.D.Store.leads c.write_journal.result c.args.open.pair.file.now c.args.open.pair.journal.now c.args.open.text.items
    c.args.open.state c.args.n c.args.store.now c.write_journal.new.store (ne_eqb c.args.n 1 c.if-n-eq1.false) c.in_ok-squash.ensures.free
    (puts_as g.D.Store.leads c.write_journal.result c.args.open.pair.journal.now _ _ c.args.store.now c.write_journal.new.store c.in_ok-squash.ensures.ok c.write_journal.ensures.calls)
