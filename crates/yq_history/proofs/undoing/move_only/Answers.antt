use Rattle.std.{proofs.Common.{rules, inl, inr, refl}, proofs.lemmas.Result.{err_from_is_err_and, on_ok_weaker, on_err_weaker}}
use Rattle.yq_history.proofs.MoveLaws.{journal_written, turned, same_content, either, equal_move, refused_move}
use Rattle.yq_history.{proofs.EffectLaws.{move_equal, move_refused, way_free}, proofs.CallLaws.{fails, makes_none, one_write, puts_as}}
use Rattle.yq_history.{proofs.FaultLaws.way_of, specs.Directions.walk_move}
use Rattle.yq_history.proofs.undoing.move_only.Goals as goal

pub returns-in_err-make-clause-arrives : goal.returns-in_err-make-clause-arrives
returns-in_err-make-clause-arrives g c = search (rules, err_from_is_err_and, way_of, refused_move, g.D.Store.content)

pub returns-clause-arrives : goal.returns-clause-arrives
returns-clause-arrives g c = λ keeps apart h k.
    let e = c.write_journal.ensures in
    let moves = turned _ _ apart _ _ _ _ _ _ _ k c.requires.equal _ refl c.in_ok-make.ensures.moved in
    equal_move _ _ _ _ _ _ _ _ _ refl k c.write_journal.result c.requires.way (on_ok_weaker _ moves (e.ok keeps))
    (on_err_weaker _ (λ x. either x (λ same. inl (same_content _ _ _ _ _ same k.is_located)) (λ w. inr (moves w))) (e.err keeps)) e.outside

pub returns-in_err-make-clause-effect : goal.returns-in_err-make-clause-effect
returns-in_err-make-clause-effect g c = search (rules, err_from_is_err_and, way_of, move_refused, g.D.Store.content)

pub returns-clause-effect : goal.returns-clause-effect
returns-clause-effect g c = search (rules, move_equal, way_free, on_ok_weaker, journal_written, on_err_weaker, either, g.D.Store.content)

pub returns-in_err-make-clause-calls : goal.returns-in_err-make-clause-calls
returns-in_err-make-clause-calls g c = search (rules, err_from_is_err_and, makes_none, fails)

pub returns-clause-calls : goal.returns-clause-calls
returns-clause-calls g c =
    let puts = puts_as g.D.Store.leads c.write_journal.result c.args.open.pair.journal.now _ _ c.args.store.now c.write_journal.new.store c.in_ok-make.ensures.moved c.write_journal.ensures.calls in
    one_write g.D.Store.leads c.write_journal.result c.args.open.pair.file.now c.args.open.pair.journal.now c.args.open.state (walk_move c.args.dir) c.args.open.text.items c.args.store.now c.write_journal.new.store
    c.requires.way c.requires.equal puts

pub returns-clause-leaves : goal.returns-clause-leaves
returns-clause-leaves g c = search rules
