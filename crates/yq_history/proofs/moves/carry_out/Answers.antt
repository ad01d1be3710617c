use Rattle.std.{proofs.Common.{rules, inl, inr, refl, ap, ◌∙◌, sym, Err, [], ◌∷◌}, specs.FinMap.get, proofs.lemmas.Option.none-some}
use Rattle.std.proofs.lemmas.Result.{err_from_is_err_and, on_ok_weaker, on_err_weaker}
use Rattle.yq_journal.{specs.Json.journal_text, specs.State.journal_after}
use Rattle.yq_history.proofs.MoveLaws.{first_write, second_write, third_write, same_content, moved_journal, on_err, either, settled_is}
use Rattle.yq_history.proofs.CutLaws.{cut_unwritten, cut_opened, cut_changed, cut_settled}
use Rattle.yq_history.proofs.FaultLaws.{all_outside, failed_write, way_there}
use Rattle.yq_history.{proofs.CallLaws.{fails, makes_none, puts_as, three_writes, was_last, was_put_as}, proofs.EffectLaws.on_ok}
use Rattle.yq_store.{specs.Count.failures_after, specs.FileMap.get_written}
use Rattle.yq_history.proofs.moves.carry_out.Goals as goal

pub returns : goal.returns
returns g c =
    let free = way_there c.args.open.state c.args.step c.args.open.text.items _ c.args.open.at_rest c.requires.moves c.in_ok-start_known.ensures.free in
    record {
      ok = λ keeps apart h k.
          on_ok_weaker _
          (third_write _ _ apart _ _ _ _ _ _ _ k c.requires.moves _ _ _ _ c.requires.changes c.in_ok-start_known.ensures.ok (c.in_ok-replace.ensures.written keeps) c.in_ok-finish.ensures.ok)
          (c.write_journal-2.ensures.ok keeps);
      err = λ keeps apart h k.
          let put = c.in_ok-replace.ensures.written keeps in
          on_err_weaker _
          (λ x. inr (either x
          (λ same. same_content _ _ _ _ _ same (second_write _ _ apart _ _ _ _ _ _ _ k c.requires.moves _ _ c.requires.changes c.in_ok-start_known.ensures.ok (c.in_ok-write_journal.ensures.ok keeps) put))
          (third_write _ _ apart _ _ _ _ _ _ _ k c.requires.moves _ _ _ _ c.requires.changes c.in_ok-start_known.ensures.ok put c.in_ok-finish.ensures.ok)))
          (c.write_journal-2.ensures.err keeps);
      text = λ keeps apart.
          on_ok c.write_journal-2.result
          ((c.write_journal-2.ensures.leaves.names keeps).others c.args.open.pair.file.now apart ∙ ap (λ m. get m c.args.open.pair.file.now) (c.in_ok-replace.ensures.written keeps) ∙ get_written _ c.args.open.pair.file.now _);
      moved = λ keeps.
          on_ok_weaker _ (moved_journal _ c.args.open.state _ _ c.args.step _ _ _ _ c.requires.moves c.requires.changes c.in_ok-start_known.ensures.ok c.in_ok-finish.ensures.ok)
          (c.write_journal-2.ensures.ok keeps);
      cut = λ keeps apart.
          let put = c.in_ok-replace.ensures.written keeps in
          let file = (c.write_journal-2.ensures.leaves.names keeps).others c.args.open.pair.file.now apart ∙ ap (λ m. get m c.args.open.pair.file.now) put ∙ get_written _ c.args.open.pair.file.now _ in
          on_err_weaker _
          (λ x. either x
          (λ same. cut_changed _ _ _ _ _ _ apart _ _ c.in_ok-start_known.ensures.ok (c.in_ok-write_journal.ensures.ok keeps) _ (same ∙ put))
          (λ w. cut_settled _ _ _ _ _ _ _ file
          (moved_journal _ c.args.open.state _ _ c.args.step _ _ _ _ c.requires.moves c.requires.changes c.in_ok-start_known.ensures.ok c.in_ok-finish.ensures.ok w)))
          (c.write_journal-2.ensures.err keeps);
      fault = all_outside _ c.write_journal-2.result c.write_journal-2.ensures.outside;
      refused = λ f why.
          absurd (none-some f (sym free ∙ why));
      barred = λ keeps barred.
          absurd (barred free);
      leaves = record {
        store = record {
          no_output = c.write_journal-2.ensures.leaves.store.no_output;
          count = c.write_journal-2.ensures.leaves.store.count ∙ ap (failures_after c.write_journal-2.result) (c.in_ok-replace.ensures.count ∙ c.in_ok-write_journal.ensures.leaves.store.count);
        };
        names = λ keeps. record {
          kept = all_outside _ c.write_journal-2.result c.write_journal-2.ensures.outside;
          others = λ q apart. (c.write_journal-2.ensures.leaves.names keeps).others q apart.1 ∙ c.in_ok-replace.ensures.others keeps q apart.0 ∙ (c.in_ok-write_journal.ensures.leaves.names keeps).others q apart.1;
        };
      };
      calls =
          let first = was_put_as g.D.Store.leads tt c.args.open.pair.journal.now _ _ c.args.store.now c.write_journal.new.store c.in_ok-start_known.ensures.ok c.in_ok-write_journal.ensures.calls in
          let settled = settled_is c.args.open.state _ _ c.args.step _ _ c.requires.moves c.requires.changes c.in_ok-start_known.ensures.ok c.in_ok-finish.ensures.ok in
          let third = puts_as g.D.Store.leads c.write_journal-2.result c.args.open.pair.journal.now _ _ c.replace.new.self c.write_journal-2.new.store settled c.write_journal-2.ensures.calls in
          three_writes g.D.Store.leads c.write_journal-2.result c.args.open.pair.file.now c.args.open.pair.journal.now c.args.open.state c.args.step
          c.args.open.text.items c.args.store.now c.write_journal-2.new.store c.args.new.now free c.requires.moves c.requires.changes
          (inr (inr (c.write_journal.new.store, first, inr (inr (c.replace.new.self, c.in_ok-replace.ensures.call, third)))));
    }

pub returns-in_err-write_journal-clause-err : goal.returns-in_err-write_journal-clause-err
returns-in_err-write_journal-clause-err g c = λ keeps apart h k. on_err _ (inl
    (either (c.in_err-write_journal.ensures.err keeps)
    (λ same. same_content _ _ _ _ _ same k.is_located)
    (λ w. first_write _ _ apart _ _ _ _ _ _ _ k c.requires.moves _ c.requires.changes c.in_ok-start_known.ensures.ok w)))

pub returns-in_err-replace-clause-err : goal.returns-in_err-replace-clause-err
returns-in_err-replace-clause-err g c = λ keeps apart h k.
    let w = c.in_ok-write_journal.ensures.ok keeps in
    on_err _
    (either (c.in_err-replace.ensures.err keeps)
    (λ same. inl (same_content _ _ _ _ _ same (first_write _ _ apart _ _ _ _ _ _ _ k c.requires.moves _ c.requires.changes c.in_ok-start_known.ensures.ok w)))
    (λ put. inr (second_write _ _ apart _ _ _ _ _ _ _ k c.requires.moves _ _ c.requires.changes c.in_ok-start_known.ensures.ok w put)))

pub returns-in_err-finish-clause-err : goal.returns-in_err-finish-clause-err
returns-in_err-finish-clause-err g c = λ keeps apart h k.
    on_err _ (inr (second_write _ _ apart _ _ _ _ _ _ _ k c.requires.moves _ _ c.requires.changes c.in_ok-start_known.ensures.ok
    (c.in_ok-write_journal.ensures.ok keeps) (c.in_ok-replace.ensures.written keeps)))

pub returns-in_err-write_journal-clause-cut : goal.returns-in_err-write_journal-clause-cut
returns-in_err-write_journal-clause-cut g c = λ keeps apart.
    on_err _
    (either (c.in_err-write_journal.ensures.err keeps)
    (cut_unwritten _ _ _ _ _ _ _)
    (λ w. cut_opened _ _ _ _ _ _ apart _ _ c.in_ok-start_known.ensures.ok w _ refl))

pub returns-in_err-replace-clause-cut : goal.returns-in_err-replace-clause-cut
returns-in_err-replace-clause-cut g c = λ keeps apart.
    let w = c.in_ok-write_journal.ensures.ok keeps in
    on_err _
    (either (c.in_err-replace.ensures.err keeps)
    (cut_opened _ _ _ _ _ _ apart _ _ c.in_ok-start_known.ensures.ok w _)
    (cut_changed _ _ _ _ _ _ apart _ _ c.in_ok-start_known.ensures.ok w _))

pub returns-in_err-finish-clause-cut : goal.returns-in_err-finish-clause-cut
returns-in_err-finish-clause-cut g c = λ keeps apart.
    on_err _ (cut_changed _ _ _ _ _ _ apart _ _ c.in_ok-start_known.ensures.ok (c.in_ok-write_journal.ensures.ok keeps) _ (c.in_ok-replace.ensures.written keeps))

pub returns-in_err-start_known-clause-calls : goal.returns-in_err-start_known-clause-calls
returns-in_err-start_known-clause-calls g c = search (rules, err_from_is_err_and, makes_none, fails)

pub returns-in_err-write_journal-clause-calls : goal.returns-in_err-write_journal-clause-calls
returns-in_err-write_journal-clause-calls g c =
    let free = way_there c.args.open.state c.args.step c.args.open.text.items _ c.args.open.at_rest c.requires.moves c.in_ok-start_known.ensures.free in
    let p = err_from_is_err_and c.from_residual-in_err-write_journal.result c.from_residual-in_err-write_journal.ensures.1 in
    three_writes g.D.Store.leads c.from_residual-in_err-write_journal.result c.args.open.pair.file.now c.args.open.pair.journal.now c.args.open.state
    c.args.step c.args.open.text.items c.args.store.now c.write_journal.new.store c.args.new.now free c.requires.moves c.requires.changes
    (was_last g.D.Store.leads c.from_residual-in_err-write_journal.result _ _
    ((c.args.open.pair.file.now, c.args.new.now) ∷ (c.args.open.pair.journal.now, journal_text (journal_after c.args.open.state c.args.step)) ∷ []) c.args.store.now c.write_journal.new.store (p.1 ∙ ap Err p.2)
    (puts_as g.D.Store.leads _ c.args.open.pair.journal.now _ _ c.args.store.now c.write_journal.new.store c.in_ok-start_known.ensures.ok c.in_err-write_journal.ensures.calls))

pub returns-in_err-replace-clause-calls : goal.returns-in_err-replace-clause-calls
returns-in_err-replace-clause-calls g c =
    let free = way_there c.args.open.state c.args.step c.args.open.text.items _ c.args.open.at_rest c.requires.moves c.in_ok-start_known.ensures.free in
    let p = err_from_is_err_and c.from_residual-in_err-replace.result c.from_residual-in_err-replace.ensures.1 in
    let first = was_put_as g.D.Store.leads tt c.args.open.pair.journal.now _ _ c.args.store.now c.write_journal.new.store c.in_ok-start_known.ensures.ok c.in_ok-write_journal.ensures.calls in
    three_writes g.D.Store.leads c.from_residual-in_err-replace.result c.args.open.pair.file.now c.args.open.pair.journal.now c.args.open.state
    c.args.step c.args.open.text.items c.args.store.now c.replace.new.self c.args.new.now free c.requires.moves c.requires.changes
    (inr (inr (c.write_journal.new.store, first, inr (inl (_, c.in_err-replace.ensures.fault, c.in_err-replace.ensures.call, p.1 ∙ ap Err p.2)))))

pub returns-in_err-finish-clause-calls : goal.returns-in_err-finish-clause-calls
returns-in_err-finish-clause-calls g c =
    let free = way_there c.args.open.state c.args.step c.args.open.text.items _ c.args.open.at_rest c.requires.moves c.in_ok-start_known.ensures.free in
    let p = err_from_is_err_and c.from_residual-in_err-finish.result c.from_residual-in_err-finish.ensures.1 in
    let first = was_put_as g.D.Store.leads tt c.args.open.pair.journal.now _ _ c.args.store.now c.write_journal.new.store c.in_ok-start_known.ensures.ok c.in_ok-write_journal.ensures.calls in
    three_writes g.D.Store.leads c.from_residual-in_err-finish.result c.args.open.pair.file.now c.args.open.pair.journal.now c.args.open.state
    c.args.step c.args.open.text.items c.args.store.now c.replace.new.self c.args.new.now free c.requires.moves c.requires.changes
    (inr (inr (c.write_journal.new.store, first, inr (inr (c.replace.new.self, c.in_ok-replace.ensures.call, inl (fails c.from_residual-in_err-finish.result _ p.1, refl))))))

pub returns-in_err-write_journal-clause-leaves : goal.returns-in_err-write_journal-clause-leaves
returns-in_err-write_journal-clause-leaves g c = record {
  store = search rules;
  names = λ keeps. record { kept = search rules; others = λ q apart. (c.in_err-write_journal.ensures.leaves.names keeps).others q apart.1 };
}

pub returns-in_err-replace-clause-leaves : goal.returns-in_err-replace-clause-leaves
returns-in_err-replace-clause-leaves g c =
    let r = c.from_residual-in_err-replace.result in
    let p = err_from_is_err_and r c.from_residual-in_err-replace.ensures.1 in
    record {
      store = record {
        no_output = search rules;
        count = c.in_err-replace.ensures.count ∙ failed_write r _ _ (p.1 ∙ ap Err p.2) ∙ ap (failures_after r) c.in_ok-write_journal.ensures.leaves.store.count;
      };
      names = λ keeps. record {
        kept = search rules;
        others = λ q apart. c.in_err-replace.ensures.others keeps q apart.0 ∙ (c.in_ok-write_journal.ensures.leaves.names keeps).others q apart.1;
      };
    }

pub returns-in_err-finish-clause-leaves : goal.returns-in_err-finish-clause-leaves
returns-in_err-finish-clause-leaves g c = record {
  store = search rules;
  names = λ keeps. record {
    kept = search rules;
    others = λ q apart. c.in_ok-replace.ensures.others keeps q apart.0 ∙ (c.in_ok-write_journal.ensures.leaves.names keeps).others q apart.1;
  };
}
