use Rattle.std.{proofs.Common.{◌≡◌, true, false, refl, sym, ap, ◌∙◌, subst, true≢false}, proofs.lemmas.Bool.false≢true}
use Rattle.std.specs.String.{string_bytes}
use Rattle.yq_history.{specs.Effects.{listing_effect, move_effect, squash_effect}, specs.Report.{Report, report_by}}
use Rattle.yq_history.{specs.Steps.{listing_cause, move_cause, move_next, squash_cause, squash_next}, proofs.EffectLaws.on_ok}
use Rattle.yq_args.specs.declared.command.Command.TheVariants.{Eval}
use Rattle.yq_commands.{specs.Editing.program_in, proofs.ExpectingLaws.none_expected, specs.CommandDone.CarriesOut}
use Rattle.yq_commands.proofs.ExecuteLaws.{evaluate_arrives, evaluate_shows, pair_arrives, pair_names, pair_works, empty_shows}
use Rattle.yq_commands.proofs.ExecuteLaws.{update_edits, update_expects, update_shows, update_works, listing_lists, listing_shows}
use Rattle.yq_commands.{proofs.ExecuteLaws.update_lists, specs.CommandSteps.{update_cause, update_next}, proofs.OutcomeLaws.all_left}
use Rattle.yq_journal.specs.declared.moves.Move.TheVariants as move
use Rattle.yq_run.proofs.executing.execute.Goals as goal

pub returns-in-Undo-clause-done : goal.returns-in-Undo-clause-done
returns-in-Undo-clause-done g c = λ keeps.
    let content = g.D.Store.content in
    let e = c.move_file.ensures in
    let r = c.move_file.result in
    let f = c.pair_of.ensures.file_is in
    let j = c.pair_of.ensures.journal_is in
    subst (λ x. CarriesOut x (content c.args.store.now) (content c.move_file.new.store) r (report_by c.args.report.now)) (sym c.in-Undo.is) (record {
      arrives = pair_arrives _ _ _ _ f j _ _ r (move_cause move.Undo) (move_next move.Undo) (e.arrives keeps);
      effect = pair_works _ _ _ _ f j _ _ r (move_effect move.Undo) (e.effect keeps);
      output = λ file journal on h good. on_ok r (empty_shows _ _ c.requires.empty);
      listed = λ file journal on. on_ok r tt;
      edited = on_ok r tt;
      expected = λ file journal on. on_ok r (ap (λ (s : Report). s.is_match) c.requires.empty ∙ none_expected _);
      still = λ shown. absurd (false≢true shown);
      names = pair_names _ _ _ _ f j _ _ r (e.leaves.names keeps);
    })

pub returns-in-Redo-clause-done : goal.returns-in-Redo-clause-done
returns-in-Redo-clause-done g c = λ keeps.
    let content = g.D.Store.content in
    let e = c.move_file-in-Redo.ensures in
    let r = c.move_file-in-Redo.result in
    let f = c.pair_of-in-Redo.ensures.file_is in
    let j = c.pair_of-in-Redo.ensures.journal_is in
    subst (λ x. CarriesOut x (content c.args.store.now) (content c.move_file-in-Redo.new.store) r (report_by c.args.report.now)) (sym c.in-Redo.is) (record {
      arrives = pair_arrives _ _ _ _ f j _ _ r (move_cause move.Redo) (move_next move.Redo) (e.arrives keeps);
      effect = pair_works _ _ _ _ f j _ _ r (move_effect move.Redo) (e.effect keeps);
      output = λ file journal on h good. on_ok r (empty_shows _ _ c.requires.empty);
      listed = λ file journal on. on_ok r tt;
      edited = on_ok r tt;
      expected = λ file journal on. on_ok r (ap (λ (s : Report). s.is_match) c.requires.empty ∙ none_expected _);
      still = λ shown. absurd (false≢true shown);
      names = pair_names _ _ _ _ f j _ _ r (e.leaves.names keeps);
    })

pub returns-in-Squash-clause-done : goal.returns-in-Squash-clause-done
returns-in-Squash-clause-done g c = λ keeps.
    let content = g.D.Store.content in
    let e = c.squash.ensures in
    let r = c.squash.result in
    let f = c.pair_of-in-Squash.ensures.file_is in
    let j = c.pair_of-in-Squash.ensures.journal_is in
    subst (λ x. CarriesOut x (content c.args.store.now) (content c.squash.new.store) r (report_by c.args.report.now)) (sym c.in-Squash.is) (record {
      arrives = pair_arrives _ _ _ _ f j _ _ r (squash_cause c.in-Squash.n) (squash_next c.in-Squash.n) (e.arrives keeps);
      effect = pair_works _ _ _ _ f j _ _ r (squash_effect c.in-Squash.n) (e.effect keeps);
      output = λ file journal on h good. on_ok r (empty_shows _ _ c.requires.empty);
      listed = λ file journal on. on_ok r tt;
      edited = on_ok r tt;
      expected = λ file journal on. on_ok r (ap (λ (s : Report). s.is_match) c.requires.empty ∙ none_expected _);
      still = λ shown. absurd (false≢true shown);
      names = pair_names _ _ _ _ f j _ _ r (record { kept = (e.leaves.names keeps).kept; others = λ q apart. (e.leaves.names keeps).others q apart.1 });
    })

pub returns-in-History-clause-done : goal.returns-in-History-clause-done
returns-in-History-clause-done g c = λ keeps.
    let content = g.D.Store.content in
    let e = c.listing.ensures in
    let r = c.listing.result in
    let f = c.pair_of-in-History.ensures.file_is in
    let j = c.pair_of-in-History.ensures.journal_is in
    let diffs = c.in-History.diffs in
    let report = c.listing.new.report in
    subst (λ x. CarriesOut x (content c.args.store.now) (content c.listing.new.store) r (report_by report)) (sym c.in-History.is) (record {
      arrives = pair_arrives _ _ _ _ f j _ _ r listing_cause (λ h. h) (λ apart. e.arrives keeps);
      effect = pair_works _ _ _ _ f j _ _ r (listing_effect diffs) (λ apart. e.effect keeps);
      output = listing_shows _ _ _ _ f j _ r (report_by report) diffs (e.output keeps);
      listed = listing_lists _ _ _ _ f j _ r (string_bytes report.text) diffs (e.lines keeps);
      edited = on_ok r tt;
      expected = λ file journal on. on_ok r (e.matched ∙ none_expected _);
      still = λ shown. e.leaves.same keeps;
      names = all_left _ _ _ r (e.leaves.same keeps);
    })

pub returns-in-Help-clause-done : goal.returns-in-Help-clause-done
returns-in-Help-clause-done g c = λ keeps.
    let content = g.D.Store.content in
    subst (λ x. CarriesOut x (content c.args.store.now) (content c.args.store.now) c.help.result (report_by c.help.new.report)) (sym c.in-Help.is) (record {
      arrives = λ file journal apart on. absurd on;
      effect = λ file journal apart on. absurd on;
      output = λ file journal on. absurd on;
      listed = λ file journal on. absurd on;
      edited = on_ok c.help.result tt;
      expected = λ file journal on. absurd on;
      still = λ shown. refl;
      names = all_left _ _ _ c.help.result refl;
    })

pub returns-in-Eval-clause-done : goal.returns-in-Eval-clause-done
returns-in-Eval-clause-done g c = λ keeps.
    let content = g.D.Store.content in
    let e = c.evaluate.ensures in
    let r = c.evaluate.result in
    let a = c.in-Eval in
    let on : a.in_place ≡ false = cc (a.in_place-is, a.in_place-test) in
    let is = a.is ∙ ap (Eval a.words) on in
    let options = a.words.options in
    let d = e.done keeps in
    subst (λ x. CarriesOut x (content c.args.store.now) (content c.evaluate.new.store) r (report_by c.evaluate.new.report)) (sym is) (record {
      arrives = λ file journal apart. evaluate_arrives _ _ options _ _ r d.arrives file journal;
      effect = λ file journal apart on. tt;
      output = evaluate_shows _ _ options _ r _ d.output;
      listed = λ file journal on. on_ok r tt;
      edited = e.edited keeps;
      expected = λ file journal on. tt;
      still = λ shown. e.leaves.same keeps;
      names = all_left _ _ _ r (e.leaves.same keeps);
    })

pub returns-in-Eval-default-true-clause-done : goal.returns-in-Eval-default-true-clause-done
returns-in-Eval-default-true-clause-done g c = λ keeps.
    let content = g.D.Store.content in
    let r = c.update.result in
    let a = c.in-Eval-default-true in
    let x = string_bytes a.words.expr in
    let on : a.in_place ≡ true = cc (a.in_place-is, a.in_place-test) in
    let is = a.is ∙ ap (Eval a.words) on in
    let options = a.words.options in
    let d = c.update.ensures.done keeps in
    subst (λ x. CarriesOut x (content c.args.store.now) (content c.update.new.store) r (report_by c.update.new.report)) (sym is) (record {
      arrives = pair_arrives _ _ _ _ refl refl _ _ r (update_cause (program_in x)) (update_next x (program_in x)) d.arrives;
      effect = update_works _ _ x _ r _ d.effect;
      output = update_shows _ _ x _ r (report_by c.update.new.report) options d.output;
      listed = update_lists _ _ x _ r _ options.diff d.listed;
      edited = update_edits _ _ x _ r _ _ options.diff d.edited;
      expected = update_expects _ _ x _ r _ options.expect_change d.expected;
      still = λ shown. absurd (false≢true shown);
      names = d.names;
    })

pub update-requires : goal.update-requires
update-requires g c = record { empty = ap (λ (s : Report). s.printed) c.requires.empty }
