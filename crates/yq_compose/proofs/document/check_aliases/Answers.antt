use Rattle.std.proofs.Common.{[], is_none, sym, ap, ◌∙◌}
use Rattle.yq_outline.{specs.LinesReading.are_bound, specs.Names.line_names, proofs.AliasLaws.bound_alone, specs.Lines.lines_of_rows}
use Rattle.yq_compose.{specs.Named.all_named, proofs.NoReferenceLaws.ready_refers_not}
use Rattle.yq_compose.proofs.document.check_aliases.Goals as goal

pub returns-then-not-refers-clause-sound : goal.returns-then-not-refers-clause-sound
returns-then-not-refers-clause-sound c = λ k.
    bound_alone [] (line_names (lines_of_rows k.document.rows)) (ready_refers_not c.args.x.text.now c.args.x.rows.now c.args.x.decoded.now c.args.x.document k (c.requires.refers c.if-not-refers.true))

pub returns-in-Some-clause-sound : goal.returns-in-Some-clause-sound
returns-in-Some-clause-sound c = λ k.
    sym (ap is_none (sym c.in-Some.is) ∙ (c.in_ok-byte.ensures ∙ (ap (λ ns. are_bound [] (all_named ns)) c.deref.ensures.value ∙ ap (are_bound []) (c.in_ok-names.ensures k))))

pub returns-clause-sound : goal.returns-clause-sound
returns-clause-sound c = λ k.
    sym (ap is_none (sym c.in-None.is) ∙ (c.in_ok-byte.ensures ∙ (ap (λ ns. are_bound [] (all_named ns)) c.deref.ensures.value ∙ ap (are_bound []) (c.in_ok-names.ensures k))))
