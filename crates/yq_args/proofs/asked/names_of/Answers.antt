use Rattle.std.proofs.Common.{◌∙◌, ap, codes, inr, option_map, refl, sym}
use Rattle.clap.specs.Words.{first_of, rows_of, found_of}
use Rattle.yq_args.{specs.Asked.journal_name, proofs.AskedLaws.{dash_fails, same_fails}}
use Rattle.yq_args.proofs.asked.names_of.Goals as goal

pub returns-then-eq-clause-err : goal.returns-then-eq-clause-err
returns-then-eq-clause-err c = inr (refl, dash_fails _ _ c.in-Some.file.now (sym c.text_of.ensures ∙ ap (option_map (λ s. s.now)) c.in-Some.is) (sym c.eq.ensures ∙ c.if-eq.true))

pub returns-then-eq-2-clause-err : goal.returns-then-eq-2-clause-err
returns-then-eq-2-clause-err c =
    inr (
      refl,
      same_fails _ (first_of (codes "journal") (rows_of (found_of c.args.matches.now))) c.in-Some.file.now
          (sym c.text_of.ensures ∙ ap (option_map (λ s. s.now)) c.in-Some.is) c.as_str.result.now
          (c.as_str.ensures.value ∙ c.in_ok-journal.ensures ∙ ap (λ o. journal_name o c.in-Some.file.now) c.text_of-2.ensures)
          (sym c.eq-2.ensures ∙ c.if-eq-2.true),
    )
