use Rattle.std.proofs.Common.{◌∙◌, ap, map, option_map}
use Rattle.clap.specs.Words.{subcommand_of}
use Rattle.yq_args.{specs.Line.yq, proofs.AskedLaws.named_in_rows}
use Rattle.yq_args.proofs.words.names_journal.Goals as goal

pub returns-in-Some : goal.returns-in-Some
returns-in-Some c =
    let words = ap (map (λ w. w.now)) c.deref.ensures.value ∙ c.in_ok-full.ensures in
    c.has_journal.ensures ∙ named_in_rows _ _ (c.in-Some.ensures.rows ∙ ap (option_map (λ p. p.1)) (c.in-Ok.ensures.ok ∙ ap (subcommand_of yq) words))
