use Rattle.std.proofs.Common.{◌∙◌}
use Rattle.clap.{specs.Words.found_of, proofs.WalkLemmas.one_text-rows}
use Rattle.yq_args.proofs.asked.switch_of.Goals as goal

pub returns : goal.returns
returns c = (
  λ on. c.get_flag.ensures.value (one_text-rows (found_of c.args.matches.now) c.args.id.now ∙ on),
  λ off. c.get_flag.ensures.other (one_text-rows (found_of c.args.matches.now) c.args.id.now ∙ off),
)
