use Rattle.std.proofs.Common.{◌∙◌}
use Rattle.yq_core.proofs.RunLaws.{spaces_run}
use Rattle.yq_core.proofs.text.spaces_len.Goals as goal

pub returns-clause-value : goal.returns-clause-value
returns-clause-value c = c.run_len.ensures.value ∙ spaces_run c.args.text.now
