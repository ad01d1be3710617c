use Rattle.std.proofs.Common.{◌∙◌, Bor, List, ℕ, ap, is_some}
use Rattle.yq_args.proofs.AskedLaws.{is_some_mapped}
use Rattle.yq_args.proofs.asked.has_journal.Goals as goal

pub returns : goal.returns
returns c = c.is_some.ensures ∙ is_some_mapped (λ (s : Bor (List ℕ)). s.now) c.text_of.result ∙ ap is_some c.text_of.ensures
