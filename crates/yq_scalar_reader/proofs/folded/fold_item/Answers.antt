use Rattle.std.proofs.Common.{sym, ap, ◌∙◌, rules}
use Rattle.yq_core.{specs.ContentReading.is_pair, proofs.ItemLaws.{boundary_pair, content_pair, runs_on}}
use Rattle.yq_scalar_reader.proofs.folded.fold_item.Goals as goal

pub split_at-requires : goal.split_at-requires
split_at-requires c = boundary_pair c.args.quote c.args.text.now (ap (is_pair c.args.quote) (sym c.as_bytes-2.ensures.value) ∙ (sym c.is_pair.ensures ∙ c.if-is_pair.true)) c.utf8.text

pub returns-then-is_pair-clause-value : goal.returns-then-is_pair-clause-value
returns-then-is_pair-clause-value c = search (rules, content_pair)

pub returns-clause-value : goal.returns-clause-value
returns-clause-value c = c.split_run.ensures.value

pub returns-clause-within : goal.returns-clause-within
returns-clause-within c = c.split_run.ensures.within

pub returns-clause-shorter : goal.returns-clause-shorter
returns-clause-shorter c = search (rules, runs_on, c.split_run.ensures.shorter)
