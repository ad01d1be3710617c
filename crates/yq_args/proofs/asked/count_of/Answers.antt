use Rattle.std.{proofs.Common.{◌∙◌, arith}, proofs.lemmas.Bool.Decides.nat_tests}
use Rattle.yq_args.proofs.Counts.{count_parsed, no_count}
use Rattle.yq_args.proofs.asked.count_of.Goals as goal

pub returns-then-starts_with : goal.returns-then-starts_with
returns-then-starts_with c = no_count c.args.text.now (let is = c.starts_with.ensures.byte (omega arith) (omega arith) (λ _ _ h. h) in grind (arith, nat_tests, c.if-starts_with.true))

pub returns : goal.returns
returns c = c.ok.ensures.value ∙ count_parsed c.args.text.now c.parse.result c.parse.ensures.value.0 (λ plus. let is = c.starts_with.ensures.byte (omega arith) (omega arith) (λ _ _ h. h) in grind (arith, nat_tests, c.if-starts_with.false))
