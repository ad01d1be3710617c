use Rattle.std.proofs.Common.{string_bytes}
use Rattle.yq_core.{proofs.ContentLaws.if_ok_same, proofs.PlainContentLaws.plain_content_is}
use Rattle.yq_scalar_reader.proofs.folding.plain_content.Goals as goal

pub returns-clause-found : goal.returns-clause-found
returns-clause-found c = λ ls is. if_ok_same c.fold.result (λ s. string_bytes s) _ _ c.fold.ensures (plain_content_is ls c.args.text.now is)
