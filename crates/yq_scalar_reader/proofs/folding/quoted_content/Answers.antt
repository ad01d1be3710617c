use Rattle.std.proofs.Common.{◌∙◌, string_bytes}
use Rattle.yq_core.proofs.ContentLaws.{if_ok_same, quoted_content_is}
use Rattle.yq_scalar_reader.proofs.folding.quoted_content.Goals as goal

pub returns-clause-exact : goal.returns-clause-exact
returns-clause-exact c = if_ok_same c.fold.result (λ s. string_bytes s) _ _ c.fold.ensures c.inside-quote.ensures

pub returns-clause-found : goal.returns-clause-found
returns-clause-found c = λ quote ls rest is. if_ok_same c.fold.result (λ s. string_bytes s) _ _ c.fold.ensures (c.inside-quote.ensures ∙ quoted_content_is quote ls c.args.piece.now rest is)
