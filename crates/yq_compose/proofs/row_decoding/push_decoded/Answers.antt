use Rattle.std.proofs.Common.{◌++◌, Option, sym, ap, ◌∙◌}
use Rattle.yq_compose.specs.Decoding.{list_of_option}
use Rattle.yq_documents.specs.declared.decoded.Decoded.{Decoded}
use Rattle.yq_compose.proofs.row_decoding.push_decoded.Goals as goal

pub returns-in_ok-push-in-Some : goal.returns-in_ok-push-in-Some
returns-in_ok-push-in-Some c = c.in_ok-push-in-Some.ensures.items ∙ ap (λ (r : Option Decoded). c.args.decoded.now.items ++ list_of_option r) (sym c.in-Some.is)
