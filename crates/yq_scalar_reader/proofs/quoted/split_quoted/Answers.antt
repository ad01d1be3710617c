use Rattle.yq_core.proofs.QuotedFound.{quoted_text}
use Rattle.yq_scalar_reader.proofs.quoted.split_quoted.Goals as goal

pub returns-in-Some-clause-found : goal.returns-in-Some-clause-found
returns-in-Some-clause-found c = quoted_text c.args.text.now _ _ c.in-Some.ensures
