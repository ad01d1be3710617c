use Rattle.yq_core.proofs.PlainContentLaws.{plain_lines_of, plain_content_is}
use Rattle.yq_scalar.proofs.quoted_laws.plain_folds.Goals as goal

pub returns : goal.returns
returns c = record { lines = plain_lines_of; content = plain_content_is }
