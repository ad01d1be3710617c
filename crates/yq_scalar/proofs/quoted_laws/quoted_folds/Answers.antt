use Rattle.yq_core.proofs.ContentLaws.{quoted_content_is}
use Rattle.yq_scalar.proofs.quoted_laws.quoted_folds.Goals as goal

pub returns : goal.returns
returns c = quoted_content_is
