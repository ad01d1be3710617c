use Rattle.yq_text.proofs.SpliceLaws.{taken_back, done_again}
use Rattle.yq_text.proofs.splice.splices_invert.Goals as goal

pub returns : goal.returns
returns c = λ ss b c. (taken_back ss b c, done_again ss b c)
