use Rattle.yq_text.proofs.SpliceLaws.{done-from_exchanges, exchanges-from_done}
use Rattle.yq_text.proofs.splice.splice_exchanges.Goals as goal

pub returns : goal.returns
returns c = λ s b c. (exchanges-from_done s b c, done-from_exchanges s b c)
