use Rattle.std.proofs.Common.{arith}
use Rattle.yq_core.proofs.TextChars.{run_in, run_stops}
use Rattle.yq_core.proofs.characters.past_text_bytes.Goals as goal

pub returns-clause-same : goal.returns-clause-same
returns-clause-same c = rw (c.split_at.ensures.back, c.run_len.ensures.value) (run_in c.args.text.now)

pub returns-clause-stops : goal.returns-clause-stops
returns-clause-stops c = rw (c.split_at.ensures.back, c.run_len.ensures.value) (run_stops c.args.text.now)

pub returns-clause-within : goal.returns-clause-within
returns-clause-within c = omega (arith, c.split_at.ensures.back_len)
