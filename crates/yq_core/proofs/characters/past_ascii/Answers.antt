use Rattle.yq_core.proofs.TextChars.{ascii_in, ascii_returns}
use Rattle.yq_core.proofs.characters.past_ascii.Goals as goal

pub returns-clause-chars : goal.returns-clause-chars
returns-clause-chars c = rw c.split_at.ensures.back (ascii_in _ c.args.text.now c.ascii_len.ensures.value)

pub returns-clause-returns : goal.returns-clause-returns
returns-clause-returns c = rw c.split_at.ensures.back (ascii_returns _ c.args.text.now c.ascii_len.ensures.value)
