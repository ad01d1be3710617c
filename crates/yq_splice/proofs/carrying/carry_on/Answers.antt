use Rattle.yq_splice.proofs.SessionLaws.{reading_cut}
use Rattle.yq_splice.proofs.carrying.carry_on.Goals as goal

pub cut_again-requires : goal.cut_again-requires
cut_again-requires c = (c.requires.0, c.requires.1.read)

pub carry_rows-requires-clause-read : goal.carry_rows-requires-clause-read
carry_rows-requires-clause-read c = reading_cut c.args.text.now (c.requires.0, c.requires.1.read)
