use Rattle.std.proofs.Common.{refl, sym}
use Rattle.yq_rows.proofs.word_rows.further_len.Goals as goal

pub returns-then-ends_scalar : goal.returns-then-ends_scalar
returns-then-ends_scalar c = sym (c.if-ends_scalar.ensures refl)
