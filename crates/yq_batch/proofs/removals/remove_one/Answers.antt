use Rattle.std.proofs.Common.{subst, ap}
use Rattle.yq_text.specs.TextGapBuffer.{buffer_text}
use Rattle.yq_semantics.specs.Operations.{Operation, operation_of}
use Rattle.yq_edit_laws.specs.Theorems.{IsFitting}
use Rattle.yq_batch.proofs.removals.remove_one.Goals as goal

pub remove_at-requires-clause-fits : goal.remove_at-requires-clause-fits
remove_at-requires-clause-fits c = subst (λ (o : Operation). IsFitting o (buffer_text c.args.run.now.text)) (ap operation_of c.in-Remove.is) c.requires.fits
