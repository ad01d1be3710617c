use Rattle.std.proofs.Common.{sym, ◌∙◌}
use Rattle.yq_inline.proofs.borrowed.split_borrowed_key.Goals as goal

pub returns-clause-short : goal.returns-clause-short
returns-clause-short c = record {
  read = c.in-Ok.ensures.read;
  quoted = c.in-Ok.ensures.quoted;
  borrows = sym c.borrows_text.ensures ∙ c.if-not-borrows_text.false;
}
