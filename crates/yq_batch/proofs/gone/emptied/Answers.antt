use Rattle.std.proofs.Common.{ℕ, ◌+◌, ◌∙◌, ap, arith, refl}
use Rattle.yq_batch.proofs.gone.emptied.Goals as goal

pub returns : goal.returns
returns c = record {
  sole = c.requires.sole;
  alone = c.requires.alone;
  start = c.in_ok-start.ensures.1 ∙ ap (λ (k : ℕ). c.args.at.now.head.before + k) c.content_of.ensures;
  finish = omega (arith, c.in_ok-end.ensures.0, c.in_ok-end.ensures.1, c.len.ensures);
  new = c.in_ok-new.ensures;
  known = refl;
}
