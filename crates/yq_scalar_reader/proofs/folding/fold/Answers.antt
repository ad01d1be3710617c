use Rattle.std.proofs.Common.{◌∙◌, sym, eqb-true}
use Rattle.yq_core.proofs.ItemLaws.{all_folded}
use Rattle.yq_scalar_reader.proofs.ContentRuns.{means_itself}
use Rattle.yq_scalar_reader.proofs.folding.fold.Goals as goal

pub returns-then-means_itself : goal.returns-then-means_itself
returns-then-means_itself c = c.in_ok-from_str.ensures.ok ∙ sym (means_itself c.args.quote c.args.text.now (eqb-true _ _ (sym (rw c.as_bytes.ensures.value at c.means_itself.ensures) ∙ c.if-means_itself.true)))

pub returns : goal.returns
returns c = all_folded c.args.quote c.each.joined _ c.each.rest.now _ (sym c.is_empty.ensures ∙ c.each-test.false) c.each.invariant.so_far
