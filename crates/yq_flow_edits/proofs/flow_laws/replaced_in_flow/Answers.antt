use Rattle.yq_flow_edits.{proofs.EditLaws.replaced, proofs.ValueEdits.{value_replaced, scalar_replaced}}
use Rattle.yq_flow_edits.proofs.flow_laws.replaced_in_flow.Goals as goal

pub returns : goal.returns
returns c = record {
  node = λ x m h fits. replaced x.coll x.step x.item m h.coll h.found fits;
  value = λ x v h fits. value_replaced x.coll x.step x.item v h.coll h.found fits.tree fits.room;
  scalar = λ x v style h w. scalar_replaced x.coll x.step x.item v style h.coll h.found w.valid w.line w.writable;
}
