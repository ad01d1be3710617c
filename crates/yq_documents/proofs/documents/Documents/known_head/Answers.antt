use Rattle.std.proofs.Common.{ap, ◌∙◌, subst, sym, rules}
use Rattle.yq_documents.{specs.Decoded.{Rise, decoded_at}, proofs.HoldLaws.{head_held, known_held}}
use Rattle.yq_documents.proofs.documents.Documents.known_head.Goals as goal

pub decoded_at-decoded-requires : goal.decoded_at-decoded-requires
decoded_at-decoded-requires c = subst (Rise 0) (sym c.as_slice.ensures.value) c.self.invariant.rise

pub known_head-requires : goal.known_head-requires
known_head-requires c = search (rules, known_held)

pub returns : goal.returns
returns c = head_held c.self.invariant c.self.view_is _ c.args.i (c.decoded_at-decoded.ensures ∙ ap (decoded_at c.args.i) c.as_slice.ensures.value) _ (λ k r is. c.known_head.ensures k r is)
