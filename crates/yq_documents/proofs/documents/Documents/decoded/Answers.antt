use Rattle.std.proofs.Common.{subst, sym, rules}
use Rattle.yq_documents.{specs.Decoded.Rise, proofs.HoldLaws.agrees_held}
use Rattle.yq_documents.proofs.documents.Documents.decoded.Goals as goal

pub decoded_at-requires : goal.decoded_at-requires
decoded_at-requires c = subst (Rise 0) (sym c.as_slice.ensures.value) c.self.invariant.rise

pub returns : goal.returns
returns c = search (rules, agrees_held)
