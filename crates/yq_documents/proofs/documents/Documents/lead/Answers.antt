use Rattle.std.{proofs.Common.{refl, ◌∙◌, arith}, proofs.lemmas.Option.slice_get_read}
use Rattle.yq_documents.proofs.HoldLaws.{count_held, lead_held}
use Rattle.yq_documents.proofs.documents.Documents.lead.Goals as goal

pub returns : goal.returns
returns c = λ d at.
    let there = slice_get_read c.self.inside.documents.items _ c.args.i c.index.result.now refl (omega (arith, c.requires, count_held c.self.invariant c.self.view_is)) c.index.ensures in
    c.of.ensures ∙ lead_held c.self.invariant c.self.view_is c.args.i c.index.result.now there d at
