use Rattle.std.{proofs.Common.{sym, ap, ◌∙◌}, specs.Prelude.option_map}
use Rattle.yq_documents.proofs.LentHeads.{unmade_row}
use Rattle.yq_documents.proofs.of_row.known_head.Goals as goal

pub borrowed_flow-requires : goal.borrowed_flow-requires
borrowed_flow-requires c = unmade_row c.requires (sym c.owned_head.ensures ∙ ap (option_map (λ h. h.now)) c.in-None.is)

pub returns-in-None : goal.returns-in-None
returns-in-None c = λ k r is. c.borrowed_flow.ensures (unmade_row k (sym c.owned_head.ensures ∙ ap (option_map (λ h. h.now)) c.in-None.is)) r is
