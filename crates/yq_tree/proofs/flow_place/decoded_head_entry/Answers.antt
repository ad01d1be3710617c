use Rattle.std.{proofs.Common.{arith, map, sym, ap, ◌∙◌}, proofs.lemmas.List.length-map}
use Rattle.yq_core.specs.Entries.{tree_step}
use Rattle.yq_documents.specs.Decoded.{decoded_head_flow}
use Rattle.yq_places.specs.EntryReading.{entry_within}
use Rattle.yq_tree.proofs.FlowEntries.{alias_within}
use Rattle.yq_tree.proofs.flow_place.decoded_head_entry.Goals as goal

pub returns-in-Alias : goal.returns-in-Alias
returns-in-Alias c =
    let steps = map tree_step c.args.steps.now in
    alias_within steps _ _ (omega (arith, c.requires.some, length-map c.args.steps.now tree_step)) ∙ ap (λ h. entry_within steps (decoded_head_flow h)) (sym c.in-Alias.is)
