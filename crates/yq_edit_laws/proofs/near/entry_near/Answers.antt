use Rattle.yq_core.specs.Entries.{tree_step}
use Rattle.yq_edit_laws.proofs.EntryIndexes.{entry_leads}
use Rattle.yq_edit_laws.proofs.near.entry_near.Goals as goal

pub returns : goal.returns
returns c =
    entry_leads (tree_step c.args.step.now) c.deref.result.now c.args.entries.now.items c.in-Some.index c.in-Some-get.entry.now c.as_str.result.now c.deref.ensures.value
    c.in-Some-get.ensures.lookup.0 c.in-Some-get.ensures.lookup.1 c.as_str.ensures.value c.in-Some.ensures
