use Rattle.std.{proofs.Common.{◌∙◌, sym}, proofs.lemmas.Bool.false≢true}
use Rattle.yq_edit_laws.proofs.EntryIndexes.{has_key_there}
use Rattle.yq_edit_laws.proofs.near.has_key.Goals as goal

pub returns-in-Some : goal.returns-in-Some
returns-in-Some c =
    λ is. has_key_there c.deref.result.now c.args.entries.now.items c.args.index c.in-Some.entry.now c.args.key.now c.as_str.result.now c.deref.ensures.value c.in-Some.ensures.lookup.0
    c.in-Some.ensures.lookup.1 c.as_str.ensures.value (sym c.eq.ensures ∙ is)

pub returns-in-None : goal.returns-in-None
returns-in-None c = λ is. absurd (false≢true is)
