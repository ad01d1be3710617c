use Rattle.std.proofs.Common.{sym, ap, ◌∙◌}
use Rattle.yq_journal.{specs.State.state, specs.Json.is_sound_journal, proofs.JsonLaws.IsSound-from_is_sound}
use Rattle.yq_journal.proofs.read.journal_with.Goals as goal

pub invariant_of-result : goal.invariant_of-result
invariant_of-result c =
    IsSound-from_is_sound (state c.in-Some-2.records.items c.in-Some-Some-Some.at c.in-Some.open)
    (ap (λ rs. is_sound_journal (state rs c.in-Some-Some-Some.at c.in-Some.open)) (sym c.deref.ensures.value) ∙ sym c.in_ok-is_sound.ensures ∙ c.if-not-branch.false)
