use Rattle.std.proofs.Common.{Some, sym, ap, ◌∙◌, rules}
use Rattle.yq_text.specs.Splice.{lengths_done}
use Rattle.yq_journal.proofs.MatchingLaws.{ends_alike, lengths_flip}
use Rattle.yq_journal.proofs.applies.stands_after.Goals as goal

pub may_take_back-requires : goal.may_take_back-requires
may_take_back-requires c = ap (λ l. lengths_done l c.patch.inside.before_len) c.deref.ensures.value ∙ c.patch.invariant.valid.lengths ∙ ap Some (sym c.if-text-patch.true)

pub returns-then-text-patch : goal.returns-then-text-patch
returns-then-text-patch c = search (rules, lengths_flip, ends_alike)
