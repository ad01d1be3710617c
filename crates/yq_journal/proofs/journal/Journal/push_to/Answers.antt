use Rattle.std.{proofs.Common.{true, subst}, specs.String.string_bytes}
use Rattle.yq_journal.{specs.Added.{Adds, records_data}, specs.Json.{journal_data, journal_of, records_of}, specs.State.{State, state}}
use Rattle.yq_journal.proofs.AddedLaws.{journal_adds}
use Rattle.yq_journal.proofs.journal.Journal.push_to.Goals as goal

pub returns : goal.returns
returns c =
    let seen : State = state c.self.inside.records.items c.self.inside.at c.self.inside.open in
    subst (λ s. Adds journal_data journal_of s (string_bytes c.args.text.now) (string_bytes c.push_str-3.new.self)) c.self.view_is
    (journal_adds seen (string_bytes c.args.text.now) _ _ _ _ _ _ c.self.invariant c.in_ok-push_number.ensures.fits c.in_ok-push_number.ensures.added c.in_ok-push_str.ensures.bytes
    c.in_ok-push_pending.ensures c.in_ok-push_str-2.ensures.bytes
    (subst (λ rs. Adds records_data (records_of true) rs (string_bytes c.push_str-2.new.self) (string_bytes c.push_records.new.text)) c.deref.ensures.value c.in_ok-push_records.ensures)
    c.in_ok-push_str-3.ensures.bytes)
