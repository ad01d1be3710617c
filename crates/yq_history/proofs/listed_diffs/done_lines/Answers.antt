use Rattle.std.proofs.Common.{◌≡◌, ◌++◌, ◌+◌, ◌-◌, ℕ, arith, ap, ◌∙◌, nat_lt, string_bytes, rules}
use Rattle.yq_journal.specs.Record.{Record}
use Rattle.yq_history.{specs.Listing.edit_line, proofs.ListedLaws.done_more}
use Rattle.yq_history.proofs.listed_diffs.done_lines.Goals as goal

pub record-record-requires : goal.record-record-requires
record-record-requires c = omega (arith, c.records.invariant.there, c.records-test.true)

pub records-preserved : goal.records-preserved
records-preserved c =
    let old = c.records.invariant in
    let s = c.args.state.now in
    let r = c.record-record.result.now in
    let place : ℕ = c.records.left - 1 in
    let expr : c.deref.result.now ≡ r.expr = c.deref.ensures ∙ ap (λ (p : Record). p.expr) c.record.view_is in
    let line : string_bytes c.in_ok-line.line ≡ edit_line (place + 1) (nat_lt place s.at) r.expr ++ string_bytes c.in_ok-change.change = search rules in
    let more = done_more c.args.file.now s.at c.records.left s.records r c.args.text.now _ _ c.records.lines.items c.push.new.self.items
    c.in_ok-line.line _ c.in_ok-push.ensures.items (omega (arith, c.records-test.true)) old.within c.record-record.ensures old.near old.printed
    c.in_ok-change.ensures.old c.in_ok-change.ensures.change line in
    record { within = omega (arith, old.within); there = omega (arith, old.there); near = more.0; printed = more.1 }
