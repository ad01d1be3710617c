use Rattle.std.proofs.Common.{rules, ◌≡◌, ◌≤◌, ◌+◌, ◌++◌, arith, ap, ◌∙◌, length, nat_lt, string_bytes}
use Rattle.yq_journal.specs.Record.{Record}
use Rattle.yq_history.{specs.Listing.edit_line, proofs.ListedLaws.{undone_end, undone_init, undone_more}}
use Rattle.yq_history.proofs.listed_diffs.lines_with_diffs.Goals as goal

pub records-init : goal.records-init
records-init c = search (rules, undone_init)

pub records-preserved : goal.records-preserved
records-preserved c =
    let old = c.records.invariant in
    let s = c.args.state.now in
    let i = c.records.i in
    let r = c.record-record.result.now in
    let expr : c.deref-in-records.result.now ≡ r.expr = c.deref-in-records.ensures ∙ ap (λ (p : Record). p.expr) c.record.view_is in
    let line : string_bytes c.in_ok-line.line ≡ edit_line (i + 1) (nat_lt i s.at) r.expr ++ string_bytes c.in_ok-change.change = search rules in
    let pushed : string_bytes c.push_str.new.self ≡ string_bytes c.records.lines ++ string_bytes c.in_ok-line.line = search rules in
    let more = undone_more c.args.file.now s.at i s.records r c.args.text.items _ _ (string_bytes c.records.lines) (string_bytes c.push_str.new.self)
    (string_bytes c.in_ok-line.line) _ pushed old.begun c.record-record.ensures old.near old.printed
    c.in_ok-change.ensures.new c.in_ok-change.ensures.change line in
    record { begun = omega (arith, old.begun); near = more.0; printed = more.1 }

pub returns : goal.returns
returns c =
    let all : length c.args.state.now.records ≤ c.records.i = omega (arith, c.len-i-end.ensures, c.records-test.false) in
    undone_end c.args.file.now c.args.state.now.at c.records.i c.args.state.now.records c.args.text.items (string_bytes c.records.lines) c.records.invariant.begun all c.records.invariant.printed
