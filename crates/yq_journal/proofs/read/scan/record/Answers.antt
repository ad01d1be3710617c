use Rattle.std.{proofs.Common.{sym, ap, ◌∙◌, arith, true}, specs.String.string_bytes}
use Rattle.yq_text.specs.Splice.{lengths_done}
use Rattle.yq_journal.{specs.Json.{record_data, record_of}, specs.Record.{IsRecord, Record, is_length}, specs.Added.IsLeading}
use Rattle.yq_journal.proofs.FrontLaws.{front_adds, holds_written, is_record_if, leading_record}
use Rattle.yq_journal.proofs.read.scan.record.Goals as goal

pub invariant_of-record : goal.invariant_of-record
invariant_of-record c =
    let seen : Record = record { expr = string_bytes c.in-Some-2.expr; changes = c.in-Some-3.splices.items; before_len = c.in-Some.before_len; after_len = c.in-Some.after_len; count = c.in-Some.count } in
    let led = ap (λ cs. is_length (lengths_done cs seen.before_len) seen.after_len) (sym c.deref.ensures.value) ∙ sym c.leads.ensures ∙ c.if-not-leads.false in
    let valid : IsRecord seen = is_record_if seen (omega arith) led in
    let front : IsLeading record_data (record_of true) seen c.args.text.now c.in-Some-after-2.rest.now =
    leading_record seen c.args.text.now c.in-Some.rest.now c.in-Some-2.rest.now c.in-Some-after.rest.now c.in-Some-3.rest.now c.in-Some-after-2.rest.now
    c.in-Some.ensures.fits.0 c.in-Some.ensures.fits.1 c.in-Some.ensures.fits.2 valid
    c.in-Some.ensures.text (rw c.in-Some-2.is at c.in_ok-expr.ensures) c.in-Some-after.ensures (rw c.in-Some-3.is at c.in_ok-splices.ensures) c.in-Some-after-2.ensures in
    holds_written seen c.in_ok-written.written valid (front_adds record_data (record_of true) seen c.args.text.now c.in-Some-after-2.rest.now c.in_ok-written.written.items front c.in_ok-written.ensures)

pub returns : goal.returns
returns c =
    let seen : Record = record { expr = string_bytes c.in-Some-2.expr; changes = c.in-Some-3.splices.items; before_len = c.in-Some.before_len; after_len = c.in-Some.after_len; count = c.in-Some.count } in
    let led = ap (λ cs. is_length (lengths_done cs seen.before_len) seen.after_len) (sym c.deref.ensures.value) ∙ sym c.leads.ensures ∙ c.if-not-leads.false in
    leading_record seen c.args.text.now c.in-Some.rest.now c.in-Some-2.rest.now c.in-Some-after.rest.now c.in-Some-3.rest.now c.in-Some-after-2.rest.now
    c.in-Some.ensures.fits.0 c.in-Some.ensures.fits.1 c.in-Some.ensures.fits.2 (is_record_if seen (omega arith) led)
    c.in-Some.ensures.text (rw c.in-Some-2.is at c.in_ok-expr.ensures) c.in-Some-after.ensures (rw c.in-Some-3.is at c.in_ok-splices.ensures) c.in-Some-after-2.ensures
