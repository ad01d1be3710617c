use Rattle.std.{proofs.Common.{◌++◌, true, ap, ◌∙◌, subst}, specs.String.string_bytes}
use Rattle.json.specs.Print.{quoted}
use Rattle.yq_journal.{specs.Record.Record, specs.Added.{Adds, changes_data}, specs.Json.{record_data, record_of, splices_of}}
use Rattle.yq_journal.proofs.AddedLaws.{record_adds}
use Rattle.yq_journal.proofs.write.records.push_pieces.Goals as goal

pub returns : goal.returns
returns c =
    let p = c.patch.inside in
    let seen : Record = record { expr = string_bytes p.expr; changes = p.splices.items; before_len = p.before_len; after_len = p.after_len; count = p.count } in
    subst (λ r. Adds record_data (record_of true) r (string_bytes c.args.text.now) (string_bytes c.push_str-3.new.self)) c.patch.view_is
    (record_adds seen (string_bytes c.args.text.now) _ _ _ _ _ _ _ _ c.in_ok-push_number.ensures.fits c.in_ok-push_number-2.ensures.fits c.in_ok-push_number-3.ensures.fits c.patch.invariant.valid
    c.in_ok-push_number.ensures.added c.in_ok-push_number-2.ensures.added c.in_ok-push_number-3.ensures.added c.in_ok-push_str.ensures.bytes
    (c.in_ok-push_quoted.ensures ∙ ap (λ e. string_bytes c.push_str.new.self ++ quoted e) c.deref.ensures) c.in_ok-push_str-2.ensures.bytes
    (subst (λ cs. Adds changes_data splices_of cs (string_bytes c.push_str-2.new.self) (string_bytes c.push_splices.new.text)) c.deref-2.ensures.value c.in_ok-push_splices.ensures)
    c.in_ok-push_str-3.ensures.bytes)
