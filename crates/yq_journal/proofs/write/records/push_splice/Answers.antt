use Rattle.std.{proofs.Common.{◌≡◌, ◌++◌, Ok, ap, ◌∙◌, subst}, specs.String.string_bytes}
use Rattle.base64.{specs.Engines.standard, specs.GeneralPurpose.{decode_of, encode_of}}
use Rattle.json.specs.Print.{escape}
use Rattle.yq_text.specs.Splice.{Splice}
use Rattle.yq_journal.{specs.Added.Adds, specs.Json.{change_data, splice_of}, proofs.AddedLaws.splice_adds}
use Rattle.yq_journal.proofs.write.records.push_splice.Goals as goal

pub returns : goal.returns
returns c =
    let seen : Splice = record { at = c.splice.inside.at; old = c.splice.inside.old.items; new = c.splice.inside.new.items } in
    subst (λ s. Adds change_data splice_of s (string_bytes c.args.text.now) (string_bytes c.push_str-3.new.self)) c.splice.view_is
    (splice_adds seen (string_bytes c.args.text.now) _ _ _ _ _ _ c.in_ok-push_number.ensures.fits
    (subst (λ b. decode_of standard (encode_of standard b) ≡ Ok b) c.deref.ensures.value c.in_ok-push_base64.ensures.reads_back)
    (subst (λ b. decode_of standard (encode_of standard b) ≡ Ok b) c.deref-2.ensures.value c.in_ok-push_base64-2.ensures.reads_back)
    c.in_ok-push_number.ensures.added c.in_ok-push_str.ensures.bytes
    (c.in_ok-push_base64.ensures.added ∙ ap (λ b. string_bytes c.push_str.new.self ++ escape (encode_of standard b)) c.deref.ensures.value)
    c.in_ok-push_str-2.ensures.bytes
    (c.in_ok-push_base64-2.ensures.added ∙ ap (λ b. string_bytes c.push_str-2.new.self ++ escape (encode_of standard b)) c.deref-2.ensures.value)
    c.in_ok-push_str-3.ensures.bytes)
