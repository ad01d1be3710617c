use Rattle.std.{proofs.Common.{◌≡◌, ◌++◌, Ok, Some, true, ap, ◌∙◌, subst}, specs.String.string_bytes}
use Rattle.base64.{specs.Engines.standard, specs.GeneralPurpose.{decode_of, encode_of}}
use Rattle.json.specs.Print.{escape}
use Rattle.yq_journal.{specs.Added.Adds, specs.Json.{pending_data, pending_of}, specs.State.Pending, proofs.AddedLaws.open_adds}
use Rattle.yq_journal.proofs.write.push_open.Goals as goal

pub returns : goal.returns
returns c =
    let seen : Pending = record { step = c.open.inside.step; from = c.open.inside.from.items } in
    subst (λ p. Adds pending_data (pending_of true) (Some p) (string_bytes c.args.text.now) (string_bytes c.push_str-5.new.self)) c.open.view_is
    (open_adds seen (string_bytes c.args.text.now) _ _ _ _ _ _ _
    (subst (λ b. decode_of standard (encode_of standard b) ≡ Ok b) c.deref.ensures.value c.in_ok-push_base64.ensures.reads_back)
    c.in_ok-push_str.ensures.bytes
    (c.in_ok-push_base64.ensures.added ∙ ap (λ b. string_bytes c.push_str.new.self ++ escape (encode_of standard b)) c.deref.ensures.value)
    c.in_ok-push_str-2.ensures.bytes (c.in_ok-push_str-3.ensures.bytes ∙ ap (λ k. string_bytes c.push_str-2.new.self ++ k) c.kind.ensures)
    c.in_ok-push_str-4.ensures.bytes c.in_ok-push_move.ensures c.in_ok-push_str-5.ensures.bytes)
