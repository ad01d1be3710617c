use Rattle.yq_scalar.proofs.Pushes.{letter_written, on_added, on_pushed, on_same}
use Rattle.yq_core.specs.Written.{in_double}
use Rattle.std.proofs.Common.{◌++◌, encode_utf8, string_bytes, sym, ◌∙◌}
use Rattle.yq_scalar.proofs.write.push_double.Goals as goal

pub returns-in_ok-push-in-Some : goal.returns-in_ok-push-in-Some
returns-in_ok-push-in-Some c =
    let r = c.push-in-Some.result in
    let out = string_bytes c.args.out.now in
    let now = string_bytes c.push-in-Some.new.self in
    on_same r out now (encode_utf8 92 ++ encode_utf8 c.in-Some.letter) (in_double c.args.c)
    (letter_written c.args.c c.in-Some.letter (sym c.letter_of.ensures ∙ c.in-Some.is))
    (on_added r out (string_bytes c.push.new.self) now (encode_utf8 92) (encode_utf8 c.in-Some.letter) c.in_ok-push-in-Some.ensures.bytes
    (on_pushed r (string_bytes c.push.new.self) now (encode_utf8 c.in-Some.letter) c.push-in-Some.ensures.bytes))
