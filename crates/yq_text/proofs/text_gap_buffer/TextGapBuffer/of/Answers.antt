use Rattle.std.{proofs.Common.rules, proofs.lemmas.Str.IsUtf8-string_bytes}
use Rattle.yq_text.proofs.SplitLaws.{all_front}
use Rattle.yq_text.proofs.text_gap_buffer.TextGapBuffer.of.Goals as goal

pub invariant_of-result : goal.invariant_of-result
invariant_of-result c = all_front _ _ (search rules)
    (rw c.into_bytes-bytes.ensures.value (IsUtf8-string_bytes c.args.text))
