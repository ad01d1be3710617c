use Rattle.yq_text.proofs.DraftLaws.{in_halves}
use Rattle.yq_text.proofs.draft.push_gone.Goals as goal

pub returns : goal.returns
returns c = in_halves _ _ _ _ _ _ _ _ c.in_ok-push_bytes.ensures c.as_bytes.ensures.value c.as_bytes-2.ensures.value c.push_bytes-2.ensures
