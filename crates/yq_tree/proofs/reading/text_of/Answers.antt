use Rattle.std.{proofs.Common.{subst, ◌∙◌}, proofs.lemmas.Bool.false_from_ne_true}
use Rattle.std.{proofs.lemmas.Str.{is_utf8-from_IsUtf8, IsUtf8-from_is_utf8}, specs.Str.is_utf8}
use Rattle.yq_core.specs.FaultPlace.{IsFaultAt}
use Rattle.yq_tree.proofs.reading.text_of.Goals as goal

pub returns-in-Ok-clause-utf8 : goal.returns-in-Ok-clause-utf8
returns-in-Ok-clause-utf8 c = (is_utf8-from_IsUtf8 c.args.bytes.now c.in-Ok.ensures.cases.1, c.in-Ok.ensures.cases.0)

pub returns-in-Err-clause-utf8 : goal.returns-in-Err-clause-utf8
returns-in-Err-clause-utf8 c =
    (false_from_ne_true (is_utf8 c.args.bytes.now) (λ e. c.in-Err.ensures.cases.0 (IsUtf8-from_is_utf8 c.args.bytes.now e)), c.fault_at.ensures.kind)

pub returns-in-Err-clause-place : goal.returns-in-Err-clause-place
returns-in-Err-clause-place c =
    subst (λ n. IsFaultAt c.args.bytes.now n c.fault_at.result) (c.valid_up_to-at.ensures ∙ c.in-Err.ensures.valid_len) c.fault_at.ensures.place
