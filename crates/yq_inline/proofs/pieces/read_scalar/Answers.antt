use Rattle.std.proofs.Common.{Some, sym, ap, ◌∙◌}
use Rattle.yq_core.{specs.Plain.begins_plain, specs.Scalars.is_quoted}
use Rattle.yq_inline.proofs.ScalarSteps.{no_scalar, plain_scalar, quoted_scalar, reads_same}
use Rattle.yq_inline.proofs.pieces.read_scalar.Goals as goal

pub returns-then-is_quoted-clause-read : goal.returns-then-is_quoted-clause-read
returns-then-is_quoted-clause-read c =
    reads_same _ c.read_quoted.result _ _ (quoted_scalar c.args.flow c.args.spaces c.args.text.now (sym (c.if-is_quoted.ensures ∙ ap is_quoted c.as_bytes.ensures.value)))
    c.read_quoted.ensures.read

pub returns-then-not-begins_plain-clause-read : goal.returns-then-not-begins_plain-clause-read
returns-then-not-begins_plain-clause-read c =
    no_scalar c.args.flow c.args.spaces c.args.text.now (sym (c.if-is_quoted.ensures ∙ ap is_quoted c.as_bytes.ensures.value))
    (ap (begins_plain c.args.flow) (sym c.as_bytes-2.ensures.value) ∙ (sym c.begins_plain.ensures ∙ c.if-not-begins_plain.true))

pub returns-clause-read : goal.returns-clause-read
returns-clause-read c =
    plain_scalar c.args.flow c.args.spaces c.args.text.now (sym (c.if-is_quoted.ensures ∙ ap is_quoted c.as_bytes.ensures.value))
    (ap (begins_plain c.args.flow) (sym c.as_bytes-2.ensures.value) ∙ (sym c.begins_plain.ensures ∙ c.if-not-begins_plain.false))
    ∙ ap Some (sym c.split_plain.ensures)
