use Rattle.std.proofs.Common.{None, rules, sym, ap, ◌∙◌, arith}
use Rattle.yq_core.proofs.Bounds.{boundary_first}
use Rattle.yq_row_table.specs.Reading.{is_colon}
use Rattle.yq_rows.{proofs.QuotedFronts.quoted_outside, proofs.WordRows.{colon_with, scalar_keyed}}
use Rattle.yq_rows.proofs.word_keys.quoted_key.Goals as goal

pub split_at-requires : goal.split_at-requires
split_at-requires c = boundary_first c.in_ok-key.rest.now 58 (omega arith) (colon_with c.in_ok-key.rest.now (ap is_colon (sym c.as_bytes.ensures.value) ∙ (sym c.is_colon.ensures ∙ c.if-not-is_colon.false))) (search rules)

pub returns : goal.returns
returns c =
    scalar_keyed c.args.text.now _ _ _ _ (quoted_outside None c.args.text.now _ _ c.requires c.in_ok-key.ensures.short)
    (ap is_colon (sym c.as_bytes.ensures.value) ∙ (sym c.is_colon.ensures ∙ c.if-not-is_colon.false))
    c.split_at.ensures.front c.split_at.ensures.back (sym c.has_key_room.ensures ∙ c.if-not-has_key_room.false)
