use Rattle.std.proofs.Common.{◌≡◌, true, sym, ap, ◌∙◌}
use Rattle.yq_row_table.specs.Reading.{is_colon}
use Rattle.yq_rows.proofs.Colons.{colon_boundary, colon_found}
use Rattle.yq_rows.proofs.marks.find_colon.Goals as goal

pub split_at-requires : goal.split_at-requires
split_at-requires c =
    let colon : is_colon c.split_white.result.1.now ≡ true = ap is_colon (sym c.as_bytes.ensures.value) ∙ (sym c.is_colon.ensures ∙ c.if-not-is_colon.false) in
    colon_boundary c.args.text.now c.split_white.result.0.now c.split_white.result.1.now c.split_white.ensures colon c.utf8.text

pub returns : goal.returns
returns c =
    let colon : is_colon c.split_white.result.1.now ≡ true = ap is_colon (sym c.as_bytes.ensures.value) ∙ (sym c.is_colon.ensures ∙ c.if-not-is_colon.false) in
    colon_found c.args.text.now c.split_white.result.0.now c.split_white.result.1.now _ _ c.split_white.ensures colon c.split_at.ensures.front c.split_at.ensures.back
