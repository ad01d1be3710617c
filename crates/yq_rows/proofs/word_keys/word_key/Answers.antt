use Rattle.std.proofs.Common.{false, None, drop, rules, sym, ap, ◌∙◌, arith}
use Rattle.yq_core.{proofs.Bounds.boundary_first, proofs.PlainLaws.boundary_plain}
use Rattle.yq_row_table.specs.Reading.{is_colon}
use Rattle.yq_rows.proofs.WordRows.{colon_with, word_ends, word_keyed}
use Rattle.yq_rows.proofs.word_keys.word_key.Goals as goal

pub split_at-requires-2 : goal.split_at-requires-2
split_at-requires-2 c =
    let back = c.split_at.ensures.back ∙ ap (drop c.args.n) c.as_bytes.ensures.value in
    boundary_plain false None c.args.text.now c.args.n (word_ends c.args.text.now c.split_at.result.1.now c.args.n c.requires.run back (sym c.is_colon.ensures ∙ c.if-not-is_colon.false))

pub split_at-requires-3 : goal.split_at-requires-3
split_at-requires-3 c =
    let back = c.split_at.ensures.back ∙ ap (drop c.args.n) c.as_bytes.ensures.value in
    let colon = ap is_colon (c.split_at-2.ensures.back ∙ sym back) ∙ (sym c.is_colon.ensures ∙ c.if-not-is_colon.false) in
    boundary_first c.split_at-2.result.1.now 58 (omega arith) (colon_with c.split_at-2.result.1.now colon) (search rules)

pub returns : goal.returns
returns c =
    let back = c.split_at.ensures.back ∙ ap (drop c.args.n) c.as_bytes.ensures.value in
    let is = sym c.is_colon.ensures ∙ c.if-not-is_colon.false in
    word_keyed c.args.text.now c.split_at-2.result.0.now c.split_at-2.result.1.now c.split_at-3.result.0.now c.split_at-3.result.1.now c.args.n c.requires.word
    (word_ends c.args.text.now c.split_at.result.1.now c.args.n c.requires.run back is) c.split_at-2.ensures.front c.split_at-2.ensures.back (ap is_colon (c.split_at-2.ensures.back ∙ sym back) ∙ is)
    c.split_at-3.ensures.front c.split_at-3.ensures.back (sym c.has_key_room.ensures ∙ c.if-not-has_key_room.false)
