use Rattle.std.{proofs.Common.{Some, None, arith, false, sym, ap, ◌∙◌, subst, w64}, proofs.lemmas.Int.to_z-of_z}
use Rattle.yq_core.{specs.Answers.Gives, specs.Runs.is_word_byte, specs.Text.front, specs.Scalars.begins_scalar}
use Rattle.yq_row_table.{specs.Slicing.begins_other, proofs.MarkAgain.scalar_node, proofs.ScalarSlicing.{other_node, no_node}}
use Rattle.yq_row_table.proofs.RowSlicing.{content_block, content_inline, content_nothing}
use Rattle.yq_row_table.proofs.WordFronts.{word_scalar, word_other, word_block}
use Rattle.yq_rows.specs.ReadPieces.{filling_view}
use Rattle.yq_rows.proofs.content.read_content.Goals as goal

pub read_scalar_content-requires : goal.read_scalar_content-requires
read_scalar_content-requires c =
    let word = ap (front is_word_byte) (sym c.as_bytes.ensures.value) ∙ (sym c.begins_word.ensures ∙ c.if-begins_word.true) in
    (word_other c.split_white.result.1.now word, word_scalar c.split_white.result.1.now word)

pub returns-then-begins_word-clause-read : goal.returns-then-begins_word-clause-read
returns-then-begins_word-clause-read c =
    let word = ap (front is_word_byte) (sym c.as_bytes.ensures.value) ∙ (sym c.begins_word.ensures ∙ c.if-begins_word.true) in
    subst (Gives filling_view c.read_scalar_content.result)
    (sym (content_inline c.args.parent c.args.text.now _ _ c.split_white.ensures (word_block c.split_white.result.1.now word) (scalar_node c.split_white.result.1.now (word_scalar c.split_white.result.1.now word))))
    (rw (to_z-of_z w64 c.args.parent c.ranges.parent) at c.read_scalar_content.ensures.read)

pub returns-then-begins_block-clause-read : goal.returns-then-begins_block-clause-read
returns-then-begins_block-clause-read c =
    subst (Gives filling_view c.read_block_content.result) (sym (content_block c.args.parent c.args.text.now _ _ c.split_white.ensures (sym c.begins_block.ensures ∙ c.if-begins_block.true)))
    (rw (to_z-of_z w64 c.args.parent c.ranges.parent) at c.read_block_content.ensures.read)

pub returns-then-begins_other-clause-read : goal.returns-then-begins_other-clause-read
returns-then-begins_other-clause-read c =
    subst (Gives filling_view c.read_inline_content.result)
    (sym (content_inline c.args.parent c.args.text.now _ _ c.split_white.ensures (sym c.begins_block.ensures ∙ c.if-begins_block.false)
    (other_node c.split_white.result.1.now
    (ap begins_other (sym c.as_bytes-2.ensures.value) ∙ (sym c.begins_other.ensures ∙ c.if-begins_other.true)))))
    (rw (to_z-of_z w64 c.args.parent c.ranges.parent) at c.read_inline_content.ensures.read)

pub read_scalar_content-requires-then-begins_scalar : goal.read_scalar_content-requires-then-begins_scalar
read_scalar_content-requires-then-begins_scalar c = (
  ap begins_other (sym c.as_bytes-2.ensures.value) ∙ (sym c.begins_other.ensures ∙ c.if-begins_other.false),
  ap (begins_scalar false) (sym c.as_bytes-3.ensures.value) ∙ (sym c.begins_scalar.ensures ∙ c.if-begins_scalar.true),
)

pub returns-then-begins_scalar-clause-read : goal.returns-then-begins_scalar-clause-read
returns-then-begins_scalar-clause-read c =
    subst (Gives filling_view c.read_scalar_content-then-begins_scalar.result)
    (sym (content_inline c.args.parent c.args.text.now _ _ c.split_white.ensures (sym c.begins_block.ensures ∙ c.if-begins_block.false)
    (scalar_node c.split_white.result.1.now
    (ap (begins_scalar false) (sym c.as_bytes-3.ensures.value) ∙ (sym c.begins_scalar.ensures ∙ c.if-begins_scalar.true)))))
    (rw (to_z-of_z w64 c.args.parent c.ranges.parent) at c.read_scalar_content-then-begins_scalar.ensures.read)

pub returns-in-Some-clause-read : goal.returns-in-Some-clause-read
returns-in-Some-clause-read c =
    content_nothing c.args.parent c.args.text.now _ _ (Some (c.in-Some.tail.now, c.in-Some.rest.now)) c.split_white.ensures (sym c.begins_block.ensures ∙ c.if-begins_block.false)
    (no_node c.split_white.result.1.now (ap begins_other (sym c.as_bytes-2.ensures.value) ∙ (sym c.begins_other.ensures ∙ c.if-begins_other.false))
    (ap (begins_scalar false) (sym c.as_bytes-3.ensures.value) ∙ (sym c.begins_scalar.ensures ∙ c.if-begins_scalar.false)))
    (sym c.in-Some.ensures)

pub returns-in-None-clause-read : goal.returns-in-None-clause-read
returns-in-None-clause-read c =
    content_nothing c.args.parent c.args.text.now _ _ None c.split_white.ensures (sym c.begins_block.ensures ∙ c.if-begins_block.false)
    (no_node c.split_white.result.1.now (ap begins_other (sym c.as_bytes-2.ensures.value) ∙ (sym c.begins_other.ensures ∙ c.if-begins_other.false))
    (ap (begins_scalar false) (sym c.as_bytes-3.ensures.value) ∙ (sym c.begins_scalar.ensures ∙ c.if-begins_scalar.false)))
    (sym c.in-None.ensures)

pub returns-in-Some-clause-known : goal.returns-in-Some-clause-known
returns-in-Some-clause-known c = λ more. absurd (omega (arith, more))
