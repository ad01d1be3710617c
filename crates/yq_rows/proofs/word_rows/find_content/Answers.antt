use Rattle.std.{proofs.Common.{◌≡◌, ◌∙◌, ℕ, List, Some, true, false, arith, w64, sym, ap, subst}, proofs.lemmas.Int.to_z-of_z}
use Rattle.yq_core.{specs.Piece.deeper, specs.Nodes.begins_with, specs.Scalars.begins_scalar, proofs.Bounds.boundary_first}
use Rattle.yq_row_table.{specs.WordRows.is_word_head, specs.Slicing.begins_other, proofs.MarkAgain.scalar_node}
use Rattle.yq_row_table.proofs.RowSlicing.{content_inline}
use Rattle.yq_rows.{proofs.QuotedFronts.head_in_quotes, proofs.WordRows.feed_content}
use Rattle.yq_rows.proofs.word_rows.find_content.Goals as goal

pub split_at-requires : goal.split_at-requires
split_at-requires c = boundary_first c.args.text.now 10 (omega arith) (ap (begins_with 10) (sym c.as_bytes.ensures.value) ∙ (sym c.first_is.ensures ∙ c.if-first_is.true)) c.utf8.text

pub returns-then-first_is-clause-read : goal.returns-then-first_is-clause-read
returns-then-first_is-clause-read c =
    feed_content c.args.parent c.args.text.now c.split_at.result.0.now c.split_at.result.1.now
    (ap (begins_with 10) (sym c.as_bytes.ensures.value) ∙ (sym c.first_is.ensures ∙ c.if-first_is.true)) c.split_at.ensures.front
    c.split_at.ensures.back

pub returns-in-Some-clause-read : goal.returns-in-Some-clause-read
returns-in-Some-clause-read c =
    let text = c.split_white.result.1.now in
    let spaces : c.further_spaces-spaces.result ≡ Some (deeper c.args.parent) = rw (to_z-of_z w64 c.args.parent c.ranges.parent) at c.further_spaces-spaces.ensures in
    content_inline c.args.parent c.args.text.now _ _ c.split_white.ensures c.in-Some.ensures.block (scalar_node text c.in-Some.ensures.begins)
    ∙ c.in_ok-content.ensures.scalar c.args.parent text c.in-Some.ensures.other c.in-Some.ensures.begins (rw spaces at c.in-Some.ensures.read)

pub returns-in-Some-clause-word : goal.returns-in-Some-clause-word
returns-in-Some-clause-word c = λ yes.
    subst (λ (h : List ℕ). is_word_head h ≡ true) (sym c.in_ok-content.ensures.head) (c.in-Some.ensures.word yes)

pub returns-in_ok-content-in-Ok-clause-read : goal.returns-in_ok-content-in-Ok-clause-read
returns-in_ok-content-in-Ok-clause-read c =
    let text = c.split_white.result.1.now in
    let spaces : c.further_spaces-spaces.result ≡ Some (deeper c.args.parent) = rw (to_z-of_z w64 c.args.parent c.ranges.parent) at c.further_spaces-spaces.ensures in
    let other = ap begins_other (sym c.as_bytes-2.ensures.value) ∙ (sym c.begins_other.ensures ∙ c.if-begins_other.false) in
    let scalar = ap (begins_scalar false) (sym c.as_bytes-3.ensures.value) ∙ (sym c.begins_scalar.ensures ∙ c.if-not-begins_scalar.false) in
    content_inline c.args.parent c.args.text.now _ _ c.split_white.ensures (sym c.begins_block.ensures ∙ c.if-begins_block.false) (scalar_node text scalar)
    ∙ c.in_ok-content-in-Ok.ensures.scalar c.args.parent text other scalar (rw spaces at c.in-Ok.ensures.read)

pub returns-in_ok-content-in-Ok-clause-word : goal.returns-in_ok-content-in-Ok-clause-word
returns-in_ok-content-in-Ok-clause-word c = λ yes.
    subst (λ (h : List ℕ). is_word_head h ≡ true) (sym c.in_ok-content-in-Ok.ensures.head) (head_in_quotes c.in-Ok.head.now (c.borrows_quoted.ensures yes))
