use Rattle.std.{proofs.Common.{◌≡◌, SFits, Some, arith, true, subst, ap, length, rules, sym, w64, ◌+◌, ◌∙◌}, proofs.lemmas.Int.to_z-of_z}
use Rattle.yq_row_table.{specs.Grammar.Limit, specs.Slicing.{filled_at, limit_by}, specs.Rows.parent_of, specs.View.Slices}
use Rattle.yq_row_table.{specs.WordRows.is_word_row, proofs.RowSlicing.row_as}
use Rattle.yq_rows.specs.ReadPieces.{begin_view, filling_view, mark_view, read_slices, limit_view}
use Rattle.yq_rows.proofs.WordRows.{and_both, marked_entry}
use Rattle.yq_rows.proofs.word_rows.find_row.Goals as goal

pub offsets_of-place-requires-clause-read : goal.offsets_of-place-requires-clause-read
offsets_of-place-requires-clause-read c =
    let parent = c.parent_of-parent.result in
    let fits : SFits w64 parent = search rules in
    let begin = c.in_ok-begin.begin in
    let content = c.in_ok-content.content in
    let filled : filled_at parent begin.rest.now ≡ Some (filling_view content) = rw (to_z-of_z w64 parent fits) at c.in_ok-content.ensures.read in
    let marked = marked_entry c.args.front.gap.now (length c.split_spaces.result.0.now) (begin_view begin) (filling_view content)
    c.in_ok-begin.ensures.entry (ap (λ n. filled_at n begin.rest.now) (sym c.parent_of-parent.ensures) ∙ filled) in
    record {
      limit = limit_view c.args.limit;
      after = c.args.front.text.now;
      joined = c.requires.cut;
      read = row_as (limit_view c.args.limit) c.args.front.gap.now c.args.front.text.now _ _ _ _ _ _ c.split_spaces.ensures c.as_bytes.ensures.value c.may_be_here.ensures c.if-not-may_be_here.false c.in_ok-begin.ensures.read marked;
    }

pub returns-clause-read : goal.returns-clause-read
returns-clause-read c =
    let parent = c.parent_of-parent.result in
    let fits : SFits w64 parent = search rules in
    let begin = c.in_ok-begin.begin in
    let content = c.in_ok-content.content in
    let filled : filled_at parent begin.rest.now ≡ Some (filling_view content) = rw (to_z-of_z w64 parent fits) at c.in_ok-content.ensures.read in
    let marked = marked_entry c.args.front.gap.now (length c.split_spaces.result.0.now) (begin_view begin) (filling_view content)
    c.in_ok-begin.ensures.entry (ap (λ n. filled_at n begin.rest.now) (sym c.parent_of-parent.ensures) ∙ filled) in
    let asked : limit_view c.after-limit.result ≡ limit_by (parent_of (mark_view begin.mark) (length c.split_spaces.result.0.now + begin.columns))
    content.plain = (rw (to_z-of_z w64 parent fits) at c.after-limit.ensures) ∙ ap (λ n. limit_by n content.plain) c.parent_of-parent.ensures in
    row_as (limit_view c.args.limit) c.args.front.gap.now c.args.front.text.now _ _ _ _ _ _ c.split_spaces.ensures c.as_bytes.ensures.value c.may_be_here.ensures c.if-not-may_be_here.false c.in_ok-begin.ensures.read marked
    ∙ (ap (λ (l : Limit). Some (read_slices c.args.front.gap.now (length c.split_spaces.result.0.now) begin content, l, content.rest.now)) (sym asked)
    ∙ ap (λ (s : Slices). Some (s, limit_view c.after-limit.result, content.rest.now)) (sym c.offsets_of-place.ensures.same))

pub returns-clause-word : goal.returns-clause-word
returns-clause-word c = λ yes.
    subst (λ (s : Slices). is_word_row s ≡ true) (sym c.offsets_of-place.ensures.same) (and_both (c.is_word_row-is_word.ensures.key yes) (c.in_ok-content.ensures.word (c.is_word_row-is_word.ensures.head yes)))

pub returns-clause-known : goal.returns-clause-known
returns-clause-known c = λ more. absurd (omega (arith, more))
