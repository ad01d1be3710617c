use Rattle.std.{proofs.Common.{◌≡◌, SFits, Some, ap, arith, length, rules, subst, sym, w64, ◌+◌, ◌∙◌}, proofs.lemmas.Int.to_z-of_z}
use Rattle.yq_row_table.{specs.Grammar.Limit, specs.Slicing.limit_by, specs.Offsets.offsets_of, specs.Rows.parent_of, specs.View.Slices}
use Rattle.yq_row_table.{specs.WordRows.KnowsHead, proofs.Failing.fails_by, proofs.RowSlicing.row_as}
use Rattle.yq_rows.{specs.ReadPieces.{mark_view, read_slices, limit_view}, proofs.Columns.column_small}
use Rattle.yq_rows.proofs.reading.read_row.Goals as goal

pub returns-in-Err-clause-read : goal.returns-in-Err-clause-read
returns-in-Err-clause-read c =
    fails_by c.in-Err.e _ _ (c.in-Err.ensures.read c.args.front.gap.now)
    (row_as (limit_view c.args.limit) c.args.front.gap.now c.args.front.text.now _ _ _ _ _ _ c.split_spaces.ensures c.as_bytes.ensures.value c.may_be_here.ensures c.if-not-may_be_here.false c.read_begin-begin.ensures.read)

pub offsets_of-place-requires-clause-read : goal.offsets_of-place-requires-clause-read
offsets_of-place-requires-clause-read c = record {
  limit = limit_view c.args.limit;
  after = c.args.front.text.now;
  joined = c.requires.cut;
  read = row_as (limit_view c.args.limit) c.args.front.gap.now c.args.front.text.now _ _ _ _ _ _ c.split_spaces.ensures c.as_bytes.ensures.value
      c.may_be_here.ensures c.if-not-may_be_here.false c.read_begin-begin.ensures.read (c.in-Ok.ensures.read c.args.front.gap.now);
}

pub returns-clause-read : goal.returns-clause-read
returns-clause-read c =
    let parent = c.parent_of-parent.result in
    let fits : SFits w64 parent = search rules in
    let content = c.in-Ok.content in
    let asked : limit_view c.after-limit.result ≡ limit_by
    (parent_of (mark_view c.read_begin-begin.result.mark) (length c.split_spaces.result.0.now + c.read_begin-begin.result.columns))
    content.plain = (rw (to_z-of_z w64 parent fits) at c.after-limit.ensures) ∙ ap (λ n. limit_by n content.plain) c.parent_of-parent.ensures in
    row_as (limit_view c.args.limit) c.args.front.gap.now c.args.front.text.now _ _ _ _ _ _ c.split_spaces.ensures c.as_bytes.ensures.value c.may_be_here.ensures
    c.if-not-may_be_here.false c.read_begin-begin.ensures.read (c.in-Ok.ensures.read c.args.front.gap.now)
    ∙ (ap (λ (l : Limit). Some
    (read_slices c.args.front.gap.now (length c.split_spaces.result.0.now) c.read_begin-begin.result content, l, content.rest.now)) (sym asked)
    ∙ ap (λ (s : Slices). Some (s, limit_view c.after-limit.result, content.rest.now)) (sym c.offsets_of-place.ensures.same))

pub returns-clause-place : goal.returns-clause-place
returns-clause-place c = c.offsets_of-place.ensures.place ∙ ap (offsets_of _) (sym c.offsets_of-place.ensures.same)

pub read_marked-requires : goal.read_marked-requires
read_marked-requires c =
    record {
      columns = column_small c.args.front.text.now c.split_spaces.result.0.now c.split_spaces.result.1.now c.args.whole.now
          c.read_begin-begin.result.columns c.split_spaces.ensures c.read_begin-begin.ensures.within c.requires.short c.requires.small;
    }

pub overflow_add-column : goal.overflow_add-column
overflow_add-column c =
    omega (
      arith,
      column_small c.args.front.text.now c.split_spaces.result.0.now c.split_spaces.result.1.now c.args.whole.now
          c.read_begin-begin.result.columns c.split_spaces.ensures c.read_begin-begin.ensures.within c.requires.short c.requires.small,
    )

pub parent_of-parent-requires : goal.parent_of-parent-requires
parent_of-parent-requires c =
    omega (
      arith,
      column_small c.args.front.text.now c.split_spaces.result.0.now c.split_spaces.result.1.now c.args.whole.now
          c.read_begin-begin.result.columns c.split_spaces.ensures c.read_begin-begin.ensures.within c.requires.short c.requires.small,
    )

pub returns-clause-is_located : goal.returns-clause-is_located
returns-clause-is_located c = c.offsets_of-place.ensures.is_located

pub returns-clause-known : goal.returns-clause-known
returns-clause-known c = subst (λ (s : Slices). KnowsHead c.in-Ok.content.depth s.head) (sym c.offsets_of-place.ensures.same) c.in-Ok.ensures.known
