use Rattle.std.{proofs.Common.{not, Some, ◌&&◌, sym, ap, ◌∙◌}, proofs.lemmas.Option.same_Some, specs.List.slice_get}
use Rattle.yq_core.{specs.Text.is_empty, specs.Nodes.begins_with}
use Rattle.yq_row_table.{specs.View.slices, specs.Rows.parent_indent}
use Rattle.yq_outline.{specs.Lines.row_lines, proofs.WalkPositions.located}
use Rattle.yq_compose.{proofs.AnchorRows.{bare_agrees, mark_takes}, proofs.ReadyLaws.row_within, proofs.RowContents.row_content}
use Rattle.yq_compose.proofs.anchors.may_take.Goals as goal

pub returns-then-not-is_bare : goal.returns-then-not-is_bare
returns-then-not-is_bare c = λ h l is. mark_takes l.mark l.anchor l.head (c.if-not-is_bare.ensures h l is)

pub anchor-requires : goal.anchor-requires
anchor-requires c = row_within c.args.x.text.now c.args.x.rows.now c.args.x.decoded.now c.args.x.document c.args.at c.requires.ready c.requires.line

pub head-requires : goal.head-requires
head-requires c = row_within c.args.x.text.now c.args.x.rows.now c.args.x.decoded.now c.args.x.document c.args.at c.requires.ready c.requires.line

pub returns : goal.returns
returns c = λ h l is.
    let k = located c.args.x.rows.now c.args.x.document h c.args.at c.requires.line in
    let own = same_Some _ _ (sym k.is ∙ is) in
    let v = row_content h.limit h.rows h.end h.rest _ k.row h.valid k.there in
    let first = ap (slice_get (row_lines k.row)) (sym c.requires.first) ∙ (k.in_row ∙ ap Some own) in
    c.is_unnamed.ensures
    ∙ ((λ i. is_empty (c.anchor.ensures (slices k.row) k.pieces i) && not (begins_with 42 (c.head.ensures (slices k.row) k.pieces i)))
    ∙ bare_agrees (parent_indent k.row) k.row v.0 l v.1 first (c.if-not-is_bare.ensures h l is))
