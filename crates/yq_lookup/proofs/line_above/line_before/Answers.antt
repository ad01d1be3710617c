use Rattle.std.proofs.Common.{◌≡◌, ◌<◌, ◌+◌, length, map, take, arith, sym, ap, ◌∙◌, subst}
use Rattle.yq_core.specs.Entries.{tree_step}
use Rattle.yq_outline.specs.RowWalk.{HasDocument}
use Rattle.yq_row_table.{specs.RowStarts.row_start, specs.View.{RowsView, rows_view}}
use Rattle.yq_places.{proofs.KeptLines.line_kept, proofs.KnownFronts.rows_stay}
use Rattle.yq_lookup.proofs.line_above.line_before.Goals as goal

pub returns : goal.returns
returns c = λ cut is new back touched end less.
    let s = c.args.rows.now in
    let k = c.args.kept in
    let first : c.args.document.first ≡ k.document.first = omega (arith, c.if-kept-document.false) in
    let stop : c.args.document.end ≡ k.document.end = omega (arith, c.if-kept-document-2.false) in
    let document : c.args.document ≡ k.document = λ i. record { first = first i; end = stop i } in
    let within : k.at.row + 1 < length s.rows = c.next_row_before.ensures.within c.if-not-next_row_before.false in
    let before : row_start (k.at.row + 1) s < c.args.front = c.next_row_before.ensures.before c.if-not-next_row_before.false in
    let same : take (k.at.row + 1) (rows_view new).rows ≡ take (k.at.row + 1) s.rows =
    rows_stay cut (k.at.row + 1) c.args.front (subst (λ (x : RowsView). k.at.row + 1 < length x.rows) is within) (subst (λ (x : RowsView). row_start (k.at.row + 1) x < c.args.front) is before) new back touched
    ∙ ap (λ (x : RowsView). take (k.at.row + 1) x.rows) (sym is)
    in
    line_kept s (rows_view new) k.document end (map tree_step k.steps.items) k.at (subst (HasDocument s) document c.requires.document) same less c.requires.kept
