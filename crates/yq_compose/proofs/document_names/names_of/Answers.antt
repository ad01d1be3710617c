use Rattle.std.proofs.Common.{◌≡◌, ℕ, ◌+◌, ◌-◌, ◌++◌, drop, length, sym, ap, ◌∙◌, arith}
use Rattle.yq_outline.{specs.Names.line_names, specs.Lines.{head_of, lines_of_rows}, specs.RowWalk.IsLine, proofs.WalkRows.rows_length}
use Rattle.yq_outline.proofs.WalkPositions.{located}
use Rattle.yq_row_table.{specs.Exchange.after_row, specs.View.slices}
use Rattle.yq_documents.{specs.FlowReading.row_flow, specs.RowReading.name_in, proofs.RowLineLaws.anchor_is}
use Rattle.yq_compose.{specs.Named.{all_named, flow_names}, proofs.HeadViewLaws.{means_named, row_means, row_of_cut}}
use Rattle.yq_compose.{proofs.NameRows.{names_all, names_pass}, proofs.ReadyLaws.row_first_line}
use Rattle.yq_compose.proofs.document_names.names_of.Goals as goal

pub rows-init : goal.rows-init
rows-init c = record {
  ahead = λ k. (c.args.x.document.first, omega arith, c.ahead_from-decoded.ensures);
  names = λ k.
      let none : c.args.x.document.first - c.args.x.document.first ≡ 0 = omega arith in
      ap (λ ns. all_named ns ++ line_names (lines_of_rows (drop (c.args.x.document.first - c.args.x.document.first) k.document.rows))) c.new-names.ensures.items
      ∙ ap (λ (j : ℕ). line_names (lines_of_rows (drop j k.document.rows))) none;
}

pub anchor-requires : goal.anchor-requires
anchor-requires c = omega (arith, c.rows-test.true, c.requires.ready.document.within)

pub ahead_from-decoded-requires : goal.ahead_from-decoded-requires
ahead_from-decoded-requires c = c.requires.ready.rise

pub rows-preserved : goal.rows-preserved
rows-preserved c = record {
  ahead = λ k. let a = c.rows.invariant.ahead k in (c.rows.i, omega arith, c.ahead_of-decoded.ensures c.args.x.decoded.now a.0 a.1 a.2);
  names = λ k.
      let a = c.rows.invariant.ahead k in
      let x = c.args.x in
      let d = x.document in
      let at : IsLine x.rows.now d (record { row = c.rows.i; line = 0 }) = row_first_line x.rows.now d c.rows.i c.rows.auto.i c.rows-test.true in
      let f = located x.rows.now d k.document (record { row = c.rows.i; line = 0 }) at in
      let name = c.anchor_name.ensures ∙ (ap name_in (c.anchor.ensures (slices f.row) f.pieces) ∙ anchor_is f.row.content) in
      let next : (c.rows.i - d.first) + 1 ≡ (c.rows.i + 1) - d.first = omega (arith, c.rows.auto.i) in
      names_pass (line_names (lines_of_rows k.document.rows)) _ _ _ _ _ k.document.rows (c.rows.i - d.first) ((c.rows.i + 1) - d.first) f.row f.there next (c.rows.invariant.names k) c.in_ok-push_anchor.ensures name c.in_ok-push_flow.ensures
      (ap flow_names (c.row_flow.ensures k f.row (row_of_cut x.text.now x.rows.now x.decoded.now d k (record { row = c.rows.i; line = 0 }) at))
      ∙ sym (means_named (head_of f.row.content) (row_flow (length x.text.now) f.row (after_row c.rows.i k.cut)) (row_means x.text.now x.rows.now x.decoded.now d k (record { row = c.rows.i; line = 0 }) at)));
}

pub returns : goal.returns
returns c = λ k. names_all (line_names (lines_of_rows k.document.rows)) (all_named c.rows.names.items) k.document.rows
    (c.rows.i - c.args.x.document.first) (omega (arith, rows_length c.args.x.rows.now c.args.x.document k.document, c.rows-test.false))
    (c.rows.invariant.names k)

pub row_flow-requires-clause-decoded : goal.row_flow-requires-clause-decoded
row_flow-requires-clause-decoded c = let a = c.rows.invariant.ahead c.requires.ready in c.ahead_of-decoded.ensures c.args.x.decoded.now a.0 a.1 a.2
