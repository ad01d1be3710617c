use Rattle.std.{proofs.Common.{sym, ap, ◌∙◌}, proofs.lemmas.Option.same_Some}
use Rattle.yq_text.specs.Halves.{whole}
use Rattle.yq_row_table.specs.Rows.{rows_text}
use Rattle.yq_places.{specs.PlacementReading.root_entry, proofs.EntryRowLaws.{pieces_at, row_valid, row_within}}
use Rattle.yq_places.proofs.RootPlacementLaws.{root_alone, root_block}
use Rattle.yq_places.specs.Placements as spec
use Rattle.yq_places.proofs.places.root_placement.rows_placement.Goals as goal

pub row-requires : goal.row-requires
row-requires c = let h = c.requires in row_within (whole c.args.text) c.args.rows.now (root_entry h.part h.row h.under) c.args.document.first c.args.document.end h.is

pub lone_in-requires : goal.lone_in-requires
lone_in-requires c = let h = c.requires in record { entry = root_entry h.part h.row h.under; end = c.args.document.end; is = h.is }

pub returns-then-is_alone : goal.returns-then-is_alone
returns-then-is_alone c = λ h.
    let t = whole c.args.text in
    let s = c.args.rows.now in
    let e = root_entry h.part h.row h.under in
    let row = same_Some _ _ (sym (pieces_at t s e c.args.document.first c.args.document.end h.is) ∙ c.row.ensures) in
    let agrees = sym (c.is_alone.ensures h.row (rows_text h.under (spec.after_entry e)) row (row_valid t s e c.args.document.first c.args.document.end h.is).row.mark) ∙ c.if-is_alone.true in
    ap spec.alone (c.lone_in.ensures e c.args.document.end h.is agrees) ∙ root_alone t s c.args.document h agrees

pub returns-else-is_alone : goal.returns-else-is_alone
returns-else-is_alone c = λ h.
    let t = whole c.args.text in
    let s = c.args.rows.now in
    let e = root_entry h.part h.row h.under in
    let row = same_Some _ _ (sym (pieces_at t s e c.args.document.first c.args.document.end h.is) ∙ c.row.ensures) in
    let agrees = sym (c.is_alone.ensures h.row (rows_text h.under (spec.after_entry e)) row (row_valid t s e c.args.document.first c.args.document.end h.is).row.mark) ∙ c.if-is_alone.false in
    c.block_root_in.ensures h ∙ root_block t s c.args.document h agrees
