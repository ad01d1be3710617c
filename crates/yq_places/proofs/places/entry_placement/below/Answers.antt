use Rattle.std.{proofs.Common.{◌≡◌, ◌+◌, sym, ap, ◌∙◌}, proofs.lemmas.Option.same_Some}
use Rattle.yq_text.specs.Halves.{whole}
use Rattle.yq_row_table.{specs.Rows.rows_text, specs.View.Slices}
use Rattle.yq_places.{specs.Placements.after_entry, proofs.EntryRowLaws.{pieces_at, row_valid, row_within}}
use Rattle.yq_places.proofs.PlacementViewLaws.{alone_is, has_under, next_entry, none_below, under_is}
use Rattle.yq_places.specs.Placements as spec
use Rattle.yq_places.proofs.places.entry_placement.below.Goals as goal

pub returns-then-next-at : goal.returns-then-next-at
returns-then-next-at c = λ e h. ap spec.beside (c.held_in.ensures e h) ∙ none_below (whole c.args.text) c.args.rows.now e c.args.at h c.if-next-at.true

pub row-row-requires : goal.row-row-requires
row-row-requires c =
    let x = has_under (whole c.args.text) c.args.rows.now c.requires.entry c.args.at c.requires.is c.if-next-at.false in
    row_within (whole c.args.text) c.args.rows.now (next_entry c.requires.entry x.first x.others) (c.args.at.row + 1) c.args.at.end x.rows

pub lone_in-requires : goal.lone_in-requires
lone_in-requires c =
    let x = has_under (whole c.args.text) c.args.rows.now c.requires.entry c.args.at c.requires.is c.if-next-at.false in
    record { entry = next_entry c.requires.entry x.first x.others; end = c.args.at.end; is = x.rows }

pub returns-then-is_alone : goal.returns-then-is_alone
returns-then-is_alone c = λ e h.
    let t = whole c.args.text in
    let s = c.args.rows.now in
    let x = has_under t s e c.args.at h c.if-next-at.false in
    let n = next_entry e x.first x.others in
    let row = same_Some _ _ (sym (pieces_at t s n (c.args.at.row + 1) c.args.at.end x.rows) ∙ c.row-row.ensures) in
    let agrees = sym (c.is_alone.ensures x.first (rows_text x.others (after_entry e)) row (row_valid t s n (c.args.at.row + 1) c.args.at.end x.rows).row.mark) ∙ c.if-is_alone.true in
    ap spec.alone (c.lone_in.ensures n c.args.at.end x.rows agrees) ∙ alone_is t s e c.args.at.row c.args.at.end x agrees

pub returns : goal.returns
returns c = λ e h.
    let t = whole c.args.text in
    let s = c.args.rows.now in
    let x = has_under t s e c.args.at h c.if-next-at.false in
    let n = next_entry e x.first x.others in
    let row = same_Some _ _ (sym (pieces_at t s n (c.args.at.row + 1) c.args.at.end x.rows) ∙ c.row-row.ensures) in
    let agrees = sym (c.is_alone.ensures x.first (rows_text x.others (after_entry e)) row (row_valid t s n (c.args.at.row + 1) c.args.at.end x.rows).row.mark) ∙ c.if-is_alone.false in
    let column : c.column.result ≡ x.first.column = c.column.ensures ∙ ap (λ (y : Slices). y.column) (sym row) in
    (λ i. spec.under (c.held_in-2.ensures e h i) (column i)) ∙ under_is t s e c.args.at.row c.args.at.end x agrees
