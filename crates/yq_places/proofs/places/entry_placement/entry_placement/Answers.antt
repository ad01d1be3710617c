use Rattle.std.{proofs.Common.{ℕ, Bool, option_map, sym, ap, ◌∙◌}, proofs.lemmas.Option.same_Some}
use Rattle.yq_text.specs.Halves.{whole}
use Rattle.yq_core.specs.Text.{is_empty}
use Rattle.yq_row_table.{specs.Removal.block_of, specs.View.Slices}
use Rattle.yq_documents.specs.Reading.{cut_of}
use Rattle.yq_places.{proofs.EntryRowLaws.{first_at, pieces_at, row_within}, proofs.LinesCutLaws.none_is}
use Rattle.yq_places.proofs.PlacementViewLaws.{below_here, beside_here, block_here, no_block, some_block}
use Rattle.yq_places.specs.Placements as spec
use Rattle.yq_places.proofs.places.entry_placement.entry_placement.Goals as goal

pub block-requires : goal.block-requires
block-requires c = let h = c.requires in row_within (whole c.args.text) c.args.rows.now h.entry c.args.at.row c.args.at.end h.is.rows

pub row-requires : goal.row-requires
row-requires c = let h = c.requires in row_within (whole c.args.text) c.args.rows.now h.entry c.args.at.row c.args.at.end h.is.rows

pub returns-in-Some : goal.returns-in-Some
returns-in-Some c = λ e h.
    let t = whole c.args.text in
    let s = c.args.rows.now in
    let agrees = sym (ap (option_map (λ (b : Bool × ℕ). (b.0, b.1))) c.in-Some.is) ∙ c.block.ensures t (cut_of t) e.row h.rows.cut h.rows.rows_view_is (first_at t s e c.args.at.row c.args.at.end h.rows).there in
    let b = some_block (block_of e.row.content) c.in-Some.indent c.in-Some.field-0-0 agrees in
    (λ i. spec.block (c.held_in.ensures e h i) (b.1.1 i)) ∙ block_here t s e c.args.at h c.if-at.false b.0 b.1.0

pub returns-then-is_empty : goal.returns-then-is_empty
returns-then-is_empty c = λ e h.
    let t = whole c.args.text in
    let s = c.args.rows.now in
    let agrees = sym (ap (option_map (λ (b : Bool × ℕ). (b.0, b.1))) c.in-None.is) ∙ c.block.ensures t (cut_of t) e.row h.rows.cut h.rows.rows_view_is (first_at t s e c.args.at.row c.args.at.end h.rows).there in
    let row = same_Some _ _ (sym (pieces_at t s e c.args.at.row c.args.at.end h.rows) ∙ c.row.ensures) in
    let head = ap (λ (y : Slices). is_empty y.head) row ∙ (ap is_empty (sym c.head.ensures) ∙ (sym (none_is c.head.result.now) ∙ (sym c.is_empty.ensures ∙ c.if-is_empty.true))) in
    c.below.ensures e h ∙ below_here t s e c.args.at h c.if-at.false (no_block (block_of e.row.content) agrees) head

pub returns-else-is_empty : goal.returns-else-is_empty
returns-else-is_empty c = λ e h.
    let t = whole c.args.text in
    let s = c.args.rows.now in
    let agrees = sym (ap (option_map (λ (b : Bool × ℕ). (b.0, b.1))) c.in-None.is) ∙ c.block.ensures t (cut_of t) e.row h.rows.cut h.rows.rows_view_is (first_at t s e c.args.at.row c.args.at.end h.rows).there in
    let row = same_Some _ _ (sym (pieces_at t s e c.args.at.row c.args.at.end h.rows) ∙ c.row.ensures) in
    let head = ap (λ (y : Slices). is_empty y.head) row ∙ (ap is_empty (sym c.head.ensures) ∙ (sym (none_is c.head.result.now) ∙ (sym c.is_empty.ensures ∙ c.if-is_empty.false))) in
    ap spec.beside (c.held_in-else-is_empty.ensures e h) ∙ beside_here t s e c.args.at h c.if-at.false (no_block (block_of e.row.content) agrees) head
