-- The rows of an item or entry where those of its document are exchanged for others of their shapes.
use Rattle.std.proofs.Common.{◌≡◌, ℕ, zero, suc, ◌-◌, nat_lt, Bool, true, false, cond, List, [], ◌∷◌, drop, length, map, take, Option, Some}
use Rattle.std.{proofs.Common.{option_map, refl, sym, ap, ◌∙◌, subst}, proofs.lemmas.List.length-map}
use Rattle.std.{proofs.lemmas.Option.{none-some, same_Some}, specs.List.slice_get}
use mathlib.Core.List.{head-eq_of_cons-eq, tail-eq_of_cons-eq}
use Rattle.yq_core.{specs.Answers.◌>>=◌, specs.Paths.Step}
use Rattle.yq_outline.{specs.Ends.line_at_steps, specs.Lines.lines_of_rows, specs.RowWalk.deeper_rows}
use Rattle.yq_row_table.{specs.Rows.{Cut, Part, Row}, specs.Splices.after_part, specs.View.slices}
use Rattle.yq_documents.{specs.Documents.document_parts, specs.LinesInRows.{RowLine, one_row_later, row_line, row_line_of}}
use Rattle.yq_documents.{specs.PartNumbers.part_number, proofs.PartNumberLaws.part_there}
use Rattle.yq_places.specs.PlacedRows.{PlacedPart, before_part, placed_at, placed_document}
use Rattle.yq_places.{specs.Placements.{RowsOfEntry, entry_rows_at, rows_of_entry, under_count}, proofs.PlacedPartLaws.map_some}
use Rattle.yq_edit_rules.{proofs.RowStayLaws.placed_put, specs.Changed.{KeepsRows, put_document}, specs.Rooms.row_shape}
use Rattle.yq_edit_rules.proofs.ShapeLaws.{line_by_shape}
use Rattle.yq_batch.{proofs.RowOrder.some_line, proofs.RowsUnder.{deeper_by_shapes, level_by_shape}}

like_size : (rs ss : List Row) → map row_shape ss ≡ map row_shape rs → length ss ≡ length rs
like_size rs ss e = sym (length-map ss row_shape) ∙ (ap length e ∙ length-map rs row_shape)

-- the first ones of rows, and the others
like_cut : (n : ℕ) (rs ss : List Row) → map row_shape ss ≡ map row_shape rs → (map row_shape (take n ss) ≡ map row_shape (take n rs)) × (map row_shape (drop n ss) ≡ map row_shape (drop n rs))
like_cut zero rs ss e = (refl, e)
like_cut (suc n) [] [] e = (refl, refl)
like_cut (suc n) [] (x ∷ ss) e = absurd (cc)
like_cut (suc n) (r ∷ rs) [] e = absurd (cc)
like_cut (suc n) (r ∷ rs) (x ∷ ss) e =
    let h = like_cut n rs ss (tail-eq_of_cons-eq e) in
    (λ i. head-eq_of_cons-eq e i ∷ h.0 i, h.1)

-- the row of a line
row_line_like : (n : ℕ) (rs ss : List Row) (s : RowLine) → map row_shape ss ≡ map row_shape rs → row_line n rs ≡ Some s →
    (r : Row) × (row_line n ss ≡ Some (record s { row = r })) × (row_shape r ≡ row_shape s.row)
row_line_like n [] ss s e is = absurd (none-some _ is)
row_line_like n (r ∷ rs) [] s e is = absurd (cc)
row_line_like n (r ∷ rs) (x ∷ ss) s e is =
    let same : row_shape x ≡ row_shape r = head-eq_of_cons-eq e in
    let h = go same (nat_lt (length r.dashes) n) is (λ y at. row_line_like (n - suc (length r.dashes)) rs ss y (tail-eq_of_cons-eq e) at) in (
      h.0,
      ap (λ (l : ℕ). cond (nat_lt l n) (option_map one_row_later (row_line (n - suc l) ss)) (Some (record { before = 0; row = x; line = n }))) (ap (λ y. length y.dashes) same) ∙ h.1,
      h.2,
    )
  where
    go : row_shape x ≡ row_shape r → (b : Bool) → cond b (option_map one_row_later (row_line (n - suc (length r.dashes)) rs)) (Some (record { before = 0; row = r; line = n })) ≡ Some s →
        ((y : RowLine) → row_line (n - suc (length r.dashes)) rs ≡ Some y → (q : Row) × (row_line (n - suc (length r.dashes)) ss ≡ Some (record y { row = q })) × (row_shape q ≡ row_shape y.row)) →
        (q : Row) × (cond b (option_map one_row_later (row_line (n - suc (length r.dashes)) ss)) (Some (record { before = 0; row = x; line = n })) ≡ Some (record s { row = q })) × (row_shape q ≡ row_shape s.row)
    go same true at again =
        let y = map_some one_row_later (row_line (n - suc (length r.dashes)) rs) s at in
        let h = again y.0 y.1 in
        (h.0, ap (option_map one_row_later) h.1 ∙ ap (λ (z : RowLine). Some (record z { row = h.0 })) y.2, h.2 ∙ ap (λ (z : RowLine). row_shape z.row) y.2)
    go same false at again =
        let t : record { before = 0; row = r; line = n } ≡ s = same_Some _ _ at in
        (x, ap (λ (z : RowLine). Some (record z { row = x })) t, same ∙ ap (λ (z : RowLine). row_shape z.row) t)

-- An item or entry is there in as many rows, of the same shapes (own).
pub record IsLike (e : RowsOfEntry) (m : ℕ) (steps : List Step) (d : Cut) : Type 0 where
  pub now : RowsOfEntry
  pub found : rows_of_entry m steps d ≡ Some now
  pub size : length now.front ≡ length e.front
  pub line : now.line ≡ e.line
  pub shape : row_shape now.row ≡ row_shape e.row
  pub under : length now.under ≡ length e.under

module _ (d : Cut) (m : ℕ) (p q : Part) (there : slice_get (document_parts d) m ≡ Some p) (shapes : map row_shape q.rows ≡ map row_shape p.rows) (keeps : KeepsRows p q) where
  abbrev old : PlacedPart
  old = record { before = (placed_at (part_number m d) d).before; part = p; after = (placed_at (part_number m d) d).after }

  abbrev next : PlacedPart
  next = record { before = before_part (part_number m d) d; part = q; after = after_part (part_number m d) d }

  placed_old : placed_document m d ≡ Some old
  placed_old =
      ap (option_map (λ (y : Part). placed_at (part_number m d) d)) there ∙ ap (λ (y : Part). Some (record (placed_at (part_number m d) d) { part = y })) (part_there d m p there)

  -- the rows of a line
  rows_like : (s : RowLine) (r : Row) → row_shape r ≡ row_shape s.row → (steps : List Step) → row_line_of steps q.rows ≡ Some (record s { row = r }) → IsLike (entry_rows_at old s) m steps (put_document m q d)
  rows_like s r same steps at =
      let back = (like_cut (suc s.before) p.rows q.rows shapes).1 in
      let rs : List Row = drop (suc s.before) p.rows in
      let ss : List Row = drop (suc s.before) q.rows in
      let level = level_by_shape s.line r s.row same in
      let count : under_count (record s { row = r }) ss ≡ under_count s rs = deeper_by_shapes _ ss rs back ∙ ap (λ (n : ℕ). deeper_rows n (map slices rs)) level in
      record {
        now = entry_rows_at next (record s { row = r });
        found = ap (λ (o : Option PlacedPart). o >>= λ y. option_map (entry_rows_at y) (row_line_of steps y.part.rows)) (placed_put d m p q there keeps) ∙ ap (option_map (entry_rows_at next)) at;
        size = like_size (take s.before p.rows) (take s.before q.rows) (like_cut s.before p.rows q.rows shapes).0;
        line = refl;
        shape = same;
        under = ap (λ (n : ℕ). length (take n ss)) count ∙ like_size (take (under_count s rs) rs) (take (under_count s rs) ss) (like_cut (under_count s rs) rs ss back).0;
      }

  pub entry_like : (steps : List Step) (e : RowsOfEntry) → rows_of_entry m steps d ≡ Some e → IsLike e m steps (put_document m q d)
  entry_like steps e is =
      let x : (s : RowLine) × (row_line_of steps p.rows ≡ Some s) × (entry_rows_at old s ≡ e) =
      map_some (entry_rows_at old) (row_line_of steps p.rows) e (sym (ap (λ (o : Option PlacedPart). o >>= λ y. option_map (entry_rows_at y) (row_line_of steps y.part.rows)) placed_old) ∙ is) in
      let n = some_line (line_at_steps steps (lines_of_rows p.rows)) p.rows x.0 x.1 in
      let h = row_line_like n.0 p.rows q.rows x.0 shapes n.2 in
      subst (λ (y : RowsOfEntry). IsLike y m steps (put_document m q d)) x.2
      (rows_like x.0 h.0 h.2 steps (ap (λ (o : Option ℕ). o >>= λ k. row_line k q.rows) (line_by_shape p q shapes steps ∙ n.1) ∙ h.1))
