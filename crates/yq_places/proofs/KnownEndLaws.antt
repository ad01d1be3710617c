-- The end of the lines under a line is looked for from an item on that is known among them.
use Rattle.std.{proofs.Common.{rules, ◌≡◌, ◌⊎◌, inl, inr, ℕ, ◌+◌, ◌<◌, Some, sym, ap, ◌∙◌, arith}, proofs.lemmas.Option.same_Some}
use Rattle.std.specs.List.{slice_get}
use Rattle.yq_row_table.specs.View.{Slices, RowsView}
use Rattle.yq_outline.{specs.RowWalk.{HasRows, IsKnownIn, line_level, rows_end}, specs.declared.line_position.KnownItem.KnownItem}
use Rattle.yq_outline.{specs.declared.line_position.Position.Position, specs.declared.line_position.Stretch.Stretch}
use Rattle.yq_outline.{proofs.KnownLaws.one_there, proofs.KnownWalks.{end_later, row_later}, proofs.WalkPositions.get_taken}
use Rattle.yq_outline.proofs.WalkRows.{under_more}

module _ (s : RowsView) (d : Stretch) (h : HasRows s d) (row : ℕ) (under : Position) (floor : ℕ) (k : KnownItem) (among : IsKnownIn s.rows under floor d.end k) where
  -- the first of the lines, where it begins a row, is deeper than the level
  first_deeper : (x : Slices) → slice_get s.rows under.row ≡ Some x → under.line ≡ 0 → floor < line_level 0 x
  first_deeper x is first =
      let later = row_later s d h under floor k among in
      search (rules, get_taken, same_Some)

  following_end : under.row ≡ row + 1 → under.line ≡ 0 → rows_end s d floor k.row ≡ rows_end s d floor (row + 1)
  following_end next first =
      let later = row_later s d h under floor k among in
      let x = one_there s.rows under.row (omega (arith, later, among.within, h.within)) in
      end_later s d h under floor k among
      ∙ (sym (under_more s.rows floor under.row d.end x.0 x.1 (omega (arith, later, among.within)) (first_deeper x.0 x.1 first))
      ∙ ap (rows_end s d floor) next)

  pub end_from : (under.row ≡ row) ⊎ ((under.row ≡ row + 1) × (under.line ≡ 0)) → rows_end s d floor k.row ≡ rows_end s d floor (row + 1)
  end_from same = search (rules, end_later, following_end)

  pub later_from : (under.row ≡ row) ⊎ ((under.row ≡ row + 1) × (under.line ≡ 0)) → row < k.row
  later_from (inl same) = omega (arith, row_later s d h under floor k among, same)
  later_from (inr next) = omega (arith, row_later s d h under floor k among, next.0)
