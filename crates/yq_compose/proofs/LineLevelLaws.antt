-- How deep a line is, by its row.
use Rattle.std.{proofs.Common.{◌≡◌, ℕ, zero, suc, List, [], ◌∷◌, map, Some, refl, sym, ap, ◌∙◌}, proofs.lemmas.Option.same_Some}
use Rattle.std.specs.List.{slice_get}
use Rattle.yq_outline.{specs.Outline.level, specs.RowWalk.{IsLine, OfLine, line_level}, specs.declared.line_position.Position.Position}
use Rattle.yq_outline.{specs.declared.line_position.Stretch.Stretch, proofs.WalkPositions.located}
use Rattle.yq_row_table.{specs.Rows.Row, specs.View.{Slices, slices, RowsView}}

-- a row by its pieces
pub row_there : (rs : List Row) (i : ℕ) (x : Slices) → slice_get (map slices rs) i ≡ Some x → (r : Row) × (slice_get rs i ≡ Some r) × (slices r ≡ x)
row_there [] i x e = absurd (cc)
row_there (r ∷ rs) zero x e = (r, refl, same_Some _ _ e)
row_there (r ∷ rs) (suc i) x e = row_there rs i x e

pub level_agrees : (s : RowsView) (d : Stretch) (q : Position) (at : IsLine s d q) (n : ℕ) → ((x : Slices) → slice_get s.rows q.row ≡ Some x → n ≡ line_level q.line x) → OfLine s d q (λ l. n ≡ level l)
level_agrees s d q at n agrees h l is =
    let k = located s d h q at in
    agrees (slices k.row) k.pieces ∙ (sym k.level_agrees ∙ ap level (same_Some _ _ (sym k.is ∙ is)))
