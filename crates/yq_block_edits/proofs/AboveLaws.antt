-- The lines above a row, as the code finds them, are those above the rows of an item or entry.
use Rattle.std.proofs.Common.{◌≡◌, ℕ, Bool, true, false, cond, eqb, List, Option, Some, None, option_map, refl, sym, ap, ◌∙◌}
use Rattle.yq_core.{specs.Answers.◌>>=◌, specs.Paths.Step}
use Rattle.yq_row_table.specs.Rows.{Cut}
use Rattle.yq_places.{specs.CommentPlaces.{above_row, lines_above}, specs.PlacedRows.PlacedRow}
use Rattle.yq_places.specs.Placements.{RowsOfEntry, rows_of_entry}
use Rattle.yq_documents.specs.Pieces.{TextPiece}
use Rattle.yq_edit_rules.specs.CommentEdits.{above_rows, head_comment_put, head_comment_segments}
use Rattle.yq_edit_rules.proofs.CommentRowLaws.{entry_row, rows_same}

head_same : (br text : List ℕ) (o : Option RowsOfEntry) → (o >>= head_comment_put br text) ≡ option_map (head_comment_segments br text) (option_map entry_row o >>= λ w. cond (eqb w.line 0) (Some (above_row w)) None)
head_same br text None = refl
head_same br text (Some e) = go (eqb e.line 0)
  where
    go : (b : Bool) → cond b (Some (head_comment_segments br text (above_rows e))) None ≡ option_map (head_comment_segments br text) (cond b (Some (above_row (entry_row e))) None)
    go true = refl
    go false = refl

pub head_there : (n : ℕ) (steps : List Step) (c : Cut) (br text : List ℕ) (o : Option (ℕ × TextPiece)) → o ≡ lines_above n steps c → option_map (head_comment_segments br text) o ≡ (rows_of_entry n steps c >>= head_comment_put br text)
head_there n steps c br text o is =
    ap (option_map (head_comment_segments br text)) (is ∙ ap (λ (o : Option PlacedRow). o >>= λ w. cond (eqb w.line 0) (Some (above_row w)) None) (rows_same n steps c)) ∙ sym (head_same br text (rows_of_entry n steps c))
