-- A text cut before the end of a line (5.4; own).
use Rattle.std.{specs.Prelude.{◌≡◌, ℕ, List, ◌++◌, true, false}, specs.Str.IsUtf8}
use Rattle.yq_core.{specs.Characters.pairs_returns, specs.Text.{front, is_feed}}
use Rattle.yq_row_table.{specs.Grammar.{IsRow, Limit}, specs.Rows.{Row, print_row}, specs.View.slices, proofs.seams.ScalarSeams.ends_return}
use Rattle.yq_places.specs.CommentPlaces.{text_to_line_end}
use Rattle.yq_edit_rules.specs.TextPieces.{IsPiece}

-- A text cut in two, where no CR comes before an LF, is in pieces.
abbrev pub CleanCut : Type 0
CleanCut = (a b : List ℕ) → IsPiece (a ++ b) → IsUtf8 a → (front is_feed b ≡ true → ends_return a ≡ false) → IsPiece a × IsPiece b

-- What is written on the line of a row's mark ends in no CR, where an LF is after it.
abbrev pub LineEndsClean : Type 0
LineEndsClean =
    (limit : Limit) (r : Row) (rest : List ℕ) → IsRow limit r rest → pairs_returns (print_row r rest) ≡ true →
    front is_feed ((slices r).tail ++ ((slices r).raw ++ rest)) ≡ true → ends_return (text_to_line_end r) ≡ false
