-- A row counted through all parts of a cut, and the part in which it is.
use Rattle.std.specs.Prelude.{◌≡◌, ℕ, List, [], ◌∷◌}
use Rattle.yq_row_table.{specs.Exchange.{with_content, exchange, after_row, following_rows}, specs.Rows.{Content, Row, Cut}}
use Rattle.yq_row_table.specs.Splices.{IsRowAmong, first_gap, replace_row, nth_part, following_rest}

-- Row i of a cut is between other rows of a part; what comes after it is what comes after them, and with another content it is in its own
-- place (own).
pub record RowPlace (i : ℕ) (r : Row) (c : Cut) : Type 0 where
  pub part : ℕ
  pub front : List Row
  pub back : List Row
  pub is_located : IsRowAmong part front r back c
  pub rows : following_rows i c ≡ back
  pub after : after_row i c ≡ following_rest part back c
  pub exchanged : (new : Content) → exchange i new c ≡ replace_row part front (with_content new r ∷ []) (first_gap back (nth_part part c).end) c
