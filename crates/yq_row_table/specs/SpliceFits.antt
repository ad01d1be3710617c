-- What is asked of rows that are in the place of others.
use Rattle.std.specs.Prelude.{◌≡◌, ℕ, Bool, true, false, ◌||◌, not, List, [], ◌++◌, take, drop, Some}
use Rattle.yq_core.{specs.Text.is_empty, specs.Alike.Alike}
use Rattle.yq_row_table.{specs.Exchange.{allows_first, asked_after}, specs.Gap.IsGap}
use Rattle.yq_row_table.{specs.Grammar.{IsRow, Limit, unlimited, limit_after, AreRows, no_rows}, specs.Rows.{Row, rows_text, Part, Cut}}
use Rattle.yq_row_table.specs.Seams.{is_closed, are_seamed, ends_in_block}
use Rattle.yq_row_table.specs.Splices.{after_first, nth_part, after_part, marker_before, is_started, front_rows, back_rows, asked_at}
use Rattle.yq_row_table.specs.Splices.{after_rows}

-- after a marker's line, if it has no break, nothing is (YAML 1.2.2, section 9.1.2)
abbrev pub is_after : List ℕ → List ℕ → Bool
is_after marker rest = is_empty marker || is_closed marker rest

-- Rows may be in the place of those from i up to j of a part, with a gap after them, before what is there: they are rows there, the next row may
-- follow, and the text that then comes after the rows before them, or after the marker before the part, may be there (own).
pub record SpliceFits (marker : List ℕ) (started : Bool) (i j : ℕ) (new : List Row) (gap : List ℕ) (p : Part) (rest : List ℕ) : Type 0 where
  pub rows : AreRows (asked_after unlimited (take i p.rows)) new gap (after_first (drop j p.rows) p.end rest)
  pub next : allows_first (asked_after (asked_after unlimited (take i p.rows)) new) (drop j p.rows) ≡ true
  pub seam : are_seamed (take i p.rows) (rows_text new (gap ++ after_first (drop j p.rows) p.end rest)) ≡ true
  pub start : (not (no_rows (take i p.rows)) || is_after marker (rows_text new (gap ++ after_first (drop j p.rows) p.end rest))) ≡ true
  pub inside : (started || no_rows new) ≡ true

-- the same in part k of a cut (own)
abbrev pub FitsIn : (k i j : ℕ) → List Row → List ℕ → Cut → Type 0
FitsIn k i j new gap c = SpliceFits (marker_before [] k c) (is_started true k c) i j new gap (nth_part k c) (after_part k c)

-- Rows may be put in after rows of part k, before row i: they are rows there, the next row may follow, and their text may be there (own).
pub record InsertFits (k i : ℕ) (new : List Row) (gap : List ℕ) (c : Cut) : Type 0 where
  pub front : no_rows (front_rows k i c) ≡ false
  pub rows : AreRows (asked_at k i c) new gap (after_rows k i c)
  pub next : allows_first (asked_after (asked_at k i c) new) (back_rows k i c) ≡ true
  pub seam : are_seamed (front_rows k i c) (rows_text new (gap ++ after_rows k i c)) ≡ true

-- Rows may be in the place of those from i up to j of part k, of which there are some: they are rows there, the next row may follow, and their text
-- begins like the old one (own).
pub record ReplaceFits (k i j : ℕ) (new : List Row) (gap : List ℕ) (c : Cut) : Type 0 where
  pub some : no_rows (back_rows k i c) ≡ false
  pub rows : AreRows (asked_at k i c) new gap (after_rows k j c)
  pub next : allows_first (asked_after (asked_at k i c) new) (back_rows k j c) ≡ true
  pub alike : Alike (Some false) (rows_text (back_rows k i c) ((nth_part k c).end ++ after_part k c)) (rows_text new (gap ++ after_rows k j c))

-- A gap may be in the place of rows from i up to j of part k, of which there are some: it is a gap there, the next row may follow, and after a block
-- scalar is what ends it (own).
pub record RemoveFits (k i j : ℕ) (gap : List ℕ) (c : Cut) : Type 0 where
  pub some : no_rows (back_rows k i c) ≡ false
  pub is_gap : IsGap gap (after_rows k j c)
  pub next : allows_first (asked_at k i c) (back_rows k j c) ≡ true
  pub seam : ends_in_block (front_rows k i c) ≡ true → are_seamed (front_rows k i c) (gap ++ after_rows k j c) ≡ true

-- A row may be in the place of another one, before these rows: it is one there, after the same gap and at the same column, and the next row may
-- follow (own).
pub record RemovalMeans (limit : Limit) (r s : Row) (back : List Row) (rest : List ℕ) : Type 0 where
  pub gap : s.gap ≡ r.gap
  pub column : s.column ≡ r.column
  pub row : IsRow limit s rest
  pub next : allows_first (limit_after s) back ≡ true
