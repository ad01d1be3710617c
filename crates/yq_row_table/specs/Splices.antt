-- Splices: a cut, of which other rows are in the place of some, with the gap after them.
use Rattle.std.specs.Prelude.{◌≡◌, ◌≤◌, ℕ, zero, suc, Bool, true, List, [], ◌∷◌, ◌++◌, length, take, drop}
use Rattle.yq_core.specs.Characters.{is_text}
use Rattle.yq_text.specs.Limit.{text_limit}
use Rattle.yq_row_table.{specs.Exchange.asked_after, specs.Grammar.{Limit, unlimited, begins_document, IsCut}}
use Rattle.yq_row_table.specs.Rows.{Row, following_gap, rows_text, Part, part_text, Cut, last, marked, cut_text}

-- a row with another gap (own)
abbrev pub with_row_gap : List ℕ → Row → Row
with_row_gap gap r = record r { gap = gap }

-- rows, of which the first one has another gap (own)
abbrev pub with_first_gap : List ℕ → List Row → List Row
with_first_gap gap [] = []
with_first_gap gap (r ∷ rs) = with_row_gap gap r ∷ rs

-- the gap after rows, where a gap is put in front of them (own)
abbrev pub end_gap : List ℕ → List Row → List ℕ → List ℕ
end_gap gap [] end = gap
end_gap gap (r ∷ rs) end = end

-- the gap in front of rows, or of their end (own)
abbrev pub first_gap : List Row → List ℕ → List ℕ
first_gap [] end = end
first_gap (r ∷ rs) end = r.gap

-- what comes after the gap in front of rows (own)
abbrev pub after_first : List Row → List ℕ → List ℕ → List ℕ
after_first [] end rest = rest
after_first (r ∷ rs) end rest = following_gap r (rows_text rs (end ++ rest))

-- a part, whose rows from i up to j are others, with this gap after them (own)
abbrev pub splice_part : (i j : ℕ) → List Row → List ℕ → Part → Part
splice_part i j new gap p = record { rows = take i p.rows ++ (new ++ with_first_gap gap (drop j p.rows)); end = end_gap gap (drop j p.rows) p.end }

-- a cut, whose part k, counted from 0, is spliced so, or the last one (own)
abbrev pub splice : (k i j : ℕ) → List Row → List ℕ → Cut → Cut
splice k i j new gap (last p) = last (splice_part i j new gap p)
splice zero i j new gap (marked p marker c) = marked (splice_part i j new gap p) marker c
splice (suc k) i j new gap (marked p marker c) = marked p marker (splice k i j new gap c)

-- part k of a cut, counted from 0, or the last one (own)
abbrev pub nth_part : ℕ → Cut → Part
nth_part k (last p) = p
nth_part zero (marked p marker c) = p
nth_part (suc k) (marked p marker c) = nth_part k c

-- the text after that part (own)
abbrev pub after_part : ℕ → Cut → List ℕ
after_part k (last p) = []
after_part zero (marked p marker c) = marker ++ cut_text c
after_part (suc k) (marked p marker c) = after_part k c

-- the marker before that part; before the first one is this text (own)
abbrev pub marker_before : List ℕ → ℕ → Cut → List ℕ
marker_before before k (last p) = before
marker_before before zero (marked p marker c) = before
marker_before before (suc k) (marked p marker c) = marker_before marker k c

-- a document is open in that part, or in the first one by this (YAML 1.2.2, section 9.1.3; own)
abbrev pub is_started : Bool → ℕ → Cut → Bool
is_started started k (last p) = started
is_started started zero (marked p marker c) = started
is_started started (suc k) (marked p marker c) = is_started (begins_document marker) k c

-- the rows of part k before row i (own)
abbrev pub front_rows : (k i : ℕ) → Cut → List Row
front_rows k i c = take i (nth_part k c).rows

-- the rows of part k from row i on (own)
abbrev pub back_rows : (k i : ℕ) → Cut → List Row
back_rows k i c = drop i (nth_part k c).rows

-- the rows of part k from i up to j (own)
abbrev pub rows_between : (k i j : ℕ) → Cut → List Row
rows_between k i j c = drop i (take j (nth_part k c).rows)

-- the gap before row j of part k, or at the part's end (own)
abbrev pub gap_before : (k j : ℕ) → Cut → List ℕ
gap_before k j c = first_gap (back_rows k j c) (nth_part k c).end

-- what the rows of part k before row i ask of the next one (own)
abbrev pub asked_at : (k i : ℕ) → Cut → Limit
asked_at k i c = asked_after unlimited (front_rows k i c)

-- the text of a cut before row i of part k (own)
abbrev pub before_rows : (k i : ℕ) → Cut → List ℕ
before_rows k i (last p) = rows_text (take i p.rows) []
before_rows zero i (marked p marker c) = rows_text (take i p.rows) []
before_rows (suc k) i (marked p marker c) = part_text p (marker ++ before_rows k i c)

-- the text of a cut after the gap before row j of part k (own)
abbrev pub after_rows : (k j : ℕ) → Cut → List ℕ
after_rows k j c = after_first (back_rows k j c) (nth_part k c).end (after_part k c)

-- a row of part k is between the rows before it and those after it (own)
abbrev pub IsRowAmong : (k : ℕ) → List Row → Row → List Row → Cut → Type 0
IsRowAmong k front r back c = (nth_part k c).rows ≡ front ++ (r ∷ back)

-- the text of a cut after a row of part k, where these rows of the part are after it (own)
abbrev pub following_rest : (k : ℕ) → List Row → Cut → List ℕ
following_rest k back c = rows_text back ((nth_part k c).end ++ after_part k c)

-- a cut, in which rows, with a gap after them, are in the place of the row after these in part k (own)
abbrev pub replace_row : (k : ℕ) → List Row → List Row → List ℕ → Cut → Cut
replace_row k front new gap c = splice k (length front) (suc (length front)) new gap c

-- a text as its parts is a cut, where it holds the characters of a text and is no longer than one (YAML 1.2.2, section 5.1; own)
abbrev pub CutsItsText : Cut → Type 0
CutsItsText c = is_text (cut_text c) ≡ true → length (cut_text c) ≤ text_limit → IsCut (cut_text c) c
