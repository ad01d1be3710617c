-- What comes after the mark of a row, exchanged for something else.
use Rattle.std.specs.Prelude.{◌≡◌, ℕ, zero, suc, ◌+◌, ◌-◌, Bool, true, nat_lt, List, [], ◌∷◌, ◌++◌, length, drop, replicate, if◌then◌else◌}
use Rattle.std.specs.Str.{IsUtf8, IsCharBoundary}
use Rattle.yq_core.specs.Text.{separates}
use Rattle.yq_row_table.specs.Grammar.{IsContent, is_entry, Limit, allows, limit_after}
use Rattle.yq_row_table.specs.Rows.{Content, content_text, dashes_text, mark_text, Row, parent_indent, print_row, rows_text, Part}
use Rattle.yq_row_table.specs.Rows.{part_text, Cut, last, marked, cut_text}

-- a row with another content (own)
abbrev pub with_content : Content → Row → Row
with_content content r = record r { content = content }

-- the rows, of which row i has another content (own)
abbrev pub with_content_at : ℕ → Content → List Row → List Row
with_content_at i content [] = []
with_content_at zero content (r ∷ rs) = with_content content r ∷ rs
with_content_at (suc i) content (r ∷ rs) = r ∷ with_content_at i content rs

-- a part, of which row i has another content (own)
abbrev pub with_content_in : ℕ → Content → Part → Part
with_content_in i content p = record p { rows = with_content_at i content p.rows }

-- a cut, of which row i, counted through all parts, has another content (own)
abbrev pub exchange : ℕ → Content → Cut → Cut
exchange i content (last p) = last (with_content_in i content p)
exchange i content (marked p marker c) =
    if nat_lt i (length p.rows) then marked (with_content_in i content p) marker c else marked p marker (exchange (i - length p.rows) content c)

-- the text of a row before its content (own)
abbrev pub row_front : Row → List ℕ
row_front r = r.gap ++ (replicate r.column 32 ++ dashes_text r.dashes (mark_text r.mark []))

-- the text of rows before the content of row i (own)
abbrev pub before_at : ℕ → List Row → List ℕ
before_at i [] = []
before_at zero (r ∷ rs) = row_front r
before_at (suc i) (r ∷ rs) = print_row r (before_at i rs)

-- the text of rows after row i, before a rest (own)
abbrev pub text_after_row : ℕ → List Row → List ℕ → List ℕ
text_after_row i [] rest = rest
text_after_row zero (r ∷ rs) rest = rows_text rs rest
text_after_row (suc i) (r ∷ rs) rest = text_after_row i rs rest

-- the text of a cut before the content of row i (own)
abbrev pub before_content : ℕ → Cut → List ℕ
before_content i (last p) = before_at i p.rows
before_content i (marked p marker c) = if nat_lt i (length p.rows) then before_at i p.rows else part_text p (marker ++ before_content (i - length p.rows) c)

-- the text of a cut after row i (own)
abbrev pub after_row : ℕ → Cut → List ℕ
after_row i (last p) = text_after_row i p.rows (p.end ++ [])
after_row i (marked p marker c) =
    if nat_lt i (length p.rows) then text_after_row i p.rows (p.end ++ (marker ++ cut_text c)) else after_row (i - length p.rows) c

-- the rows of the same part after row i (own)
abbrev pub following_rows : ℕ → Cut → List Row
following_rows i (last p) = drop (suc i) p.rows
following_rows i (marked p marker c) = if nat_lt i (length p.rows) then drop (suc i) p.rows else following_rows (i - length p.rows) c

-- the first of these rows, if there is one, may be where this is asked (own)
abbrev pub allows_first : Limit → List Row → Bool
allows_first limit [] = true
allows_first limit (r ∷ rs) = allows limit r.column

-- what is asked after rows of which that was asked (own)
abbrev pub asked_after : Limit → List Row → Limit
asked_after limit [] = limit
asked_after limit (r ∷ rs) = asked_after (limit_after r) rs

-- What is asked of a content that is in the place of a row's, after a dash or a key: it is there, after it the next row of the part may
-- are, and white space, a break or the end is in front of it (own).
pub record FitsRow (new : Content) (r : Row) (rest : List ℕ) (after : List Row) : Type 0 where
  pub entry : is_entry r.mark ≡ true
  pub content : IsContent (parent_indent r) new rest
  pub apart : separates (content_text new rest) ≡ true
  pub next : allows_first (limit_after (with_content new r)) after ≡ true

-- A text of three pieces, of which the first two are whole characters, and so is what comes after them (own).
pub record HasPieces (t before old after : List ℕ) : Type 0 where
  pub text : t ≡ before ++ (old ++ after)
  pub start : IsCharBoundary t (length before)
  pub end : IsCharBoundary t (length before + length old)
  pub before_utf8 : IsUtf8 before
  pub old_utf8 : IsUtf8 old
