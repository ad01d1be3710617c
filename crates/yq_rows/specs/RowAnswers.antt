-- What calls that read and keep rows answer (own; you may skip it).
use Rattle.std.specs.Borrow.{Bor}
use Rattle.std.specs.Prelude.{◌≡◌, ◌-◌, ◌==◌, ◌&&◌, ◌||◌, ◌++◌, ◌∷◌, ℕ, Bool, List, Option, Some, None, IfOk, OnOk, Result, Ok, Err, Vec}
use Rattle.std.specs.Prelude.{[], is_ok, length, nat_lt, not, option_map, if◌then◌else◌, IfSome, ℤ, true, false}
use Rattle.std.specs.declared.alloc.Global.{Global}
use Rattle.yq_core.{specs.Answers.{Gives, IsOfText, ReadError}, specs.Text.{is_empty, is_marker}, specs.Piece.deeper}
use Rattle.yq_core.{specs.Reading.read_scalar, specs.Scalars.begins_scalar}
use Rattle.yq_row_table.{specs.Grammar.allows, specs.Items.{Item, items_text, view_of_items}, specs.Kept.{kept_rows, rows_placed}}
use Rattle.yq_row_table.{specs.Meter.{begins_line, count_after, line_count}, specs.Offsets.{offsets_of, rows_in, slices_in}}
use Rattle.yq_row_table.{specs.Reading.{begins_block, read_row_key}, specs.Regions.{IsReadAlone, region_items}, specs.Rows.{Part, RowMark}}
use Rattle.yq_row_table.specs.Slicing.{SlicedRow, begins_other, inline_sliced, marked_sliced, row_of, row_sliced, rows_sliced}
use Rattle.yq_row_table.specs.WordRows.{AreOtherRows, KnowsHead, is_word_head, is_word_key, is_word_row}
use Rattle.yq_row_table.{specs.View.{RowsView, Slices, colon_of, key_of_mark}, specs.declared.offsets.Offsets.Offsets}
use Rattle.yq_row_table.{specs.declared.places.Places.Places, specs.declared.rows.Other.Other}
use Rattle.yq_text.specs.TextGapBuffer.{TextGapView, buffer_text}
use Rattle.yq_rows.{specs.Exchanging.TextChange, specs.Following.{CountsWritten, Follows, exchanged}}
use Rattle.yq_rows.{specs.ReadPieces.{begin_view, filling_view, limit_view, read_slices}, specs.Sides.both_sides}
use Rattle.yq_rows.{specs.declared.content.Filling.Filling, specs.declared.kept.Kept.Kept, specs.declared.marks.Begin.Begin}
use Rattle.yq_rows.{specs.declared.sides.Side.Side, specs.declared.touched.Touched.Touched, specs.declared.reading.Notes.Notes}
use Rattle.yq_rows.specs.declared.reading.RowFront.{RowFront}
use Rattle.yq_rows.specs.declared.limit.Limit as asked

-- ---- rows

-- the answer is what is read after the marks of a row, whatever the gap above it is
abbrev pub ReadsMarked : ℕ → Begin → Result Filling ReadError → Type 0
ReadsMarked column b r = (gap : List ℕ) → Gives (λ f. row_of gap column (begin_view b) (filling_view f)) r (marked_sliced gap column (begin_view b))

-- whether a row may be at a column before this text
abbrev pub may_be_at : asked.Limit → ℕ → List ℕ → Bool
may_be_at limit column text = allows (limit_view limit) column && not (column == 0 && is_marker text)

-- a row, its condition on the next row, what comes after it, whether it is surely a word row, and how deep its head is known to be
abbrev pub RowRead : Type 0
RowRead = Offsets × asked.Limit × Bor (List ℕ) × Bool × ℕ

-- the answer is the row that reading gives, its condition on the next row, and what comes after it
abbrev pub GivesRow : List ℕ → Result RowRead ReadError → Option SlicedRow → Type 0
GivesRow whole r read = Gives (λ x. (slices_in whole x.0, limit_view x.1, x.2.now)) r read

-- a row that is found is the one that reading gives, with its condition on the next row, and what comes after it
abbrev pub FindsRow : List ℕ → Option RowRead → Option SlicedRow → Type 0
FindsRow whole found read = IfSome found (λ x. read ≡ Some (slices_in whole x.0, limit_view x.1, x.2.now))

-- where a row is that begins where this end of the whole text does, and how long its pieces are
abbrev pub offsets_from : (whole text : List ℕ) → Slices → Offsets
offsets_from whole text s = offsets_of (length whole - length text) s

-- the row that reading gives of what is in front
abbrev pub row_at_front : asked.Limit → RowFront → Option SlicedRow
row_at_front limit f = row_sliced (limit_view limit) f.gap.now f.text.now

-- the row begins where what is in front does
abbrev pub BeginsAtFront : List ℕ → RowFront → RowRead → Type 0
BeginsAtFront whole f x = x.0 ≡ offsets_from whole f.at.now (slices_in whole x.0)

-- the row is a word row, where the answer says so
abbrev pub MayBeWordRow : List ℕ → RowRead → Type 0
MayBeWordRow whole x = x.3 ≡ true → is_word_row (slices_in whole x.0) ≡ true

-- what the answer says of the row's head is so
abbrev pub KnowsRowHead : List ℕ → RowRead → Type 0
KnowsRowHead whole x = KnowsHead x.4 (slices_in whole x.0).head

-- the same of what comes after a mark
abbrev pub KnowsFilling : Filling → Type 0
KnowsFilling f = KnowsHead f.depth f.head.now

-- an answer says so of what comes after a mark, or names a fault of the text
abbrev pub KnowsContent : Result Filling ReadError → Type 0
KnowsContent (Ok f) = KnowsFilling f
KnowsContent (Err e) = IsOfText e

-- the key of a mark, if it has one, begins with a letter, a digit or no ASCII
abbrev pub is_word_mark : RowMark → Bool
is_word_mark m = is_word_key (key_of_mark m) (colon_of m)

-- A scalar is in front, which begins with no anchor, alias, collection or block scalar; it is a word head where the answer says so.
pub record IsFrontScalar (spaces : Option ℕ) (t head after : List ℕ) (is_word : Bool) : Type 0 where
  pub block : begins_block t ≡ false
  pub other : begins_other t ≡ false
  pub begins : begins_scalar false t ≡ true
  pub read : read_scalar false spaces t ≡ Some (head, after)
  pub word : is_word ≡ true → is_word_head head ≡ true

-- where a text begins with a scalar that reads with this head, what is found is what reading gives
abbrev pub FindsAsRead : (n : ℤ) (space t head after : List ℕ) → Filling → Type 0
FindsAsRead n space t head after f =
    begins_other t ≡ false → begins_scalar false t ≡ true → read_scalar false (Some (deeper n)) t ≡ Some (head, after) →
    inline_sliced n space t ≡ Some (filling_view f)

-- a scalar after white space and its tail are found as reading gives them
abbrev pub FindsScalar : (space head after : List ℕ) → Option Filling → Type 0
FindsScalar space head after found = IfSome found (λ f. (n : ℤ) (t : List ℕ) → FindsAsRead n space t head after f)

-- the same of pieces as the code read them
abbrev pub offsets_found : List ℕ → RowFront → ℕ → Begin → Filling → Offsets
offsets_found whole x column b f = offsets_from whole x.at.now (read_slices x.gap.now column b f)

-- the same of a row that begins at an offset
abbrev pub offsets_read : ℕ → List ℕ → ℕ → Begin → Filling → Offsets
offsets_read start gap column b f = offsets_of start (read_slices gap column b f)

-- where rows are that were read, the gap after them, and what comes after that
abbrev pub RowsRead : Type 0
RowsRead = Vec Offsets Global × Bor (List ℕ) × Bor (List ℕ)

-- the answer is rows and those that reading gives, the gap after them, and what comes after that
abbrev pub GivesRows : List ℕ → Vec Offsets Global → Result RowsRead ReadError → Option (Part × List ℕ) → Type 0
GivesRows whole rows r read = Gives (λ x. (rows_in whole x.0.items, x.1.now, x.2.now)) r (rows_sliced (rows_in whole rows.items) read)

-- these are where the rows are in the whole text
abbrev pub PlacesRows : (whole text : List ℕ) → Vec Offsets Global → Result RowsRead ReadError → Option (Part × List ℕ) → Type 0
PlacesRows whole text rows r read = Gives (λ x. x.0.items) r (rows_placed rows.items (length whole - length text) read)

-- the rows that are no word rows are known, of rows in a whole text
abbrev pub KnowsOthersOf : List ℕ → Vec Offsets Global → Notes → Type 0
KnowsOthersOf whole rows notes = AreOtherRows (rows_in whole rows.items) 0 notes.others.items

-- these with a row more, unless it is a word row
abbrev pub with_other : List Other → Bool → Other → List Other
with_other others is_word row = others ++ (if is_word then [] else row ∷ [])

-- where they are noted, and known before, they are known after
abbrev pub KeepOthers : Bool → List ℕ → Vec Offsets Global → Notes → Result RowsRead ReadError → Notes → Type 0
KeepOthers noted whole rows before r after = noted ≡ true → KnowsOthersOf whole rows before → IfOk r (λ x. KnowsOthersOf whole x.0 after)

-- the key after a dash and these spaces, with what comes after it up to its `:`, and what follows; a key needs spaces
abbrev pub key_after : (spaces next : List ℕ) → Option (List ℕ × List ℕ × List ℕ)
key_after spaces next = if is_empty spaces then None else read_row_key next

-- three slices that are found are these
abbrev pub FindsSlices : Option (Bor (List ℕ) × Bor (List ℕ) × Bor (List ℕ)) → Option (List ℕ × List ℕ × List ℕ) → Type 0
FindsSlices found slices = option_map (λ x. (x.0.now, x.1.now, x.2.now)) found ≡ slices

-- where a text is that of items which are read alone, the answer is these
abbrev pub GivesRegion : List ℕ → Result RowsView ReadError → Type 0
GivesRegion t r = (xs back : List Item) → IsReadAlone xs back → t ≡ items_text xs [] → Gives (λ s. s) r (Some (view_of_items (region_items xs back)))

-- ---- a text that changes

-- a count rose by the lines of a text
abbrev pub CountsLines : (before after : ℕ) → List ℕ → Type 0
CountsLines before after t = after ≡ count_after (line_count t) before

-- the same after a success
abbrev pub CountsRead : {T E : Type 0} → Result T E → (before after : ℕ) → List ℕ → Type 0
CountsRead r before after t = OnOk r (CountsLines before after t)

-- the rows in front of a split and those after it, by their places in a text of so many bytes
abbrev pub split_rows : ℕ → (front after : Vec Offsets Global) → List Offsets
split_rows n front after = both_sides n front.items after.items

-- the same of all rows that are kept
abbrev pub rows_kept : ℕ → Places → List Offsets
rows_kept n p = split_rows n p.front p.after

-- whether rows or ends of parts come after so many
abbrev pub has_more_than : Side → Places → Bool
has_more_than old p = nat_lt old.rows (length (kept_rows p)) || nat_lt old.ends (length p.ends)

-- what is touched is what a change of the text exchanges, whatever the new text is
abbrev pub IsTouchedIn : ℕ → Bool → Kept → Places → Touched → Type 0
IsTouchedIn len begins kept p x =
    (t new : List ℕ) → len ≡ length t → begins ≡ begins_line t kept.front → (h : Follows t p kept new) → TextChange t new kept p x

-- a text after a change, if it was carried out
abbrev pub exchanged_by : {T E : Type 0} → Result T E → Kept → List ℕ → List ℕ → List ℕ
exchanged_by r kept t new = if is_ok r then exchanged kept t new else t

-- a count rose by the lines that are read where a change of a text exchanges rows
abbrev pub CountsExchanged : (old new : TextGapView) → Kept → (before after : ℕ) → Type 0
CountsExchanged old new kept before after = CountsWritten (buffer_text old) (buffer_text new) kept before after
