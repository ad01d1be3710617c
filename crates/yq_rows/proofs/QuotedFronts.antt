-- A scalar in double quotes in front, on one line and without escapes.
use Rattle.std.proofs.Common.{◌≡◌, ℕ, Bool, true, false, ◌&&◌, eqb-true, List, [], ◌∷◌, Option, Some, refl, sym, ap, ◌∙◌, not}
use Rattle.std.proofs.lemmas.Bool.{false≢true, or_right}
use Rattle.yq_core.{specs.Borrowed.borrows_text, specs.Nodes.begins_with, specs.Plain.holds_break, specs.Reading.read_scalar}
use Rattle.yq_core.{specs.Runs.is_word_byte, specs.Scalars.is_quoted, specs.Text.{front, is_empty}}
use Rattle.yq_row_table.{specs.Reading.begins_block, specs.Slicing.begins_other, specs.WordRows.{borrows_quoted, is_word_head}}
use Rattle.yq_inline.specs.Short.{IsShortScalar}
use Rattle.yq_rows.specs.RowAnswers.{IsFrontScalar}

quote_quoted : (t : List ℕ) → begins_with 34 t ≡ true → is_quoted t ≡ true
quote_quoted [] h = h
quote_quoted (b ∷ bs) h = rw (eqb-true b 34 h) refl

quote_block : (t : List ℕ) → begins_with 34 t ≡ true → begins_block t ≡ false
quote_block [] h = absurd (false≢true h)
quote_block (b ∷ bs) h = rw (eqb-true b 34 h) refl

quote_other : (t : List ℕ) → begins_with 34 t ≡ true → begins_other t ≡ false
quote_other [] h = absurd (false≢true h)
quote_other (b ∷ bs) h = rw (eqb-true b 34 h) refl

-- in quotes it is read alike in flow and outside
read_outside : (spaces : Option ℕ) (t : List ℕ) → is_quoted t ≡ true → read_scalar false spaces t ≡ read_scalar true spaces t
unfolding read_scalar
read_outside spaces t quoted = rw quoted refl

pub quoted_outside : (spaces : Option ℕ) (t piece rest : List ℕ) → begins_with 34 t ≡ true → IsShortScalar t piece rest → read_scalar false spaces t ≡ Some (piece, rest)
quoted_outside spaces t piece rest quote s = read_outside spaces t (quote_quoted t quote) ∙ s.read spaces

pub borrows_both : (p : List ℕ) → is_quoted p ≡ true → borrows_text p ≡ true → borrows_quoted p ≡ true
borrows_both p quoted borrows = ap (λ (x : Bool). x && borrows_text p) quoted ∙ borrows

-- such a head
pub head_in_quotes : (h : List ℕ) → borrows_quoted h ≡ true → is_word_head h ≡ true
head_in_quotes h borrows = or_right (is_empty h) _ (or_right (front is_word_byte h && not (holds_break h)) (borrows_quoted h) borrows)

pub quoted_front : (spaces : Option ℕ) (t head after : List ℕ) (is_word : Bool) → begins_with 34 t ≡ true → is_word ≡ is_quoted head → IsShortScalar t head after →
    IsFrontScalar spaces t head after is_word
quoted_front spaces t head after is_word quote is s =
    let quoted = quote_quoted t quote in
    record {
      block = quote_block t quote;
      other = quote_other t quote;
      begins = rw quoted refl;
      read = quoted_outside spaces t head after quote s;
      word = λ yes. head_in_quotes head (borrows_both head (sym is ∙ yes) s.borrows);
    }
