-- What a letter, a digit, no ASCII or an LF in front tells.
use Rattle.std.proofs.Common.{rules, ◌≡◌, ℕ, Bool, true, false, ◌||◌, eqb, Option, Some, List, [], ◌∷◌, take, drop, refl, sym, ap, ◌∙◌, inl}
use Rattle.std.{proofs.Common.inr, proofs.lemmas.Bool.{false≢true, or_cases, and_right, cases_Bool}, specs.List.prefix_len}
use Rattle.yq_core.{specs.Lines.is_hash, specs.Text.{upto, cut, front, line_len, ends_line, past_white}}
use Rattle.yq_core.{specs.Plain.{begins_plain, ends_plain, plain_at}, proofs.Bools.at_byte, proofs.SpaceLaws.{prefix_drop, white_drop}}
use Rattle.yq_core.{specs.Nodes.begins_with, specs.Reading.read_scalar, specs.Runs.is_word_byte, specs.Scalars.{is_quoted, begins_scalar}}
use Rattle.yq_row_table.{specs.Slicing.begins_other, specs.Reading.{begins_gap, begins_block, read_tail}}

isnt : (b k : ℕ) → is_word_byte b ≡ true → is_word_byte k ≡ false → eqb b k ≡ false
isnt b k h there = at_byte is_word_byte b k h there

pub word_unquoted : (t : List ℕ) → front is_word_byte t ≡ true → is_quoted t ≡ false
word_unquoted t h = search (rules, isnt)

pub word_plain : (t : List ℕ) → front is_word_byte t ≡ true → begins_plain false t ≡ true
word_plain t h = search (rules, false≢true, isnt)

pub word_scalar : (t : List ℕ) → front is_word_byte t ≡ true → begins_scalar false t ≡ true
word_scalar t h = rw (word_unquoted t h) (word_plain t h)

pub word_at : (spaces : Option ℕ) (t : List ℕ) → front is_word_byte t ≡ true → read_scalar false spaces t ≡ Some (cut (ends_plain false spaces) t)
unfolding read_scalar plain_at
word_at spaces t h = rw (word_unquoted t h) (rw (word_plain t h) refl)

pub word_other : (t : List ℕ) → front is_word_byte t ≡ true → begins_other t ≡ false
word_other t h = search (rules, isnt)

pub word_block : (t : List ℕ) → front is_word_byte t ≡ true → begins_block t ≡ false
word_block t h = search (rules, false≢true, isnt)

-- a letter, a digit, no ASCII or a dash is in front (own)
abbrev pub row_front : List ℕ → Bool
row_front t = front is_word_byte t || begins_with 45 t

pub row_gap : (t : List ℕ) → row_front t ≡ true → begins_gap t ≡ false
unfolding upto
row_gap t h = elim (or_cases (front is_word_byte t) (begins_with 45 t) h) [ inl w ↦ (search (rules, isnt)) | inr d ↦ (search rules) ]

-- past the spaces in front, and past the white space after them
past_after : (t : List ℕ) → past_white (drop (prefix_len (λ b. eqb b 32) t) t) ≡ past_white t
past_after [] = refl
past_after (b ∷ l) = elim (cases_Bool (eqb b 32)) [
  | inl e ↦ ap past_white (prefix_drop (λ x. eqb x 32) b l ∙ rw e refl) ∙ past_after l ∙ sym (white_drop b l ∙ rw e refl)
  | inr e ↦ ap past_white (prefix_drop (λ x. eqb x 32) b l ∙ rw e refl)
]

pub without_spaces : (t u : List ℕ) (n : ℕ) → n ≡ prefix_len (λ b. eqb b 32) t → u ≡ drop n t → past_white t ≡ past_white u
without_spaces t u n e back = sym (ap past_white (back ∙ ap (λ k. drop k t) e) ∙ past_after t)

row_past : (t : List ℕ) → row_front t ≡ true → (ends_line (past_white t) || is_hash (past_white t)) ≡ false
row_past [] h = absurd (false≢true h)
row_past (b ∷ bs) h = row_gap (b ∷ bs) h

pub indented_gap : (t u : List ℕ) (n : ℕ) → n ≡ prefix_len (λ b. eqb b 32) t → u ≡ drop n t → row_front u ≡ true → begins_gap t ≡ false
indented_gap t u n e back h = search (rules, without_spaces, and_right, row_past)

pub feed_tail : (t : List ℕ) → begins_with 10 t ≡ true → read_tail t ≡ Some (take 1 t, drop 1 t)
unfolding read_tail upto line_len
feed_tail t h = search (rules, false≢true)
