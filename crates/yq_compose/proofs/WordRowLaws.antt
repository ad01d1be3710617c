-- Word rows: the text lends what they spell.
use Rattle.std.proofs.Common.{⊎_elim, rules, ◌≡◌, ℕ, zero, suc, ◌+◌, ◌-◌, ◌<◌, ◌≤◌, Bool, true, false, not, ◌||◌, List, [], ◌∷◌, drop}
use Rattle.std.proofs.Common.{length, take, append-nil, get_or, Some, None, refl, sym, ◌∙◌, subst, arith, inl, inr}
use Rattle.std.{proofs.lemmas.Bool.{and_parts, false≢true, or_cases}, specs.List.slice_get}
use Rattle.yq_core.{specs.Borrowed.borrows_text, specs.Runs.is_word_byte, specs.Scalars.is_quoted, specs.Text.{front, is_empty}}
use Rattle.yq_core.{proofs.Bools.at_byte, specs.FitKeys.key_fits}
use Rattle.yq_row_table.{specs.Rows.Row, specs.View.{RowsView, Slices, rows_of, slices}}
use Rattle.yq_row_table.specs.WordRows.{AreOtherRows, AreWordRows, KnowsRow, borrows_quoted, is_word_head, is_word_key, is_word_row}
use Rattle.yq_row_table.{specs.declared.rows.Other.Other, proofs.WordFronts.word_unquoted}
use Rattle.yq_documents.{specs.Decoded.IsDecodedBy, specs.Reading.{cut_of, mark_is_fit}, specs.RowReading.row_fits}
use Rattle.yq_documents.specs.declared.decoded.Decoded.{Decoded}
use Rattle.yq_compose.{specs.Checking.{begins_tree, borrows_head}, specs.Decoding.{IsCutInto, IsKeyDecoded, NamesNone}}
use Rattle.yq_compose.{proofs.AheadLaws.first_apart, proofs.DecodedRows.{DecodedUpto, row_step}, proofs.WordHeads.no_tree}
use Rattle.yq_compose.proofs.RowsRead.{borrowed_fit, key_borrowed, key_fits_is, key_unquoted, keyless, no_head, none_given, none_named}
use Rattle.yq_compose.proofs.RowsRead.{pieces_there, row_at}

no_break : (b : Bool) → not b ≡ true → b ≡ false
no_break false h = refl
no_break true h = absurd (false≢true h)

quoted_no_tree : (h : List ℕ) → is_quoted h ≡ true → begins_tree h ≡ false
quoted_no_tree h quoted = search (rules, ⊎_elim, or_cases)

word_borrows : (h : List ℕ) → is_word_head h ≡ true → borrows_head h ≡ true
word_borrows h is = search (rules, ⊎_elim, or_cases, no_head, and_parts, no_tree, no_break, word_unquoted, quoted_no_tree)

word_fits : (key : List ℕ) → front is_word_byte key ≡ true → key_fits key ≡ true
word_fits [] word = refl
word_fits (b ∷ bs) word = rw (at_byte is_word_byte b 60 word refl) refl

quoted_fits : (key : List ℕ) → is_quoted key ≡ true → key_fits key ≡ true
quoted_fits key quoted = search (rules, ⊎_elim, or_cases)

-- What is made of the rows before those that are left, and whether an alias may be in them.
pub record OthersDecoded (t : List ℕ) (b : Bool) (rows : List Slices) (left : List Other) (ms : List Decoded) : Type 0 where
  pub at : ℕ
  pub within : at ≤ length rows
  pub upto : DecodedUpto t b at ms
  pub others : AreOtherRows rows at left

none_more : (b : Bool) → b ≡ (b || false)
none_more false = refl
none_more true = refl

module _ (t : List ℕ) (s : RowsView) (k : IsCutInto t s) where
  module _ (i : ℕ) (r : Row) (is : slice_get (rows_of (cut_of t)) i ≡ Some r) where
    word_key : is_word_key (slices r).key (slices r).colon ≡ true → (mark_is_fit r.mark ≡ true) × IsKeyDecoded None r
    word_key lends = elim (or_cases (is_empty (slices r).colon) (front is_word_byte (slices r).key || borrows_quoted (slices r).key) lends) [
      | inl none ↦ keyless t s k i r is none
      | inr some ↦ elim (or_cases (front is_word_byte (slices r).key) (borrows_quoted (slices r).key) some) [
        | inl word ↦ (
          sym (key_fits_is t s k i r is (slices r).key refl) ∙ word_fits (slices r).key word,
          key_unquoted t s k i r is (slices r).key refl (word_unquoted (slices r).key word),
        )
        | inr lent ↦
            let p = and_parts (is_quoted (slices r).key) (borrows_text (slices r).key) lent in
            (sym (key_fits_is t s k i r is (slices r).key refl) ∙ quoted_fits (slices r).key p.0, key_borrowed t s k i r is (slices r).key refl p.1)
      ]
    ]

    -- nothing is made of a word row, which is fit and no alias
    word_decoded : is_word_row (slices r) ≡ true → (row_fits r ≡ true) × IsDecodedBy t (cut_of t) None i r × NamesNone t i r
    word_decoded word =
        let p = and_parts (is_word_key (slices r).key (slices r).colon) (is_word_head (slices r).head) word in
        let key = word_key p.0 in
        let borrows = word_borrows (slices r).head p.1 in (
          rw (key.0, borrowed_fit t s k i r is (slices r).head refl borrows) refl,
          record { key = key.1; head = none_given t s k i r is (slices r).head refl borrows },
          none_named t s k i r is (slices r).head refl borrows,
        )

  module _ (b : Bool) where
    -- word rows are passed
    passed_by : (d i j : ℕ) (ms : List Decoded) → d + i ≡ j → j ≤ length s.rows → AreWordRows s.rows i j → DecodedUpto t b i ms → DecodedUpto t b j ms
    passed_by zero i j ms e le words u = let here : i ≡ j = omega (arith, e) in subst (λ (n : ℕ). DecodedUpto t b n ms) here u
    passed_by (suc d) i j ms e le words u =
        let r = row_at t s k i (omega (arith, e, le)) in
        let p = word_decoded i r.0 r.1 (words i (slices r.0) (omega arith) (omega (arith, e)) (pieces_there t s k i r.0 r.1)) in
        passed_by d (i + 1) j ms (omega (arith, e)) le (λ n x from to at. words n x (omega (arith, from)) to at)
        (row_step t b i ms u r.0 r.1 p.0 None ms tt (sym (append-nil ms)) p.1 false b (none_more b) (λ no_alias. p.2))

    words_passed : (i j : ℕ) (ms : List Decoded) → i ≤ j → j ≤ length s.rows → AreWordRows s.rows i j → DecodedUpto t b i ms → DecodedUpto t b j ms
    words_passed i j ms from = passed_by (j - i) i j ms (omega (arith, from))

    -- the next of those that are left
    pub next_other : (x : Other) (left : List Other) (ms : List Decoded) → 1 ≤ length left → OthersDecoded t b s.rows left ms →
        ((get_or left 0 x).row < length s.rows) × DecodedUpto t b (get_or left 0 x).row ms × KnowsRow s.rows (get_or left 0 x)
        × AreOtherRows s.rows (suc (get_or left 0 x).row) (take (length left - 1) (drop 1 left))
    next_other x [] ms some u = absurd (omega (arith, some))
    next_other x (o ∷ os) ms some u =
        let h = subst (AreOtherRows s.rows u.at) (first_apart (o ∷ os) o some refl) u.others in
        (h.1, words_passed u.at o.row ms h.0 (omega (arith, h.1)) h.2 u.upto, h.3, h.4)

    -- after the last of them
    pub no_other : (left : List Other) (ms : List Decoded) → length left < 1 → OthersDecoded t b s.rows left ms → DecodedUpto t b (length s.rows) ms
    no_other [] ms none u = words_passed u.at (length s.rows) ms u.within (omega arith) u.others u.upto
    no_other (o ∷ os) ms none u = absurd (omega (arith, none))
