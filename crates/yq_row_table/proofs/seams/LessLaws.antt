-- What comes after a gap is less indented than a block scalar's text.
use Rattle.std.proofs.Common.{◌≡◌, ℕ, zero, suc, ◌<◌, true, false, ◌&&◌, eqb, List, [], ◌∷◌, ◌++◌, refl, sym, ap, ◌∙◌, ⊎_elim, replicate}
use Rattle.std.{proofs.Common.rules, proofs.lemmas.Bool.{false≢true, lt-ltb, not-true, or_cases, and_from, or_parts}}
use Rattle.yq_core.{specs.BlockRepair.comes_later, specs.declared.block_lines.TextIndent.TextIndent}
use Rattle.yq_core.specs.Text.{front, is_white, is_feed, is_return, is_empty, is_marker, ends_line, put_byte, text_lines}
use Rattle.yq_core.proofs.SpaceLaws.{prefix_none, spaces_front, drop_front}
use Rattle.yq_row_table.{specs.Grammar.{Limit, AreRows, ends_part}, specs.Rows.{Row, after_indent, rows_text}, specs.Removal.next_column}
use Rattle.yq_row_table.{specs.Splices.after_first, proofs.AlikeBlocks.put_first, proofs.EmptyTexts.empty_is, proofs.Fronts.Starts}
use Rattle.yq_row_table.{proofs.RowAgain.row_starts, proofs.RowsRead.marker_starts}

-- The first line of a text that begins with spaces and a byte.
record First (n b : ℕ) (t : List ℕ) : Type 0 where
  line : List ℕ
  lines : List (List ℕ)
  is : text_lines (replicate n 32 ++ (b ∷ t)) ≡ (replicate n 32 ++ (b ∷ line)) ∷ lines
  front_is : front is_feed line ≡ front is_feed t

first : (n b : ℕ) (t : List ℕ) → is_feed b ≡ false → First n b t
unfolding text_lines
first zero b t e = let p = put_first b t in record { line = p.line; lines = p.lines; is = rw e p.is; front_is = p.front_is }
first (suc n) b t e = let p = first n b t e in record { line = p.line; lines = p.lines; is = ap (put_byte 32) p.is; front_is = p.front_is }

pub starts_less : (f : TextIndent) (n : ℕ) (t : List ℕ) → Starts t → n < f.columns → comes_later f (text_lines (replicate n 32 ++ t)) ≡ true
starts_less f n [] h less = absurd (false≢true (sym h.some))
starts_less f n (b ∷ t) h less =
    let white = or_parts (eqb b 32) (eqb b 9) (not-true (is_white b) h.no_white) in
    let feed : is_feed b ≡ false = (or_parts (is_feed b) (is_return b && front is_feed t) h.no_end).0 in
    let p = first n b t feed in
    let end : ends_line (b ∷ p.line) ≡ false = rw p.front_is h.no_end in
    ap (comes_later f) p.is ∙ (search (rules, prefix_none, spaces_front, drop_front, lt-ltb, and_from))

pub after_less : (f : TextIndent) (limit : Limit) (rs : List Row) (end rest : List ℕ) → AreRows limit rs end rest → ends_part rest ≡ true → next_column rs < f.columns → comes_later f (text_lines (after_first rs end rest)) ≡ true
unfolding text_lines
after_less f limit [] end rest h e less = ⊎_elim {0, 0, 0}
    (λ none. ap (λ t. comes_later f (text_lines t)) (empty_is rest none) ∙ refl)
    (λ marker. starts_less f 0 rest (marker_starts rest marker) less)
    (or_cases (is_empty rest) (is_marker rest) e)
after_less f limit (r ∷ rs) end rest h e less = starts_less f r.column (after_indent r (rows_text rs (end ++ rest))) (row_starts limit r (rows_text rs (end ++ rest)) h.0) less
