-- What a literal scalar holds as it is can be written so.
use Rattle.std.proofs.Common.{◌≡◌, ℕ, Bool, true, false, not, ◌&&◌, eqb, List, [], ◌∷◌, length, refl, sym, ap, ◌∙◌, inr, ◌⊎◌, ⊎_elim, arith}
use Rattle.std.{proofs.Common.{eqb-true, rules, ◌≤◌}, proofs.lemmas.Bool.{false≢true, false_from_ne_true, not-true, and_parts, cases_Bool}}
use Rattle.std.{specs.Str.{IsUtf8, chars}, specs.List.{ends_with, list_all}, specs.Prelude.nat_eq, proofs.Math.Dec.eqb-suc-zero}
use Rattle.yq_core.proofs.BlockWrittenHeader.{some_lines, ends_next}
use Rattle.yq_core.{proofs.BlockWrittenLaws.{ends_some, CanWrite, written_is, written_content}, proofs.BlockWrittenLines.{NoCr, text_next}}
use Rattle.yq_core.{proofs.Bools.{at_byte, not_byte}, proofs.Bytes.{Each, each_byte}}
use Rattle.yq_core.{specs.Block.{RawLines, no_lines, is_tail, ends_block, IsBlock}, specs.BlockContent.{text_of_line, block_content}}
use Rattle.yq_core.specs.Text.{is_white, is_empty, text_lines, put_byte}
use Rattle.yq_core.{specs.Writable.{is_literal_char, is_literal_text, can_write, is_string}, specs.declared.block_types.Break.Break}
use Rattle.yq_core.{specs.BlockWritten.{written_block, break_text}, specs.Scalar.ScalarText}
use Rattle.yq_core.specs.declared.style.Place.TheVariants as places
use Rattle.yq_core.specs.declared.style.Style.TheVariants as styles

byte_some : (b : ℕ) (l : List ℕ) → eqb b 10 ≡ false → eqb b 13 ≡ false → not (eqb (length (text_of_line (b ∷ l))) 0) ≡ true
byte_some b l e n = rw (text_next b l e n) (rw (eqb-suc-zero (length (text_of_line l))) refl)

put_some : (b : ℕ) (l : List ℕ) (ls : RawLines) → eqb b 10 ≡ false → eqb b 13 ≡ false → (no_lines ls ≡ false → ends_some (l ∷ ls) ≡ true) → ends_some (put_byte b (l ∷ ls)) ≡ true
unfolding ends_some
put_some b l ls e n h = search (rules, byte_some)

more_lines : (c : ℕ) (t l : List ℕ) (ls : RawLines) → text_lines (c ∷ t) ≡ l ∷ ls → no_lines ls ≡ false → is_empty t ≡ false
unfolding text_lines
more_lines c t l ls e k = search rules

-- two LFs at the end
abbrev feeds : List ℕ
feeds = 10 ∷ 10 ∷ []

feeds_next : (b c : ℕ) (t : List ℕ) → ends_with nat_eq (b ∷ c ∷ t) feeds ≡ false → ends_with nat_eq (c ∷ t) feeds ≡ false
feeds_next b c [] h = search (rules, ⊎_elim, cases_Bool)
feeds_next b c (x ∷ t) h = sym (ends_next b (c ∷ x ∷ t) feeds (omega arith)) ∙ h

feed_after : (b c : ℕ) (t : List ℕ) → eqb b 10 ≡ true → ends_with nat_eq (b ∷ c ∷ t) feeds ≡ false → (eqb c 10 ≡ false) ⊎ (is_empty t ≡ false)
feed_after b c t h1 h2 = search (rules, false_from_ne_true, eqb-true, false≢true)

ends_is : (b : ℕ) (s : List ℕ) → NoCr (b ∷ s) → ends_with nat_eq (b ∷ s) feeds ≡ false → (eqb b 10 ≡ false) ⊎ (is_empty s ≡ false) → ends_some (text_lines (b ∷ s)) ≡ true
unfolding text_lines ends_some
ends_is b [] n h f = ⊎_elim {0, 0, 0} (λ e. rw e (byte_some b [] e n.0)) (λ e. absurd (false≢true (sym e))) f
ends_is b (c ∷ t) n h f =
    let next = feeds_next b c t h in
    let x = some_lines (c ∷ t) (omega arith) in
    ⊎_elim {0, 0, 0}
    (λ e. rw e (ap (λ ls. ends_some ((b ∷ []) ∷ ls)) x.2 ∙ (ap ends_some (sym x.2) ∙ ends_is c t n.1 next (feed_after b c t e h))))
    (λ e. rw e (ap (λ ls. ends_some (put_byte b ls)) x.2 ∙ put_some b x.0 x.1 e n.0 (λ k. ap ends_some (sym x.2) ∙ ends_is c t n.1 next (inr (more_lines c t x.0 x.1 x.2 k)))))
    (cases_Bool (eqb b 10))

no_cr : (t : List ℕ) → Each (λ x. not (eqb x 13)) t → NoCr t
no_cr [] h = tt
no_cr (b ∷ t) h = (not-true (eqb b 13) h.0, no_cr t h.1)

literal_cr : (t : List ℕ) → IsUtf8 t → list_all is_literal_char (chars t) ≡ true → NoCr t
literal_cr t u h = no_cr t (each_byte (λ x. not (eqb x 13)) is_literal_char t u h (λ c low q. rw (at_byte is_literal_char c 13 q refl) refl) (λ b high. rw (not_byte b 13 (omega arith)) refl))

pub literal_can : (t : List ℕ) → IsUtf8 t → is_literal_text t ≡ true → CanWrite t
literal_can [] u h = absurd (false≢true h)
literal_can (b ∷ s) u h =
    let white : Bool = not (is_white b) in
    let feed_ : Bool = not (eqb b 10) in
    let p = and_parts (white && feed_ && not (ends_with nat_eq (b ∷ s) feeds)) (list_all is_literal_char (chars (b ∷ s))) h in
    let q = and_parts (white && feed_) (not (ends_with nat_eq (b ∷ s) feeds)) p.0 in
    let plain = literal_cr (b ∷ s) u p.1 in
    search (rules, ends_is, not-true, and_parts)

can_text : (s : ScalarText) → can_write s styles.Literal places.Block ≡ true → is_literal_text s.text ≡ true
can_text s h = (and_parts (is_string s.kind && true) (is_literal_text s.text) h).1

pub literal_block : (least m : ℕ) (b : Break) (s : ScalarText) (tail rest : List ℕ) → IsUtf8 s.text →
    can_write s styles.Literal places.Block ≡ true → least ≤ m → is_tail tail ≡ true →
    ends_block false (record { columns = m; known = true }) (text_lines rest) ≡ true → IsBlock least (written_block s.text m (break_text b) tail) rest
literal_block least m b s tail rest u can le line after = written_is least m b s.text tail rest (literal_can s.text u (can_text s can)) le line after

pub literal_content : (m : ℕ) (b : Break) (s : ScalarText) (tail : List ℕ) → IsUtf8 s.text → can_write s styles.Literal places.Block ≡ true → block_content (written_block s.text m (break_text b) tail) ≡ s.text
literal_content m b s tail u can = written_content m b s.text tail (literal_can s.text u (can_text s can))
