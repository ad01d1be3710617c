-- A key has one line, so that its `:` is in front of the end of the line.
use Rattle.std.proofs.Common.{rules, ◌≡◌, inl, inr, ℕ, suc, ◌+◌, Bool, true, false, not, ◌&&◌, eqb, List, [], ◌∷◌, ◌++◌, Option, Some, None}
use Rattle.std.{proofs.Common.{refl, ap, ◌∙◌, arith, append_assoc, drop}, proofs.lemmas.Bool.{cases_Bool, false≢true, not-true, or_parts}}
use Rattle.std.{specs.List.prefix_len, specs.Option.option_or}
use Rattle.yq_core.{specs.Plain.{ends_plain, holds_break, plain_may_follow}, specs.Text.{NoneIn, is_feed, is_white, upto}}
use Rattle.yq_core.{proofs.Bools.at_byte, specs.Nodes.begins_with, specs.Scalars.IsScalarAt}
use Rattle.yq_row_table.{specs.Gap.IsWhite, specs.Reading.{holds_colon, read_row_key}, proofs.PieceLaws.key_takes}

-- a plain scalar that may have no further line ends before an LF
last_false : (a b c d : Bool) → d ≡ false → (a && b && c && d) ≡ false
last_false a b c d e = search rules

none_deep : (o : Option (List ℕ)) (line text : List ℕ) → plain_may_follow None (option_or o (Some line)) text ≡ false
none_deep o line text = search rules

no_feed : (b : ℕ) (t : List ℕ) → ends_plain false None (b ∷ t) ≡ false → is_feed b ≡ false
unfolding upto
no_feed b t h = search (rules, cases_Bool, false≢true, last_false, none_deep)

plain_line : (p rest : List ℕ) → NoneIn (ends_plain false None) p rest → holds_break p ≡ false
plain_line [] rest h = refl
plain_line (b ∷ p) rest h = rw (no_feed b (p ++ rest) h.0, plain_line p rest h.1) refl

pub key_line : (p rest : List ℕ) → IsScalarAt false None p rest → holds_break p ≡ false
key_line p rest h = search (rules, plain_line, not-true)

white_line : (w : List ℕ) → IsWhite w → holds_break w ≡ false
white_line [] h = refl
white_line (b ∷ w) h = rw (at_byte is_white b 10 h.0 refl, white_line w h.1) refl

-- what is on the line in front of a `:`
abbrev before_offset : ℕ → Bool
before_offset b = not (eqb b 58) && not (eqb b 10)

one_further : (b : ℕ) (t : List ℕ) (n : ℕ) → begins_with 58 (drop (1 + n) (b ∷ t)) ≡ begins_with 58 (drop n t)
one_further b t n = ap (λ (k : ℕ). begins_with 58 (drop k (b ∷ t))) (let one : 1 + n ≡ suc n = omega arith in one)

colon_after : (p t : List ℕ) → holds_break p ≡ false → holds_colon t ≡ true → holds_colon (p ++ t) ≡ true
colon_after [] t h is = is
colon_after (b ∷ p) t h is = elim (cases_Bool (eqb b 58)) [
  | inl e ↦ rw e (rw e refl)
  | inr e ↦ (let parts = or_parts (is_feed b) (holds_break p) h in rw (e, parts.0) (one_further b (p ++ t) (prefix_len before_offset (p ++ t)) ∙ colon_after p t parts.1 is))
]

key_colon : (t : List ℕ) (k : List ℕ × List ℕ × List ℕ) → read_row_key t ≡ Some k → holds_colon t ≡ true
key_colon t k h =
    let x = key_takes t k h in
    let colon = x.1.colon_is in
    let spelled : k.1 ++ k.2 ≡ colon.white ++ (58 ∷ k.2) = ap (λ (l : List ℕ). l ++ k.2) colon.spelled ∙ append_assoc colon.white (58 ∷ []) k.2 in
    let whole : t ≡ k.0 ++ (colon.white ++ (58 ∷ k.2)) = x.0 ∙ ap (λ (l : List ℕ). k.0 ++ l) spelled in
    rw whole (colon_after k.0 (colon.white ++ (58 ∷ k.2)) (key_line k.0 (k.1 ++ k.2) x.1.scalar) (colon_after colon.white (58 ∷ k.2) (white_line colon.white colon.blank) refl))

pub no_key_line : (t : List ℕ) → holds_colon t ≡ false → read_row_key t ≡ None
no_key_line t h = search (rules, false≢true, key_colon)
