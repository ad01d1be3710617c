-- A text without what it begins with, and whether the rest is what comes after that.
use Rattle.std.proofs.Common.{⊎_elim, rules, ◌≡◌, ◌≢◌, ◌<◌, ◌-◌, ℕ, zero, suc, Bool, true, false, eqb, List, [], ◌∷◌, ◌++◌, length}
use Rattle.std.proofs.Common.{replicate, Option, None, refl, ap, ◌∙◌, arith, eqb-true, bytes_eq}
use Rattle.std.{proofs.lemmas.Bool.{cases_Bool, eq-eqb, ne_eqb}, proofs.lemmas.Slice.Eq.bytes_eq-Decides, proofs.Math.Utf8.encode}
use Rattle.std.{specs.Str.Pattern.{FindsTextPrefix, FindsCharPrefix, StripsPrefix}, specs.Prelude.MatchOption}
use denote.Bor.{Bor}
use Rattle.yq_core.specs.ContentReading.{content_on, before_of}
use Rattle.yq_scalar_reader.specs.Folded.{StripsText}

-- what `strip_prefix` says at a text and at a character
pub strips_text : (p t : List ℕ) (r : Option (Bor (List ℕ))) → MatchOption r (FindsTextPrefix p t None) (λ x. StripsPrefix (FindsTextPrefix p) t x.now) → StripsText p t r
strips_text p t r h = search rules

pub strips_char : (c : ℕ) (t : List ℕ) (r : Option (Bor (List ℕ))) → MatchOption r (FindsCharPrefix c t None) (λ x. StripsPrefix (FindsCharPrefix c) t x.now) → StripsText (encode c) t r
strips_char c t r h = search (rules, encode)

same_front : (p c x : List ℕ) → bytes_eq (p ++ c) (p ++ x) ≡ bytes_eq c x
same_front [] c x = refl
same_front (b ∷ p) c x = rw (eq-eqb b b refl) (same_front p c x)

-- a text that begins with these bytes is compared after them
pub same_after : (p c w x : List ℕ) → w ≡ p ++ x → bytes_eq (p ++ c) w ≡ bytes_eq c x
same_after p c w x e = ap (bytes_eq (p ++ c)) e ∙ same_front p c x

-- one that doesn't is another
pub other_front : (p c w : List ℕ) → ((rest : List ℕ) → w ≢ p ++ rest) → bytes_eq (p ++ c) w ≡ false
other_front p c w other = search (rules, ⊎_elim, cases_Bool, bytes_eq-Decides)

-- at the end of what is folded
pub same_end : (q : ℕ) (j : Bool) (rest wanted : List ℕ) → eqb (length rest) 0 ≡ true → eqb (length wanted) 0 ≡ bytes_eq (content_on q 0 (before_of j) [] rest) wanted
unfolding content_on
same_end q true [] [] h = eq-eqb 0 0 refl
same_end q true [] (w ∷ ws) h = ne_eqb (length (w ∷ ws)) 0 (λ e. omega (arith, e))
same_end q false [] [] h = eq-eqb 0 0 refl
same_end q false [] (w ∷ ws) h = ne_eqb (length (w ∷ ws)) 0 (λ e. omega (arith, e))
same_end q j (b ∷ bs) wanted h = absurd (omega (arith, eqb-true (length (b ∷ bs)) 0 h))

-- LFs in front, one by one: a text begins with so many of them where the rest begins with those that are left
abbrev pub OnlyLeft : ℕ → List ℕ → ℕ → List ℕ → Type 0
OnlyLeft count text left rest = ((s : List ℕ) → rest ≡ replicate left 10 ++ s → text ≡ replicate count 10 ++ s) × ((s : List ℕ) → text ≡ replicate count 10 ++ s → rest ≡ replicate left 10 ++ s)

pub feed_missing : (count : ℕ) (text : List ℕ) (left : ℕ) (rest : List ℕ) → OnlyLeft count text left rest → 0 < left → ((s : List ℕ) → rest ≢ 10 ∷ s) → (s : List ℕ) → text ≢ replicate count 10 ++ s
feed_missing count text zero rest h some other s e = absurd (omega (arith, some))
feed_missing count text (suc k) rest h some other s e = other (replicate k 10 ++ s) (h.1 s e)

pub feed_stripped : (count : ℕ) (text : List ℕ) (left : ℕ) (rest after : List ℕ) → OnlyLeft count text left rest → 0 < left → rest ≡ 10 ∷ after → OnlyLeft count text (left - 1) after
feed_stripped count text zero rest after h some is = absurd (omega (arith, some))
feed_stripped count text (suc k) rest after h some is = search rules
