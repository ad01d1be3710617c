-- Sixteen bytes of a text at once, and what a text without special bytes is in a string of JSON.
use Rattle.std.proofs.Common.{rules, ◌≡◌, ◌==◌, ◌||◌, ◌≤◌, ◌+◌, ◌%◌, ◌^◌, ℕ, suc, List, [], ◌∷◌, ◌++◌, Bool, true, false, cond, eqb, ltb}
use Rattle.std.{proofs.Common.{leb, nat_lt, true≢false, length, map, replicate, IsTrue, refl, sym, ap, ap₂, ◌∙◌, arith}, specs.Bool.OnTrue}
use Rattle.std.{proofs.lemmas.Bool.{eqb-true, eqb-false, ltb-false, or_parts}, proofs.lemmas.List.length-map}
use Rattle.std.proofs.lemmas.Simd.{length-chunk, mask_l-mod, none_from_empty_mask, zip2_of_maps, zip2_splat, zip2_splat_left}
use lib.Bits.{bit_or}
use lib.Lanes.{chunk, mask_l, top, zip2}
use Rattle.json.{specs.Print.escape, proofs.Printed.Strings.escape_byte_plain}
use Rattle.yq_journal.specs.Bare.{IsBare, IsBareBetween, is_special}

abbrev lane : Bool → ℕ
lane b = cond b 255 0

-- the comparisons of lanes
abbrev pub hit : ℕ → ℕ → ℕ
hit a b = lane (eqb a b)

abbrev pub below : ℕ → ℕ → ℕ
below a b = lane (ltb a b)

abbrev pub at_most : ℕ → ℕ → ℕ
at_most a b = lane (leb a b)

-- what the code makes of a byte
abbrev tested : ℕ → ℕ → ℕ
tested limit x = bit_or (bit_or (bit_or (below x 32) (hit x 34)) (hit x 92)) (at_most limit x)

each_tested : (limit : ℕ) (v : List ℕ) → map (top 7) (map (tested limit) v) ≡ map (is_special limit) v
each_tested limit [] = refl
each_tested limit (x ∷ xs) = ap₂ (λ a b. a ∷ b) (search rules) (each_tested limit xs)

on_true : (b : Bool) (P : Type 0) → (b ≡ true → P) → OnTrue b P
on_true b P f = search rules

-- the tests of sixteen bytes, as the code makes them
pub bare_from_lanes : (limit : ℕ) (d : List ℕ) (i : ℕ) → i + 16 ≤ length d
    → OnTrue (mask_l (map (top 7)
    (zip2 bit_or (zip2 bit_or (zip2 bit_or (zip2 below (chunk i 16 d) (replicate 16 32)) (zip2 hit (chunk i 16 d) (replicate 16 34)))
    (zip2 hit (chunk i 16 d) (replicate 16 92))) (zip2 at_most (replicate 16 limit) (chunk i 16 d)))) % 2 ^ 64 == 0)
    (IsBareBetween limit d i (i + 16))
bare_from_lanes limit d i room =
    let v = chunk i 16 d in
    let long = length-chunk i 16 d room in
    let lanes = zip2_of_maps bit_or _ _ v (zip2_of_maps bit_or _ _ v (zip2_of_maps bit_or _ _ v (zip2_splat below v 16 32 long) (zip2_splat hit v 16 34 long)) (zip2_splat hit v 16 92 long)) (zip2_splat_left at_most limit 16 v long) in
    let mask = ap (λ l. mask_l l % 2 ^ 64) (ap (map (top 7)) lanes ∙ each_tested limit v) ∙ mask_l-mod (map (is_special limit) v) 64 (omega (arith, length-map v (is_special limit), long)) in
    on_true _ _ (λ e. none_from_empty_mask (is_special limit) d i 16 0 room (sym mask ∙ eqb-true _ 0 e))

-- a text without special bytes is not escaped
pub bare_escapes : (limit : ℕ) (t : List ℕ) → IsBare limit t → escape t ≡ t
bare_escapes limit [] h = refl
bare_escapes limit (x ∷ xs) h =
    let first : is_special limit x ≡ false = h 0 (omega arith) (omega arith) in
    let each = or_parts (nat_lt x 32 || x == 34 || x == 92) _ first in
    let slash = or_parts (nat_lt x 32 || x == 34) _ each.0 in
    let low = or_parts (nat_lt x 32) _ slash.0 in
    ap₂ (λ (a b : List ℕ). a ++ b) (escape_byte_plain x (eqb-false x 34 low.1) (eqb-false x 92 slash.1) (ltb-false x 32 low.0))
    (bare_escapes limit xs (λ k p q. h (suc k) (omega arith) (omega arith)))

pub bare_where : (limit : ℕ) (b : Bool) (t : List ℕ) → OnTrue b (IsBare limit t) → IsTrue b → escape t ≡ t
bare_where limit true t h is = bare_escapes limit t h
bare_where limit false t h is = absurd (true≢false (sym is))
