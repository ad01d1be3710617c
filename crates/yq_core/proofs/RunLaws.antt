-- Runs of bytes: what lanes tell.
use Rattle.std.proofs.Common.{rules, ◌≡◌, ℕ, ◌+◌, ◌%◌, ◌^◌, ◌<◌, ◌≤◌, Bool, true, cond, ◌||◌, eqb, List, [], ◌∷◌, map, length, drop, Fits}
use Rattle.std.{proofs.Common.{w8, refl, ap, ap₂, ◌∙◌, arith}, proofs.lemmas.Bool.{agree_below, agree_below_at, eq-eqb}}
use Rattle.std.{proofs.lemmas.List.length-map, proofs.lemmas.List.Folds.prefix_len-append, proofs.lemmas.List.Sums.prefix_len-le-length}
use Rattle.std.{proofs.lemmas.Simd.{chunk-drop, length-chunk, mask_l-mod}, specs.List.prefix_len}
use lib.Bits.{bit_or}
use lib.Lanes.{chunk, mask_l, top, Each1}
use Rattle.yq_core.{specs.Runs.run_goes_on, specs.declared.runs.Run.TheVariants.Spaces}

-- the bits of lanes that were computed byte by byte
pub each_mask : (n : ℕ) (f : ℕ → ℕ) (p : ℕ → Bool) (v z : List ℕ) → n ≤ 64 → length v ≡ n → z ≡ map f v → map (top 7) (map f v) ≡ map p v → mask_l (map (top 7) z) % 2 ^ 64 ≡ mask_l (map p v)
each_mask n f p v z few long e same = ap (λ l. mask_l l % 2 ^ 64) (ap (map (top 7)) e ∙ same) ∙ mask_l-mod (map p v) 64 (omega (arith, length-map v p, long, few))

pub lanes_mask : (f : ℕ → ℕ) (p : ℕ → Bool) (v z : List ℕ) → length v ≡ 16 → z ≡ map f v → map (top 7) (map f v) ≡ map p v → mask_l (map (top 7) z) % 2 ^ 64 ≡ mask_l (map p v)
lanes_mask f p v z = each_mask 16 f p v z (omega arith)

-- such lanes, held to a test at each of the 256 bytes
pub each_byte : (f : ℕ → ℕ) (p : ℕ → Bool) → agree_below (λ x. top 7 (f x)) p 256 ≡ true → (v : List ℕ) → Each1 (Fits w8) v → map (top 7) (map f v) ≡ map p v
each_byte f p all [] fits = refl
each_byte f p all (x ∷ xs) fits = ap₂ (λ a b. a ∷ b) (agree_below_at (λ y. top 7 (f y)) p 256 x all fits.0.fits) (each_byte f p all xs fits.1)

abbrev pub lane : Bool → ℕ
lane b = cond b 255 0

-- lanes that are any of three bytes
pub any_byte : (a b c : ℕ) (v : List ℕ) → map (top 7) (map (λ x. bit_or (bit_or (lane (eqb x a)) (lane (eqb x b))) (lane (eqb x c))) v) ≡ map (λ x. eqb x a || eqb x b || eqb x c) v
any_byte a b c [] = refl
any_byte a b c (x ∷ xs) = ap₂ (λ h t. h ∷ t) (search rules) (any_byte a b c xs)

-- a run that ends in sixteen bytes, and one that goes over them
pub run_ends : (q : ℕ → Bool) (d : List ℕ) (i : ℕ) → i + 16 ≤ length d → prefix_len q (chunk i 16 d) < 16 → prefix_len q (drop i d) ≡ prefix_len q (chunk i 16 d)
run_ends q d i room short = search rules

pub block_over : (n : ℕ) (q : ℕ → Bool) (d : List ℕ) (i : ℕ) → i + n ≤ length d → n ≤ prefix_len q (chunk i n d) → prefix_len q (drop i d) ≡ n + prefix_len q (drop (i + n) d)
block_over n q d i room whole =
    let c = chunk i n d in
    let long = length-chunk i n d room in
    let all : eqb (prefix_len q c) (length c) ≡ true = eq-eqb _ _ (omega (arith, whole, long, prefix_len-le-length q c)) in
    ap (prefix_len q) (chunk-drop i n d) ∙ prefix_len-append q c (drop (i + n) d) ∙ rw (all, long) refl

pub run_over : (q : ℕ → Bool) (d : List ℕ) (i : ℕ) → i + 16 ≤ length d → 16 ≤ prefix_len q (chunk i 16 d) → prefix_len q (drop i d) ≡ 16 + prefix_len q (drop (i + 16) d)
run_over = block_over 16

-- a run of spaces
pub spaces_run : (t : List ℕ) → prefix_len (run_goes_on Spaces) t ≡ prefix_len (λ b. eqb b 32) t
spaces_run [] = refl
spaces_run (b ∷ bs) = ap₂ (λ c n. cond c (1 + n) 0) (search rules) (spaces_run bs)
