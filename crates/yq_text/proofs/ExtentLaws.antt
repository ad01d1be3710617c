-- Outside its extents an edit keeps each byte, in order.
use Rattle.std.proofs.Common.{◌≡◌, ℕ, ◌+◌, ◌-◌, ◌≤◌, List, [], ◌∷◌, ◌++◌, length, refl, sym, ap, ◌∙◌, arith, append_assoc, rules}
use Rattle.std.{specs.Prelude.⊤, proofs.Math.Seq.{drop-append_seam, take-append-add, drop-append-add}}
use Rattle.yq_text.specs.Script.{Segment, keep, put, old_text, new_text, swapped_segments, kept_text, Extent, extents, outside}

-- extents begin no earlier than an offset
abbrev StartFrom : ℕ → List Extent → Type 0
StartFrom n [] = ⊤
StartFrom n (e ∷ es) = (n ≤ e.from) × (e.from ≤ e.to)

start_earlier : (m n : ℕ) (es : List Extent) → m ≤ n → StartFrom n es → StartFrom m es
start_earlier m n es le h = search rules

extents_start : (n : ℕ) (ss : List Segment) → StartFrom n (extents n ss)
extents_start n [] = tt
extents_start n (keep t ∷ ss) = start_earlier n (n + length t) (extents (n + length t) ss) (omega arith) (extents_start (n + length t) ss)
extents_start n (put o w ∷ ss) = (omega arith, omega arith)

-- bytes before the first extent
outside_before : (n : ℕ) (t x : List ℕ) (es : List Extent) → StartFrom (n + length t) es → outside n es (t ++ x) ≡ t ++ outside (n + length t) es x
outside_before n t x [] h = refl
outside_before n t x (e ∷ es) h =
    let from : e.from - n ≡ length t + (e.from - (n + length t)) = omega (arith, h.0) in
    search (rules, take-append-add, append_assoc, drop-append-add, from)

outside_old : (n : ℕ) (ss : List Segment) → outside n (extents n ss) (old_text ss) ≡ kept_text ss
outside_old n [] = refl
outside_old n (keep t ∷ ss) = search (rules, outside_before, extents_start, outside_old (n + length t) ss)
outside_old n (put o w ∷ ss) =
    let all : n + length o - n ≡ length o = omega arith in
    search (rules, drop-append_seam, all, outside_old (n + length o) ss)

old-swapped_segments : (ss : List Segment) → old_text (swapped_segments ss) ≡ new_text ss
old-swapped_segments [] = refl
old-swapped_segments (keep t ∷ ss) = ap (λ x. t ++ x) (old-swapped_segments ss)
old-swapped_segments (put o w ∷ ss) = ap (λ x. w ++ x) (old-swapped_segments ss)

kept-swapped_segments : (ss : List Segment) → kept_text (swapped_segments ss) ≡ kept_text ss
kept-swapped_segments [] = refl
kept-swapped_segments (keep t ∷ ss) = ap (λ x. t ++ x) (kept-swapped_segments ss)
kept-swapped_segments (put o w ∷ ss) = kept-swapped_segments ss

-- the bytes outside the extents of the old text
pub kept_of_old : (ss : List Segment) → outside 0 (extents 0 ss) (old_text ss) ≡ kept_text ss
kept_of_old ss = outside_old 0 ss

-- are those outside the extents of the new one
pub kept_of_new : (ss : List Segment) → outside 0 (extents 0 (swapped_segments ss)) (new_text ss) ≡ kept_text ss
kept_of_new ss = ap (outside 0 (extents 0 (swapped_segments ss))) (sym (old-swapped_segments ss)) ∙ outside_old 0 (swapped_segments ss) ∙ kept-swapped_segments ss
