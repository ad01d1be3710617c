-- The splices of segments lead from their old text to their new one.
use Rattle.std.proofs.Common.{◌≡◌, ℕ, ◌+◌, ◌^◌, ◌<◌, Bool, true, false, List, [], ◌∷◌, ◌++◌, length, Some, refl, sym, ap, ◌∙◌, arith, cond}
use Rattle.std.{proofs.Common.{append_assoc, length-append, rules}, specs.Prelude.option_and_then, specs.Str.bytes_eq}
use Rattle.std.{proofs.lemmas.Bool.{le-leb, lt-ltb}, proofs.lemmas.Slice.Eq.bytes_eq-Decides}
use Rattle.yq_text.specs.Splice.{all_done, length_done, lengths_done}
use Rattle.yq_text.proofs.SpliceLaws.{done-from_exchanges, all_done-append, lengths_done-append}
use Rattle.yq_text.specs.Script.{Segment, keep, put, old_text, new_text, merged, splice_at, splices_at, changes, AllStay}

pub old-merged : (ss : List Segment) → old_text (merged ss) ≡ old_text ss
old-merged [] = refl
old-merged (keep t ∷ ss) = search (rules, append_assoc, old-merged ss)
old-merged (put o w ∷ ss) = search (rules, append_assoc, old-merged ss)

pub new-merged : (ss : List Segment) → new_text (merged ss) ≡ new_text ss
new-merged [] = refl
new-merged (keep t ∷ ss) = search (rules, append_assoc, new-merged ss)
new-merged (put o w ∷ ss) = search (rules, append_assoc, new-merged ss)

-- bytes exchanged at an offset
splice_leads : (front o w rest : List ℕ) (n : ℕ) → length front ≡ n → all_done (splice_at n o w) (front ++ (o ++ rest)) ≡ Some (front ++ (w ++ rest))
splice_leads front o w rest n e = go (bytes_eq o w) refl
  where
    go : (b : Bool) → bytes_eq o w ≡ b → all_done (cond b [] (record { at = n; old = o; new = w } ∷ [])) (front ++ (o ++ rest)) ≡ Some (front ++ (w ++ rest))
    go true is = ap (λ x. Some (front ++ (x ++ rest))) ((bytes_eq-Decides o w).0 is)
    go false is =
        ap (option_and_then (λ b. Some b))
        (done-from_exchanges (record { at = n; old = o; new = w }) (front ++ (o ++ rest)) (front ++ (w ++ rest))
        (record { front = front; rest = rest; offset = e; before = refl; after = refl }))

-- splices done after a front
pub splices_lead : (front : List ℕ) (n : ℕ) (ss : List Segment) → length front ≡ n → all_done (splices_at n ss) (front ++ old_text ss) ≡ Some (front ++ new_text ss)
splices_lead front n [] e = refl
splices_lead front n (keep t ∷ ss) e =
    search (rules, append_assoc, length-append, splices_lead (front ++ t) (n + length t) ss (omega (arith, length-append front t)))
splices_lead front n (put o w ∷ ss) e =
    all_done-append (splice_at n o w) (splices_at (n + length w) ss) (front ++ (o ++ old_text ss))
    ∙ ap (option_and_then (all_done (splices_at (n + length w) ss))) (splice_leads front o w (old_text ss) n e)
    ∙ ap (all_done (splices_at (n + length w) ss)) (sym (append_assoc front w (old_text ss)))
    ∙ splices_lead (front ++ w) (n + length w) ss (omega (arith, length-append front w))
    ∙ ap Some (append_assoc front w (new_text ss))

-- the splices of an edit lead from its old text to its new one
pub changes_lead : (ss : List Segment) → all_done (changes ss) (old_text ss) ≡ Some (new_text ss)
unfolding changes
changes_lead ss =
    ap (all_done (splices_at 0 (merged ss))) (sym (old-merged ss))
    ∙ splices_lead [] 0 (merged ss) refl
    ∙ ap Some (new-merged ss)

splice_lengths : (n : ℕ) (o w : List ℕ) (m : ℕ) → n + length o + m < 2 ^ 64 → n + length w + m < 2 ^ 64 → lengths_done (splice_at n o w) (n + length o + m) ≡ Some (n + length w + m)
unfolding length_done
splice_lengths n o w m old new = search (rules, le-leb, lt-ltb, bytes_eq-Decides)

-- lengths reached after n bytes
pub splices_lengths : (n : ℕ) (ss : List Segment) → n + length (old_text ss) + length (new_text ss) < 2 ^ 64 → lengths_done (splices_at n ss) (n + length (old_text ss)) ≡ Some (n + length (new_text ss))
splices_lengths n [] h = refl
splices_lengths n (keep t ∷ ss) h =
    let old = length-append t (old_text ss) in
    let new = length-append t (new_text ss) in
    search (rules, new, old, splices_lengths (n + length t) ss (omega (arith, old, new, h)))
splices_lengths n (put o w ∷ ss) h =
    let old = length-append o (old_text ss) in
    let new = length-append w (new_text ss) in
    lengths_done-append (splice_at n o w) (splices_at (n + length w) ss) (n + length (o ++ old_text ss))
    ∙ ap (λ k. option_and_then (lengths_done (splices_at (n + length w) ss)) (lengths_done (splice_at n o w) k)) (omega (arith, old))
    ∙ ap (option_and_then (lengths_done (splices_at (n + length w) ss))) (splice_lengths n o w (length (old_text ss)) (omega (arith, old, new, h)) (omega (arith, old, new, h)))
    ∙ splices_lengths (n + length w) ss (omega (arith, old, new, h))
    ∙ ap Some (omega (arith, new))

-- and so do their lengths
pub changes_lengths : (ss : List Segment) → length (old_text ss) + length (new_text ss) < 2 ^ 64 → lengths_done (changes ss) (length (old_text ss)) ≡ Some (length (new_text ss))
unfolding changes
changes_lengths ss h =
    let old : List ℕ = old_text (merged ss) in
    let new : List ℕ = new_text (merged ss) in
    let first : length (old_text ss) ≡ 0 + length old = omega (arith, ap length (old-merged ss)) in
    search (rules, splices_lengths, old-merged, new-merged, first)

-- segments that all stay make the text that they are of
pub kept_same : (ss : List Segment) → AllStay ss → new_text ss ≡ old_text ss
kept_same [] h = refl
kept_same (keep t ∷ ss) h = ap (λ x. t ++ x) (kept_same ss h.1)
kept_same (put o w ∷ ss) h = ap (λ x. x ++ new_text ss) (sym h.0) ∙ ap (λ x. o ++ x) (kept_same ss h.1)

kept-merged : (ss : List Segment) → AllStay ss → AllStay (merged ss)
kept-merged [] h = tt
kept-merged (keep t ∷ ss) h = search (rules, kept-merged ss h.1)
kept-merged (put o w ∷ ss) h = search (rules, kept-merged ss h.1)

no_splices : (n : ℕ) (ss : List Segment) → AllStay ss → splices_at n ss ≡ []
no_splices n [] h = refl
no_splices n (keep t ∷ ss) h = no_splices (n + length t) ss h.1
no_splices n (put o w ∷ ss) h = search (rules, bytes_eq-Decides, no_splices (n + length w) ss h.1)

-- and there is no splice of them
pub kept_changes : (ss : List Segment) → AllStay ss → changes ss ≡ []
unfolding changes
kept_changes ss h = no_splices 0 (merged ss) (kept-merged ss h)
