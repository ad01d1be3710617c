-- How far it is to a rest that passes a test.
use Rattle.std.proofs.Common.{◌≡◌, ℕ, suc, ◌≤◌, Bool, true, List, [], ◌∷◌, ◌++◌, length, take, drop, refl, sym, ap, arith, rules}
use Rattle.std.{proofs.lemmas.Bool.cond_both, proofs.lemmas.List.take-append-drop, proofs.Math.Seq.{take-append_seam, drop-append_seam}}
use Rattle.std.specs.List.{prefix_len}
use Rattle.yq_core.specs.Text.{upto, cut, NoneIn, unless}

pub upto_le_length : (ends : List ℕ → Bool) (t : List ℕ) → upto ends t ≤ length t
unfolding upto
upto_le_length ends [] = omega arith
upto_le_length ends (b ∷ bs) = search (rules, cond_both, upto_le_length ends bs)

-- the rest there passes, unless it is the end
pub upto_ends : (ends : List ℕ → Bool) (t : List ℕ) → ends [] ≡ true → ends (drop (upto ends t) t) ≡ true
unfolding upto
upto_ends ends [] e = e
upto_ends ends (b ∷ bs) e = search (rules, cond_both, upto_ends ends bs e)

pub none_in_cut : (ends : List ℕ → Bool) (t : List ℕ) → NoneIn ends (take (upto ends t) t) (drop (upto ends t) t)
unfolding upto
none_in_cut ends [] = tt
none_in_cut ends (b ∷ bs) = search (rules, cond_both, take-append-drop, none_in_cut ends bs)

pub upto-append : (ends : List ℕ → Bool) (p rest : List ℕ) → NoneIn ends p rest → ends rest ≡ true → upto ends (p ++ rest) ≡ length p
unfolding upto
upto-append ends [] [] h e = refl
upto-append ends [] (b ∷ bs) h e = rw e refl
upto-append ends (b ∷ p) rest h e = rw h.0 (ap suc (upto-append ends p rest h.1 e))

pub cut-append : (ends : List ℕ → Bool) (p rest : List ℕ) → NoneIn ends p rest → ends rest ≡ true → cut ends (p ++ rest) ≡ (p, rest)
cut-append ends p rest none here = rw (upto-append ends p rest none here) (rw (take-append_seam, drop-append_seam) refl)

pub cut_takes : (ends : List ℕ → Bool) (t : List ℕ) → t ≡ (cut ends t).0 ++ (cut ends t).1
cut_takes ends t = sym (take-append-drop (upto ends t) t)

pub upto_unless : (p : ℕ → Bool) (t : List ℕ) → upto (unless p) t ≡ prefix_len p t
unfolding upto
upto_unless p [] = refl
upto_unless p (b ∷ bs) = search (rules, upto_unless p bs)

-- steps of a loop
pub upto_here : (ends : List ℕ → Bool) (t : List ℕ) → ends t ≡ true → upto ends t ≡ 0
unfolding upto
upto_here ends [] e = refl
upto_here ends (b ∷ bs) e = rw e refl
