-- The pieces of a row, each after the lengths of those before it.
use Rattle.std.proofs.Common.{rules, ◌≡◌, ◌<◌, ◌≤◌, ℕ, zero, suc, ◌+◌, List, [], ◌∷◌, ◌++◌, length, get_or, take, drop, refl, sym, ap, ◌∙◌}
use Rattle.std.{proofs.Common.{subst, arith, append_assoc, take-add}, proofs.lemmas.List.drop-drop}
use Rattle.std.{proofs.lemmas.Str.IsCharBoundary-from_rest, specs.Str.IsCharBoundary}
use Rattle.yq_row_table.{specs.Offsets.{AreCuts, lengths, parent_by, pieces_of}, specs.View.Slices}
use Rattle.yq_row_table.specs.declared.offsets.Offsets as declared

-- so many bytes and the first of these lengths
abbrev pub sum_of : ℕ → ℕ → List ℕ → ℕ
sum_of k zero ls = k
sum_of k (suc i) [] = k
sum_of k (suc i) (n ∷ ls) = sum_of (k + n) i ls

-- a text after pieces of the first of these lengths
abbrev pub after : ℕ → List ℕ → List ℕ → List ℕ
after zero ls t = t
after (suc i) [] t = t
after (suc i) (n ∷ ls) t = after i ls (drop n t)

after_sum : (k i : ℕ) (ls t : List ℕ) → after i ls (drop k t) ≡ drop (sum_of k i ls) t
after_sum k (suc i) (n ∷ ls) t = ap (after i ls) (drop-drop n k t) ∙ after_sum (k + n) i ls t
after_sum k _ _ t = refl

sum_boundary : (k i : ℕ) (ls t : List ℕ) → i < length ls → IsCharBoundary t k → AreCuts (drop k t) ls → IsCharBoundary t (sum_of k i ls) × IsCharBoundary (drop (sum_of k i ls) t) (get_or ls i 0)
sum_boundary k i [] t less at h = absurd (omega (arith, less))
sum_boundary k zero (n ∷ ls) t less at h = (at, h.0)
sum_boundary k (suc i) (n ∷ ls) t less at h =
    let long : k ≤ length t = omega (arith, at.0) in
    sum_boundary (k + n) i ls t (omega (arith, less)) (IsCharBoundary-from_rest t k n long h.0) (subst (λ (u : List ℕ). AreCuts u ls) (drop-drop n k t) h.1)

-- A piece after the gap and others, where the code finds it: it is cut between characters, and is what comes after those.
pub record IsPiece (o : declared.Offsets) (i : ℕ) (t : List ℕ) (at : ℕ) : Type 0 where
  pub before : IsCharBoundary t at
  pub len : IsCharBoundary (drop at t) (get_or (drop 1 (lengths o)) i 0)
  pub is : take (get_or (drop 1 (lengths o)) i 0) (drop at t) ≡ take (get_or (drop 1 (lengths o)) i 0) (after i (drop 1 (lengths o)) (drop o.gap t))

pub piece_at : (o : declared.Offsets) (i : ℕ) (t : List ℕ) (at : ℕ) → i < 10 → AreCuts t (lengths o) → at ≡ sum_of o.gap i (drop 1 (lengths o)) → IsPiece o i t at
piece_at o i t at less h is =
    let n : ℕ = get_or (drop 1 (lengths o)) i 0 in
    let cut = sum_boundary o.gap i (drop 1 (lengths o)) t less h.0 h.1 in
    record {
      before = subst (λ (m : ℕ). IsCharBoundary t m) (sym is) cut.0;
      len = subst (λ (m : ℕ). IsCharBoundary (drop m t) n) (sym is) cut.1;
      is = ap (λ (m : ℕ). take n (drop m t)) is ∙ ap (take n) (sym (after_sum o.gap i (drop 1 (lengths o)) t));
    }

-- the text after three pieces is these
three_pieces : (h a w : ℕ) (u : List ℕ) → take (h + a + w) u ≡ take h u ++ (take a (drop h u) ++ take w (drop a (drop h u)))
three_pieces h a w u =
    take-add (h + a) w u ∙ ap (λ (x : List ℕ). take (h + a) u ++ take w x) (sym (drop-drop a h u))
    ∙ (ap (λ (x : List ℕ). x ++ take w (drop a (drop h u))) (take-add h a u) ∙ append_assoc (take h u) (take a (drop h u)) (take w (drop a (drop h u))))

-- The last three pieces of a row, from its head on, where the code finds them: they are cut between characters, and are what is there.
pub record IsHeadOn (o : declared.Offsets) (t : List ℕ) (at : ℕ) : Type 0 where
  pub before : IsCharBoundary t at
  pub len : IsCharBoundary (drop at t) (o.head + o.tail + o.raw)
  pub is : (s : Slices) → s ≡ pieces_of t o → take (o.head + o.tail + o.raw) (drop at t) ≡ s.head ++ (s.tail ++ s.raw)

cuts_joined : (u : List ℕ) (k n : ℕ) → IsCharBoundary u k → IsCharBoundary (drop k u) n → IsCharBoundary u (k + n)
cuts_joined u k n at next = IsCharBoundary-from_rest u k n (omega (arith, at.0)) next

pub head_on : (o : declared.Offsets) (t : List ℕ) (at : ℕ) → AreCuts t (lengths o) → at ≡ sum_of o.gap 7 (drop 1 (lengths o)) → IsHeadOn o t at
unfolding pieces_of
head_on o t at h is =
    let head = piece_at o 7 t at (omega arith) h is in
    let tail = piece_at o 8 t (at + o.head) (omega arith) h (ap (λ n. n + o.head) is) in
    let raw = piece_at o 9 t (at + o.head + o.tail) (omega arith) h (ap (λ n. n + o.head + o.tail) is) in
    let u : List ℕ = drop at t in
    let second : drop o.head u ≡ drop (at + o.head) t = drop-drop o.head at t in
    let third : drop (o.head + o.tail) u ≡ drop (at + o.head + o.tail) t = drop-drop (o.head + o.tail) at t ∙ ap (λ n. drop n t) (omega arith) in
    let front : IsCharBoundary u (o.head + o.tail) = cuts_joined u o.head o.tail head.len (subst (λ (x : List ℕ). IsCharBoundary x o.tail) (sym second) tail.len) in
    record {
      before = head.before;
      len = cuts_joined u (o.head + o.tail) o.raw front (subst (λ (x : List ℕ). IsCharBoundary x o.raw) (sym third) raw.len);
      is = λ s same.
          three_pieces o.head o.tail o.raw u
          ∙ ((λ j. take o.head u ++ (take o.tail (second j) ++ take o.raw ((drop-drop o.tail o.head u ∙ third) j)))
          ∙ ((λ j. head.is j ++ (tail.is j ++ raw.is j)) ∙ ap (λ (x : Slices). x.head ++ (x.tail ++ x.raw)) (sym same)));
    }

-- texts, each of which comes after a piece of the one before
abbrev pub Follow : List ℕ → List ℕ → List (List ℕ) → Type 0
Follow t ls [] = Unit {0}
Follow t [] (u ∷ us) = (u ≡ t) × Follow u [] us
Follow t (n ∷ ls) (u ∷ us) = (u ≡ drop n t) × Follow u ls us

-- the text that comes after all of them
abbrev pub last_text : List ℕ → List (List ℕ) → List ℕ
last_text t [] = t
last_text t (u ∷ us) = last_text u us

-- the text after the first of them
abbrev pub text_at : ℕ → List ℕ → List (List ℕ) → List ℕ
text_at zero t us = t
text_at (suc k) t [] = t
text_at (suc k) t (u ∷ us) = text_at k u us

-- it is what comes after their lengths
following_is : (k : ℕ) (ls t : List ℕ) (us : List (List ℕ)) → k ≤ length us → Follow t ls us → text_at k t us ≡ after k ls t
following_is zero ls t us less h = refl
following_is (suc k) ls t [] less h = absurd (omega (arith, less))
following_is (suc zero) [] t (u ∷ us) less h = h.0
following_is (suc (suc k)) [] t (u ∷ us) less h = following_is (suc k) [] u us (omega (arith, less)) h.1 ∙ h.0
following_is (suc k) (n ∷ ls) t (u ∷ us) less h = following_is k ls u us (omega (arith, less)) h.1 ∙ ap (after k ls) h.0

-- pieces of these texts are those of a row
pub row_cut : (o : declared.Offsets) (t : List ℕ) (s : Slices) (indent dashes key colon space anchor apart head tail raw : List ℕ)
    → Follow t (lengths o) (indent ∷ dashes ∷ key ∷ colon ∷ space ∷ anchor ∷ apart ∷ head ∷ tail ∷ raw ∷ [])
    → s.gap ≡ take o.gap t → s.column ≡ o.column → s.dashes ≡ take o.dashes dashes → s.key ≡ take o.key key → s.colon ≡ take o.colon colon
    → s.space ≡ take o.space space → s.anchor ≡ take o.anchor anchor → s.apart ≡ take o.apart apart → s.head ≡ take o.head head
    → s.tail ≡ take o.tail tail → s.raw ≡ take o.raw raw → s.parent ≡ parent_by (o.column + o.dashes) o.colon → s ≡ pieces_of t o
unfolding pieces_of
row_cut o t s indent dashes key colon space anchor apart head tail raw h g c d k l p a f e b w n = search (rules, following_is)
