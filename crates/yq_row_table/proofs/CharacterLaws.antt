-- The characters of a text of which a piece is exchanged.
use Rattle.std.proofs.Common.{inl, inr, ◌≡◌, ℕ, Bool, true, false, ◌&&◌, List, [], ◌∷◌, ◌++◌, refl, sym, ap, ◌∙◌, append_assoc, rules}
use Rattle.std.{proofs.lemmas.Bool.{false≢true, and_from, and_parts, cases_Bool}, proofs.lemmas.List.Folds.list_all-append}
use Rattle.std.{proofs.lemmas.Str.chars-append, specs.List.list_all, specs.Str.{chars, IsUtf8}}
use Rattle.yq_core.{specs.Characters.{is_text_char, pairs_returns}, specs.Text.{front, is_feed, is_return}}

-- an LF after each CR, in pieces
front_more : (a b : List ℕ) → front is_feed a ≡ true → front is_feed (a ++ b) ≡ true
front_more a b h = search (rules, false≢true)

front_less : (a b : List ℕ) → front is_feed b ≡ false → front is_feed (a ++ b) ≡ true → front is_feed a ≡ true
front_less a b n h = search (rules, false≢true)

pub pairs_join : (a b : List ℕ) → pairs_returns a ≡ true → pairs_returns b ≡ true → pairs_returns (a ++ b) ≡ true
unfolding pairs_returns
pairs_join [] b h g = g
pairs_join (x ∷ a) b h g = elim (cases_Bool (is_return x)) [
  | inl r ↦ (let parts = and_parts (front is_feed a) (pairs_returns a) (rw r at h) in rw r (and_from _ _ (front_more a b parts.0) (pairs_join a b parts.1 g)))
  | inr r ↦ rw r (pairs_join a b (rw r at h) g)
]

pub pairs_back : (a b : List ℕ) → pairs_returns (a ++ b) ≡ true → pairs_returns b ≡ true
unfolding pairs_returns
pairs_back [] b h = h
pairs_back (x ∷ a) b h = elim (cases_Bool (is_return x)) [
  | inl r ↦ pairs_back a b (and_parts (front is_feed (a ++ b)) (pairs_returns (a ++ b)) (rw r at h)).1
  | inr r ↦ pairs_back a b (rw r at h)
]

pub pairs_front : (a b : List ℕ) → front is_feed b ≡ false → pairs_returns (a ++ b) ≡ true → pairs_returns a ≡ true
unfolding pairs_returns
pairs_front [] b n h = refl
pairs_front (x ∷ a) b n h = elim (cases_Bool (is_return x)) [
  | inl r ↦ (let parts = and_parts (front is_feed (a ++ b)) (pairs_returns (a ++ b)) (rw r at h) in rw r (and_from _ _ (front_less a b n parts.0) (pairs_front a b n parts.1)))
  | inr r ↦ rw r (pairs_front a b n (rw r at h))
]

abbrev pub all_text : List ℕ → Bool
all_text t = list_all is_text_char (chars t)

pub all_join : (a b : List ℕ) → IsUtf8 a → all_text (a ++ b) ≡ (all_text a && all_text b)
all_join a b u = ap (list_all is_text_char) (chars-append a b u) ∙ list_all-append is_text_char (chars a) (chars b)

-- A text that ends in a byte, and that is no CR.
pub record EndsBlack (p : List ℕ) : Type 0 where
  pub front : List ℕ
  pub last : ℕ
  pub is : p ≡ front ++ last ∷ []
  pub no_return : is_return last ≡ false

pub ends_after : (xs p : List ℕ) → EndsBlack p → EndsBlack (xs ++ p)
ends_after xs p e = record { front = xs ++ e.front; last = e.last; is = ap (λ (q : List ℕ). xs ++ q) e.is ∙ sym (append_assoc xs e.front (e.last ∷ [])); no_return = e.no_return }

feed_stays : (f rest : List ℕ) (b : ℕ) → front is_feed (f ++ b ∷ rest) ≡ true → front is_feed (f ++ b ∷ []) ≡ true
feed_stays [] rest b h = h
feed_stays (x ∷ f) rest b h = h

pub pairs_cut : (f rest : List ℕ) (b : ℕ) → is_return b ≡ false → pairs_returns (f ++ b ∷ rest) ≡ true → pairs_returns (f ++ b ∷ []) ≡ true
unfolding pairs_returns
pairs_cut [] rest b n h = rw n refl
pairs_cut (x ∷ f) rest b n h = elim (cases_Bool (is_return x)) [
  | inl r ↦ (let parts = and_parts (front is_feed (f ++ b ∷ rest)) (pairs_returns (f ++ b ∷ rest)) (rw r at h) in rw r (and_from _ _ (feed_stays f rest b parts.0) (pairs_cut f rest b n parts.1)))
  | inr r ↦ rw r (pairs_cut f rest b n (rw r at h))
]
