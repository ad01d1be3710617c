-- Keys and scalars that a text lends mean what is written, without its quotes.
use Rattle.std.proofs.Common.{◌≡◌, ℕ, zero, suc, ◌-◌, eqb, Bool, true, false, cond, ◌||◌, List, [], ◌∷◌, drop, take, length, refl, sym, ap}
use Rattle.std.{proofs.Common.{◌∙◌, rules}, proofs.lemmas.Bool.{cond-false, cond-true, or_parts}, specs.List.list_any}
use Rattle.yq_core.{specs.Borrowed.{borrowed_text, borrows_text, holds_escape}, specs.ContentReading.quoted_content}
use Rattle.yq_core.{specs.Plain.holds_break, specs.Quoted.IsQuotedText, specs.Scalar.{plain_of, string_of}}
use Rattle.yq_core.{specs.Scalars.{is_quoted, scalar_content, scalar_of}, specs.Text.is_feed}
use Rattle.yq_core.proofs.OneLine.{kept, one_line, borrowed_quoted}

pub any_drop : (f : ℕ → Bool) (n : ℕ) (t : List ℕ) → list_any f t ≡ false → list_any f (drop n t) ≡ false
any_drop f zero t e = e
any_drop f (suc n) [] e = refl
any_drop f (suc n) (b ∷ bs) e = any_drop f n bs (or_parts (f b) (list_any f bs) e).1

pub any_take : (f : ℕ → Bool) (n : ℕ) (t : List ℕ) → list_any f t ≡ false → list_any f (take n t) ≡ false
any_take f (suc n) (b ∷ bs) e =
    let p = or_parts (f b) (list_any f bs) e in
    let rest : list_any f (take n bs) ≡ false = any_take f n bs p.1 in
    (λ i. p.0 i || rest i)
any_take f _ _ e = refl

-- it is on one line, and has no escapes
pub borrows_parts : (t : List ℕ) → borrows_text t ≡ true → (holds_break t ≡ false) × (holds_escape t ≡ false)
borrows_parts t e = search rules

-- between its quotes
pub inner_means : (t : List ℕ) → is_quoted t ≡ true → IsQuotedText t → borrows_text t ≡ true → take (length t - 2) (drop 1 t) ≡ quoted_content t
inner_means [] quoted q e = cc
inner_means (b ∷ bs) quoted q e =
    let t : List ℕ = b ∷ bs in
    let inner : List ℕ = take (length t - 2) (drop 1 t) in
    let parts = borrows_parts t e in
    borrowed_quoted t inner t q refl refl (any_take is_feed (length t - 2) bs (any_drop is_feed 1 t parts.0))
    (sym (cond-true (is_quoted t) (list_any (λ x. eqb x (cond (eqb b 34) 92 39)) inner) false quoted) ∙ parts.1)

pub quoted_means : (t inner : List ℕ) → is_quoted t ≡ true → IsQuotedText t → borrows_text t ≡ true → inner ≡ take (length t - 2) (drop 1 t) → inner ≡ scalar_content t
unfolding scalar_content
quoted_means t inner quoted q e is = rw quoted (is ∙ inner_means t quoted q e)

pub plain_means : (t : List ℕ) → is_quoted t ≡ false → borrows_text t ≡ true → t ≡ scalar_content t
plain_means t quoted e = kept t quoted (borrows_parts t e).0

-- the scalars that they are
pub quoted_scalar : (t inner : List ℕ) → is_quoted t ≡ true → IsQuotedText t → borrows_text t ≡ true → inner ≡ take (length t - 2) (drop 1 t) → string_of inner ≡ scalar_of t
unfolding scalar_of
quoted_scalar t inner quoted q e is = rw quoted (ap string_of (is ∙ inner_means t quoted q e))

pub plain_scalar : (t : List ℕ) → is_quoted t ≡ false → borrows_text t ≡ true → plain_of t ≡ scalar_of t
unfolding scalar_of
plain_scalar t quoted e = rw quoted (ap plain_of (sym (one_line t (borrows_parts t e).0)))

-- what is borrowed of them is what they mean
pub borrows_key : (t : List ℕ) → (is_quoted t ≡ true → IsQuotedText t) → borrows_text t ≡ true → borrowed_text t ≡ scalar_content t
borrows_key t q e = go (is_quoted t) refl
  where
    inner : List ℕ
    inner = take (length t - 2) (drop 1 t)

    go : (quoted : Bool) → is_quoted t ≡ quoted → borrowed_text t ≡ scalar_content t
    go true quoted = cond-true (is_quoted t) inner t quoted ∙ quoted_means t inner quoted (q quoted) e refl
    go false quoted = cond-false (is_quoted t) inner t quoted ∙ plain_means t quoted e
