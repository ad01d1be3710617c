-- A plain scalar on one line means itself, and a quoted one without escapes for what is between its quotes.
use Rattle.std.proofs.Common.{◌≡◌, ℕ, Bool, false, ◌&&◌, cond, eqb, ◌⊎◌, List, [], ◌∷◌, ◌++◌, refl, sym, ap, ◌∙◌, ⊎_elim, append_assoc}
use Rattle.std.{proofs.Common.{append-nil, subst, ◌-◌, length, take, drop, slice_index, rules}, proofs.lemmas.Bool.{cases_Bool, or_parts}}
use Rattle.std.specs.List.{list_any}
use Rattle.yq_core.specs.ContentReading.{within, quoted_item, item_len, item_before, content_on, plain_content, quoted_content}
use Rattle.yq_core.{specs.Plain.holds_break, specs.Quoted.IsQuotedText, specs.Text.{is_feed, is_return, front}}
use Rattle.yq_core.specs.Scalars.{is_quoted, scalar_content}

-- no break is in front of a text without an LF
no_break : (b : ℕ) (bs : List ℕ) → holds_break bs ≡ false → (is_return b && front is_feed bs) ≡ false
no_break b bs h1 = search (rules, ⊎_elim, cases_Bool, or_parts)

-- a byte of what is in these quotes, or in none, means itself
abbrev Itself : ℕ → ℕ → List ℕ → Type 0
Itself quote b bs = (quoted_item quote b bs ≡ b ∷ []) × ((item_len quote b bs ≡ 0) × (item_before quote b bs ≡ within))

-- the bytes mean themselves that aren't found by a test
abbrev Keeps : ℕ → (ℕ → Bool) → Type 0
Keeps quote test = (b : ℕ) (bs : List ℕ) → test b ≡ false → Itself quote b bs

unfolds : (quote : ℕ) (test : ℕ → Bool) → Keeps quote test → (white bs : List ℕ) → holds_break bs ≡ false → list_any test bs ≡ false → content_on quote 0 within white bs ≡ white ++ bs
unfolding content_on
unfolds quote test keeps white [] h g = sym (append-nil white)
unfolds quote test keeps white (b ∷ bs) h g =
    let f = or_parts (is_feed b) (holds_break bs) h in
    let t = or_parts (test b) (list_any test bs) g in
    search (rules, keeps, append_assoc, no_break, cases_Bool, unfolds quote test keeps (white ++ b ∷ []) bs f.1 t.1, unfolds quote test keeps [] bs f.1 t.1)

no_test : (t : List ℕ) → list_any (λ b. false) t ≡ false
no_test [] = refl
no_test (b ∷ bs) = no_test bs

pub one_line : (t : List ℕ) → holds_break t ≡ false → plain_content t ≡ t
one_line t h = unfolds 0 (λ b. false) (λ b bs e. (refl, (refl, refl))) [] t h (no_test t)

-- the byte with which escapes begin in these quotes
abbrev sign : ℕ → ℕ
sign quote = cond (eqb quote 34) 92 39

keeps : (quote : ℕ) → (quote ≡ 34) ⊎ (quote ≡ 39) → Keeps quote (λ b. eqb b (sign quote))
keeps quote h1 = search rules

-- a quoted scalar on one line without escapes means what is between its quotes
in_quotes : (quote : ℕ) → (quote ≡ 34) ⊎ (quote ≡ 39) → (t : List ℕ) → holds_break t ≡ false → list_any (λ b. eqb b (cond (eqb quote 34) 92 39)) t ≡ false → content_on quote 0 within [] t ≡ t
in_quotes quote quotes t h g = unfolds quote (λ b. eqb b (sign quote)) (keeps quote quotes) [] t h g

pub borrowed_quoted : (piece inner bytes : List ℕ) → IsQuotedText piece → bytes ≡ piece → inner ≡ take (length piece - 2) (drop 1 piece) → holds_break inner ≡ false →
    list_any (λ b. eqb b (cond (eqb (slice_index bytes 0) 34) 92 39)) inner ≡ false → inner ≡ quoted_content piece
borrowed_quoted piece inner bytes q same is broken escaped =
    let quote : slice_index piece 0 ≡ q.0 = ap (λ (l : List ℕ). slice_index l 0) q.1.1.1.spelled in
    let quotes : (slice_index piece 0 ≡ 34) ⊎ (slice_index piece 0 ≡ 39) = subst (λ (k : ℕ). (k ≡ 34) ⊎ (k ≡ 39)) (sym quote) q.1.1.1.quotes in
    let none = subst (λ (l : List ℕ). list_any (λ b. eqb b (cond (eqb (slice_index l 0) 34) 92 39)) inner ≡ false) same escaped in
    sym (in_quotes (slice_index piece 0) quotes inner broken none) ∙ ap (λ t. content_on (slice_index piece 0) 0 within [] t) is

-- a key or scalar that is neither quoted nor broken means itself
pub kept : (t : List ℕ) → is_quoted t ≡ false → holds_break t ≡ false → t ≡ scalar_content t
unfolding scalar_content
kept t quoted broken = rw quoted (sym (one_line t broken))
