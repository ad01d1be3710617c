-- Quoted scalars: the two laws, and where one may be cut off.
use Rattle.yq_core.proofs.QuotedLaws.{lines_again, closed_here, of_quotes}
use Rattle.yq_core.specs.Quoted.{QuotedLines, spell_lines, IsQuoted, IsQuotedText}
use Rattle.yq_core.{specs.QuotedReading.{quoted_len, scalar_len, cut_at, quoted_at, is_quote}, proofs.Bools.{guard_then, more_some}}
use Rattle.yq_core.proofs.QuotedRead.{lines_takes}
use Rattle.std.proofs.Common.{◌≡◌, ℕ, suc, ◌+◌, ◌<◌, true, eqb, eqb-true, List, [], ◌∷◌, ◌++◌, length, get_or, Some, None, refl, sym, ap}
use Rattle.std.{proofs.Common.{◌∙◌, subst, inl, inr, ◌⊎◌, arith, append_assoc, length-append, rules}, proofs.lemmas.Bool.or_cases}
use Rattle.std.{proofs.Math.Seq.{take-append_seam, drop-append_seam}, proofs.lemmas.Option.same_Some}
use Rattle.std.{proofs.lemmas.Str.IsCharBoundary-after_ascii, specs.Str.{IsUtf8, IsCharBoundary}}

-- a quote in front
quote_is : (b : ℕ) → is_quote b ≡ true → (b ≡ 34) ⊎ (b ≡ 39)
quote_is b h = elim (or_cases (eqb b 34) (eqb b 39) h) [ inl e ↦ inl (eqb-true b 34 e) | inr e ↦ inr (eqb-true b 39 e) ]

cut_is : (t p r : List ℕ) (n : ℕ) → t ≡ p ++ r → n ≡ length p → cut_at t (Some n) ≡ Some (p, r)
cut_is t p r n e size = rw (e, size, take-append_seam, drop-append_seam) refl

-- a quoted scalar in front of a text
pub record Found (t piece rest : List ℕ) : Type 0 where
  pub quote : ℕ
  pub ls : QuotedLines
  pub cut : t ≡ piece ++ rest
  pub is : IsQuoted quote ls piece rest

found : (b n : ℕ) (bs : List ℕ) (x : List ℕ × List ℕ) → is_quote b ≡ true → quoted_len b 0 bs ≡ Some n → cut_at (b ∷ bs) (Some (2 + n)) ≡ Some x → Found (b ∷ bs) x.0 x.1
found b n bs x quote read h =
    let quotes = quote_is b quote in
    let r = lines_takes (length bs) b n bs (omega arith) quotes read in
    let piece : List ℕ = b ∷ (spell_lines r.ls ++ b ∷ []) in
    let cut : b ∷ bs ≡ piece ++ r.rest = ap (λ l. b ∷ l) (r.cut ∙ sym (append_assoc (spell_lines r.ls) (b ∷ []) r.rest)) in
    search (rules, length-append, same_Some, cut_is)

pub quoted_takes : (t : List ℕ) (x : List ℕ × List ℕ) → quoted_at t ≡ Some x → Found t x.0 x.1
quoted_takes t x h = search (rules, guard_then, more_some, found)

pub quoted_again : (q : ℕ) (ls : QuotedLines) (piece rest : List ℕ) → IsQuoted q ls piece rest → quoted_at (piece ++ rest) ≡ Some (piece, rest)
quoted_again q ls piece rest is = search (rules, of_quotes, append_assoc, lines_again, closed_here, cut_is, length-append)

-- a text begins with one quoted scalar at most
pub quoted_one : (q r : ℕ) (ls ms : QuotedLines) (p rest o other : List ℕ) → p ++ rest ≡ o ++ other → IsQuoted q ls p rest → IsQuoted r ms o other → (p ≡ o) × (rest ≡ other)
quoted_one q r ls ms p rest o other same a b =
    let e : ◌≡◌ {A = List ℕ × List ℕ} (p, rest) (o, other) = same_Some _ _ (sym (quoted_again q ls p rest a) ∙ (ap quoted_at same ∙ quoted_again r ms o other b)) in
    (ap (λ (x : List ℕ × List ℕ). x.0) e, ap (λ (x : List ℕ × List ℕ). x.1) e)

pub at_seam : (p r : List ℕ) (x : ℕ) → get_or (p ++ (x ∷ r)) (length p) 0 ≡ x
at_seam [] r x = refl
at_seam (b ∷ p) r x = at_seam p r x

-- after the quote that closes the text may be cut
pub boundary_quoted : (t : List ℕ) (n : ℕ) → IsUtf8 t → Some n ≡ scalar_len t → IsCharBoundary t n
boundary_quoted [] n u h = absurd (let e : Some n ≡ None = h in cc)
boundary_quoted (b ∷ bs) n u h =
    let g = guard_then (is_quote b) (sym h) in
    let quotes = quote_is b g.0 in
    let m = more_some 2 n (quoted_len b 0 bs) g.1 in
    let r = lines_takes (length bs) b m.0 bs (omega arith) quotes m.1 in
    let inner = spell_lines r.ls in
    let last_is : get_or (b ∷ bs) (suc (length inner)) 0 ≡ b = ap (λ (l : List ℕ). get_or (b ∷ l) (suc (length inner)) 0) r.cut ∙ at_seam inner r.rest b in
    let low : b < 128 = of_quotes (λ x. x < 128) b quotes (omega arith) (omega arith) in
    let size : length bs ≡ length inner + suc (length r.rest) = ap length r.cut ∙ length-append inner (b ∷ r.rest) in
    let here : IsCharBoundary (b ∷ bs) (suc (length inner) + 1) = IsCharBoundary-after_ascii (b ∷ bs) (suc (length inner)) u (omega arith) (omega (arith, last_is, low)) in
    subst (λ (k : ℕ). IsCharBoundary (b ∷ bs) k) (omega (arith, r.long, m.2)) here

-- what is in front is a quoted scalar
pub quoted_text : (t piece rest : List ℕ) → Some (piece, rest) ≡ quoted_at t → IsQuotedText piece
quoted_text t piece rest read = let f = quoted_takes t (piece, rest) (sym read) in (f.quote, (f.ls, (rest, f.is)))
