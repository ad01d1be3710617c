-- Names and scalars before a text are such before another one, where white space, a break or the end is in front of both.
use Rattle.std.proofs.Common.{arith, ◌≡◌, ◌⊎◌, inl, inr, ℕ, Bool, true, false, not, ◌&&◌, ◌||◌, eqb, if◌then◌else◌, List, [], ◌∷◌, ◌++◌}
use Rattle.std.proofs.Common.{Option, Some, None, refl, sym, ap, ◌∙◌, ⊎_elim, eqb-true, append_assoc, rules}
use Rattle.std.proofs.lemmas.Grind.{common_steps}
use Rattle.std.proofs.lemmas.Bool.{false≢true, not-false, false_from_ne_true, or_cases, or_right, and_parts, cases_Bool, or_parts}
use Rattle.std.{proofs.Math.Bool.and-false, specs.Option.option_or}
use Rattle.yq_core.specs.Plain.{begins_plain, ends_plain, ends_text, no_gap, last_line, plain_may_follow, follows, IsPlain}
use Rattle.yq_core.specs.Quoted.{spell_lines, IsQuoted}
use Rattle.yq_core.{specs.Text.{upto, cut, NoneIn, front, unless, is_empty, is_feed, is_return, is_space, separates}, proofs.Bools.at_byte}
use Rattle.yq_core.{specs.Nodes.{begins_with, in_name, begins_node, IsName}, specs.Scalars.is_quoted, proofs.NodesPieceLaws.front_not}
use Rattle.yq_core.{specs.Alike.{Alike, byte, after}, proofs.Alikes.{alike_append, alike_begins, alike_ends}}
use Rattle.yq_core.proofs.AlikePieces.{lines_alike}
use Rattle.yq_row_table.{proofs.Fronts.node_starts, proofs.NothingLaws.name_again}
use Rattle.yq_core.specs.Quoted as quotes

-- nothing begins there
pub apart_no_node : (t : List ℕ) → separates t ≡ true → begins_node false t ≡ false
apart_no_node t h = false_from_ne_true (begins_node false t) (λ e. false≢true (sym (node_starts t e).joined ∙ h))

pub apart_no_quote : (t : List ℕ) → separates t ≡ true → front (λ b. eqb b 39) t ≡ false
apart_no_quote t h = search (rules, at_byte)

-- names
name_no_space : (b : ℕ) (t : List ℕ) → in_name b ≡ true → is_space (b ∷ t) ≡ false
name_no_space b t h = search (rules, at_byte)

pub name_seam : (p t u : List ℕ) → separates u ≡ true → IsName p t → IsName p u
name_seam p t u y h = record { some = h.some; inside = name_again in_name p t u h.inside; ends = (search (rules, ⊎_elim, eqb-true, and_parts, or_cases)) }

pub name_alike : (p t u : List ℕ) → is_empty p ≡ false → separates t ≡ true → separates u ≡ true → NoneIn (unless in_name) p t → Alike (Some false) (p ++ t) (p ++ u)
name_alike [] t u some x y h = absurd (false≢true (sym some))
name_alike (b ∷ []) t u some x y h = let is = not-false (in_name b) h.0 in byte (name_no_space b t is) (name_no_space b u is) x y
name_alike (b ∷ (c ∷ p)) t u some x y h = after (name_alike (c ∷ p) t u refl x y h.1)

-- quoted scalars
quote_no_space : (q : ℕ) (t : List ℕ) → (q ≡ 34) ⊎ (q ≡ 39) → is_space (q ∷ t) ≡ false
quote_no_space q t h = ⊎_elim {0, 0, 0} (λ e. rw e refl) (λ e. rw e refl) h

quote_alike : (q : ℕ) (t u : List ℕ) → (q ≡ 34) ⊎ (q ≡ 39) → separates t ≡ true → separates u ≡ true → Alike (Some false) (q ∷ t) (q ∷ u)
quote_alike q t u is x y = byte (quote_no_space q t is) (quote_no_space q u is) x y

pub quoted_seam : (q : ℕ) (ls : quotes.QuotedLines) (p t u : List ℕ) → separates t ≡ true → separates u ≡ true → IsQuoted q ls p t → IsQuoted q ls p u × Alike (Some false) (p ++ t) (p ++ u)
quoted_seam q ls p t u x y h =
    let close = quote_alike q t u h.quotes x y in
    let no : (eqb q 39 && front (λ b. eqb b 39) u) ≡ false = rw (apart_no_quote u y) (and-false (eqb q 39)) in
    let group : (r : List ℕ) → p ++ r ≡ q ∷ (spell_lines ls ++ (q ∷ r)) = λ r. ap (λ l. l ++ r) h.spelled ∙ ap (λ l. q ∷ l) (append_assoc (spell_lines ls) (q ∷ []) r) in (
      record { quotes = h.quotes; spelled = h.spelled; lines = lines_alike (Some false) q ls (q ∷ t) (q ∷ u) close h.lines; closed = no },
      rw (group t, group u) (after (alike_append (Some false) (spell_lines ls) (q ∷ t) (q ∷ u) close)),
    )

-- a text ends in a CR
abbrev pub ends_return : List ℕ → Bool
ends_return [] = false
ends_return (b ∷ p) = if is_empty p then is_return b else ends_return p

-- No break comes to be at the end of the text in front: an LF is in front of both, or of none, or no CR is at its end.
abbrev pub Joint : List ℕ → List ℕ → List ℕ → Type 0
Joint p t u = (front is_feed t ≡ front is_feed u) ⊎ (ends_return p ≡ false)

-- plain scalars end with no white space
may_more : (spaces : Option ℕ) (o : Option (List ℕ)) (y x : List ℕ) (f : Bool) → plain_may_follow spaces (option_or o (if f then Some y else None)) x ≡ true → plain_may_follow spaces o x ≡ true
may_more spaces o y x f h = search rules

follow_more : (a b c m n : Bool) → (m ≡ true → n ≡ true) → (not a && not b && not c && m) ≡ true → (not a && not b && not c && n) ≡ true
follow_more a b c m n h1 h2 = search (rules, false≢true)

follow_ended : (a b c m : Bool) → (a || c) ≡ true → (not a && not b && not c && m) ≡ false
follow_ended a b c m h1 = search (rules, false≢true)

cut_none : (t : List ℕ) → is_space t ≡ false → cut no_gap t ≡ ([], t)
unfolding upto
cut_none t e = search rules

not_followed : (spaces : Option ℕ) (b : ℕ) (t : List ℕ) → ends_plain false spaces t ≡ true → follows false spaces (b ∷ (cut no_gap t).0) (cut no_gap t).1 ≡ false
not_followed spaces b t h = elim (cases_Bool (is_space t)) [
  | inl e ↦ (
      let g = (cut no_gap t).0 in
      let x = (cut no_gap t).1 in
      let here : not (follows false spaces g x) ≡ true = rw e at h in
      false_from_ne_true (follows false spaces (b ∷ g) x) (λ f.
      let more : follows false spaces g x ≡ true =
      follow_more (is_empty x) (front (λ c. eqb c 35) x) (ends_text false x) (plain_may_follow spaces (last_line (b ∷ g)) x)
      (plain_may_follow spaces (last_line g) x) (may_more spaces (last_line g) g x (is_feed b)) f in
      false≢true (ap not (sym more) ∙ here)))
  | inr e ↦ (
      let here : (is_empty t || ends_text false t) ≡ true = rw e at h in
      let parts = cut_none t e in
      ap (λ (x : List ℕ × List ℕ). follows false spaces (b ∷ x.0) x.1) parts ∙ follow_ended (is_empty t) (front (λ c. eqb c 35) t) (ends_text false t) (plain_may_follow spaces (last_line (b ∷ [])) t) here)
]

pub last_no_space : (spaces : Option ℕ) (b : ℕ) (t : List ℕ) → ends_plain false spaces (b ∷ t) ≡ false → ends_plain false spaces t ≡ true → is_space (b ∷ t) ≡ false
unfolding upto
last_no_space spaces b t some h = grind (arith, common_steps, false_from_ne_true, false≢true, not_followed)

plain_inside : (spaces : Option ℕ) (b : ℕ) (p t u : List ℕ) → NoneIn (ends_plain false spaces) (b ∷ p) t → ends_plain false spaces t ≡ true → separates t ≡ true → separates u ≡ true → Joint (b ∷ p) t u →
    NoneIn (ends_plain false spaces) (b ∷ p) u × Alike (Some false) (b ∷ (p ++ t)) (b ∷ (p ++ u))
plain_inside spaces b [] t u h e x y j =
    let here = last_no_space spaces b t h.0 e in
    let alike : Alike (Some false) (b ∷ t) (b ∷ u) = byte here (search (rules, or_parts)) x y in
    ((sym (alike_ends spaces false (b ∷ t) (b ∷ u) alike) ∙ h.0, tt), alike)
plain_inside spaces b (c ∷ p) t u h e x y j =
    let again = plain_inside spaces c p t u h.1 e x y j in
    let alike : Alike (Some false) (b ∷ (c ∷ (p ++ t))) (b ∷ (c ∷ (p ++ u))) = after again.1 in
    ((sym (alike_ends spaces false (b ∷ (c ∷ (p ++ t))) (b ∷ (c ∷ (p ++ u))) alike) ∙ h.0, again.0), alike)

pub plain_seam : (spaces : Option ℕ) (p t u : List ℕ) → separates t ≡ true → separates u ≡ true → Joint p t u → ends_plain false spaces u ≡ true → IsPlain false spaces p t → IsPlain false spaces p u × Alike (Some false) (p ++ t) (p ++ u)
plain_seam spaces [] t u x y j e h = absurd (
    let begins : begins_plain false t ≡ true = h.begins in
    false≢true (sym (apart_no_node t x) ∙ or_right (begins_with 38 t) _ (or_right (begins_with 42 t) _ (or_right (begins_with 91 t) _ (or_right (begins_with 123 t) _ (or_right (is_quoted t) (begins_plain false t) begins))))))
plain_seam spaces (b ∷ p) t u x y j e h =
    let inner = plain_inside spaces b p t u h.inside h.ends x y j in
    (record { begins = sym (alike_begins false (b ∷ (p ++ t)) (b ∷ (p ++ u)) inner.1) ∙ h.begins; inside = inner.0; ends = e }, inner.1)

-- what begins as a plain scalar has no quote in front
pub plain_unquoted : (spaces : Option ℕ) (p t : List ℕ) → IsPlain false spaces p t → is_quoted p ≡ false
plain_unquoted spaces p t h1 = search (rules, front_not)
