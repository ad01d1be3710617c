-- Two texts that are the same up to a byte after which nobody looks: the tests of what is in front.
use Rattle.std.proofs.Common.{arith, ◌≡◌, inl, inr, ℕ, Bool, true, false, eqb, List, [], ◌∷◌, ◌++◌, Option, Some, None, refl, sym, ap, ◌∙◌}
use Rattle.std.{proofs.Common.rules, proofs.lemmas.Grind.common_steps, proofs.Math.Bool.and-false}
use Rattle.std.{proofs.lemmas.Bool.{cases_Bool, or_parts}, specs.List.prefix_len}
use Rattle.yq_core.specs.Plain.{begins_plain, ends_plain, ends_text, is_flow_indicator, is_safe, no_gap, last_line, begins_deep}
use Rattle.yq_core.{specs.Plain.{plain_may_follow, follows, IsPlain}, specs.QuotedReading.is_quote}
use Rattle.yq_core.specs.Text.{upto, cut, NoneIn, front, unless, is_empty, is_white, is_break, is_space, separates, is_marker}
use Rattle.yq_core.{proofs.Bools.at_byte, specs.Alike.{ends_lookahead, Alike, stop, colon, any_colon, byte, after}}
use Rattle.yq_core.specs.Nodes.{begins_with, begins_content}

pub alike_append : (f : Option Bool) (p t u : List ℕ) → Alike f t u → Alike f (p ++ t) (p ++ u)
alike_append f [] t u h = h
alike_append f (b ∷ p) t u h = after (alike_append f p t u h)

-- each test of what is in front
pub alike_front : (p : ℕ → Bool) (f : Option Bool) (t u : List ℕ) → Alike f t u → front p t ≡ front p u
alike_front p f t u h1 = search rules

pub alike_unless : (p : ℕ → Bool) (f : Option Bool) (t u : List ℕ) → Alike f t u → unless p t ≡ unless p u
alike_unless p f t u h1 = search rules

pub alike_first : (k : ℕ) (f : Option Bool) (t u : List ℕ) → Alike f t u → begins_with k t ≡ begins_with k u
alike_first k f t u h1 = search rules

pub alike_empty : (f : Option Bool) (t u : List ℕ) → Alike f t u → is_empty t ≡ is_empty u
alike_empty f t u h1 = search rules

pub stop_break : (b : ℕ) (t : List ℕ) → ends_lookahead b ≡ true → is_break (b ∷ t) ≡ false
stop_break b t h = rw (at_byte ends_lookahead b 10 h refl, at_byte ends_lookahead b 13 h refl) refl

pub alike_break : (f : Option Bool) (t u : List ℕ) → Alike f t u → is_break t ≡ is_break u
alike_break f t u x = grind (arith, common_steps)

pub alike_space : (f : Option Bool) (t u : List ℕ) → Alike f t u → is_space t ≡ is_space u
alike_space f t u h = rw (alike_front is_white f t u h, alike_break f t u h) refl

pub alike_separates : (f : Option Bool) (t u : List ℕ) → Alike f t u → separates t ≡ separates u
alike_separates f t u h1 = search (rules, alike_space)

alike_safe : (flow : Bool) (f : Option Bool) (t u : List ℕ) → Alike f t u → is_safe flow t ≡ is_safe flow u
alike_safe flow f t u h = rw (alike_separates f t u h, alike_front is_flow_indicator f t u h) refl

-- markers
pub no_first : (b : ℕ) (t : List ℕ) → eqb b 45 ≡ false → eqb b 46 ≡ false → is_marker (b ∷ t) ≡ false
no_first b t h1 h2 = search rules

pub no_second : (a b : ℕ) (t : List ℕ) → eqb b 45 ≡ false → eqb b 46 ≡ false → is_marker (a ∷ (b ∷ t)) ≡ false
no_second a b t x y = search rules

pub no_third : (a b c : ℕ) (t : List ℕ) → eqb c 45 ≡ false → eqb c 46 ≡ false → is_marker (a ∷ (b ∷ (c ∷ t))) ≡ false
no_third a b c t x y = rw (x, y) (simp and-false refl)

pub sep_first : (a : ℕ) (t : List ℕ) → separates t ≡ true → is_marker (a ∷ t) ≡ false
sep_first a t h = search rules

sep_second : (a b : ℕ) (t : List ℕ) → separates t ≡ true → is_marker (a ∷ (b ∷ t)) ≡ false
sep_second a b t h = search rules

pub alike_marker : (f : Option Bool) (t u : List ℕ) → Alike f t u → is_marker t ≡ is_marker u
alike_marker _ _ _ (stop {f} {b} {t} {u} x) = search (rules, at_byte, no_first, sep_first, no_second, sep_second, no_third, alike_separates)
alike_marker _ _ _ (colon {flow} {t} {u} x y) = no_first 58 t refl refl ∙ sym (no_first 58 u refl refl)
alike_marker _ _ _ (any_colon {t} {u}) = no_first 58 t refl refl ∙ sym (no_first 58 u refl refl)
alike_marker _ _ _ (byte {f} {b} {t} {u} v w x y) = sep_first b t x ∙ sym (sep_first b u y)
alike_marker _ _ _ (after {b = a} (stop {f} {b} {t} {u} x)) = search (rules, at_byte, no_second)
alike_marker _ _ _ (after {b = a} (colon {flow} {t} {u} x y)) = no_second a 58 t refl refl ∙ sym (no_second a 58 u refl refl)
alike_marker _ _ _ (after {b = a} (any_colon {t} {u})) = no_second a 58 t refl refl ∙ sym (no_second a 58 u refl refl)
alike_marker _ _ _ (after {b = a} (byte {f} {b} {t} {u} v w x y)) = sep_second a b t x ∙ sym (sep_second a b u y)
alike_marker _ _ _ (after {b = a} (after {b = b} (stop {f} {b = c} {t} {u} x))) = search (rules, at_byte, no_third)
alike_marker _ _ _ (after {b = a} (after {b = b} (colon {flow} {t} {u} x y))) = no_third a b 58 t refl refl ∙ sym (no_third a b 58 u refl refl)
alike_marker _ _ _ (after {b = a} (after {b = b} (any_colon {t} {u}))) = no_third a b 58 t refl refl ∙ sym (no_third a b 58 u refl refl)
alike_marker _ _ _ (after {b = a} (after {b = b} (byte {f} {b = c} {t} {u} v w x y))) = rw (x, y) refl
alike_marker _ _ _ (after {b = a} (after {b = b} (after {f = f} {b = c} {t = t} {u = u} h))) = rw (alike_separates f t u h) refl

pub alike_spaces : (f : Option Bool) (t u : List ℕ) → Alike f t u → prefix_len (λ b. eqb b 32) t ≡ prefix_len (λ b. eqb b 32) u
alike_spaces _ _ _ (stop {f} {b} {t} {u} x) = rw (at_byte ends_lookahead b 32 x refl) refl
alike_spaces _ _ _ (byte {f} {b} {t} {u} v w x y) = search (rules, at_byte, or_parts)
alike_spaces _ _ _ (after {f} {b} {t} {u} h) = rw (alike_spaces f t u h) refl
alike_spaces _ _ _ _ = refl

-- where plain scalars begin and end
unsafe : (flow : Bool) (t : List ℕ) → separates t ≡ true → is_safe flow t ≡ false
unsafe flow t h = rw h refl

alike_text : (flow : Bool) (t u : List ℕ) → Alike (Some flow) t u → ends_text flow t ≡ ends_text flow u
alike_text flow _ _ (stop {b = b} x) = rw (at_byte ends_lookahead b 58 x refl) refl
alike_text flow _ _ (colon {t = t} {u = u} x y) = rw (x, y) refl
alike_text flow _ _ (byte {b = b} {t = t} {u = u} v w x y) = rw (unsafe flow t x, unsafe flow u y) refl
alike_text flow _ _ (after {b = b} {t = t} {u = u} h) = rw (alike_safe flow (Some flow) t u h) refl

pub alike_begins : (flow : Bool) (t u : List ℕ) → Alike (Some flow) t u → begins_plain flow t ≡ begins_plain flow u
alike_begins flow _ _ (stop {b = b} {t = t} {u = u} x) = rw (stop_break b t x, stop_break b u x, at_byte ends_lookahead b 45 x refl, at_byte ends_lookahead b 63 x refl, at_byte ends_lookahead b 58 x refl) refl
alike_begins flow _ _ (colon {t = t} {u = u} x y) = rw (x, y) refl
alike_begins flow _ _ (byte {b = b} {t = t} {u = u} v w x y) = rw (v, w, unsafe flow t x, unsafe flow u y) refl
alike_begins flow _ _ (after {b = b} {t = t} {u = u} h) = rw (alike_space (Some flow) (b ∷ t) (b ∷ u) (after h), alike_safe flow (Some flow) t u h) refl

alike_deep : (spaces : Option ℕ) (f : Option Bool) (t u : List ℕ) → Alike f t u → begins_deep spaces t ≡ begins_deep spaces u
alike_deep spaces f t u h = search (rules, alike_spaces, alike_marker)

alike_may : (spaces : Option ℕ) (line : Option (List ℕ)) (f : Option Bool) (t u : List ℕ) → Alike f t u → plain_may_follow spaces line t ≡ plain_may_follow spaces line u
alike_may spaces None f t u h = refl
alike_may spaces (Some p) f t u h = alike_deep spaces f (p ++ t) (p ++ u) (alike_append f p t u h)

alike_follows : (spaces : Option ℕ) (gap : List ℕ) (flow : Bool) (t u : List ℕ) → Alike (Some flow) t u → follows flow spaces gap t ≡ follows flow spaces gap u
alike_follows spaces gap flow t u h = let f : Option Bool = Some flow in rw (alike_empty f t u h, alike_front (λ b. eqb b 35) f t u h, alike_text flow t u h, alike_may spaces (last_line gap) f t u h) refl

-- the white space and breaks in front are the same, and what follows is alike
abbrev SameGap : Option Bool → List ℕ × List ℕ → List ℕ × List ℕ → Type 0
SameGap f a b = (a.0 ≡ b.0) × Alike f a.1 b.1

alike_cut : (flow : Bool) (t u : List ℕ) → Alike (Some flow) t u → SameGap (Some flow) (cut no_gap t) (cut no_gap u)
unfolding upto
alike_cut flow _ _ (stop {b = b} {t = t} {u = u} x) = rw (at_byte ends_lookahead b 32 x refl, at_byte ends_lookahead b 9 x refl, stop_break b t x, stop_break b u x) (refl, stop x)
alike_cut flow _ _ (colon {t = t} {u = u} x y) = (refl, colon x y)
alike_cut flow _ _ (byte {b = b} {t = t} {u = u} v w x y) = rw (v, w) (refl, byte v w x y)
alike_cut flow _ _ (after {b = b} {t = t} {u = u} h) =
    let again = alike_cut flow t u h in
    let same = alike_space (Some flow) (b ∷ t) (b ∷ u) (after h) in
    elim (cases_Bool (is_space (b ∷ t))) [
      | inl e ↦ (let g : is_space (b ∷ u) ≡ true = sym same ∙ e in rw (e, g) (ap (λ l. b ∷ l) again.0, again.1))
      | inr e ↦ (let g : is_space (b ∷ u) ≡ false = sym same ∙ e in rw (e, g) (refl, after h))
    ]

pub alike_ends : (spaces : Option ℕ) (flow : Bool) (t u : List ℕ) → Alike (Some flow) t u → ends_plain flow spaces t ≡ ends_plain flow spaces u
alike_ends spaces flow t u h =
    let c = alike_cut flow t u h in
    search (rules, alike_space, alike_empty, alike_text, alike_follows, c)

pub alike_none : (ends : List ℕ → Bool) (f : Option Bool) → ((t u : List ℕ) → Alike f t u → ends t ≡ ends u) → (p t u : List ℕ) → Alike f t u → NoneIn ends p t → NoneIn ends p u
alike_none ends f same [] t u h n = tt
alike_none ends f same (b ∷ p) t u h n = (sym (same (b ∷ (p ++ t)) (b ∷ (p ++ u)) (after (alike_append f p t u h))) ∙ n.0, alike_none ends f same p t u h n.1)

-- a plain scalar before the one text is one before the other
pub plain_alike : (flow : Bool) (spaces : Option ℕ) (p t u : List ℕ) → Alike (Some flow) t u → IsPlain flow spaces p t → IsPlain flow spaces p u
plain_alike flow spaces p t u h g = record {
  begins = sym (alike_begins flow (p ++ t) (p ++ u) (alike_append (Some flow) p t u h)) ∙ g.begins;
  inside = alike_none (ends_plain flow spaces) (Some flow) (alike_ends spaces flow) p t u h g.inside;
  ends = sym (alike_ends spaces flow t u h) ∙ g.ends;
}

-- where nodes begin
pub alike_content : (flow : Bool) (t u : List ℕ) → Alike (Some flow) t u → begins_content flow t ≡ begins_content flow u
alike_content flow t u h = let f : Option Bool = Some flow in rw (alike_first 42 f t u h, alike_first 91 f t u h, alike_first 123 f t u h, alike_front is_quote f t u h, alike_begins flow t u h) refl
