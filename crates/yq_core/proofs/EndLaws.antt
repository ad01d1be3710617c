-- What comes after an item, and plain scalars before it.
use Rattle.std.proofs.Common.{◌≡◌, ◌⊎◌, inl, inr, ⊎_elim, ℕ, Bool, true, false, not, ◌&&◌, ◌||◌, eqb, List, [], ◌∷◌, ◌++◌, Option, Some}
use Rattle.std.proofs.Common.{None, refl, sym, ap, ◌∙◌, subst, cond, arith, eqb-true, rules}
use Rattle.std.proofs.lemmas.Bool.{false≢true, or_cases, or_right, not-false, not-true, false_from_ne_true, and_from, le-leb, and_parts}
use Rattle.std.{proofs.lemmas.Bool.cases_Bool, proofs.lemmas.Option.cond_some}
use Rattle.yq_core.specs.Plain.{begins_plain, ends_plain, ends_text, is_safe, no_gap, last_line, plain_may_follow, follows, IsPlain}
use Rattle.yq_core.{specs.Text.{upto, cut, NoneIn, front, unless, is_empty, is_feed, is_space}, proofs.Bools.at_byte}
use Rattle.yq_core.{specs.declared.gap.GapPlace.GapPlace, specs.declared.gap.GapPlace.TheVariants.{White, Break}}
use Rattle.yq_core.{specs.Alike.{EndsItem, fresh, KeepsApart}, specs.Gaps.{next_gap_place, in_comment, AllGo, IsInlineGap}}
use Rattle.yq_core.{specs.Nodes.{in_name, begins_node, is_close}, specs.Scalars.IsScalarAt, proofs.Alikes.no_first}
use Rattle.yq_core.{proofs.AlikePieces.quoted_any, proofs.NodesPieceLaws.{front_not, scalar_some}}

-- a comma or a closing bracket
pub by_close : (P : ℕ → Type 0) (k c : ℕ) → is_close k ≡ true → (eqb c 44 || eqb c k) ≡ true → P 44 → P 93 → P 125 → P c
by_close P k c h e p q r = search rules

-- what is in front of that which comes after an item
pub ends_by : (P : List ℕ → Type 0) (k : ℕ) (t : List ℕ) → is_close k ≡ true → EndsItem k t → ((r : List ℕ) → P (44 ∷ r)) →
    ((r : List ℕ) → P (93 ∷ r)) → ((r : List ℕ) → P (125 ∷ r)) → ((b : ℕ) (r : List ℕ) → is_space (b ∷ r) ≡ true → P (b ∷ r)) → P t
ends_by P k t h e p q r s = go e.gap e.spelled e.is_gap where
  go : (g : List ℕ) → t ≡ g ++ (e.close ∷ e.rest) → IsInlineGap g (e.close ∷ e.rest) → P t
  go [] is gap = subst P (sym is) (by_close (λ c. P (c ∷ e.rest)) k e.close h e.ends (p e.rest) (q e.rest) (r e.rest))
  go (b ∷ g) is gap = subst P (sym is) (s b (g ++ (e.close ∷ e.rest)) gap.inside.0)

pub ends_safe : (k : ℕ) (t : List ℕ) → is_close k ≡ true → EndsItem k t → is_safe true t ≡ false
ends_safe k t h e = ends_by (λ t. is_safe true t ≡ false) k t h e (λ r. refl) (λ r. refl) (λ r. refl) (λ b r s. rw s refl)

space_name : (b : ℕ) (r : List ℕ) → is_space (b ∷ r) ≡ true → unless in_name (b ∷ r) ≡ true
space_name b r s = search (rules, false≢true)

pub ends_name : (k : ℕ) (t : List ℕ) → is_close k ≡ true → EndsItem k t → unless in_name t ≡ true
ends_name k t h e = ends_by (λ t. unless in_name t ≡ true) k t h e (λ r. refl) (λ r. refl) (λ r. refl) space_name

-- what begins a node is no gap
pub node_no_space : (b : ℕ) (bs : List ℕ) → begins_node true (b ∷ bs) ≡ true → is_space (b ∷ bs) ≡ false
node_no_space b bs h = search (rules, front_not, false_from_ne_true, ⊎_elim, false≢true, and_parts, eqb-true, or_cases)

pub ends_node : (k : ℕ) (t : List ℕ) → is_close k ≡ true → EndsItem k t → begins_node true t ≡ false
ends_node k t h e = ends_by (λ t. begins_node true t ≡ false) k t h e (λ r. refl) (λ r. refl) (λ r. refl) (λ b r s. false_from_ne_true (begins_node true (b ∷ r)) (λ n. false≢true (sym (node_no_space b r n) ∙ s)))

pub ends_quote : (k : ℕ) (t : List ℕ) → is_close k ≡ true → EndsItem k t → front (λ b. eqb b 39) t ≡ false
ends_quote k t h e = ends_by (λ t. front (λ b. eqb b 39) t ≡ false) k t h e (λ r. refl) (λ r. refl) (λ r. refl) (λ b r s. at_byte (λ x. is_space (x ∷ r)) b 39 s refl)

-- a plain scalar doesn't go on with this text after white space
abbrev pub dead : List ℕ → Bool
dead t = is_empty t || (front (λ b. eqb b 35) t || ends_text true t)

not_follow : (spaces : Option ℕ) (gap t : List ℕ) → dead t ≡ true → follows true spaces gap t ≡ false
not_follow spaces gap t h = search (rules, false≢true)

next_comment : (s : GapPlace) (b : ℕ) (x : List ℕ) → in_comment s ≡ false → is_space (b ∷ x) ≡ true → in_comment (next_gap_place s b) ≡ false
next_comment s b x none h = rw (at_byte (λ y. is_space (y ∷ x)) b 35 h refl, none) (elim (is_feed b) as (λ c. in_comment (cond c Break White) ≡ false) [ true ↦ refl | false ↦ refl ])

dead_gap : (s : GapPlace) (g : List ℕ) (c : ℕ) (r : List ℕ) → in_comment s ≡ false → AllGo s g (c ∷ r) → is_space (c ∷ r) ≡ false → ends_text true (c ∷ r) ≡ true → dead (cut no_gap (g ++ (c ∷ r))).1 ≡ true
unfolding upto
dead_gap s [] c r none all h e = rw h (or_right (eqb c 35) (ends_text true (c ∷ r)) e)
dead_gap s (b ∷ g) c r none all h e = elim (cases_Bool (is_space (b ∷ (g ++ (c ∷ r))))) [
  | inl x ↦ rw x (dead_gap (next_gap_place s b) g c r (next_comment s b (g ++ (c ∷ r)) none x) all.1 h e)
  | inr x ↦ (let hash : eqb b 35 ≡ true = search (rules, false≢true) in rw x (rw hash refl))
]

dead_ends : (k : ℕ) (t : List ℕ) → is_close k ≡ true → EndsItem k t → dead (cut no_gap t).1 ≡ true
dead_ends k t h e = search (rules, by_close, dead_gap)

-- a plain scalar ends there
pub ends_plainly : (spaces : Option ℕ) (k : ℕ) (t : List ℕ) → is_close k ≡ true → EndsItem k t → ends_plain true spaces t ≡ true
ends_plainly spaces k t h e = elim (cases_Bool (is_space t)) [
  | inl x ↦ rw x (rw (not_follow spaces (cut no_gap t).0 (cut no_gap t).1 (dead_ends k t h e)) refl)
  | inr x ↦ ends_by (λ t. is_space t ≡ false → ends_plain true spaces t ≡ true) k t h e (λ r y. refl) (λ r y. refl) (λ r y. refl) (λ b r s y. absurd (false≢true (sym y ∙ s))) x
]

abbrev pub stops_here : List ℕ → Bool
stops_here t = ends_plain true (Some 0) t

pub last_space : (k : ℕ) (t : List ℕ) (b : ℕ) → is_close k ≡ true → EndsItem k t → stops_here (b ∷ t) ≡ false → is_space (b ∷ t) ≡ false
unfolding upto
last_space k t b h e none = false_from_ne_true (is_space (b ∷ t)) (λ s.
    let ended : stops_here (b ∷ t) ≡ true = rw s (rw (not_follow (Some 0) (b ∷ (cut no_gap t).0) (cut no_gap t).1 (dead_ends k t h e)) refl) in
    false≢true (sym none ∙ ended))

-- the same of both texts
space_same : (k : ℕ) (f : Bool) (b : ℕ) (p t u : List ℕ) → is_close k ≡ true → EndsItem k t → NoneIn stops_here (b ∷ p) t → KeepsApart f (b ∷ p) t u → is_space (b ∷ (p ++ t)) ≡ is_space (b ∷ (p ++ u))
space_same k f b [] t u h e none keeps = let x = last_space k t b h e none.0 in x ∙ sym (keeps.0 x)
space_same k f b (c ∷ p) t u h e none keeps = refl

safe_same : (k : ℕ) (f : Bool) (p t u : List ℕ) → is_close k ≡ true → EndsItem k t → EndsItem k u → NoneIn stops_here p t → KeepsApart f p t u → is_safe true (p ++ t) ≡ is_safe true (p ++ u)
safe_same k f [] t u h e d none keeps = ends_safe k t h e ∙ sym (ends_safe k u h d)
safe_same k f (b ∷ p) t u h e d none keeps = rw (space_same k f b p t u h e none keeps) refl

text_same : (k : ℕ) (f : Bool) (b : ℕ) (p t u : List ℕ) → is_close k ≡ true → EndsItem k t → EndsItem k u → NoneIn stops_here (b ∷ p) t → KeepsApart f (b ∷ p) t u → ends_text true (b ∷ (p ++ t)) ≡ ends_text true (b ∷ (p ++ u))
text_same k f b p t u h e d none keeps = rw (safe_same k (is_feed b) p t u h e d none.1 keeps.2) refl

begins_same : (k : ℕ) (f : Bool) (b : ℕ) (p t u : List ℕ) → is_close k ≡ true → EndsItem k t → EndsItem k u → NoneIn stops_here (b ∷ p) t → KeepsApart f (b ∷ p) t u → begins_plain true (b ∷ (p ++ t)) ≡ begins_plain true (b ∷ (p ++ u))
begins_same k f b p t u h e d none keeps = rw (space_same k f b p t u h e none keeps, safe_same k (is_feed b) p t u h e d none.1 keeps.2) refl

-- bytes that begin no marker
abbrev NoMark : List ℕ → Type 0
NoMark [] = Unit {0}
NoMark (b ∷ g) = (eqb b 45 ≡ false) × (eqb b 46 ≡ false) × NoMark g

-- where a plain scalar goes on after white space inside it
record Goes (f : Bool) (p t u : List ℕ) : Type 0 where
  gap : List ℕ
  first : ℕ
  text : List ℕ
  old : cut no_gap (p ++ t) ≡ (gap, first ∷ (text ++ t))
  new : cut no_gap (p ++ u) ≡ (gap, first ∷ (text ++ u))
  white : NoMark gap
  inside : NoneIn stops_here (first ∷ text) t
  keeps : KeepsApart (fresh f gap) (first ∷ text) t u

follow : (k : ℕ) (f : Bool) (p t u : List ℕ) → is_close k ≡ true → EndsItem k t → NoneIn stops_here p t → KeepsApart f p t u → (dead (cut no_gap (p ++ t)).1 ≡ true) ⊎ Goes f p t u
unfolding upto
follow k f [] t u h e none keeps = inl (dead_ends k t h e)
follow k f (b ∷ p) t u h e none keeps = elim (cases_Bool (is_space (b ∷ (p ++ t)))) [
  | inr x ↦ (let y : is_space (b ∷ (p ++ u)) ≡ false = sym (space_same k f b p t u h e none keeps) ∙ x in
      inr (record { gap = []; first = b; text = p; old = rw x refl; new = rw y refl; white = tt; inside = none; keeps = keeps }))
  | inl x ↦ (let y : is_space (b ∷ (p ++ u)) ≡ true = sym (space_same k f b p t u h e none keeps) ∙ x in ⊎_elim {0, 0, 0}
      (λ z. inl (rw x z))
      (λ g. inr (record {
        gap = b ∷ g.gap;
        first = g.first;
        text = g.text;
        old = rw x (ap (λ (c : List ℕ × List ℕ). (b ∷ c.0, c.1)) g.old);
        new = rw y (ap (λ (c : List ℕ × List ℕ). (b ∷ c.0, c.1)) g.new);
        white = (at_byte (λ c. is_space (c ∷ (p ++ t))) b 45 x refl, at_byte (λ c. is_space (c ∷ (p ++ t))) b 46 x refl, g.white);
        inside = g.inside;
        keeps = g.keeps;
      }))
      (follow k (is_feed b) p t u h e none.1 keeps.2))
]

-- the line on which it goes on
last_fresh : (f : Bool) (gap : List ℕ) → last_line gap ≡ Some [] → fresh f gap ≡ true
last_fresh f [] h = cc
last_fresh f (b ∷ gap) h = search (rules, cond_some, last_fresh (is_feed b) gap)

last_mark : (gap : List ℕ) (c : ℕ) (l : List ℕ) → NoMark gap → last_line gap ≡ Some (c ∷ l) → (eqb c 45 ≡ false) × (eqb c 46 ≡ false)
last_mark [] c l w h = cc
last_mark (b ∷ gap) c l w h = search (rules, cond_some, last_mark gap c l w.2)

may_same : (f : Bool) (gap : List ℕ) (b : ℕ) (p t u : List ℕ) → NoMark gap → KeepsApart (fresh f gap) (b ∷ p) t u →
    plain_may_follow (Some 0) (last_line gap) (b ∷ (p ++ t)) ≡ true → plain_may_follow (Some 0) (last_line gap) (b ∷ (p ++ u)) ≡ true
may_same f gap b p t u w keeps h = go (last_line gap) refl h where
  go : (o : Option (List ℕ)) → last_line gap ≡ o → plain_may_follow (Some 0) o (b ∷ (p ++ t)) ≡ true → plain_may_follow (Some 0) o (b ∷ (p ++ u)) ≡ true
  go None is e = refl
  go (Some []) is e = search (rules, and_from, le-leb, not-true, and_parts, last_fresh)
  go (Some (c ∷ l)) is e = search (rules, last_mark, and_from, le-leb, no_first)

none_keeps : (k : ℕ) (f : Bool) (p t u : List ℕ) → is_close k ≡ true → EndsItem k t → EndsItem k u → NoneIn stops_here p t → KeepsApart f p t u → NoneIn stops_here p u
none_keeps k f [] t u h e d none keeps = tt
none_keeps k f (b ∷ p) t u h e d none keeps = (here, none_keeps k (is_feed b) p t u h e d none.1 keeps.2) where
  same : is_space (b ∷ (p ++ t)) ≡ is_space (b ∷ (p ++ u))
  same = space_same k f b p t u h e none keeps

  goes_on : Goes f (b ∷ p) t u → follows true (Some 0) (cut no_gap (b ∷ (p ++ t))).0 (cut no_gap (b ∷ (p ++ t))).1 ≡ true → follows true (Some 0) (cut no_gap (b ∷ (p ++ u))).0 (cut no_gap (b ∷ (p ++ u))).1 ≡ true
  goes_on g old =
      let x : follows true (Some 0) g.gap (g.first ∷ (g.text ++ t)) ≡ true = subst (λ (c : List ℕ × List ℕ). follows true (Some 0) c.0 c.1 ≡ true) g.old old in
      let a = and_parts _ (plain_may_follow (Some 0) (last_line g.gap) (g.first ∷ (g.text ++ t))) x in
      let text = text_same k (fresh f g.gap) g.first g.text t u h e d g.inside g.keeps in
      let b : (not false && not (eqb g.first 35) && not (ends_text true (g.first ∷ (g.text ++ u)))) ≡ true = subst (λ (c : Bool). (not false && not (eqb g.first 35) && not c) ≡ true) text a.0 in
      let y : follows true (Some 0) g.gap (g.first ∷ (g.text ++ u)) ≡ true = and_from _ (plain_may_follow (Some 0) (last_line g.gap) (g.first ∷ (g.text ++ u))) b (may_same f g.gap g.first g.text t u g.white g.keeps a.1) in
      subst (λ (c : List ℕ × List ℕ). follows true (Some 0) c.0 c.1 ≡ true) (sym g.new) y

  here : stops_here (b ∷ (p ++ u)) ≡ false
  here = elim (cases_Bool (is_space (b ∷ (p ++ t)))) [
    | inr x ↦ (let old : ends_text true (b ∷ (p ++ t)) ≡ false = rw x at none.0 in
        rw (sym same ∙ x) (sym (text_same k f b p t u h e d none keeps) ∙ old))
    | inl x ↦ (let old : not (follows true (Some 0) (cut no_gap (b ∷ (p ++ t))).0 (cut no_gap (b ∷ (p ++ t))).1) ≡ false = rw x at none.0 in
        let on = not-false _ old in ⊎_elim {0, 0, 0}
        (λ z. absurd (false≢true (sym (not_follow (Some 0) (cut no_gap (b ∷ (p ++ t))).0 (cut no_gap (b ∷ (p ++ t))).1 z) ∙ on)))
        (λ g. rw (sym same ∙ x) (rw (goes_on g on) refl))
        (follow k f (b ∷ p) t u h e none keeps))
  ]

plain_keeps : (k : ℕ) (f : Bool) (p t u : List ℕ) → is_close k ≡ true → EndsItem k t → EndsItem k u → KeepsApart f p t u → IsPlain true (Some 0) p t → IsPlain true (Some 0) p u
plain_keeps k f [] t u h e d keeps g = absurd (omega (arith, scalar_some true (Some 0) [] t (inl g)))
plain_keeps k f (b ∷ p) t u h e d keeps g = record {
  begins = sym (begins_same k f b p t u h e d g.inside keeps) ∙ g.begins;
  inside = none_keeps k f (b ∷ p) t u h e d g.inside keeps;
  ends = ends_plainly (Some 0) k u h d;
}

-- a scalar before what comes after an item is one before another such text
pub scalar_keeps : (k : ℕ) (f : Bool) (p t u : List ℕ) → is_close k ≡ true → EndsItem k t → EndsItem k u → KeepsApart f p t u → IsScalarAt true (Some 0) p t → IsScalarAt true (Some 0) p u
scalar_keeps k f p t u h e d keeps (inl g) = inl (plain_keeps k f p t u h e d keeps g)
scalar_keeps k f p t u h e d keeps (inr g) = inr ((g.0.0, (g.0.1.0, quoted_any g.0.0 g.0.1.0 p t u (ends_quote k u h d) g.0.1.1)), g.1)
