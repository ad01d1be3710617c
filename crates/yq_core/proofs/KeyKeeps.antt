-- What comes after an anchor or a `:`, and keys, before another text.
use Rattle.std.proofs.Common.{◌≡◌, inl, inr, ℕ, Bool, true, false, ◌||◌, eqb, List, [], ◌∷◌, ◌++◌, Some, None, refl, sym, ◌∙◌, subst}
use Rattle.std.{proofs.Common.{eqb-true, rules}, proofs.lemmas.Bool.{false≢true, or_right, false_from_ne_true, cases_Bool}}
use Rattle.yq_core.{specs.Plain.{begins_plain, is_safe}, specs.Text.{front, is_space, separates}, proofs.Bools.at_byte}
use Rattle.yq_core.{specs.Alike.{Alike, colon, any_colon, EndsItem, fresh, KeepsApart}, specs.Gaps.IsInlineGap}
use Rattle.yq_core.specs.Nodes.{Key, bare, keyed, FlowNode, key_text, node_text, begins_with, begins_node, is_close, IsLead, IsInlineKey}
use Rattle.yq_core.{specs.Nodes.{is_empty_node, IsFlowNode}, specs.Scalars.{is_quoted, IsScalarAt}, proofs.Alikes.alike_append}
use Rattle.yq_core.proofs.AlikePieces.{gap_alike, scalar_alike, quoted_any}
use Rattle.yq_core.{proofs.EndLaws.{by_close, ends_safe, ends_node, node_no_space}, proofs.NodesPieceLaws.front_not}
use Rattle.yq_core.proofs.KeepLaws.{keeps_append, bare_text, some_begins, gap_node}

-- what is between an anchor or a `:` and a node
begun : (begins : List ℕ → Bool) (x g r : List ℕ) → x ≡ g ++ r → IsInlineGap g r → begins r ≡ false → begins x ≡ true → begins_node true x ≡ true → ⊥
begun begins x [] r is gap nope b n = false≢true (sym nope ∙ subst (λ (l : List ℕ). begins l ≡ true) is b)
begun begins x (c ∷ g) r is gap nope b n = false≢true (sym (node_no_space c (g ++ r) (subst (λ (l : List ℕ). begins_node true l ≡ true) is n)) ∙ gap.inside.0)

pub lead_gap : (begins : List ℕ → Bool) (g x : List ℕ) → begins x ≡ true → begins_node true x ≡ true → IsLead true begins g x → IsInlineGap g x
lead_gap begins g x b n h = search rules

pub lead_none : (begins : List ℕ → Bool) (g x : List ℕ) → begins x ≡ false → IsLead true begins g x → g ≡ []
lead_none begins g x b h = search rules

-- keys
no_quote : (p r : List ℕ) → is_quoted p ≡ true → begins_plain true (p ++ r) ≡ false
no_quote p r h1 = search (rules, false≢true, false_from_ne_true, front_not)

gap_quote : (b : List ℕ) (x y : List ℕ) → IsInlineGap b (58 ∷ x) → front (λ c. eqb c 39) (b ++ (58 ∷ y)) ≡ false
gap_quote [] x y h = refl
gap_quote (c ∷ b) x y h = at_byte (λ d. is_space (d ∷ (b ++ (58 ∷ x)))) c 39 h.inside.0 refl

quoted_key : (p b x y : List ℕ) → is_quoted p ≡ true → IsInlineGap b (58 ∷ x) → IsScalarAt true None p (b ++ (58 ∷ x)) → IsScalarAt true None p (b ++ (58 ∷ y))
quoted_key p b x y q gap (inl h) = absurd (false≢true (sym (no_quote p (b ++ (58 ∷ x)) q) ∙ h.begins))
quoted_key p b x y q gap (inr h) = inr ((h.0.0, (h.0.1.0, quoted_any h.0.0 h.0.1.0 p (b ++ (58 ∷ x)) (b ++ (58 ∷ y)) (gap_quote b x y gap) h.0.1.1)), h.1)

no_separates : (x : List ℕ) → begins_node true x ≡ true → (separates x || (begins_with 44 x || begins_with 125 x)) ≡ false
no_separates x h = search rules

pub or_left_true : (a b : Bool) → b ≡ false → (a || b) ≡ true → a ≡ true
or_left_true a b h e = search rules

-- a key comes before another node that may come after its gap
pub key_front : (k : ℕ) (p b g x y : List ℕ) → begins_node true x ≡ true → begins_node true y ≡ true → IsInlineGap g y → IsInlineKey k (keyed p b g) x → IsInlineKey k (keyed p b g) y
key_front k p b [] x y bx by gap h =
    let q : is_quoted p ≡ true = or_left_true (is_quoted p) _ (no_separates x bx) h.3 in
    (h.0, quoted_key p b x y q h.2 h.1, gap_alike None b (58 ∷ x) (58 ∷ y) any_colon h.2, rw q refl, inl (gap, by))
key_front k p b (c ∷ g) x y bx by gap h =
    let old = lead_gap (begins_node true) (c ∷ g) x bx bx h.4 in
    let unsafe : (z : List ℕ) → IsInlineGap (c ∷ g) z → is_safe true (c ∷ (g ++ z)) ≡ false = λ z e. rw e.inside.0 refl in
    let like : Alike (Some true) (58 ∷ (c ∷ (g ++ x))) (58 ∷ (c ∷ (g ++ y))) = colon (unsafe x old) (unsafe y gap) in
    (h.0, scalar_alike true None p (b ++ (58 ∷ (c ∷ (g ++ x)))) (b ++ (58 ∷ (c ∷ (g ++ y)))) (alike_append (Some true) b _ _ like) h.1, gap_alike (Some true) b _ _ like h.2, or_right (is_quoted p) _ (rw gap.inside.0 refl), inl (gap, by))

ends_key_here : (k : ℕ) (t : List ℕ) → eqb k 125 ≡ true → EndsItem k t → (separates t || (begins_with 44 t || begins_with 125 t)) ≡ true
ends_key_here k t m e = go e.gap e.spelled e.is_gap where
  here : (c : ℕ) → (eqb c 44 || eqb c k) ≡ true → (is_space (c ∷ e.rest) || (eqb c 44 || eqb c 125)) ≡ true
  here c h = or_right (is_space (c ∷ e.rest)) _ (subst (λ (j : ℕ). (eqb c 44 || eqb c j) ≡ true) (eqb-true k 125 m) h)

  go : (g : List ℕ) → t ≡ g ++ (e.close ∷ e.rest) → IsInlineGap g (e.close ∷ e.rest) → (separates t || (begins_with 44 t || begins_with 125 t)) ≡ true
  go [] is gap = subst (λ (l : List ℕ). (separates l || (begins_with 44 l || begins_with 125 l)) ≡ true) (sym is) (here e.close e.ends)
  go (b ∷ g) is gap = subst (λ (l : List ℕ). (separates l || (begins_with 44 l || begins_with 125 l)) ≡ true) (sym is) (rw gap.inside.0 refl)

-- nothing comes after an anchor or a `:`
pub ends_lead : (begins : List ℕ → Bool) (k : ℕ) (t : List ℕ) → is_close k ≡ true → EndsItem k t → ((r : List ℕ) → begins (44 ∷ r) ≡ false) →
    ((r : List ℕ) → begins (93 ∷ r) ≡ false) → ((r : List ℕ) → begins (125 ∷ r) ≡ false) → IsLead true begins [] t
ends_lead begins k t c e x y z = inr (refl, (e.gap, e.close ∷ e.rest, e.spelled, e.is_gap, by_close (λ b. begins (b ∷ e.rest) ≡ false) k e.close c e.ends (x e.rest) (y e.rest) (z e.rest)))

pub key_bare : (k : ℕ) (p b g t u : List ℕ) → is_close k ≡ true → EndsItem k t → EndsItem k u → IsInlineKey k (keyed p b g) t → IsInlineKey k (keyed p b g) u
key_bare k p b g t u c e d h = subst (λ (l : List ℕ). IsInlineKey k (keyed p b l) u) (sym nothing) fixed where
  nothing : g ≡ []
  nothing = lead_none (begins_node true) g t (ends_node k t c e) h.4

  old : IsInlineKey k (keyed p b []) t
  old = subst (λ (l : List ℕ). IsInlineKey k (keyed p b l) t) nothing h

  like : Alike (Some true) (58 ∷ t) (58 ∷ u)
  like = colon (ends_safe k t c e) (ends_safe k u c d)

  fixed : IsInlineKey k (keyed p b []) u
  fixed = search (rules, scalar_alike, alike_append, gap_alike, or_right, ends_key_here, ends_lead, like, old)

pub key_keeps : (k d : ℕ) (f : Bool) (key : Key) (n : FlowNode) (t u : List ℕ) → is_close k ≡ true → EndsItem k t → EndsItem k u →
    KeepsApart f (key_text key (node_text n [])) t u → IsFlowNode true (Some 0) d n t → IsFlowNode true (Some 0) d n u →
    IsInlineKey k key (node_text n t) → IsInlineKey k key (node_text n u)
key_keeps k d f bare n t u c e h keeps x y is = is
key_keeps k d f (keyed p b g) n t u c e h keeps x y is = elim (cases_Bool (is_empty_node n)) [
  | inl z ↦ (let old : IsInlineKey k (keyed p b g) t = subst (λ (l : List ℕ). IsInlineKey k (keyed p b g) l) (bare_text n t z) is in
      subst (λ (l : List ℕ). IsInlineKey k (keyed p b g) l) (sym (bare_text n u z)) (key_bare k p b g t u c e h old))
  | inr z ↦ (let bx = some_begins true (Some 0) d n t z x in
      let by = some_begins true (Some 0) d n u z y in
      let a = keeps_append p f (b ++ (58 ∷ (g ++ node_text n []))) t u keeps in
      let q = keeps_append b (fresh f p) (58 ∷ (g ++ node_text n [])) t u a in
      let r : KeepsApart (fresh false g) (node_text n []) t u = keeps_append g false (node_text n []) t u q.2 in
      key_front k p b g (node_text n t) (node_text n u) bx by (gap_node g d n t u z x r (lead_gap (begins_node true) g (node_text n t) bx bx is.4)) is)
]
