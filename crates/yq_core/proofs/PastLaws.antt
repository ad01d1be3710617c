-- What follows a piece of a text begins with a whole character.
use Rattle.std.proofs.Common.{rules, ◌≡◌, ℕ, zero, suc, ◌+◌, ◌<◌, Bool, true, false, eqb, List, [], ◌∷◌, ◌++◌, length, get_or, Option, Some}
use Rattle.std.proofs.Common.{None, sym, ap, ◌∙◌, subst, inl, inr, ⊎_elim, append_assoc, arith, length-append, eqb-true}
use Rattle.std.{proofs.Math.Seq.{drop-append_seam, get_or-append_seam}, proofs.lemmas.Bool.{cond_both, or_cases}}
use Rattle.std.{proofs.lemmas.Str.{IsUtf8-drop, IsCharBoundary-after_ascii}, specs.Str.{IsUtf8, IsCharBoundary}}
use Rattle.yq_core.{specs.Plain.ends_plain, specs.Quoted.spell_lines, specs.Text.{unless, is_white, no_white}}
use Rattle.yq_core.{proofs.Boundaries.{boundary_unless, white_ascii}, proofs.PlainLaws.boundary_plain}
use Rattle.yq_core.{proofs.Upto.{upto-append, upto_unless}, specs.declared.gap.GapPlace.TheVariants.Token, specs.Gaps.IsInlineGap}
use Rattle.yq_core.specs.Nodes.{Key, bare, keyed, Sep, last, comma, FlowNode, empty, alias, scalar, coll, anchored, Items, none, item}
use Rattle.yq_core.specs.Nodes.{key_text, sep_text, node_text, flow_items_text, in_name, begins_content, begins_node, is_close}
use Rattle.yq_core.specs.Nodes.{opening_bracket, IsApart, IsLead, IsName, IsInlineKey, IsSep, IsFlowNode, AreFlowItems}
use Rattle.yq_core.{specs.Scalars.IsScalarAt, proofs.Bounds.{boundary_gap, boundary_name}, proofs.GapLaws.gap_append}

past : (p r : List ℕ) → IsUtf8 (p ++ r) → IsCharBoundary (p ++ r) (length p) → IsUtf8 r
past p r u b = rw drop-append_seam at (IsUtf8-drop (p ++ r) (length p) u b)

pub byte_past : (b : ℕ) (r : List ℕ) → b < 128 → IsUtf8 (b ∷ r) → IsUtf8 r
byte_past b r low u = IsUtf8-drop (b ∷ r) 1 u (IsCharBoundary-after_ascii (b ∷ r) 0 u (omega arith) low)

ends_ascii : (xs : List ℕ) (b : ℕ) (r : List ℕ) → b < 128 → IsUtf8 ((xs ++ b ∷ []) ++ r) → IsUtf8 r
ends_ascii xs b r low u =
    let t : List ℕ = (xs ++ b ∷ []) ++ r in
    let same : t ≡ xs ++ b ∷ r = append_assoc xs (b ∷ []) r in
    let at : get_or t (length xs) 0 ≡ b = ap (λ (l : List ℕ). get_or l (length xs) 0) same ∙ get_or-append_seam xs b r 0 in
    let lt : length xs < length t = omega (arith, ap length same, length-append xs (b ∷ r)) in
    let there : length xs + 1 ≡ length (xs ++ b ∷ []) = omega (arith, length-append xs (b ∷ [])) in
    past (xs ++ b ∷ []) r u (subst (λ (n : ℕ). IsCharBoundary t n) there (IsCharBoundary-after_ascii t (length xs) u lt (omega (arith, at, low))))

pub gap_past : (g r : List ℕ) → IsInlineGap g r → IsUtf8 (g ++ r) → IsUtf8 r
gap_past g r h u = past g r u (boundary_gap (g ++ r) (length g) (sym (gap_append Token g r h.inside h.ends).0) u)

pub name_past : (n r : List ℕ) → IsName n r → IsUtf8 (n ++ r) → IsUtf8 r
name_past n r h u = past n r u (boundary_name (n ++ r) (length n) (sym (upto-append (unless in_name) n r h.inside h.ends) ∙ upto_unless in_name (n ++ r)))

pub scalar_past : (flow : Bool) (spaces : Option ℕ) (p r : List ℕ) → IsScalarAt flow spaces p r → IsUtf8 (p ++ r) → IsUtf8 r
scalar_past flow spaces p r (inl h) u =
    past p r u (boundary_plain flow spaces (p ++ r) (length p) (sym (upto-append (ends_plain flow spaces) p r h.inside h.ends)))
scalar_past flow spaces p r (inr h) u =
    let q = h.0.1.1 in
    ends_ascii (h.0.0 ∷ spell_lines h.0.1.0) h.0.0 r (search rules) (subst (λ (l : List ℕ). IsUtf8 (l ++ r)) q.spelled u)

apart_past : (flow : Bool) (g r : List ℕ) → IsApart flow g r → IsUtf8 (g ++ r) → IsUtf8 r
apart_past true g r h u = gap_past g r h u
apart_past false g r h u =
    let white : IsCharBoundary (g ++ r) (length g) = subst (λ (n : ℕ). IsCharBoundary (g ++ r) n) (upto-append no_white g r h.0 h.1) (boundary_unless is_white (g ++ r) u white_ascii) in
    past g r u white

pub lead_past : (flow : Bool) (begins : List ℕ → Bool) (g r : List ℕ) → IsLead flow begins g r → IsUtf8 (g ++ r) → IsUtf8 r
lead_past flow begins g r h u = search (rules, apart_past)

pub key_past : (k : ℕ) (key : Key) (r : List ℕ) → IsInlineKey k key r → IsUtf8 (key_text key r) → IsUtf8 r
key_past k bare r h u = u
key_past k (keyed t b g) r h u =
    let after = scalar_past true None t (b ++ (58 ∷ (g ++ r))) h.1 u in
    let colon = gap_past b (58 ∷ (g ++ r)) h.2 after in
    lead_past true (begins_node true) g r h.4 (byte_past 58 (g ++ r) (omega arith) colon)

pub sep_past : (k : ℕ) (s : Sep) (r : List ℕ) → IsSep k s r → IsUtf8 (sep_text s r) → IsUtf8 r
sep_past k (last b) r h u = gap_past b r h.0 u
sep_past k (comma b g) r h u = gap_past g r h.1 (byte_past 44 (g ++ r) (omega arith) (gap_past b (44 ∷ (g ++ r)) h.0 u))

pub close_low : (k : ℕ) → is_close k ≡ true → k < 128
close_low k h = ⊎_elim (λ e. omega (arith, eqb-true k 93 e)) (λ e. omega (arith, eqb-true k 125 e)) (or_cases (eqb k 93) (eqb k 125) h)

pub open_low : (k : ℕ) → opening_bracket k < 128
open_low k = cond_both (eqb k 125) 123 91 (λ b. b < 128) (λ _. omega arith) (λ _. omega arith)

mutual
  unfolding node_text IsFlowNode flow_items_text AreFlowItems

  pub node_past : (flow : Bool) (spaces : Option ℕ) (node : FlowNode) (d : ℕ) (rest : List ℕ) → IsFlowNode flow spaces d node rest → IsUtf8 (node_text node rest) → IsUtf8 rest
  node_past flow spaces empty d rest h u = u
  node_past flow spaces (alias n) d rest h u = name_past n rest h (byte_past 42 (n ++ rest) (omega arith) u)
  node_past flow spaces (scalar p) d rest h u = scalar_past flow spaces p rest h u
  node_past flow spaces (coll k g is) zero rest h u = absurd h.2
  node_past flow spaces (coll k g is) (suc d) rest h u =
      items_past k is d rest h.0 h.2 (gap_past g (flow_items_text k is rest) h.1 (byte_past (opening_bracket k) (g ++ flow_items_text k is rest) (open_low k) u))
  node_past flow spaces (anchored n g node) d rest h u =
      let after = name_past n (g ++ node_text node rest) h.0 (byte_past 38 (n ++ (g ++ node_text node rest)) (omega arith) u) in
      node_past flow spaces node d rest h.4 (lead_past flow (begins_content flow) g (node_text node rest) h.1 after)

  pub items_past : (k : ℕ) (is : Items) (d : ℕ) (rest : List ℕ) → is_close k ≡ true → AreFlowItems d k is rest → IsUtf8 (flow_items_text k is rest) → IsUtf8 rest
  items_past k none d rest c h u = byte_past k rest (close_low k c) u
  items_past k (item key n s is) d rest c h u =
      let inner = key_past k key (node_text n (sep_text s (flow_items_text k is rest))) h.0 u in
      let after = node_past true (Some 0) n d (sep_text s (flow_items_text k is rest)) h.2 inner in
      items_past k is d rest c h.4 (sep_past k s (flow_items_text k is rest) h.3 after)
