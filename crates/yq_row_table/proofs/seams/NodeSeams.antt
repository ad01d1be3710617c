-- An inline node before a text is one before another text, where white space, a break or the end is in front of both.
use Rattle.std.proofs.Common.{◌≡◌, inl, inr, ℕ, zero, suc, true, false, not, eqb, List, [], ◌∷◌, ◌++◌, Option, refl, sym, ap, subst, ⊎_elim}
use Rattle.std.{proofs.Common.{eqb-true, Some, rules}, proofs.lemmas.Bool.{false≢true, not-true, or_cases, cases_Bool, or_parts}}
use Rattle.yq_core.{specs.Plain.ends_plain, specs.Text.{is_empty, is_white, is_space, separates, unless, NoneIn, no_white}}
use Rattle.yq_core.specs.Nodes.{Key, bare, keyed, Sep, last, comma, FlowNode, empty, alias, scalar, coll, anchored, Items, none, item}
use Rattle.yq_core.specs.Nodes.{key_text, sep_text, node_text, flow_items_text, begins_with, is_close, in_name, begins_content, IsLead}
use Rattle.yq_core.{specs.Nodes.{IsName, is_empty_node, IsFlowNode}, specs.Scalars.IsScalarAt, specs.Alike.{Alike, byte, after}}
use Rattle.yq_core.{proofs.Alikes.alike_append, proofs.KeepLaws.taken_begins}
use Rattle.yq_core.{proofs.NodeKeeps.{node_text_alike, items_text_alike, items_any}, proofs.AlikePieces.gap_alike}
use Rattle.yq_row_table.{specs.Grammar.is_plain_content, proofs.Fronts.node_starts, proofs.NothingLaws.name_again}
use Rattle.yq_row_table.proofs.seams.ScalarSeams.{apart_no_node, name_seam, name_alike, quoted_seam, Joint, plain_seam, plain_unquoted}

-- the plain scalar of a node, if it is one, perhaps after an anchor
abbrev pub plain_text : FlowNode → List ℕ
plain_text empty = []
plain_text (alias name) = []
plain_text (scalar p) = p
plain_text (coll close gap items) = []
plain_text (anchored name gap node) = plain_text node

-- What comes after a node, and what may be there: white space, a break or the end is in front of both, no node is in the line after it, a plain
-- scalar ends there, and no break comes to be at its end.
pub record MayFollowNode (spaces : Option ℕ) (node : FlowNode) (t u : List ℕ) : Type 0 where
  pub was : separates t ≡ true
  pub apart : separates u ≡ true
  pub lead : IsLead false (begins_content false) [] u
  pub ends : is_plain_content node ≡ true → ends_plain false spaces u ≡ true
  pub joint : Joint (plain_text node) t u

-- A node before the other text, and their texts.
abbrev pub Kept : Option ℕ → ℕ → FlowNode → List ℕ → List ℕ → Type 0
Kept spaces d node t u = IsFlowNode false spaces d node u × (is_empty_node node ≡ false → Alike (Some false) (node_text node t) (node_text node u))

-- scalars
scalar_seam : (spaces : Option ℕ) (p t u : List ℕ) → MayFollowNode spaces (scalar p) t u → IsScalarAt false spaces p t → IsScalarAt false spaces p u × Alike (Some false) (p ++ t) (p ++ u)
scalar_seam spaces p t u h (inl g) =
    let ends : ends_plain false spaces u ≡ true = h.ends (ap not (plain_unquoted spaces p t g)) in
    let kept = plain_seam spaces p t u h.was h.apart h.joint ends g in
    (inl kept.0, kept.1)
scalar_seam spaces p t u h (inr g) =
    let kept = quoted_seam g.0.0 g.0.1.0 p t u h.was h.apart g.0.1.1 in
    (inr ((g.0.0, (g.0.1.0, kept.0)), g.1), kept.1)

-- collections end with their bracket
close_no_space : (k : ℕ) (t : List ℕ) → is_close k ≡ true → is_space (k ∷ t) ≡ false
close_no_space k t c = ⊎_elim {0, 0, 0} (λ e. rw (eqb-true k 93 e) refl) (λ e. rw (eqb-true k 125 e) refl) (or_cases (eqb k 93) (eqb k 125) c)

key_seam : (key : Key) (t u : List ℕ) → Alike (Some false) t u → Alike (Some false) (key_text key t) (key_text key u)
key_seam bare t u h = h
key_seam (keyed p b s) t u h = alike_append (Some false) p _ _ (alike_append (Some false) b _ _ (after (alike_append (Some false) s t u h)))

sep_seam : (s : Sep) (t u : List ℕ) → Alike (Some false) t u → Alike (Some false) (sep_text s t) (sep_text s u)
sep_seam (last b) t u h = alike_append (Some false) b t u h
sep_seam (comma b s) t u h = alike_append (Some false) b _ _ (after (alike_append (Some false) s t u h))

items_seam : (k : ℕ) (is : Items) (t u : List ℕ) → is_close k ≡ true → separates t ≡ true → separates u ≡ true → Alike (Some false) (flow_items_text k is t) (flow_items_text k is u)
unfolding flow_items_text
items_seam k none t u c x y = byte (close_no_space k t c) (close_no_space k u c) x y
items_seam k (item key n s is) t u c x y = search (rules, key_seam, node_text_alike, sep_seam, items_seam k is t u c x y)

-- anchors
bare_is : (node : FlowNode) → is_empty_node node ≡ true → node ≡ empty
bare_is node h1 = search (rules, false≢true)

no_content : (t : List ℕ) → separates t ≡ true → begins_content false t ≡ false
no_content t h = (or_parts (begins_with 38 t) (begins_content false t) (apart_no_node t h)).1

bare_gap : (gap t : List ℕ) → separates t ≡ true → IsLead false (begins_content false) gap t → gap ≡ []
bare_gap gap t x h = search (rules, false≢true, no_content)

white_again : (gap t u : List ℕ) → NoneIn no_white gap t → NoneIn no_white gap u
white_again gap t u h = name_again is_white gap t u h

pub name_front : (gap t u : List ℕ) → is_empty gap ≡ false → unless in_name (gap ++ t) ≡ true → unless in_name (gap ++ u) ≡ true
name_front gap t u some h = search (rules, false≢true)

bare_seam : (spaces : Option ℕ) (d : ℕ) (name gap t u : List ℕ) → MayFollowNode spaces (anchored name gap empty) t u → IsFlowNode false spaces d (anchored name gap empty) t → Kept spaces d (anchored name gap empty) t u
unfolding node_text IsFlowNode
bare_seam spaces d name gap t u h g =
    let nothing : gap ≡ [] = bare_gap gap t h.was g.1 in
    let was : IsName name t = subst (λ (s : List ℕ). IsName name (s ++ t)) nothing g.0 in
    let none = or_parts (begins_with 38 u) (begins_content false u) (apart_no_node u h.apart) in
    let text : Alike (Some false) (name ++ t) (name ++ u) = name_alike name t u was.some h.was h.apart was.inside in
    rw nothing ((name_seam name t u h.apart was, h.lead, g.2, g.3, (none.1, none.0)), λ e. after text)

node_bare : (node : FlowNode) (spaces : Option ℕ) (d : ℕ) (name gap t u : List ℕ) → is_empty_node node ≡ true →
    MayFollowNode spaces (anchored name gap node) t u → IsFlowNode false spaces d (anchored name gap node) t → Kept spaces d (anchored name gap node) t u
node_bare node spaces d name gap t u e h g =
    let is = bare_is node e in
    subst (λ (n : FlowNode). Kept spaces d (anchored name gap n) t u) (sym is)
    (bare_seam spaces d name gap t u (subst (λ (n : FlowNode). MayFollowNode spaces (anchored name gap n) t u) is h) (subst (λ (n : FlowNode). IsFlowNode false spaces d (anchored name gap n) t) is g))

pub node_seam : (spaces : Option ℕ) (node : FlowNode) (d : ℕ) (t u : List ℕ) → MayFollowNode spaces node t u → IsFlowNode false spaces d node t → Kept spaces d node t u
unfolding node_text IsFlowNode
node_seam spaces empty d t u h g = let none = or_parts (begins_with 38 u) (begins_content false u) (apart_no_node u h.apart) in ((none.1, none.0), λ e. absurd (false≢true (sym e)))
node_seam spaces (alias n) d t u h g = (name_seam n t u h.apart g, λ e. after (name_alike n t u g.some h.was h.apart g.inside))
node_seam spaces (scalar p) d t u h g = let kept = scalar_seam spaces p t u h g in (kept.0, λ e. kept.1)
node_seam spaces (coll k s is) zero t u h g = absurd g.2
node_seam spaces (coll k s is) (suc d) t u h g = (
  (g.0, gap_alike (Some true) s (flow_items_text k is t) (flow_items_text k is u) (items_text_alike k is t u g.0) g.1, items_any is d k t u g.0 g.2),
  λ e. after (alike_append (Some false) s _ _ (items_seam k is t u g.0 h.was h.apart)),
)
node_seam spaces (anchored n s node) d t u h g = elim (cases_Bool (is_empty_node node)) [
  | inl e ↦ node_bare node spaces d n s t u e h g
  | inr e ↦ (
      let again = node_seam spaces node d t u (record { was = h.was; apart = h.apart; lead = h.lead; ends = h.ends; joint = h.joint }) g.4 in
      let some : is_empty s ≡ false = search (rules, not-true) in
      let begins : begins_content false (node_text node u) ≡ true = taken_begins false spaces d node u e g.3 again.0 in (
        (
          record { some = g.0.some; inside = name_again in_name n (s ++ node_text node t) (s ++ node_text node u) g.0.inside; ends = name_front s (node_text node t) (node_text node u) some g.0.ends },
          search (rules, node_starts, white_again, false≢true),
          g.2,
          g.3,
          again.0,
        ),
        λ e'. after (alike_append (Some false) n _ _ (alike_append (Some false) s _ _ (again.1 e))),
      ))
]
