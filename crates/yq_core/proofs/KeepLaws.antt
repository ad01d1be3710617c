-- Bytes that keep apart from the text after them: gaps, and nodes that are something.
use Rattle.std.proofs.lemmas.Grind.{common_steps}
use Rattle.std.proofs.Common.{◌≡◌, inl, inr, ℕ, Bool, true, false, List, [], ◌∷◌, ◌++◌, Some, refl, sym, ◌∙◌, arith, Option, rules}
use Rattle.std.{proofs.Math.Bool.and-false, proofs.lemmas.Bool.{false≢true, or_right, not-true, cond_both, cases_Bool, or_parts}}
use Rattle.yq_core.{specs.Text.{front, is_feed, is_marker}, specs.declared.gap.GapPlace.GapPlace}
use Rattle.yq_core.{specs.declared.gap.GapPlace.TheVariants.Token, specs.Alike.{Alike, after, fresh, KeepsApart}}
use Rattle.yq_core.specs.Gaps.{goes, next_gap_place, gap_place_after, at_line_start as at_break, AllGo, IsInlineGap}
use Rattle.yq_core.specs.Nodes.{FlowNode, empty, alias, scalar, coll, anchored, node_text, flow_items_text, opening_bracket, begins_content}
use Rattle.yq_core.{specs.Nodes.{begins_node, is_empty_node, takes_anchor, IsFlowNode}, specs.Scalars.IsScalarAt}
use Rattle.yq_core.{proofs.Alikes.{alike_append, alike_space, alike_marker}, proofs.NodesPieceLaws.{scalar_begins, scalar_some}}
use Rattle.yq_core.proofs.NodesWrittenLaws.{node_then}

pub keeps_append : (x : List ℕ) (f : Bool) (p t u : List ℕ) → KeepsApart f (x ++ p) t u → KeepsApart (fresh f x) p t u
keeps_append [] f p t u h = h
keeps_append (b ∷ x) f p t u h = keeps_append x (is_feed b) p t u h.2

pub keeps_alike : (g : Option Bool) (f : Bool) (p t u : List ℕ) → Alike g t u → KeepsApart f p t u
keeps_alike g f [] t u h = tt
keeps_alike g f (b ∷ p) t u h =
    let whole : Alike g (b ∷ (p ++ t)) (b ∷ (p ++ u)) = after (alike_append g p t u h) in
    (λ e. sym (alike_space g (b ∷ (p ++ t)) (b ∷ (p ++ u)) whole) ∙ e, λ _ e. sym (alike_marker g (b ∷ (p ++ t)) (b ∷ (p ++ u)) whole) ∙ e, keeps_alike g (is_feed b) p t u h)

pub after_fresh : (s : GapPlace) (g : List ℕ) → at_break (gap_place_after s g) ≡ fresh (at_break s) g
after_fresh s [] = refl
after_fresh s (b ∷ g) = search (rules, after_fresh (next_gap_place s b) g)

front_append : (g x y : List ℕ) → front is_feed x ≡ front is_feed y → front is_feed (g ++ x) ≡ front is_feed (g ++ y)
front_append [] x y h = h
front_append (b ∷ g) x y h = refl

goes_front : (s : GapPlace) (b : ℕ) (x y : List ℕ) → front is_feed x ≡ front is_feed y → goes s b x ≡ goes s b y
goes_front s b x y h1 = search rules

pub go_front : (s : GapPlace) (g x y : List ℕ) → front is_feed x ≡ front is_feed y → AllGo s g x → AllGo s g y
go_front s [] x y h a = tt
go_front s (b ∷ g) x y h a = (sym (goes_front s b (g ++ x) (g ++ y) (front_append g x y h)) ∙ a.0, go_front (next_gap_place s b) g x y h a.1)

pub gap_keeps : (g : List ℕ) (b : ℕ) (p t u : List ℕ) → KeepsApart (fresh false g) (b ∷ p) t u → IsInlineGap g (b ∷ (p ++ t)) → IsInlineGap g (b ∷ (p ++ u))
gap_keeps g b p t u keeps h = record {
  inside = go_front Token g (b ∷ (p ++ t)) (b ∷ (p ++ u)) refl h.inside;
  ends = search (rules, not-true, or_parts, false≢true);
  unmarked = elim (cases_Bool (at_break (gap_place_after Token g))) [
    | inl e ↦ (let m : is_marker (b ∷ (p ++ t)) ≡ false = rw e at h.unmarked in rw (keeps.1 (sym (after_fresh Token g) ∙ e) m) (and-false (at_break (gap_place_after Token g))))
    | inr e ↦ rw e refl
  ];
}

-- a node that is something
content_begins : (flow : Bool) (spaces : Option ℕ) (p rest : List ℕ) → IsScalarAt flow spaces p rest → begins_content flow (p ++ rest) ≡ true
content_begins flow spaces p rest h = search (rules, or_right, scalar_begins)

pub some_begins : (flow : Bool) (spaces : Option ℕ) (d : ℕ) (node : FlowNode) (rest : List ℕ) → is_empty_node node ≡ false → IsFlowNode flow spaces d node rest → begins_node flow (node_text node rest) ≡ true
unfolding node_text IsFlowNode
some_begins flow spaces d node rest h1 h2 = search (rules, false≢true, or_right, content_begins, cond_both)

pub bare_text : (node : FlowNode) (rest : List ℕ) → is_empty_node node ≡ true → node_text node rest ≡ rest
unfolding node_text
bare_text node rest h1 = search (rules, false≢true)

pub taken_begins : (flow : Bool) (spaces : Option ℕ) (d : ℕ) (node : FlowNode) (rest : List ℕ) → is_empty_node node ≡ false → takes_anchor node ≡ true → IsFlowNode flow spaces d node rest → begins_content flow (node_text node rest) ≡ true
unfolding node_text IsFlowNode
taken_begins flow spaces d node rest h1 h2 h3 = search (rules, false≢true, content_begins, cond_both)

-- a text that isn't empty
abbrev pub NotEmpty : List ℕ → Type 0
NotEmpty t = (b : ℕ) × ((p : List ℕ) × (t ≡ b ∷ p))

pub some_text : (d : ℕ) (node : FlowNode) (rest : List ℕ) → is_empty_node node ≡ false → IsFlowNode true (Some 0) d node rest → NotEmpty (node_text node [])
unfolding node_text IsFlowNode
some_text d empty rest e h = absurd (false≢true (sym e))
some_text d (alias n) rest e h = (42, (n ++ [], refl))
some_text d (scalar []) rest e h = absurd (omega (arith, scalar_some true (Some 0) [] rest h))
some_text d (scalar (b ∷ p)) rest e h = (b, (p ++ [], refl))
some_text d (coll k g is) rest e h = (opening_bracket k, (g ++ flow_items_text k is [], refl))
some_text d (anchored n g node) rest e h = (38, (n ++ (g ++ node_text node []), refl))

-- a gap before a text that isn't empty
pub gap_some : (g x t u : List ℕ) → NotEmpty x → KeepsApart (fresh false g) x t u → IsInlineGap g (x ++ t) → IsInlineGap g (x ++ u)
gap_some g x t u s keeps h = grind (arith, common_steps, gap_keeps)

pub gap_node : (g : List ℕ) (d : ℕ) (n : FlowNode) (t u : List ℕ) → is_empty_node n ≡ false → IsFlowNode true (Some 0) d n t → KeepsApart (fresh false g) (node_text n []) t u → IsInlineGap g (node_text n t) → IsInlineGap g (node_text n u)
gap_node g d n t u some h keeps gap = search (rules, node_then, gap_some, some_text)
