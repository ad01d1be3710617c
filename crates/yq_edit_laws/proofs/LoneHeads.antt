-- What is written in a row that is alone on its line.
use Rattle.std.proofs.Common.{◌≡◌, ◌⊎◌, ℕ, ℤ, ◌<◌, ◌||◌, true, false, not, List, [], ◌∷◌, ◌++◌, refl, sym, ap, ◌∙◌, subst, arith}
use Rattle.std.{proofs.Common.{append_assoc, append-nil, rules}, proofs.lemmas.Bool.{false≢true, not-true}}
use Rattle.yq_core.{specs.Text.{is_empty, is_return, is_white}, specs.Nodes.{node_text, IsFlowNode}, proofs.NodesPieceLaws.scalar_some}
use Rattle.yq_row_table.{specs.Gap.IsWhite, specs.Grammar.{IsContent, may_be_alone}, specs.Rows.{Content, Inline, content_text}}
use Rattle.yq_row_table.{specs.Seams.is_block, specs.View.content_cut, proofs.CharacterLaws.EndsBlack, proofs.NodePieces.EndsAscii}
use Rattle.yq_edit_rules.{proofs.CoreLaws.put_core, proofs.HeldCuts.space_white}
use Rattle.yq_core.specs.Nodes as inline

-- ---- white space

white_low : (b : ℕ) → is_white b ≡ true → (b < 128) × (is_return b ≡ false)
white_low b h = search (rules, arith, false≢true)

-- a text that ends in an ASCII byte that is no CR
abbrev pub EndsLow : List ℕ → Type 0
EndsLow t = EndsAscii t × EndsBlack t

white_ends : (a g : List ℕ) → IsWhite g → is_empty g ≡ false → EndsLow (a ++ g)
white_ends a [] h some = absurd (false≢true (sym some))
white_ends a (b ∷ []) h some = let low = white_low b h.0 in (record { front = a; last = b; is = refl; ascii = low.0 }, record { front = a; last = b; is = refl; no_return = low.1 })
white_ends a (b ∷ (d ∷ g)) h some = subst EndsLow (append_assoc a (b ∷ []) (d ∷ g)) (white_ends (a ++ b ∷ []) (d ∷ g) h.1 refl)

-- ---- the content

-- what comes before the head of a content
abbrev pub before_head : Content → List ℕ
before_head x = (content_cut x).0 ++ ((content_cut x).1 ++ (content_cut x).2)

-- What is written in a content that is alone on its line: a head, perhaps after an anchor, in the place of which another node may be put.
pub record IsLoneHead (x : Content) : Type 0 where
  pub block : is_block x ≡ false
  pub some : is_empty (content_cut x).3 ≡ false
  pub front : (before_head x ≡ []) ⊎ EndsLow (before_head x)
  pub text : (b : List ℕ) (core : inline.FlowNode) (z : List ℕ) → b ++ content_text (put_core core x) z ≡ (b ++ before_head x) ++ node_text core ((content_cut x).4 ++ z)

anchor_front : (n : ℤ) (m g : List ℕ) (node : inline.FlowNode) (tail rest : List ℕ) → IsContent n (Inline [] (inline.anchored m g node) tail) rest → inline.is_empty_node node ≡ false → EndsLow (38 ∷ (m ++ g))
unfolding IsFlowNode
anchor_front n m g node tail rest h full =
    white_ends (38 ∷ m) g (space_white n (Inline [] (inline.anchored m g node) tail) rest h) (not-true (is_empty g) (ap (λ b. b || not (is_empty g)) (sym full) ∙ h.1.valid.2))

pub lone_head : (n : ℤ) (x : Content) (rest : List ℕ) → IsContent n x rest → may_be_alone x ≡ true → IsLoneHead x
unfolding IsFlowNode node_text
lone_head n x rest h1 h2 = search (rules, false≢true, append-nil, scalar_some, anchor_front, append_assoc)
