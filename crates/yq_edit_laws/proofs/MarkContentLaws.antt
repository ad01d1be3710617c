-- What is left after a key or dash where nothing but the anchor stays.
use Rattle.std.proofs.Common.{◌≡◌, ℕ, ℤ, true, false, cond, List, [], ◌∷◌, ◌++◌, Option, Some, None, refl, sym, ap, ◌∙◌, append_assoc}
use Rattle.std.{proofs.Common.{append-nil, rules}, proofs.lemmas.Bool.{false≢true, or_parts}}
use Rattle.yq_core.{specs.Text.{is_empty, separates}, specs.Nodes.{begins_content, begins_with, node_text, IsName, IsFlowNode}}
use Rattle.yq_outline.{specs.LineAnchors.IsFree, specs.Outline.Line, specs.Lines.{content_anchor, lines_from, lines_of_rows, tail_of}}
use Rattle.yq_row_table.{specs.Alone.holds_nothing, specs.Gap.IsWhite, specs.Grammar.{IsContent, IsTail, is_entry}}
use Rattle.yq_row_table.{specs.Rows.{Content, Nothing, Inline, Row, content_text}, specs.View.content_cut, proofs.NodeExchange.space_apart}
use Rattle.yq_row_table.{proofs.NothingLaws.{tail_apart, tail_lead, tail_no_node}, proofs.seams.ScalarSeams.name_seam}
use Rattle.yq_edit_rules.{proofs.CoreLaws.put_core, proofs.LaidRows.AreLaid}
use Rattle.yq_core.specs.Nodes as inline
use Rattle.yq_row_table.specs.Rows as rows

-- ---- an anchor

-- without an anchor there is no name
pub unnamed : (x : Content) → is_empty (content_cut x).1 ≡ true → content_anchor x ≡ None
unnamed x e = search (rules, false≢true)

-- a text begins with white space and this anchor
abbrev Named : List ℕ → Option (List ℕ) → List ℕ → Type 0
Named space None text = Unit {0}
Named space (Some m) text = IsWhite space × (more : List ℕ) × (text ≡ space ++ (38 ∷ (m ++ more))) × IsName m more

-- a content does with its own
pub content_named : (n : ℤ) (x : Content) (old : List ℕ) → IsContent n x old → Named (content_cut x).0 (content_anchor x) (content_text x old)
unfolding IsFlowNode node_text
content_named n x old h1 = search rules

-- ---- the content

-- an anchor after white space, or nothing, before a tail
abbrev pub left : List ℕ → Option (List ℕ) → List ℕ → Content
left space None tail = Nothing tail
left space (Some m) tail = Inline space (inline.anchored m [] inline.empty) tail

-- a content of which nothing but the anchor is left
abbrev pub anchor_left : Content → List ℕ → Content
anchor_left x tail = left (content_cut x).0 (content_anchor x) tail

pub left_anchor : (space : List ℕ) (a : Option (List ℕ)) (tail : List ℕ) → content_anchor (left space a tail) ≡ a
left_anchor space a tail = search rules

pub left_nothing : (space : List ℕ) (a : Option (List ℕ)) (tail : List ℕ) → holds_nothing (left space a tail) ≡ true
left_nothing space a tail = search rules

pub left_tail : (space : List ℕ) (a : Option (List ℕ)) (tail : List ℕ) → tail_of (left space a tail) ≡ tail
left_tail space a tail = search rules

-- it comes before a tail
pub left_content : (n : ℤ) (space : List ℕ) (a : Option (List ℕ)) (text tail rest : List ℕ) → Named space a text → IsTail tail rest → IsContent n (left space a tail) rest
unfolding IsFlowNode node_text
left_content n space None text tail rest h t = t
left_content n space (Some m) text tail rest h t =
    let none = or_parts (begins_with 38 (tail ++ rest)) (begins_content false (tail ++ rest)) (tail_no_node tail rest t) in
    (h.0, record { valid = (name_seam m h.1 (tail ++ rest) (tail_apart tail rest t) h.3, tail_lead tail rest t, refl, refl, (none.1, none.0)); something = refl }, t)

-- white space, a break or the end comes before it, where it does before the old one
pub left_apart : (space : List ℕ) (a : Option (List ℕ)) (text tail rest : List ℕ) → Named space a text → separates text ≡ true → IsTail tail rest → separates (content_text (left space a tail) rest) ≡ true
unfolding node_text
left_apart space None text tail rest h old t = tail_apart tail rest t
left_apart space (Some m) text tail rest h old t = space_apart space (38 ∷ (m ++ h.1)) (38 ∷ (m ++ (tail ++ rest))) h.0 (ap separates (sym h.2) ∙ old) refl

-- its text, and that with a node after it
pub left_text : (before : List ℕ) (x : Content) (tail rest : List ℕ) →
    before ++ content_text (anchor_left x tail) rest ≡ (before ++ cond (is_empty (content_cut x).1) [] ((content_cut x).0 ++ (content_cut x).1)) ++ (tail ++ rest)
unfolding node_text
left_text before x tail rest = search (rules, append-nil, append_assoc)

pub left_core_text : (before : List ℕ) (core : inline.FlowNode) (x : Content) (tail rest : List ℕ) →
    before ++ content_text (put_core core (anchor_left x tail)) rest ≡ (before ++ cond (is_empty (content_cut x).1) [] ((content_cut x).0 ++ (content_cut x).1)) ++ (32 ∷ node_text core (tail ++ rest))
unfolding node_text
left_core_text before core x tail rest = search (rules, put_core, append-nil, append_assoc)

-- ---- rows under it

-- an anchor may come before rows that begin with an entry or item
entry_free : (a : List ℕ) (above : List (List ℕ)) (column : ℕ) (ns : List ℕ) (m : rows.RowMark) (x : Content) (ls : List Line) → is_entry m ≡ true → IsFree (Some a) (lines_from above column ns m x ++ ls)
entry_free a above column [] rows.Bare x ls e = absurd (false≢true e)
entry_free a above column _ _ x ls e = tt

pub laid_free : (a : Option (List ℕ)) (column : ℕ) (rs : List Row) (rest : List ℕ) → AreLaid column rs rest → IsFree a (lines_of_rows rs)
laid_free a column rs rest h1 = search (rules, entry_free)
