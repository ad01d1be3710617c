-- A row before one text is a row before another one.
use Rattle.std.proofs.Common.{◌≡◌, inl, inr, ℕ, ℤ, Bool, true, false, not, ◌||◌, List, [], ◌∷◌, ◌++◌, Option, Some, None, rules}
use Rattle.std.proofs.lemmas.Bool.{false≢true, cases_Bool}
use Rattle.yq_core.specs.Block.{BlockText, block_text, style_indicator, IsBlock, ends_block, keeps}
use Rattle.yq_core.{specs.declared.block_header.BlockStyle.BlockStyle, specs.Piece.deeper, specs.Text.{text_lines, separates}}
use Rattle.yq_core.{specs.Inline.depth_limit, specs.Nodes.{FlowNode, node_text, is_empty_node}, specs.Alike.Alike}
use Rattle.yq_core.proofs.Alikes.{alike_append}
use Rattle.yq_row_table.specs.Grammar.{IsAnchor, IsContent, IsMark, may_be_alone, is_entry, IsRow, Limit}
use Rattle.yq_row_table.specs.Rows.{RowMark, Anchor, Content, Nothing, Inline, Block, anchor_text, mark_text, content_text, Row}
use Rattle.yq_row_table.{specs.Rows.parent_indent, specs.Seams.{TakesPlace, with_tail, retail, TailFits}}
use Rattle.yq_row_table.{proofs.AlikeRows.dashes_text_alike, proofs.ExchangeLaws.one_row, proofs.RowPlaces.takes_place}
use Rattle.yq_row_table.proofs.NodeExchange.{mark_apart, space_apart, inline_starts}
use Rattle.yq_row_table.proofs.NothingLaws.{name_again, tail_lead, tail_apart}
use Rattle.yq_row_table.{proofs.seams.NodeSeams.{plain_text, MayFollowNode, node_seam, name_front}, proofs.seams.ScalarSeams.Joint}

-- the plain scalar of a content, if it is one
abbrev pub plain_of : Content → List ℕ
plain_of (Nothing tail) = []
plain_of (Inline space node tail) = plain_text node
plain_of (Block space anchor block) = []

-- what comes after the node of a content
abbrev pub text_after_node : Content → List ℕ → List ℕ
text_after_node (Nothing tail) rest = tail ++ rest
text_after_node (Inline space node tail) rest = tail ++ rest
text_after_node (Block space anchor block) rest = rest

-- no break comes to be after a content with another tail
abbrev pub Joined : Content → List ℕ → (new rest : List ℕ) → Type 0
Joined c t new u = Joint (plain_of c) (text_after_node c t) (text_after_node (with_tail new c) u)

-- inline nodes
abbrev NodeKept : ℤ → List ℕ → FlowNode → List ℕ → List ℕ → List ℕ → List ℕ → Type 0
NodeKept n space node tail t new u = IsContent n (Inline space node new) u × Alike (Some false) (node_text node (tail ++ t)) (node_text node (new ++ u))

something : (b : Bool) → (false || not b) ≡ true → b ≡ false
something b h = search (rules, false≢true)

pub inline_seam : (n : ℤ) (space : List ℕ) (node : FlowNode) (tail t new u : List ℕ) → IsContent n (Inline space node tail) t →
    TailFits n new (Inline space node tail) u → Joined (Inline space node tail) t new u → NodeKept n space node tail t new u
inline_seam n space node tail t new u h f j =
    let after : MayFollowNode (Some (deeper n)) node (tail ++ t) (new ++ u) = record { was = tail_apart tail t h.2; apart = tail_apart new u f.0; lead = tail_lead new u f.0; ends = f.1; joint = j } in
    let kept = node_seam (Some (deeper n)) node depth_limit (tail ++ t) (new ++ u) after h.1.valid in
    ((h.0, record { valid = kept.0; something = h.1.something }, f.0), kept.1 (something (is_empty_node node) h.1.something))

-- block scalars
anchor_seam : (anchor : Option Anchor) (t u : List ℕ) → IsAnchor anchor t → IsAnchor anchor u
anchor_seam None t u h = h
anchor_seam (Some a) t u h = search (rules, name_again, name_front)

block_seam : (least : ℕ) (b : BlockText) (t u : List ℕ) → ends_block (keeps b.chomping) b.indent (text_lines u) ≡ true → IsBlock least b t → IsBlock least b u
block_seam least b t u e h = record { indicators = h.indicators; tail = h.tail; indent = h.indent; lines = h.lines; ends = h.ends; after = e }

pub style_no_space : (s : BlockStyle) (t : List ℕ) → separates (style_indicator s ∷ t) ≡ false
style_no_space s t = search rules

pub block_no_space : (anchor : Option Anchor) (block : BlockText) (t : List ℕ) → separates (anchor_text anchor (block_text block t)) ≡ false
block_no_space anchor block t = search (rules, style_no_space)

-- contents
pub content_seam : (n : ℤ) (c : Content) (t new u : List ℕ) → IsContent n c t → TailFits n new c u → Joined c t new u → IsContent n (with_tail new c) u
content_seam n (Nothing tail) t new u h f j = f
content_seam n (Inline space node tail) t new u h f j = (inline_seam n space node tail t new u h f j).0
content_seam n (Block space anchor block) t new u h f j = (h.0, anchor_seam anchor (block_text block t) (block_text block u) h.1, block_seam (deeper n) block t u f h.2)

content_front : (n : ℤ) (c : Content) (t new u : List ℕ) → IsContent n c t → TailFits n new c u → separates (content_text c t) ≡ true → separates (content_text (with_tail new c) u) ≡ true
content_front n c t new u h1 h2 h3 = search (rules, tail_apart, space_apart, inline_starts, block_no_space)

-- rows
alone_tail : (c : Content) (new : List ℕ) → may_be_alone c ≡ true → may_be_alone (with_tail new c) ≡ true
alone_tail c new h1 = search rules

bare_mark : (m : RowMark) (c : Content) (t : List ℕ) (new : Content) (u : List ℕ) → is_entry m ≡ false → IsMark m c t → (may_be_alone c ≡ true → may_be_alone new ≡ true) → IsMark m new u
bare_mark m c t new u h1 h2 h3 = search (rules, false≢true)

bare_text : (m : RowMark) (t u : List ℕ) → is_entry m ≡ false → Alike (Some false) t u → Alike (Some false) (mark_text m t) (mark_text m u)
bare_text m t u h1 h2 = search (rules, false≢true)

-- the texts of what is alone on its line
alone_text : (n : ℤ) (c : Content) (t new u : List ℕ) → may_be_alone c ≡ true → IsContent n c t → TailFits n new c u → Joined c t new u → Alike (Some false) (content_text c t) (content_text (with_tail new c) u)
alone_text n (Inline space node tail) t new u a h f j = alike_append (Some false) space _ _ (inline_seam n space node tail t new u h f j).1
alone_text n _ t new u a h f j = absurd (false≢true a)

bare_row : (limit : Limit) (r : Row) (t new u : List ℕ) → is_entry r.mark ≡ false → IsRow limit r t → TailFits (parent_indent r) new r.content u → Joined r.content t new u → TakesPlace limit r t (retail new r) u
bare_row limit r t new u e h f j =
    let n = parent_indent r in
    let text = alone_text n r.content t new u (search (rules, false≢true)) h.content f j in
    takes_place limit r t r.dashes r.mark (with_tail new r.content) u h (dashes_text_alike r.dashes _ _ (bare_text r.mark _ _ e text)) h.dashes
    (bare_mark r.mark r.content t (with_tail new r.content) u e h.mark (alone_tail r.content new))
    (content_seam n r.content t new u h.content f j)

-- a row with another tail, before another text
pub row_tail : (limit : Limit) (r : Row) (t new u : List ℕ) → IsRow limit r t → TailFits (parent_indent r) new r.content u → Joined r.content t new u → TakesPlace limit r t (retail new r) u
row_tail limit r t new u h f j = elim (cases_Bool (is_entry r.mark)) [
  | inl e ↦ one_row limit r (with_tail new r.content) t u h e (content_seam (parent_indent r) r.content t new u h.content f j) (content_front (parent_indent r) r.content t new u h.content f (mark_apart r.mark r.content t e h.mark))
  | inr e ↦ bare_row limit r t new u e h f j
]
