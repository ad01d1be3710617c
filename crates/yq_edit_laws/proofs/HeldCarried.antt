-- What is known of what the key or dash of rows holds, and what is put in its place: it carries out a replacement, where rows for the value spell it.
use Rattle.std.proofs.Common.{◌≡◌, ℕ, Bool, true, false, List, [], ◌∷◌, ◌++◌, length, None, refl, sym, ap, ◌∙◌, append_assoc, ◌≤◌, Some}
use Rattle.std.{proofs.Common.{subst, append-nil, rules}, proofs.lemmas.Option.same_Some}
use Rattle.yq_core.{specs.BlockWritten.break_text, specs.Paths.Step, specs.Text.is_empty, specs.declared.block_types.Break.Break}
use Rattle.yq_core.{specs.Tree.{anchor_of, Node}, specs.Nodes.{FlowNode, node_text}}
use Rattle.yq_outline.{specs.Comments.line_comment, specs.Places.content_under, specs.Lines.content_anchor}
use Rattle.yq_outline.proofs.Finding.{FoundNode, path_node}
use Rattle.yq_row_table.{specs.Gap.IsBreak, specs.Grammar.{IsTail, IsRow}}
use Rattle.yq_row_table.specs.Rows.{Row, Cut, cut_text, content_text, parent_indent, rows_text, print_row}
use Rattle.yq_row_table.{specs.View.{slices, content_cut}, specs.Exchange.{row_front, with_content}, proofs.NodeExchange.mark_apart}
use Rattle.yq_row_table.{proofs.PlaceLaws.row_front-append, specs.Items.rows_items}
use Rattle.yq_places.specs.Placements.{RowsOfEntry, held, is_alone, before_entry, Held, after_entry}
use Rattle.yq_edit_rules.{specs.TextPieces.IsPiece, specs.PlacementLaws.{HoldsPieces, HasItsRows, held_text}}
use Rattle.yq_edit_rules.{specs.DocumentRows.after_document, proofs.CoreLaws.put_core, proofs.PlacementMarks.entry_there}
use Rattle.yq_edit_rules.{specs.Appends.inserted, specs.Changed.put_document, specs.SoundRoots.MayReplace, specs.Done.ArePieces}
use Rattle.yq_edit_rules.{specs.EditLaws.CarriedOut, specs.Local.InFirst, specs.ReplaceEdits.{spaced_text, held_put}}
use Rattle.yq_edit_rules.{specs.WrittenValues.{Written, inline, compact_text, lines}, proofs.TextPieceLaws.{nothing, pieces_joined}}
use Rattle.yq_edit_rules.{proofs.CommentPieceLaws.{byte_then, break_piece}, proofs.EditsFitLaws.FitsReplace}
use Rattle.yq_edit_rules.{proofs.OneLines.{break_line, is_one_line}, proofs.SegmentLaws.segments_readable}
use Rattle.yq_documents.{proofs.RowLineLaws.tail_is, specs.Reading.{part_outline, read_at, root_of}}
use Rattle.yq_text.{specs.Limit.text_limit, specs.Script.{Segment, old_text, new_text, are_kept, kept_front, kept_back}}
use Rattle.yq_semantics.specs.Operations.{replace}
use Rattle.yq_edit_laws.proofs.NodeRowLaws.{rest, limit, rows_there, mark_node, following_is}
use Rattle.yq_edit_laws.proofs.MarkContentLaws.{anchor_left, content_named, left_anchor, left_apart, left_content, left_core_text}
use Rattle.yq_edit_laws.{proofs.MarkContentLaws.{left_nothing, left_tail, left_text}, proofs.NodeValueLaws.IsHolding}
use Rattle.yq_edit_laws.proofs.NodeTaken.{KeepsNode, node_carried, node_made, TakesNode, q_text}

-- whether the first of rows is a node alone on its line
abbrev pub first_alone : List Row → Bool
first_alone [] = false
first_alone (r ∷ rs) = is_alone r

module _ (n : ℕ) (s : Step) (ss : List Step) (c : Cut) (e : RowsOfEntry) (there : HasItsRows n s ss c e) (last : e.line ≡ length e.row.dashes) where
  -- What is known of what the key or dash of rows holds, under which no node is alone: the pieces spell the text; each is a piece of a text; the last
  -- line ends before the rows after; with another break after it the white space and the comment are a tail with that comment, and so with the last
  -- break; where a head is written, no rows are under it; and the anchor of the node is that of the row.
  pub record KnowsHeld : Type 0 where
    pub spells : cut_text c ≡ held_text (held e)
    pub pieces : HoldsPieces (held e)
    pub white : IsPiece (held e).white
    pub comment : IsPiece (held e).comment
    pub ends : IsBreak (held e).last (rest n s ss c (mark_node n s ss c e there last))
    pub broken : (br : Break) (more : List ℕ) → IsTail ((held e).white ++ ((held e).comment ++ break_text br)) more
    pub broken_comment : (br : Break) → line_comment ((held e).white ++ ((held e).comment ++ break_text br)) ≡ line_comment (slices e.row).tail
    pub ended : IsTail ((held e).white ++ ((held e).comment ++ (held e).last)) (rest n s ss c (mark_node n s ss c e there last))
    pub ended_comment : line_comment ((held e).white ++ ((held e).comment ++ (held e).last)) ≡ line_comment (slices e.row).tail
    pub uncommented : is_empty (held e).comment ≡ true → line_comment (slices e.row).tail ≡ None
    pub headless : is_empty (slices e.row).head ≡ false → e.under ≡ []
    pub named : anchor_of (content_under there.found.line there.found.under) ≡ content_anchor e.row.content

pub regroup : (a b d r : List ℕ) → a ++ (b ++ (d ++ r)) ≡ ((a ++ b) ++ d) ++ r
regroup a b d r = simp append_assoc refl

-- ---- the segments

pub held_old : (br : List ℕ) (h : Held) (w : Written) → old_text (held_put br h w) ≡ held_text h
held_old br h w = search (rules, append-nil, append_assoc)

held_back : (br : List ℕ) (h : Held) (w : Written) → kept_back (held_put br h w) ≡ h.last ++ h.after
held_back br h w = search (rules, append-nil)

held_puts : (br : List ℕ) (h : Held) (w : Written) → are_kept (held_put br h w) ≡ false
held_puts br h w = search rules

-- the text of a value as it is written
abbrev pub text_of : Written → List ℕ
text_of (inline t) = t
text_of (compact_text t) = t
text_of (lines t) = t

module _ (n : ℕ) (s : Step) (ss : List Step) (c : Cut) (e : RowsOfEntry) (there : HasItsRows n s ss c e) (last : e.line ≡ length e.row.dashes) (k : KnowsHeld n s ss c e there last) where
  -- ---- what is left on the line of the key or dash in front of what is written, and the text of that

  abbrev base : List ℕ
  base = before_entry e ++ row_front e.row

  -- before an end of the line with the old comment nothing but the anchor may be there
  pub holding : (tail more : List ℕ) → IsTail tail more → line_comment tail ≡ line_comment (slices e.row).tail → IsHolding n s ss c (mark_node n s ss c e there last) (anchor_left e.row.content tail) more
  holding tail more is same =
      let x = e.row.content in
      let old : List ℕ = rows_text (e.under ++ e.back) (there.part.end ++ after_document n c) in
      let was : IsRow (limit n s ss c (mark_node n s ss c e there last)) e.row old = (rows_there n s ss c (mark_node n s ss c e there last)).0 in
      let named = content_named (parent_indent e.row) x old was.content in
      record {
        holds = left_nothing (content_cut x).0 (content_anchor x) tail;
        is_located = left_content (parent_indent e.row) (content_cut x).0 (content_anchor x) (content_text x old) tail more named is;
        apart = left_apart (content_cut x).0 (content_anchor x) (content_text x old) tail more named (mark_apart e.row.mark x old (entry_there n s ss c e there last) was.mark) is;
        comment = ap line_comment (left_tail (content_cut x).0 (content_anchor x) tail) ∙ (same ∙ ap line_comment (tail_is x));
        anchor = left_anchor (content_cut x).0 (content_anchor x) tail ∙ sym k.named;
      }

  -- the text with rows after it
  pub text_left : (tail : List ℕ) (rs : List Row) (z : List ℕ) → e.start ++ (rows_text e.front [] ++ rows_text (with_content (anchor_left e.row.content tail) e.row ∷ rs) z) ≡ (held e).before ++ (tail ++ rows_text rs z)
  text_left tail rs z =
      let b : List ℕ = rows_text e.front [] in
      let left = anchor_left e.row.content tail in
      ap (λ r. e.start ++ (b ++ r)) (row_front-append (with_content left e.row) (rows_text rs z))
      ∙ (regroup e.start b (row_front e.row) (content_text left (rows_text rs z)) ∙ left_text base e.row.content tail (rows_text rs z))

  -- the same with a node in front of the end of the line
  pub text_beside : (node : FlowNode) (tail z : List ℕ) → e.start
      ++ (rows_text e.front [] ++ rows_text (with_content (put_core node (anchor_left e.row.content tail)) e.row ∷ []) z) ≡ (held e).before
      ++ (32 ∷ node_text node (tail ++ z))
  text_beside node tail z =
      let b : List ℕ = rows_text e.front [] in
      let new = put_core node (anchor_left e.row.content tail) in
      ap (λ r. e.start ++ (b ++ r)) (row_front-append (with_content new e.row) z)
      ∙ (regroup e.start b (row_front e.row) (content_text new z) ∙ left_core_text base node e.row.content tail z)

  -- ---- what is put

  abbrev h : Held
  h = held e

  apart_piece : (old t : List ℕ) → IsPiece t → IsPiece (spaced_text old t)
  apart_piece [] t p = byte_then 32 t refl p
  apart_piece (b ∷ old) t p = p

  held_pieces : (br : Break) (w : Written) → IsPiece (text_of w) → ArePieces (held_put (break_text br) h w)
  held_pieces br w h1 = search (rules, apart_piece, nothing, byte_then, pieces_joined, break_piece)

  -- ---- rows for the value

  -- Rows for a value in the place of those of the item or entry: segments make their text, and what is kept in front ends within the first one of them, and of the old ones.
  pub record Spells (v : Node) (us : List Segment) (new : List Row) : Type 0 where
    pub takes : TakesNode n s ss c (mark_node n s ss c e there last) v new
    pub text : e.start ++ (rows_text e.front [] ++ rows_text new (rest n s ss c (mark_node n s ss c e there last))) ≡ new_text us
    pub lead : List ℕ
    pub before_is : kept_front us ≡ (e.start ++ rows_text e.front []) ++ lead
    pub within : length lead ≤ length (print_row e.row [])
    pub begins : InFirst lead (rows_items new [])

  module _ (v : Node) (f : FitsReplace n (s ∷ ss) v c there.part) where
    -- the node that is there
    pub node_is : f.node ≡ content_under there.found.line there.found.under
    node_is = same_Some _ _ (sym f.there ∙ (path_node s ss (part_outline there.part) ∙ ap FoundNode there.is))

    may : MayReplace v (content_under there.found.line there.found.under) (root_of there.part) (length (s ∷ ss))
    may = subst (λ q. MayReplace v q (root_of there.part) (length (s ∷ ss))) node_is f.may

    -- Segments of the text that keep it from the end of the line that ends the rows carry out the replacement.
    pub put_carried : (us : List Segment) (new : List Row) → Spells v us new → (trail : List ℕ) → kept_back us ≡ trail ++ after_entry e → is_one_line trail ≡ true → are_kept us ≡ false → old_text us ≡ cut_text c →
        ArePieces us → length (new_text us) ≤ text_limit → CarriedOut (replace n (s ∷ ss) v) c us
    put_carried us new x trail back one puts old pieces size =
        let node = mark_node n s ss c e there last in
        let keeps : KeepsNode n s ss c node us = search (rules, following_is) in
        node_carried n s ss c node v new x.takes us keeps may (segments_readable us pieces size) (q_text n s ss c node v new x.takes ∙ x.text) x.begins

    pub held_carried : (br : Break) (w : Written) (new : List Row) → Spells v (held_put (break_text br) h w) new → IsPiece (text_of w) → length (new_text (held_put (break_text br) h w)) ≤ text_limit →
        CarriedOut (replace n (s ∷ ss) v) c (held_put (break_text br) h w)
    held_carried br w new x piece =
        put_carried (held_put (break_text br) h w) new x h.last (held_back (break_text br) h w) (break_line h.last (rest n s ss c (mark_node n s ss c e there last)) k.ends) (held_puts (break_text br) h w)
        (held_old (break_text br) h w ∙ sym k.spells) (held_pieces br w piece)

    -- the cut of the text that they make
    pub held_made : (br : Break) (w : Written) (new : List Row) → Spells v (held_put (break_text br) h w) new → IsPiece (text_of w) → length (new_text (held_put (break_text br) h w)) ≤ text_limit →
        read_at (new_text (held_put (break_text br) h w)) ≡ Some (put_document n (inserted e.front new e.back there.part) c)
    held_made br w new x piece size = search (rules, node_made, x.takes, may, segments_readable, held_pieces, q_text, x.text)
