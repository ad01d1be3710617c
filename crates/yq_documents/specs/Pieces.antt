-- Pieces of a text: inline nodes, what is written after a mark, and comments (YAML 1.2.2, 6.6, 7 and 8.1; own).
use Rattle.std.specs.Prelude.{ℕ, ◌+◌, List, [], ◌∷◌, ◌++◌, length, Option, Some, None, if◌then◌else◌, ◌==◌}
use Rattle.yq_core.{specs.Block.block_text, specs.Text.{is_empty, cut, front, ends_line, joined, text_lines, no_white, past_white}}
use Rattle.yq_core.specs.Nodes.{FlowNode, empty, alias, scalar, coll, anchored, node_text}
use Rattle.yq_row_table.{specs.Exchange.HasPieces, specs.Rows.{Content, Nothing, Inline, Block, anchor_text}, specs.View.content_cut}
use Rattle.yq_documents.specs.declared.path.Span.{Span}
use Rattle.yq_outline.specs.Comments.{are_comments}

-- A piece of a text: the text before it, its own, and the text after it (own).
pub record TextPiece : Type 0 where
  pub before : List ℕ
  pub text : List ℕ
  pub after : List ℕ

-- where a piece begins and ends, in bytes (own)
abbrev pub piece_span : TextPiece → ℕ × ℕ
piece_span p = (length p.before, length p.before + length p.text)

-- where a place that the code reports begins and ends, in bytes (own)
abbrev pub span : Span → ℕ × ℕ
span s = (s.start, s.end)

-- A text holds a piece, from one whole character to another (own).
abbrev pub HoldsPiece : List ℕ → TextPiece → Type 0
HoldsPiece t p = HasPieces t p.before p.text p.after

-- an inline node between two texts, without its anchor; where nothing but an anchor is written there is none (7.2)
abbrev pub node_piece : List ℕ → FlowNode → List ℕ → Option TextPiece
node_piece before empty after = None
node_piece before (alias name) after = Some (record { before = before; text = node_text (alias name) []; after = after })
node_piece before (scalar p) after = Some (record { before = before; text = node_text (scalar p) []; after = after })
node_piece before (coll close gap items) after = Some (record { before = before; text = node_text (coll close gap items) []; after = after })
node_piece before (anchored name gap node) after = node_piece (before ++ 38 ∷ (name ++ gap)) node after

-- what is written after a mark, without an anchor: an inline node (7), or a block scalar from its header to its last raw line (8.1)
abbrev pub head_piece : List ℕ → Content → List ℕ → Option TextPiece
head_piece before (Nothing tail) after = None
head_piece before (Inline space node tail) after = node_piece (before ++ space) node (tail ++ after)
head_piece before (Block space anchor block) after =
    Some (record { before = before ++ (space ++ anchor_text anchor []); text = block_text block []; after = after })

-- the comment in a tail between two texts: from its `#` to the end of the line, before its break (6.6)
abbrev pub tail_comment : List ℕ → List ℕ → List ℕ → Option TextPiece
tail_comment before tail after =
    let line = cut ends_line (past_white tail) in
    if front (λ b. b == 35) (past_white tail) then Some (record { before = before ++ (cut no_white tail).0; text = line.0; after = line.1 ++ after })
    else None

-- the comment in the tail of a content between two texts (6.6)
abbrev pub content_comment : List ℕ → Content → List ℕ → Option TextPiece
content_comment before c after = let x = content_cut c in tail_comment (before ++ (x.0 ++ (x.1 ++ (x.2 ++ x.3)))) x.4 (x.5 ++ after)

-- the run of comment lines, of any indentation, that ends lines (6.6; own)
abbrev pub last_run : List (List ℕ) → List (List ℕ)
last_run [] = []
last_run (l ∷ ls) = if are_comments (l ∷ ls) then l ∷ ls else last_run ls

-- the lines before that run (own)
abbrev pub before_run : List (List ℕ) → List (List ℕ)
before_run [] = []
before_run (l ∷ ls) = if are_comments (l ∷ ls) then [] else l ∷ before_run ls

-- the run that ends a gap between two texts, if there is one: its lines with their breaks (6.6)
abbrev pub gap_comment : List ℕ → List ℕ → List ℕ → Option TextPiece
gap_comment before gap after =
    let run = joined (last_run (text_lines gap)) in
    if is_empty run then None else Some (record { before = before ++ joined (before_run (text_lines gap)); text = run; after = after })
