-- The pieces of a text where nodes, entries, items and comments at paths are (YAML 1.2.2, 7.4 and 8; own).
use Rattle.std.specs.Prelude.{ℕ, suc, List, [], ◌∷◌, ◌++◌, length, take, drop, map, slice_get, Option, Some, None, is_some, option_map}
use Rattle.std.specs.Prelude.{option_and_then, if◌then◌else◌}
use Rattle.yq_core.{specs.Answers.◌>>=◌, specs.Paths.{Step, is_here, further}}
use Rattle.yq_core.specs.Nodes.{Key, bare, FlowNode, empty, alias, scalar, coll, anchored, Items, none, item, key_text, sep_text}
use Rattle.yq_core.{specs.Nodes.{opening_bracket, node_text, flow_items_text}, specs.Trees.key_content, specs.Tree.key_label}
use Rattle.yq_row_table.specs.Rows.{Content, Nothing, Inline, Block, Cut}
use Rattle.yq_documents.{specs.declared.path.Part.Part, specs.declared.path.Path.Path, specs.Located.steps_of}
use Rattle.yq_documents.specs.Pieces.{TextPiece, node_piece, head_piece, content_comment, gap_comment}
use Rattle.yq_outline.{specs.Group.group, specs.Outline.flatten, specs.Places.{lines_before, FoundLine, find}}
use Rattle.yq_places.specs.PlacedRows.{PlacedPart, placed_document}
use Rattle.yq_places.specs.PrintedLines.{PrintedLine, line_front, line_rest, print_line, print_lines, printed_lines, line_in, run_piece}
use Rattle.yq_places.specs.PrintedLines.{lines_piece}
use Rattle.yq_documents.specs.declared.path.Part.TheVariants as parts

-- A line and those under it, with the text before and after them.
pub record BlockEntry : Type 0 where
  pub before : List ℕ
  pub line : PrintedLine
  pub under : List PrintedLine
  pub after : List ℕ

-- the piece of an entry or item: from its key or dash to the end of its last line
abbrev pub entry_piece : BlockEntry → TextPiece
entry_piece e = run_piece e.before e.line e.under e.after

-- the piece of an entry's or item's node: what is written after its mark, or else what the lines under it mean
abbrev pub content_piece : BlockEntry → Option TextPiece
content_piece e =
    if is_some e.line.line.head then head_piece (e.before ++ (line_front e.line ++ e.line.mark)) e.line.content (print_lines e.under e.after)
    else lines_piece (e.before ++ print_line e.line []) e.under e.after

-- An item or entry of a flow collection, with the text before and after it (7.4).
pub record FlowEntry : Type 0 where
  pub before : List ℕ
  pub key : Key
  pub node : FlowNode
  pub after : List ℕ

-- the item or entry to which a step leads, among those of a flow collection between two texts (7.4)
abbrev pub flow_in : ℕ → Step → List ℕ → Items → List ℕ → Option FlowEntry
flow_in k s before none after = None
flow_in k s before (item key n sep is) after =
    if is_here s (key_label (key_content key)) then Some (record { before = before; key = key; node = n; after = sep_text sep (flow_items_text k is after) })
    else flow_in k (further s) (before ++ key_text key (node_text n (sep_text sep []))) is after

-- the same in an inline node between two texts (7.4)
abbrev pub flow_under : Step → List ℕ → FlowNode → List ℕ → Option FlowEntry
flow_under s before empty after = None
flow_under s before (alias n) after = None
flow_under s before (scalar p) after = None
flow_under s before (coll k gap is) after = flow_in k s (before ++ opening_bracket k ∷ gap) is after
flow_under s before (anchored n gap node) after = flow_under s (before ++ 38 ∷ (n ++ gap)) node after

-- the item or entry to which steps lead from one
abbrev pub flow_at : List Step → FlowEntry → Option FlowEntry
flow_at [] x = Some x
flow_at (s ∷ ss) x = option_and_then (flow_at ss) (flow_under s (x.before ++ key_text x.key []) x.node x.after)

-- the inline node after a mark, as an item without a key
abbrev pub content_inline : List ℕ → Content → List ℕ → Option FlowEntry
content_inline before (Nothing tail) after = None
content_inline before (Inline space node tail) after = Some (record { before = before ++ space; key = bare; node = node; after = tail ++ after })
content_inline before (Block space anchor block) after = None

-- the inline node in an entry's line, as an item without a key
abbrev pub line_inline : BlockEntry → Option FlowEntry
line_inline e = content_inline (e.before ++ (line_front e.line ++ e.line.mark)) e.line.content (print_lines e.under e.after)

-- the piece of an item or entry of a flow collection, with its key
abbrev pub flow_piece : FlowEntry → TextPiece
flow_piece x = record { before = x.before; text = key_text x.key (node_text x.node []); after = x.after }

-- the piece of the node of an item or entry of a flow collection, without its anchor
abbrev pub flow_content : FlowEntry → Option TextPiece
flow_content x = node_piece (x.before ++ key_text x.key []) x.node x.after

-- The lines of a document, with the text before and after them.
pub record PrintedDocument : Type 0 where
  pub before : List ℕ
  pub lines : List PrintedLine
  pub after : List ℕ

-- the lines of a part in its place
abbrev pub printed_part : PlacedPart → PrintedDocument
printed_part s = record { before = s.before; lines = printed_lines s.part.rows; after = s.part.end ++ s.after }

-- document n of a cut (9.1)
abbrev pub printed_document : ℕ → Cut → Option PrintedDocument
printed_document n c = option_map printed_part (placed_document n c)

-- line n of a document, with the m lines after it as those under it
abbrev pub entry_with : PrintedDocument → ℕ → ℕ → Option BlockEntry
entry_with s n m =
    slice_get s.lines n >>= λ l. Some (record {
      before = s.before ++ print_lines (take n s.lines) [];
      line = l;
      under = take m (drop (suc n) s.lines);
      after = print_lines (drop m (drop (suc n) s.lines)) s.after;
    })

-- a line that was found, with those under it
abbrev pub found_entry : PrintedDocument → FoundLine → Option BlockEntry
found_entry s f = entry_with s (length (lines_before f.place)) (length (flatten f.under))

-- the piece of a part of an entry, or of the item or entry to which the steps that are left lead in its line; comments are those of the line
abbrev pub piece_in_entry : Part → List Step → BlockEntry → Option TextPiece
piece_in_entry parts.Content [] e = content_piece e
piece_in_entry parts.Content (s ∷ ss) e = line_inline e >>= λ x. flow_at (s ∷ ss) x >>= flow_content
piece_in_entry parts.Entry [] e = Some (entry_piece e)
piece_in_entry parts.Entry (s ∷ ss) e = line_inline e >>= λ x. option_map flow_piece (flow_at (s ∷ ss) x)
piece_in_entry parts.HeadComment [] e = gap_comment e.before e.line.gap (e.line.spaces ++ line_rest e.line (print_lines e.under e.after))
piece_in_entry parts.HeadComment (s ∷ ss) e = None
piece_in_entry parts.LineComment [] e = content_comment (e.before ++ (line_front e.line ++ e.line.mark)) e.line.content (print_lines e.under e.after)
piece_in_entry parts.LineComment (s ∷ ss) e = None

-- the piece of a part of the node to which steps lead in a document; a root has a content alone
abbrev pub piece_in : Part → List Step → PrintedDocument → Option TextPiece
piece_in parts.Content [] s = lines_piece s.before s.lines s.after
piece_in parts.Entry [] s = None
piece_in parts.HeadComment [] s = None
piece_in parts.LineComment [] s = None
piece_in part (x ∷ xs) s = find x xs (group (map line_in s.lines)) >>= λ f. found_entry s f.0 >>= piece_in_entry part f.1

-- the piece of a part of the node at a path, if it has that part
abbrev pub path_piece : Path → Part → Cut → Option TextPiece
path_piece p part c = printed_document p.doc c >>= piece_in part (steps_of p)
