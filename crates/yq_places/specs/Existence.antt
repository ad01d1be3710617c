-- For which nodes there are pieces (own).
use Rattle.std.specs.Prelude.{◌≡◌, ◌&&◌, ◌||◌, not, List, [], ◌∷◌, map, Option, Some, None, is_some, option_map, Bool, true, false, ℕ}
use Rattle.yq_core.{specs.Answers.◌>>=◌, specs.Paths.Step, specs.Tree.Node, specs.Trees.node_head}
use Rattle.yq_row_table.specs.Rows.{Cut}
use Rattle.yq_documents.{specs.declared.path.Path.Path, specs.Located.{steps_of, located}, specs.Reading.read_at}
use Rattle.yq_outline.{specs.Group.group, specs.Outline.{anchored, null_node}, specs.Places.find}
use Rattle.yq_places.specs.PrintedLines.{PrintedLine, line_in}
use Rattle.yq_places.specs.PathPieces.{BlockEntry, FlowEntry, flow_at, line_inline, PrintedDocument, printed_document, found_entry}
use Rattle.yq_places.specs.PathPieces.{path_piece}
use Rattle.yq_documents.specs.declared.path.Part.TheVariants as parts

-- whether there are no steps, so that they end at the root
abbrev pub are_none : List Step → Bool
are_none [] = true
are_none (s ∷ ss) = false

-- whether a path leads to the root of its document
abbrev pub is_root : Path → Bool
is_root p = are_none (steps_of p)

-- a node is a null, perhaps after an anchor (7.2)
abbrev pub IsNull : Node → Type 0
IsNull n = (a : Option (List ℕ)) × (n ≡ anchored a null_node)

-- whether there are lines at all
abbrev pub some_lines : List PrintedLine → Bool
some_lines [] = false
some_lines (l ∷ ls) = true

-- whether more than an anchor is written for the node of an item or entry in a flow collection (7.2)
abbrev pub flow_written : FlowEntry → Bool
flow_written x = is_some (node_head x.node)

-- an answer of yes or no; where there is none, no
abbrev pub or_false : Option Bool → Bool
or_false None = false
or_false (Some b) = b

-- whether more than an anchor is written for an entry's node, or for the one to which the steps that are left lead in its line (7.2)
abbrev pub entry_written : List Step → BlockEntry → Bool
entry_written [] e = is_some e.line.line.head || some_lines e.under
entry_written (s ∷ ss) e = or_false (line_inline e >>= λ x. option_map flow_written (flow_at (s ∷ ss) x))

-- the same of the node to which steps lead in a document; where there is none, no
abbrev pub document_written : List Step → PrintedDocument → Bool
document_written [] s = some_lines s.lines
document_written (x ∷ xs) s = or_false (find x xs (group (map line_in s.lines)) >>= λ f. option_map (entry_written f.1) (found_entry s f.0))

-- the same of the node at a path (7.2)
abbrev pub is_written : Path → Cut → Bool
is_written p c = or_false (option_map (document_written (steps_of p)) (printed_document p.doc c))

-- There is a content exactly where more than an anchor is written for a node; where that isn't so, the node is a null.
abbrev pub ContentsExist : Type 0
ContentsExist =
    (t : List ℕ) (c : Cut) (p : Path) → read_at t ≡ Some c →
    (is_some (path_piece p parts.Content c) ≡ is_written p c) × ((n : Node) → located p t ≡ Some n → is_written p c ≡ false → IsNull n)

-- There is an entry or item exactly where the path isn't that of a root and the tree has a node there.
abbrev pub EntriesExist : Type 0
EntriesExist =
    (t : List ℕ) (c : Cut) (p : Path) → read_at t ≡ Some c → is_some (path_piece p parts.Entry c) ≡ (not (is_root p) && is_some (located p t))
