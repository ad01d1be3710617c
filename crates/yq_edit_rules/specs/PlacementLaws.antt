-- What must hold of the rows in which items and entries are, and of what these hold (own).
use Rattle.std.specs.Prelude.{◌≡◌, ◌⊎◌, ℕ, suc, ◌+◌, List, [], ◌∷◌, ◌++◌, length, nat_lt, slice_get, Some}
use Rattle.yq_core.{specs.Paths.Step, specs.Tree.Node, specs.Trees.items_tree}
use Rattle.yq_outline.{specs.Counts.count, specs.Outline.flatten, specs.Places.{FoundLine, find, lines_before}, specs.Lines.lines_of_rows}
use Rattle.yq_row_table.specs.Rows.{Cut, Part, cut_text, part_text}
use Rattle.yq_documents.{specs.Documents.document_parts, specs.Reading.{part_outline, read_at}}
use Rattle.yq_places.{specs.NodesAt.node_in, specs.RemovalPlaces.has_others_at}
use Rattle.yq_places.specs.Placements.{RowsOfEntry, FlowPart, Held, Placement, rows_of_entry, flow_placement, held, last_step, placement_at}
use Rattle.yq_edit_rules.{specs.Changed.put_document, specs.DocumentRows.{IsDocumentPart, after_document}, specs.TextPieces.IsPiece}

-- ---- there is something

-- Each document has something at its root.
abbrev pub RootsOccur : Type 0
RootsOccur = (n : ℕ) (c : Cut) (p : Part) → slice_get (document_parts c) n ≡ Some p → (s : Placement) × (placement_at n [] c ≡ Some s)

-- an item or entry has rows
abbrev pub HasEntryRows : ℕ → List Step → Cut → Type 0
HasEntryRows n steps c = (e : RowsOfEntry) × (rows_of_entry n steps c ≡ Some e)

-- the last of steps leads to a part of a flow collection, which says whether the item or entry has others next to it
abbrev pub HasFlowPart : ℕ → Step → List Step → Cut → Type 0
HasFlowPart n s ss c =
    (x : FlowPart) × (flow_placement n c (last_step (s ∷ ss)) ≡ Some x) ×
    (has_others_at n (s ∷ ss) c ≡ nat_lt 1 (count (items_tree x.collection.items)))

-- Where a node is below the root, there are the rows of an item or entry, or a part of a flow collection, which says whether it has others next to it.
abbrev pub EntriesOccur : Type 0
EntriesOccur =
    (n : ℕ) (s : Step) (ss : List Step) (c : Cut) (v : Node) → read_at (cut_text c) ≡ Some c → node_in n (s ∷ ss) c ≡ Some v →
    HasEntryRows n (s ∷ ss) c ⊎ HasFlowPart n s ss c

-- ---- rows in their document

-- The rows of an item or entry are those of the line to which steps lead in document n, with the lines under it.
pub record HasItsRows (n : ℕ) (s : Step) (ss : List Step) (c : Cut) (e : RowsOfEntry) : Type 0 where
  pub part : Part
  pub old : IsDocumentPart (cut_text c) c n part
  pub found : FoundLine
  pub is : find s ss (part_outline part) ≡ Some (found, [])
  pub rows_are : part.rows ≡ e.front ++ (e.row ∷ (e.under ++ e.back))
  pub end_is : e.end ≡ part.end
  pub following_is : e.after ≡ after_document n c
  pub number : length (lines_of_rows e.front) + e.line ≡ length (lines_before found.place)
  pub count : length (lines_of_rows (e.row ∷ e.under)) ≡ e.line + suc (length (flatten found.under))
  pub put : (q : Part) → cut_text (put_document n q c) ≡ e.start ++ part_text q (after_document n c)

-- Rows that are found are so.
abbrev pub RowsAreFound : Type 0
RowsAreFound =
    (n : ℕ) (s : Step) (ss : List Step) (c : Cut) (e : RowsOfEntry) → read_at (cut_text c) ≡ Some c → rows_of_entry n (s ∷ ss) c ≡ Some e →
    HasItsRows n s ss c e

-- ---- what a key or dash holds

-- its pieces in order
abbrev pub held_text : Held → List ℕ
held_text h = h.before ++ (h.space ++ (h.head ++ (h.white ++ (h.comment ++ (h.break ++ (h.lines ++ (h.last ++ h.after)))))))

-- each of them is a piece of a text
pub record HoldsPieces (h : Held) : Type 0 where
  pub before : IsPiece h.before
  pub space : IsPiece h.space
  pub head : IsPiece h.head
  pub line : IsPiece (h.white ++ h.comment)
  pub break : IsPiece h.break
  pub lines : IsPiece h.lines
  pub last : IsPiece h.last
  pub after : IsPiece h.after

-- The pieces of what the key or dash of rows holds spell the text, where its line is the last one of its row.
abbrev pub HeldSpells : Type 0
HeldSpells =
    (n : ℕ) (s : Step) (ss : List Step) (c : Cut) (e : RowsOfEntry) → read_at (cut_text c) ≡ Some c → rows_of_entry n (s ∷ ss) c ≡ Some e →
    e.line ≡ length e.row.dashes →
    (cut_text c ≡ held_text (held e)) × HoldsPieces (held e)
