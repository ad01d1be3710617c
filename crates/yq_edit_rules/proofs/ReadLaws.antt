-- A collection that is written alone is read as one document.
use Rattle.std.proofs.Common.{◌≡◌, ℕ, ◌≤◌, true, false, List, [], ◌∷◌, ◌++◌, length, refl, subst, append-nil, rules, sym, ap, ◌∙◌, not}
use Rattle.std.{proofs.Common.arith, proofs.lemmas.Bool.or_right, proofs.lemmas.Str.is_utf8-from_IsUtf8}
use Rattle.yq_text.specs.Limit.{text_limit}
use Rattle.yq_core.{specs.Text.is_marker, specs.Nodes.node_text, proofs.NodesWrittenLaws.node_then, specs.BlockWritten.break_text}
use Rattle.yq_core.proofs.Alikes.{no_first}
use Rattle.yq_flow_edits.specs.Valued.{IsValueTree}
use Rattle.yq_row_table.{specs.Grammar.{is_plain_content, unlimited, AreRows, no_rows}, specs.Rows.{Bare, Inline, Row, rows_text, last}}
use Rattle.yq_row_table.{specs.Splices.first_gap, proofs.PlainEnds.end_line}
use Rattle.yq_documents.specs.Documents.{IsRoot, HasShortRoot, ReadsDocuments, document_parts}
use Rattle.yq_outline.{proofs.RowLaws.no_comments, specs.Grammar.{IsNodeOutline, alone}, specs.Lines.lines_of_rows, specs.Outline.Line}
use Rattle.yq_edit_rules.{specs.BlockLaws.{ReadsAlone, IsHead}, specs.BlockRows.node_rows, specs.BlockText.{block_node, block_value}}
use Rattle.yq_edit_rules.{specs.BlockValues.{HasNearKeys, IsCollection, IsFilled, MayBeRoot}, specs.declared.layout.Layout.Layout}
use Rattle.yq_edit_rules.proofs.CharacterLaws.{IsUtf8Text, break_sound, value_sound, sound_join}
use Rattle.yq_edit_rules.proofs.BlockEndLaws.{break_ends, break_tail, line_ends}
use Rattle.yq_edit_rules.{proofs.FitLaws.{RowsAreFit, all_bound, anchors_fit, keys_fit, node_fit}, proofs.LaidRows.{laid_rows, no_gap_here}}
use Rattle.yq_edit_rules.{proofs.BlockLineLaws.{break_uncommented, unanchored, node_is_there}, proofs.RowLaws.node_laid}
use Rattle.yq_edit_rules.{proofs.ScalarLaws.heads, proofs.TextLaws.node_spelled, specs.Print.{print_layout, print_text}}
use Rattle.yq_core.specs.Tree as tree
use Rattle.yq_core.specs.Nodes as inline
use Rattle.yq_row_table.specs.Rows as rows

-- What is asked of rows that are all of a text, and mean a node.
record IsAllOf (v : tree.Node) (text : List ℕ) (rs : List Row) : Type 0 where
  laid : AreRows unlimited rs [] []
  spelled : rows_text rs [] ≡ text
  root : IsRoot (lines_of_rows rs) v
  fit : RowsAreFit rs
  gap : first_gap rs [] ≡ []
  short : HasShortRoot rs

-- the text of rows is read
all_read : (v : tree.Node) (text : List ℕ) (rs : List Row) → IsAllOf v text rs → IsUtf8Text text → length text ≤ text_limit → IsValueTree v → MayBeRoot v → ReadsDocuments text (record { lead = []; root = v } ∷ [])
all_read v text rs w s size h root =
    let p : rows.Part = record { rows = rs; end = [] } in
    let one : document_parts (last p) ≡ p ∷ [] = rw (or_right (not (no_rows rs)) true refl) refl in
    record {
      utf8 = is_utf8-from_IsUtf8 text s.0;
      parts = last p;
      cut = record { text = sym w.spelled; parts = record { rows = w.laid; inside = refl }; characters = s.1; size = size };
      documents = search (rules, no_comments, keys_fit, anchors_fit, all_bound);
    }

-- the lines of a node are a root
root_of : {n : ℕ} {ls : List Line} {v : tree.Node} → IsNodeOutline n ls v → IsRoot ls v
root_of h1 = search rules

-- a collection with items or entries
block_all : (v : tree.Node) (l : Layout) → 1 ≤ l.mapping → IsFilled v → IsValueTree v → HasNearKeys v → IsAllOf v (block_node l 0 v ++ break_text l.br) (node_rows l 0 (break_text l.br) v)
block_all v l step b h near =
    let end : List ℕ = break_text l.br in
    let laid = node_laid v l 0 end [] b h near (line_ends l.br 0 [] (end_line 1)) in
    record {
      laid = laid_rows 0 _ [] unlimited laid refl;
      spelled = node_spelled v l 0 end [] b h ∙ ap (λ (t : List ℕ). block_node l 0 v ++ t) (append-nil end);
      root = root_of (node_is_there v l 0 end step b h (break_uncommented l.br));
      fit = node_fit v l 0 end h;
      gap = search rules;
      short = search rules;
    }

-- an empty collection
abbrev empty_row : Layout → inline.FlowNode → Row
empty_row l node = record { gap = []; column = 0; dashes = []; mark = rows.Bare; content = Inline [] node (break_text l.br) }

empty_all : (v : tree.Node) (l : Layout) (node : inline.FlowNode) → IsHead v node → ((t : List ℕ) → is_marker (node_text node t) ≡ false) →
    is_plain_content node ≡ false → IsAllOf v (node_text node [] ++ break_text l.br) (empty_row l node ∷ [])
empty_all v l node h unmarked plain = record {
  laid = search (rules, no_gap_here, break_ends, end_line, break_tail, h.is_located);
  spelled = node_then node (break_text l.br ++ []) ∙ ap (λ (t : List ℕ). node_text node [] ++ t) (append-nil (break_text l.br));
  root = (_, subst (IsNodeOutline _ (lines_of_rows (empty_row l node ∷ []))) (unanchored _ v h.unnamed) (alone refl refl h.same));
  fit = ((tt, h.keys, h.unnamed), tt);
  gap = refl;
  short = rw plain refl;
}

-- a collection
collection_all : (v : tree.Node) (l : Layout) → 1 ≤ l.mapping → IsCollection v → IsValueTree v → HasNearKeys v → (rs : List Row) × IsAllOf v (block_value l 0 v ++ break_text l.br) rs
unfolding inline.node_text inline.flow_items_text
collection_all (tree.alias name) l step c h near = absurd c
collection_all (tree.scalar a kind t) l step c h near = absurd c
collection_all (tree.list a tree.none) l step c h near = (_, empty_all (tree.list a tree.none) l (inline.coll 93 [] inline.none) (heads (tree.list a tree.none) h) (λ t. no_first 91 (93 ∷ t) refl refl) refl)
collection_all (tree.list a (tree.child label n cs)) l step c h near = (_, block_all (tree.list a (tree.child label n cs)) l step tt h near)
collection_all (tree.map a tree.none) l step c h near = (_, empty_all (tree.map a tree.none) l (inline.coll 125 [] inline.none) (heads (tree.map a tree.none) h) (λ t. no_first 123 (125 ∷ t) refl refl) refl)
collection_all (tree.map a (tree.child label n cs)) l step c h near = (_, block_all (tree.map a (tree.child label n cs)) l step tt h near)

pub value_read : (v : tree.Node) (l : Layout) → 1 ≤ l.mapping → IsValueTree v → ReadsAlone v (block_value l 0 v ++ break_text l.br)
value_read v l step h root size = let all = collection_all v l step root.collection h root.near in
    all_read v (block_value l 0 v ++ break_text l.br) all.0 all.1 (sound_join _ (break_text l.br) (value_sound v l 0 h) (break_sound l.br)) size h
    root

-- ---- what is printed is read

collection_text : (v : tree.Node) → IsCollection v → print_text v ≡ block_value print_layout 0 v ++ 10 ∷ []
unfolding print_text
collection_text v c = search rules

pub printed_read : (v : tree.Node) (t : List ℕ) → (IsCollection v → IsValueTree v) → t ≡ print_text v → ReadsAlone v t
printed_read v t valid is root =
    subst (ReadsAlone v) (sym (is ∙ collection_text v root.collection)) (value_read v print_layout (omega arith) (valid root.collection)) root
