-- What the node is to which steps lead in the head of a row, read alone.
use Rattle.std.proofs.Common.{◌≡◌, ℕ, ◌+◌, List, length, Option, Some, None, option_map, refl, sym, ap, ◌∙◌}
use Rattle.std.{proofs.lemmas.Option.slice_get-map, specs.List.slice_get}
use Rattle.yq_core.{specs.Answers.◌>>=◌, specs.Entries.{EntryPieces, entry_pieces_at, locate_entry}, specs.Paths.{Step, node_at}}
use Rattle.yq_core.{specs.Places.Placed, specs.Trees.{placed_tree, tree_of}, proofs.PathLaws.{entry_tree, path_places, path_tree}}
use Rattle.yq_core.proofs.TreeLaws.{node_tree}
use Rattle.yq_row_table.specs.Rows.{Cut, Part, Row}
use Rattle.yq_documents.{specs.Documents.document_parts, specs.LinesInRows.document_row, specs.Reading.part_document}
use Rattle.yq_outline.specs.Lines.{head_of}
use Rattle.yq_inline.{specs.Along.{as_item, located_along, located_from, node_from}, specs.declared.before_offset.LeadingNode.LeadingNode}
use Rattle.yq_places.{specs.NodeReading.summary_in_head, specs.NodesAt.{node_in, node_summary}, specs.RowWalk.document_row_range}
use Rattle.yq_lookup.specs.RowFronts.{IsRowFront, summary_along}
use Rattle.yq_core.specs.Tree as tree

-- no node is where no document is
pub none_there : (c : Cut) (n : ℕ) (steps : List Step) → None ≡ document_row_range n c → None ≡ option_map node_summary (node_in n steps c)
none_there c n steps e =
    go (slice_get (document_parts c) n) e ∙ sym (ap (λ o. option_map node_summary (o >>= λ d. node_at steps d.root)) (slice_get-map part_document (document_parts c) n))
  where
    go : (o : Option Part) → ◌≡◌ {A = Option (ℕ × ℕ)} None (option_map (λ p. (document_row n c, document_row n c + length p.rows)) o) → None ≡ option_map node_summary (option_map part_document o >>= λ d. node_at steps d.root)
    go None e = refl
    go (Some p) e = absurd cc

module _ (t after : List ℕ) (r : Row) (x : LeadingNode × ℕ) (h : IsRowFront t after r x) (ss : List Step) where
  abbrev top : EntryPieces
  top = as_item (h.head.node, h.head.rest)

  tree_at : node_at ss (tree_of h.head.node) ≡ option_map entry_tree (option_map (locate_entry 0) (entry_pieces_at ss top))
  tree_at = ap (node_at ss) (sym (node_tree 0 h.head.node h.head.rest)) ∙ (sym (path_tree ss (locate_entry 0 top)) ∙ ap (option_map entry_tree) (path_places 0 ss top))

  summaries : (p : Option EntryPieces) → option_map (λ (z : List ℕ × Placed). node_summary (placed_tree z.1)) (option_map located_from p) ≡ option_map node_summary (option_map entry_tree (option_map (locate_entry 0) p))
  summaries None = refl
  summaries (Some y) = ap (λ (n : tree.Node). Some (node_summary n)) (node_tree (length (node_from y)) y.node y.rest ∙ sym (node_tree 0 y.node y.rest))

  pub summary_there : summary_along ss x.0 ≡ summary_in_head ss (head_of r.content)
  summary_there =
      ap (λ o. option_map (λ (z : List ℕ × Placed). node_summary (placed_tree z.1)) (located_along ss o)) h.read
      ∙ (summaries (entry_pieces_at ss top) ∙ (ap (option_map node_summary) (sym tree_at) ∙ ap (summary_in_head ss) (sym h.head.tree)))
