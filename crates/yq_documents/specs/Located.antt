-- The documents of the code, and the nodes at paths in them.
use Rattle.std.specs.Prelude.{List, ℕ, map, Option, option_and_then, slice_get}
use Rattle.yq_core.{specs.Entries.tree_step, specs.Paths.{Step, node_at}, specs.Tree.{Node, plain_label}}
use Rattle.yq_documents.{specs.declared.path.Path.Path, specs.Documents.Document, specs.Reading.documents_of}
use Rattle.yq_outline.specs.Labelled.{Labelled, labelled_from}

-- the steps of a path (own)
abbrev pub steps_of : Path → List Step
steps_of p = map tree_step p.steps.items

-- a document of a text, by its index (own)
abbrev pub document_at : List ℕ → ℕ → Option Document
document_at text i = slice_get (documents_of text) i

-- the node at a path in a text, if it leads to one (own)
abbrev pub located : Path → List ℕ → Option Node
located p text = option_and_then (λ d. node_at (steps_of p) d.root) (document_at text p.doc)

-- the same with its label, which tells nothing at a root (own)
abbrev pub labelled_located : Path → List ℕ → Option Labelled
labelled_located p text = option_and_then (λ d. labelled_from (steps_of p) (plain_label, d.root)) (document_at text p.doc)
