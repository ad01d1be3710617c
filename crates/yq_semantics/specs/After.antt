-- What operations make of documents (own).
use Rattle.std.specs.Prelude.{ℕ, Bool, List, [], ◌∷◌}
use Rattle.yq_core.{specs.Paths.{relabel_child, remove_child, append_child, within, changed_at}, specs.Tree.{Node, key_label}}
use Rattle.yq_documents.specs.Documents.{Document}
use Rattle.yq_documents.specs.TreeEdits.{change_nth, replaced_node, at_end, with_line_comment, with_head_comment, led, with_tree}
use Rattle.yq_semantics.{specs.Changes.Room, specs.Meaning.{head_comment_lines, line_comment_text}}
use Rattle.yq_semantics.specs.Operations.{Operation, replace, append, remove, line_comment, head_comment}

-- what an operation makes of a root, where a document has such a lead (own)
abbrev pub root_after : Bool → List (List ℕ) → Operation → Node → Node
root_after block lead (replace doc path v) n = changed_at path (replaced_node (led block lead path v)) n
root_after block lead (append doc path k v) n = changed_at path (within (append_child (key_label k) v)) n
root_after block lead (remove doc path) n = at_end remove_child path n
root_after block lead (line_comment doc path text) n = at_end (λ s. relabel_child s (with_line_comment (line_comment_text text))) path n
root_after block lead (head_comment doc path text) n = at_end (λ s. relabel_child s (with_head_comment (head_comment_lines text))) path n

-- the number of the document of an operation (own)
abbrev pub op_document : Operation → ℕ
op_document (replace doc path v) = doc
op_document (append doc path k v) = doc
op_document (remove doc path) = doc
op_document (line_comment doc path text) = doc
op_document (head_comment doc path text) = doc

-- what an operation makes of its document (own)
abbrev pub done_to : Bool → Operation → Document → Document
done_to block op d = with_tree block (root_after block d.lead op d.root) d

-- what an operation makes of documents, whose texts have such room (own)
abbrev pub after_op : (ℕ → Room) → Operation → List Document → List Document
after_op rooms op docs = change_nth (op_document op) (done_to (rooms (op_document op)).block op) docs

-- what operations make of documents, one after the other (own)
abbrev pub all_after : (ℕ → Room) → List Operation → List Document → List Document
all_after rooms [] docs = docs
all_after rooms (op ∷ ops) docs = all_after rooms ops (after_op rooms op docs)
