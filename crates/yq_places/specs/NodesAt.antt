-- What a node at a path is, as far as updates ask (YAML 1.2.2, 3.2.1; own).
use Rattle.std.specs.Prelude.{ℕ, nat_lt, List, slice_get, Bool, false, Option, Some, None}
use Rattle.yq_core.{specs.declared.kind.Kind.Kind, specs.Answers.◌>>=◌, specs.Scalar.ScalarText, specs.Paths.{Step, node_at}}
use Rattle.yq_outline.{specs.Counts.count, specs.declared.line.ScalarContent.ScalarContent, specs.View.content_view}
use Rattle.yq_row_table.specs.Rows.{Cut}
use Rattle.yq_documents.specs.Reading.{documents}
use Rattle.yq_core.specs.Tree as tree
use Rattle.yq_places.specs.declared.places.node_at.NodeAt as declared

-- What is known of a node: that it is an alias, which scalar it is, or that it is a sequence or a mapping, and whether that has several
-- items or entries (3.2.1).
pub data NodeAt : Type 0 where
  alias : NodeAt
  scalar : ScalarText → NodeAt
  list : (several : Bool) → NodeAt
  map : (several : Bool) → NodeAt

-- what is known of a node (3.2.1)
abbrev pub node_summary : tree.Node → NodeAt
node_summary (tree.alias name) = alias
node_summary (tree.scalar anchor kind text) = scalar (record { kind = kind; text = text })
node_summary (tree.list anchor cs) = list (nat_lt 1 (count cs))
node_summary (tree.map anchor cs) = map (nat_lt 1 (count cs))

-- the scalar that a node is (3.2.1)
abbrev pub scalar_in : tree.Node → Option ScalarText
scalar_in (tree.alias name) = None
scalar_in (tree.scalar anchor kind text) = Some (record { kind = kind; text = text })
scalar_in (tree.list anchor cs) = None
scalar_in (tree.map anchor cs) = None

-- the node at a path of document n of a cut
abbrev pub node_in : ℕ → List Step → Cut → Option tree.Node
node_in n steps c = slice_get (documents c) n >>= λ d. node_at steps d.root

-- what the code reports of a node
abbrev pub node_view : declared.NodeAt → NodeAt
node_view declared.TheVariants.Alias = alias
node_view (declared.TheVariants.Scalar kind text) = scalar (record { kind = kind; text = content_view text })
node_view (declared.TheVariants.List several) = list several
node_view (declared.TheVariants.Map several) = map several

-- it has several items or entries
abbrev pub summary_several : NodeAt → Bool
summary_several alias = false
summary_several (scalar s) = false
summary_several (list several) = several
summary_several (map several) = several

-- the scalar of which that is known
abbrev pub summary_scalar : NodeAt → Option ScalarText
summary_scalar alias = None
summary_scalar (scalar s) = Some s
summary_scalar (list several) = None
summary_scalar (map several) = None

-- a scalar of the code
abbrev pub scalar_view : Kind × ScalarContent → ScalarText
scalar_view x = record { kind = x.0; text = content_view x.1 }
