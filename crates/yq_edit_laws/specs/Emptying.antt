-- A sole item or entry removed: an empty collection is put in the place of its own (YAML 1.2.2, 7.4 and 8.2; own).
use Rattle.std.specs.Prelude.{◌≡◌, ℕ, List, Option, Some, None, option_map}
use Rattle.yq_core.{specs.Answers.◌>>=◌, specs.Paths.Step, specs.Tree.{Node, list, map, none}, specs.Values.value_node}
use Rattle.yq_core.specs.declared.value.Value.{Value}
use Rattle.yq_row_table.specs.Rows.{Cut}
use Rattle.yq_documents.{specs.Located.steps_of, specs.Reading.cut_of, specs.declared.path.Path.Path}
use Rattle.yq_places.{specs.NodesAt.{NodeAt, node_in, node_summary, node_view}, specs.Placements.last_step}
use Rattle.yq_edit_rules.specs.Edits.{empty_collection, replace_segments, sole_removed}
use Rattle.yq_places.specs.NodesAt as nodes
use Rattle.yq_places.specs.declared.places.node_at.NodeAt as declared

-- the empty collection of the kind of a collection, by what is known of that
abbrev pub emptied_summary : NodeAt → Option Node
emptied_summary nodes.alias = None
emptied_summary (nodes.scalar s) = None
emptied_summary (nodes.list several) = Some (list None none)
emptied_summary (nodes.map several) = Some (map None none)

-- An empty collection that is put where steps lead in a document.
pub record Emptied : Type 0 where
  pub doc : ℕ
  pub steps : List Step
  pub value : Node

-- what the code lends of it
abbrev pub emptied_view : Path × Value → Emptied
emptied_view e = record { doc = e.0.doc; steps = steps_of e.0; value = value_node e.1 }

-- the empty collection of the kind of the one in which a path ends in document n; a root is in none
abbrev pub emptying : ℕ → Cut → Option (List Step × Step) → Option Emptied
emptying n c None = None
emptying n c (Some x) = option_map (λ v. record { doc = n; steps = x.0; value = v }) (node_in n x.0 c >>= empty_collection)

-- what is known of the node above the last step in document n; a root is below none
abbrev pub summary_above : ℕ → Cut → Option (List Step × Step) → Option NodeAt
summary_above n c None = None
summary_above n c (Some x) = option_map node_summary (node_in n x.0 c)

-- This is known of the node above the last step of a path of a text.
abbrev pub IsNodeAbove : List ℕ → Path → declared.NodeAt → Type 0
IsNodeAbove t path node = Some (node_view node) ≡ summary_above path.doc (cut_of t) (last_step (steps_of path))

-- A sole item or entry is removed by Replace of its collection with this one.
abbrev pub SoleByEmptying : Type 0
SoleByEmptying = (n : ℕ) (c : Cut) (o : Option (List Step × Step)) → sole_removed n c o ≡ (emptying n c o >>= λ e. replace_segments e.doc e.steps e.value c)
