-- The rows of any value as a root.
use Rattle.std.proofs.Common.{rules, ◌≡◌, ℕ, ◌≤◌, Bool, true, false, cond, List, [], ◌++◌, replicate, Option, refl, arith}
use Rattle.yq_core.{specs.declared.kind.Kind.Kind, specs.Tree.Node, specs.Writable.can_write, specs.Written.written_scalar}
use Rattle.yq_core.{specs.NodesWritten.{scalar_text, flow_of, flow_items}, proofs.NodesWrittenLaws.double_when}
use Rattle.yq_flow_edits.specs.Valued.{IsValueTree}
use Rattle.yq_edit_rules.{specs.declared.layout.Layout.Layout, specs.BlockText.block_value, specs.BlockValues.HasNearKeys}
use Rattle.yq_edit_rules.{specs.InlineRows.IsValueNode, proofs.ValueNodes.{scalar_is, list_is, map_is}}
use Rattle.yq_edit_laws.proofs.RootRows.{root_rows, HasRoom, AreRootRows, block_root_rows, lone_root_rows}
use Rattle.yq_core.specs.declared.style.Place.TheVariants as places
use Rattle.yq_core.specs.declared.style.Style.TheVariants as styles
use Rattle.yq_core.specs.Tree as tree
use Rattle.yq_core.specs.Nodes as inline

-- a scalar, plain if it can be
scalar_node : (a : Option (List ℕ)) (kind : Kind) (t : List ℕ) → IsValueTree (tree.scalar a kind t) → IsValueNode (tree.scalar a kind t) (inline.scalar (scalar_text (record { kind = kind; text = t }) places.Block))
unfolding scalar_text
scalar_node a kind t h = go (can_write (record { kind = kind; text = t }) styles.Plain places.Block) refl
  where
    go : (b : Bool) → can_write (record { kind = kind; text = t }) styles.Plain places.Block ≡ b → IsValueNode (tree.scalar a kind t) (inline.scalar (written_scalar (cond b styles.Plain styles.Double) t))
    go true e = (scalar_is a kind t styles.Plain h tt e).0
    go false e = (scalar_is a kind t styles.Double h tt (double_when (record { kind = kind; text = t }) places.Block e)).0

-- empty collections
list_node : (a : Option (List ℕ)) → IsValueTree (tree.list a tree.none) → IsValueNode (tree.list a tree.none) (inline.coll 93 [] inline.none)
unfolding flow_of flow_items
list_node a h = list_is a tree.none h (omega arith) refl

map_node : (a : Option (List ℕ)) → IsValueTree (tree.map a tree.none) → IsValueNode (tree.map a tree.none) (inline.coll 125 [] inline.none)
unfolding flow_of flow_items
map_node a h = map_is a tree.none h (omega arith) refl

pub value_root_rows : (v : Node) (l : Layout) (gap : List ℕ) (column : ℕ) (last back rest : List ℕ) → 1 ≤ l.mapping → IsValueTree v → HasNearKeys v → HasRoom gap last back rest →
    AreRootRows v gap (replicate column 32 ++ (block_value l column v ++ (last ++ (back ++ rest)))) (root_rows l gap column last v) back rest
value_root_rows (tree.alias n) l gap column last back rest step h near room = absurd h
value_root_rows (tree.scalar a kind t) l gap column last back rest step h near room = search (rules, lone_root_rows, scalar_node)
value_root_rows (tree.list a tree.none) l gap column last back rest step h near room = lone_root_rows (tree.list a tree.none) l gap column last back rest step h room (inline.coll 93 [] inline.none) (list_node a h) (λ c. refl)
value_root_rows (tree.list a (tree.child label n cs)) l gap column last back rest step h near room = block_root_rows (tree.list a (tree.child label n cs)) l gap column last back rest step h room tt near
value_root_rows (tree.map a tree.none) l gap column last back rest step h near room = lone_root_rows (tree.map a tree.none) l gap column last back rest step h room (inline.coll 125 [] inline.none) (map_node a h) (λ c. refl)
value_root_rows (tree.map a (tree.child label n cs)) l gap column last back rest step h near room = block_root_rows (tree.map a (tree.child label n cs)) l gap column last back rest step h room tt near
