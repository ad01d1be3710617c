-- Scalars, keys and empty collections as they are written in block style.
use Rattle.std.proofs.Common.{◌≡◌, ℕ, Bool, true, false, cond, List, [], ◌∷◌, length, Option, Some, None, refl, ap, arith, rules}
use Rattle.std.{proofs.lemmas.Bool.false≢true, specs.Str.{chars, IsUtf8}}
use Rattle.yq_core.{specs.Piece.deeper, specs.Scalar.{ScalarText, string_of}, specs.Text.separates, specs.Writable.can_write}
use Rattle.yq_core.{specs.Written.written_scalar, specs.Nodes.IsFlowNode, specs.Scalars.{scalar_content, scalar_of}}
use Rattle.yq_core.{specs.Trees.{tree_of, scalar_node}, specs.NodesWritten.scalar_text, proofs.GapLaws.none_gap}
use Rattle.yq_core.proofs.NodesWrittenLaws.{double_when}
use Rattle.yq_flow_edits.{specs.Valued.{IsValid, IsValueTree, SpellsScalar}, proofs.StyledScalars.styled_spells}
use Rattle.yq_row_table.specs.Grammar.{IsKey}
use Rattle.yq_edit_rules.{specs.BlockRows.{block_key, inline_of}, specs.BlockValues.{IsFilled, IsNear}, specs.BlockLaws.IsHead}
use Rattle.yq_core.specs.declared.style.Place.TheVariants as places
use Rattle.yq_core.specs.declared.style.Style.TheVariants as styles
use Rattle.yq_core.specs.Tree as tree
use Rattle.yq_core.specs.Nodes as inline

-- a scalar
styled : (s : ScalarText) → IsValid s → (plain : Bool) → can_write s styles.Plain places.Block ≡ plain → SpellsScalar s (written_scalar (cond plain styles.Plain styles.Double) s.text)
styled s v true h = styled_spells s styles.Plain v tt h
styled s v false h = styled_spells s styles.Double v tt (double_when s places.Block h)

pub scalar_spelled : (s : ScalarText) → IsValid s → SpellsScalar s (scalar_text s places.Block)
unfolding scalar_text
scalar_spelled s v = styled s v (can_write s styles.Plain places.Block) refl

-- a key
pub key_spelled : (k : List ℕ) → IsUtf8 k → SpellsScalar (string_of k) (block_key k)
unfolding scalar_text
key_spelled k u = styled (string_of k) (record { kind = tt; utf8 = u }) (can_write (string_of k) styles.Plain places.Block) refl

content_by : (p k : List ℕ) → scalar_of p ≡ string_of k → scalar_content p ≡ k
unfolding scalar_of scalar_content
content_by p k h = search (rules, false≢true)

pub key_content_is : (k : List ℕ) → IsUtf8 k → scalar_content (block_key k) ≡ k
key_content_is k u = content_by (block_key k) k (key_spelled k u).same

pub key_is : (k rest : List ℕ) → IsUtf8 k → IsNear (Some k) → separates rest ≡ true → IsKey (block_key k) (58 ∷ []) rest
unfolding chars
key_is k rest u near h =
    let one : length (chars (58 ∷ [])) ≡ 1 = refl in
    record {
      scalar = (key_spelled k u).is_located None (58 ∷ rest) (rw h refl);
      colon_is = record { white = []; spelled = refl; blank = tt; separated = h };
      near = omega (arith, near, one);
    }

-- the inline node as which a value is written, or none where it is written in rows
abbrev pub Heads : tree.Node → Option inline.FlowNode → Type 0
Heads v None = IsFilled v
Heads v (Some node) = IsHead v node

empty_list : IsHead (tree.list None tree.none) (inline.coll 93 [] inline.none)
unfolding tree_of IsFlowNode inline.flow_items_text
empty_list = search (rules, none_gap)

empty_map : IsHead (tree.map None tree.none) (inline.coll 125 [] inline.none)
unfolding tree_of IsFlowNode inline.flow_items_text
empty_map = search (rules, none_gap)

scalar_head : (s : ScalarText) → IsValid s → IsHead (scalar_node s) (inline.scalar (scalar_text s places.Block))
unfolding tree_of IsFlowNode
scalar_head s v = let w = scalar_spelled s v in record {
  is_located = λ n rest h. record { valid = w.is_located (Some (deeper n)) rest h; something = refl };
  same = ap (λ x. Some (scalar_node x)) w.same;
  unnamed = refl;
  more = refl;
  keys = tt;
}

pub heads : (v : tree.Node) → IsValueTree v → Heads v (inline_of v)
heads v h1 = search (rules, scalar_head, empty_list, empty_map)
