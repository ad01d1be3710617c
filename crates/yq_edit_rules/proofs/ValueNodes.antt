-- The inline nodes of values: scalars in a style of one line, and collections in flow style.
use Rattle.yq_edit_rules.{proofs.CommentPieceLaws.byte_then, proofs.TextPieceLaws.{nothing, pieces_joined}, specs.InlineRows.IsValueNode}
use Rattle.yq_edit_rules.{specs.TextPieces.IsPiece, proofs.FlowWritten.flow_fits}
use Rattle.std.proofs.Common.{◌≡◌, ℕ, ◌≤◌, not, cond, List, [], ◌∷◌, ◌++◌, Option, Some, Bool, true, false, refl, sym, ap, ◌∙◌, subst}
use Rattle.std.{proofs.Common.{append-nil, rules}, proofs.lemmas.Bool.{false≢true, not-true, and_parts}, specs.Str.IsUtf8}
use Rattle.yq_core.{specs.Keys.depth, specs.Piece.deeper, specs.PlainText.begins_marker, specs.Plain.holds_break}
use Rattle.yq_core.{specs.Scalar.{ScalarText, string_of}, specs.Text.{is_marker, separates}, specs.Tree.Children}
use Rattle.yq_core.{specs.Writable.{can_write, can_write_plain}, specs.Written.{written_scalar, double, IsOneLine}}
use Rattle.yq_core.{specs.declared.kind.Kind.Kind, specs.declared.style.Style.Style, proofs.PlainSpells.{plain_is_text, writable_text}}
use Rattle.yq_core.{proofs.WrittenText.{double_is_line, is_line_ascii, line_is_text}, specs.Inline.depth_limit}
use Rattle.yq_core.{specs.Nodes.{key_text, sep_text, node_text, flow_items_text, IsFlowNode}, specs.Trees.{scalar_node, tree_of}}
use Rattle.yq_core.specs.NodesWritten.{scalar_text, flow_key, flow_sep, flow_of, flow_items, flow_text}
use Rattle.yq_core.{proofs.Alikes.{no_first, no_second, no_third}, proofs.NodesPieceLaws.front_not}
use Rattle.yq_flow_edits.specs.Valued.{IsValid, IsLabel, IsValueTree, AreValueTrees, SpellsScalar}
use Rattle.yq_flow_edits.{proofs.SpelledLaws.{written_node, written_tree}, proofs.StyledScalars.styled_spells}
use Rattle.yq_semantics.specs.Changes.{has_long_key}
use Rattle.yq_core.specs.Tree as tree
use Rattle.yq_core.specs.declared.style.Place.TheVariants as places
use Rattle.yq_core.specs.declared.style.Style.TheVariants as styles
use Rattle.yq_core.specs.Nodes as inline

-- ---- scalars

marker_after : (t rest : List ℕ) → begins_marker t ≡ false → separates rest ≡ true → is_marker (t ++ rest) ≡ false
marker_after t rest h1 h2 = search (rules, no_first, front_not, no_second, no_third)

style_unmarked : (s : ScalarText) (style : Style) (rest : List ℕ) → IsValid s → IsOneLine style → can_write s style places.Block ≡ true → separates rest ≡ true → is_marker (written_scalar style s.text ++ rest) ≡ false
style_unmarked s styles.Plain rest v i h sep = marker_after s.text rest (not-true (begins_marker s.text) (and_parts _ (not (begins_marker s.text)) (writable_text s.kind s.text false v.kind h)).1) sep
style_unmarked s styles.Single rest v i h sep = no_first 39 _ refl refl
style_unmarked s styles.Double rest v i h sep = no_first 34 _ refl refl
style_unmarked s styles.Literal rest v i h sep = absurd i
style_unmarked s styles.Folded rest v i h sep = absurd i

pub scalar_is : (a : Option (List ℕ)) (kind : Kind) (t : List ℕ) (style : Style) → IsValueTree (tree.scalar a kind t) → IsOneLine style → can_write (record { kind = kind; text = t }) style places.Block ≡ true →
    IsValueNode (tree.scalar a kind t) (inline.scalar (written_scalar style t)) × IsPiece (written_scalar style t)
unfolding IsFlowNode node_text tree_of
scalar_is a kind t style h i can =
    let s : ScalarText = record { kind = kind; text = t } in
    let w : SpellsScalar s (written_scalar style t) = styled_spells s style h.1 i can in (
      record {
        is_located = λ n rest ends. record { valid = w.is_located (Some (deeper n)) rest ends; something = refl };
        head = ap (λ (x : ScalarText). Some (scalar_node x)) w.same ∙ ap (λ (x : Option (List ℕ)). Some (tree.scalar x kind t)) (sym h.0);
        unnamed = refl;
        takes = refl;
        more = refl;
        keys = tt;
        unmarked = λ rest sep. style_unmarked s style rest h.1 i can sep;
        line = λ e. subst (λ (q : List ℕ). holds_break q ≡ false) (sym (append-nil (written_scalar style t))) w.line;
      },
      record { utf8 = w.utf8; characters = w.text },
    )

-- ---- collections in flow style

written_piece : (s : ScalarText) (plain : Bool) → can_write_plain s true ≡ plain → IsValid s → IsPiece (written_scalar (cond plain styles.Plain styles.Double) s.text)
written_piece s true h v = record { utf8 = v.utf8; characters = plain_is_text true s.text v.utf8 (writable_text s.kind s.text true v.kind h) }
written_piece s false h v = let line = double_is_line s.text v.utf8 in record { utf8 = (line.chars, (line.valid, line.spelled)); characters = line_is_text (double s.text) line }

scalar_piece : (s : ScalarText) → IsValid s → IsPiece (scalar_text s places.Flow)
unfolding scalar_text
scalar_piece s v = written_piece s (can_write_plain s true) refl v

key_scalar : (k : List ℕ) → IsUtf8 k → IsPiece (scalar_text (string_of k) places.FlowKey)
unfolding scalar_text
key_scalar k u = written_piece (string_of k) (can_write_plain (string_of k) true) refl (record { kind = tt; utf8 = u })

pub key_piece : (keyed : Bool) (label : tree.Label) (t : List ℕ) → IsLabel keyed label → IsPiece t → IsPiece (key_text (flow_key label.key) t)
key_piece true label t h p =
    subst (λ (l : tree.Label). IsPiece (key_text (flow_key l.key) t)) (sym h.1)
    (pieces_joined (scalar_text (string_of h.0) places.FlowKey) (58 ∷ 32 ∷ t) (key_scalar h.0 h.2) (byte_then 58 (32 ∷ t) refl (byte_then 32 t refl p)))
key_piece false label t h p = subst (λ (l : tree.Label). IsPiece (key_text (flow_key l.key) t)) (sym h) p

sep_piece : (cs : Children) (t : List ℕ) → IsPiece t → IsPiece (sep_text (flow_sep cs) t)
sep_piece tree.none t p = p
sep_piece (tree.child label n cs) t p = byte_then 44 (32 ∷ t) refl (byte_then 32 t refl p)

mutual
  unfolding flow_of flow_items node_text flow_items_text

  node_piece : (v : tree.Node) (rest : List ℕ) → IsValueTree v → IsPiece rest → IsPiece (node_text (flow_of v) rest)
  node_piece (tree.alias n) rest h p = absurd h
  node_piece (tree.scalar a kind t) rest h p = pieces_joined (scalar_text (record { kind = kind; text = t }) places.Flow) rest (scalar_piece (record { kind = kind; text = t }) h.1) p
  node_piece (tree.list a cs) rest h p = byte_then 91 (flow_items_text 93 (flow_items cs) rest) refl (items_piece cs 93 false rest refl h.1 p)
  node_piece (tree.map a cs) rest h p = byte_then 123 (flow_items_text 125 (flow_items cs) rest) refl (items_piece cs 125 true rest refl h.1 p)

  items_piece : (cs : Children) (k : ℕ) (keyed : Bool) (rest : List ℕ) → is_line_ascii k ≡ true → AreValueTrees keyed cs → IsPiece rest →
      IsPiece (flow_items_text k (flow_items cs) rest)
  items_piece tree.none k keyed rest close h p = byte_then k rest close p
  items_piece (tree.child label n cs) k keyed rest close h p =
      key_piece keyed label (node_text (flow_of n) (sep_text (flow_sep cs) (flow_items_text k (flow_items cs) rest))) h.0
      (node_piece n (sep_text (flow_sep cs) (flow_items_text k (flow_items cs) rest)) h.1 (sep_piece cs (flow_items_text k (flow_items cs) rest) (items_piece cs k keyed rest close h.2 p)))

pub flow_piece : (v : tree.Node) → IsValueTree v → IsPiece (flow_text v)
flow_piece v h = node_piece v [] h nothing

pub list_is : (a : Option (List ℕ)) (cs : Children) → IsValueTree (tree.list a cs) → depth (tree.list a cs) ≤ depth_limit → has_long_key (tree.list a cs) ≡ false → IsValueNode (tree.list a cs) (flow_of (tree.list a cs))
unfolding flow_of node_text
list_is a cs h deep long = record {
  is_located = λ n rest ends. record { valid = written_node (tree.list a cs) false (Some (deeper n)) depth_limit rest h deep ends; something = refl };
  head = ap Some (written_tree (tree.list a cs) h);
  unnamed = refl;
  takes = refl;
  more = refl;
  keys = flow_fits (tree.list a cs) long;
  unmarked = λ rest sep. no_first 91 _ refl refl;
  line = λ e. absurd (false≢true e);
}

pub map_is : (a : Option (List ℕ)) (cs : Children) → IsValueTree (tree.map a cs) → depth (tree.map a cs) ≤ depth_limit → has_long_key (tree.map a cs) ≡ false → IsValueNode (tree.map a cs) (flow_of (tree.map a cs))
unfolding flow_of node_text
map_is a cs h deep long = record {
  is_located = λ n rest ends. record { valid = written_node (tree.map a cs) false (Some (deeper n)) depth_limit rest h deep ends; something = refl };
  head = ap Some (written_tree (tree.map a cs) h);
  unnamed = refl;
  takes = refl;
  more = refl;
  keys = flow_fits (tree.map a cs) long;
  unmarked = λ rest sep. no_first 123 _ refl refl;
  line = λ e. absurd (false≢true e);
}
