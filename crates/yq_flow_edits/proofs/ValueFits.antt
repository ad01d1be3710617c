-- What is written in flow style fits into a flow collection.
use Rattle.std.proofs.Common.{◌≡◌, inl, inr, ⊎_elim, ℕ, ◌≤◌, Bool, true, false, not, eqb, cond, List, ◌++◌, Some, refl, ap, rules}
use Rattle.std.{proofs.lemmas.Bool.{or_right, or_cases, not-true, and_parts}, specs.List.list_all, specs.Str.chars}
use Rattle.yq_core.{specs.declared.style.Style.Style, specs.Keys.depth, specs.PlainText.{is_plain_text, begins_marker}, specs.Quoted.last}
use Rattle.yq_core.{specs.Scalar.ScalarText, specs.Text.is_marker, specs.Writable.{can_write, can_write_plain, is_string, is_single_char}}
use Rattle.yq_core.{specs.Written.written_scalar, proofs.PlainSpells.{writable_text, writable_piece}}
use Rattle.yq_core.{proofs.WrittenLaws.{double_spells, single_spells}, specs.Alike.EndsItem}
use Rattle.yq_core.specs.Nodes.{scalar, node_text, is_close, is_empty_node, is_keyed, takes_anchor, IsFlowNode}
use Rattle.yq_core.{specs.Trees.{scalar_node, tree_of}, specs.NodesWritten.{scalar_text, flow_key, flow_of}, proofs.Alikes.no_first}
use Rattle.yq_core.proofs.EndLaws.{ends_plainly, ends_quote}
use Rattle.yq_flow_edits.{specs.FlowEdits.{FitsNode, FitsItem}, specs.Valued.{IsValid, IsLabel, IsValueTree}}
use Rattle.yq_flow_edits.proofs.ItemLaws.{Unmarked, ends_mark, marker_append}
use Rattle.yq_flow_edits.proofs.SpelledLaws.{no_bare, node_begins, written_node, items_fit, entries_fit}
use Rattle.yq_flow_edits.{proofs.SpelledScalars.plain_anywhere, proofs.StyledScalars.styled_spells}
use Rattle.yq_core.specs.declared.style.Place.TheVariants as places
use Rattle.yq_core.specs.declared.style.Style.TheVariants as styles
use Rattle.yq_core.specs.Tree as tree
use Rattle.yq_core.specs.Written as scalars
use Rattle.yq_flow_edits.proofs.SpelledLaws as spelled

plain_unmarked : (t rest : List ℕ) → is_plain_text true t ≡ true → Unmarked rest → is_marker (t ++ rest) ≡ false
plain_unmarked t rest h m = marker_append t rest (not-true (begins_marker t) (and_parts _ (not (begins_marker t)) h).1) m

written_unmarked : (s : ScalarText) (plain : Bool) (rest : List ℕ) → can_write_plain s true ≡ plain → IsValid s → Unmarked rest → is_marker (written_scalar (cond plain styles.Plain styles.Double) s.text ++ rest) ≡ false
written_unmarked s true rest h v m = plain_unmarked s.text rest (writable_text s.kind s.text true v.kind h) m
written_unmarked s false rest h v m = no_first 34 _ refl refl

value_unmarked : (v : tree.Node) (rest : List ℕ) → IsValueTree v → Unmarked rest → is_marker (node_text (flow_of v) rest) ≡ false
unfolding flow_of node_text scalar_text
value_unmarked (tree.alias n) rest h m = absurd h
value_unmarked (tree.scalar a kind t) rest h m =
    written_unmarked (record { kind = kind; text = t }) (can_write_plain (record { kind = kind; text = t }) true) rest refl h.1 m
value_unmarked (tree.list a cs) rest h m = no_first 91 _ refl refl
value_unmarked (tree.map a cs) rest h m = no_first 123 _ refl refl

value_takes : (v : tree.Node) → IsValueTree v → takes_anchor (flow_of v) ≡ true
unfolding flow_of
value_takes (tree.alias n) h = absurd h
value_takes _ h = refl

-- a value
pub value_fits : (k e : ℕ) (v : tree.Node) (rest : List ℕ) → is_close k ≡ true → EndsItem k rest → IsValueTree v → depth v ≤ e → FitsNode e (flow_of v) rest
value_fits k e v rest c ends h deep = search (rules, written_node, ends_plainly, no_bare, value_takes, value_unmarked, ends_mark)

-- a scalar in a style of one line
pub scalar_fits : (k e : ℕ) (s : ScalarText) (style : Style) (rest : List ℕ) → is_close k ≡ true → EndsItem k rest → IsValid s →
    scalars.IsOneLine style → can_write s style places.Flow ≡ true → FitsNode e (scalar (written_scalar style s.text)) rest
unfolding IsFlowNode node_text
scalar_fits k e s styles.Plain rest c ends v i h = record {
  is = inl (writable_piece s true (Some 0) rest v.utf8 v.kind h (ends_plainly (Some 0) k rest c ends));
  some = refl;
  takes = refl;
  unmarked = plain_unmarked s.text rest (writable_text s.kind s.text true v.kind h) (ends_mark k rest c ends);
}
scalar_fits k e s styles.Single rest c ends v i h =
    let p = and_parts (is_string s.kind) (list_all is_single_char (chars s.text)) h in
    let there = single_spells s.text rest v.utf8 p.1 (ends_quote k rest c ends) in
    record { is = inr ((39, (last there.chars, there.is)), refl); some = refl; takes = refl; unmarked = no_first 39 _ refl refl }
scalar_fits k e s styles.Double rest c ends v i h =
    let there = double_spells s.text rest v.utf8 in
    record { is = inr ((34, (last there.chars, there.is)), refl); some = refl; takes = refl; unmarked = no_first 34 _ refl refl }
scalar_fits k e s _ rest c ends v i h = absurd i

pub scalar_block : (s : ScalarText) (style : Style) → scalars.IsOneLine style → can_write s style places.Flow ≡ true → can_write s style places.Block ≡ true
scalar_block s style h1 h2 = search (rules, plain_anywhere)

pub scalar_same : (s : ScalarText) (style : Style) → IsValid s → scalars.IsOneLine style → can_write s style places.Flow ≡ true → tree_of (scalar (written_scalar style s.text)) ≡ scalar_node s
unfolding tree_of
scalar_same s style v i h = ap scalar_node (styled_spells s style v i (scalar_block s style i h)).same

-- an item or entry
pub fit_of : (k : ℕ) → is_close k ≡ true → spelled.Fits k (eqb k 125)
fit_of k h = search (rules, ⊎_elim, items_fit, entries_fit, or_cases)

pub item_fits : (k e : ℕ) (label : tree.Label) (v : tree.Node) (rest : List ℕ) → is_close k ≡ true → EndsItem k rest → IsLabel (eqb k 125) label → IsValueTree v → depth v ≤ e → FitsItem e k (flow_key label.key) (flow_of v) rest
item_fits k e label v rest c ends is h deep =
    let over = ends_plainly (Some 0) k rest c ends in
    record {
      key_is = ((fit_of k c).key label is (node_text (flow_of v) rest) (node_begins v rest h over)).0;
      some = or_right (is_keyed (flow_key label.key)) (not (is_empty_node (flow_of v))) (rw (no_bare v h) refl);
      is = written_node v true (Some 0) e rest h deep over;
    }
