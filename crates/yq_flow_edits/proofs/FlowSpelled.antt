-- What is written in flow style spells an entry, or a scalar, of a flow collection.
use Rattle.std.{proofs.Common.{◌≡◌, ℕ, true, List, [], ◌∷◌, ◌++◌, Some, refl, sym, ap, ◌∙◌, append_assoc}, specs.Str.IsUtf8}
use Rattle.yq_core.{specs.declared.style.Style.Style, specs.Scalar.{ScalarText, string_of}, specs.Tree.key_label, specs.Writable.can_write}
use Rattle.yq_core.{specs.NodesWritten.{scalar_text, flow_key, flow_of, flow_text, entry_text}, proofs.NodesWrittenLaws.node_then}
use Rattle.yq_flow_edits.{specs.FlowValues.{SpellsEntry, SpellsInFlow}, specs.Valued.{IsValid, IsValueTree}}
use Rattle.yq_flow_edits.{proofs.SpelledLaws.{written_tree, entries_fit}, proofs.StyledScalars.styled_spells}
use Rattle.yq_flow_edits.proofs.ValueFits.{item_fits, scalar_fits, scalar_block}
use Rattle.yq_core.specs.declared.style.Place.TheVariants as places
use Rattle.yq_core.specs.Tree as tree
use Rattle.yq_core.specs.Written as scalars

pub entry_spells : (k : List ℕ) (v : tree.Node) → IsUtf8 k → IsValueTree v → SpellsEntry k v (entry_text (k, v))
entry_spells k v utf8 is = record {
  key = flow_key (Some k);
  node = flow_of v;
  written = λ rest. ap (λ l. front ++ (58 ∷ (32 ∷ l))) (node_then (flow_of v) rest) ∙ (sym (append_assoc front (58 ∷ (32 ∷ [])) (flow_text v ++ rest)) ∙ sym (append_assoc (front ++ (58 ∷ (32 ∷ []))) (flow_text v) rest));
  is_located = λ d rest deep ends. item_fits 125 d (key_label (Some k)) v rest refl ends (k, refl, utf8) is deep;
  same_key = ap (λ (l : tree.Label). l.key) (entries_fit.same (key_label (Some k)) (k, refl, utf8));
  same = written_tree v is;
} where
  front : List ℕ
  front = scalar_text (string_of k) places.FlowKey

pub scalar_in_flow : (s : ScalarText) (style : Style) → IsValid s → scalars.IsOneLine style → can_write s style places.Flow ≡ true → SpellsInFlow s (scalars.written_scalar style s.text)
scalar_in_flow s style v i h =
    let block = styled_spells s style v i (scalar_block s style i h) in
    record { same = block.same; utf8 = block.utf8; text = block.text; line = block.line; fits = λ k d rest c ends. scalar_fits k d s style rest c ends v i h }
