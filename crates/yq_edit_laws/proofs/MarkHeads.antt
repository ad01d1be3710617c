-- What is written after a key or dash and its anchor, or nothing: the text of another node there.
use Rattle.std.proofs.Common.{◌≡◌, ℕ, ℤ, true, false, cond, List, [], ◌++◌, append_assoc, append-nil, rules}
use Rattle.std.proofs.lemmas.Bool.{false≢true}
use Rattle.yq_core.{specs.Text.is_empty, specs.Nodes.{node_text, IsFlowNode}, proofs.NodesPieceLaws.scalar_some}
use Rattle.yq_row_table.{specs.Grammar.IsContent, specs.Rows.{Content, content_text}, specs.Seams.is_block, specs.View.content_cut}
use Rattle.yq_edit_rules.proofs.CoreLaws.{put_core, empty_gap}
use Rattle.yq_core.specs.Nodes as inline

-- what is no block scalar has no raw lines
pub no_raw : (x : Content) → is_block x ≡ false → (content_cut x).5 ≡ []
no_raw x h1 = search (rules, false≢true)

-- where nothing is written there is no white space before it
pub none_written : (n : ℤ) (x : Content) (rest : List ℕ) → IsContent n x rest → is_empty (content_cut x).3 ≡ true → cond (is_empty (content_cut x).1) (content_cut x).0 (content_cut x).2 ≡ []
unfolding IsFlowNode node_text
none_written n x rest h1 h2 = search (rules, false≢true, scalar_some, empty_gap)

-- another node in the place of what is written, after its anchor and the same white space
pub core_text : (b : List ℕ) (core : inline.FlowNode) (n : ℤ) (x : Content) (old z : List ℕ) → IsContent n x old → is_block x ≡ false → is_empty (content_cut x).3 ≡ false →
    b ++ content_text (put_core core x) z
    ≡ (b ++ cond (is_empty (content_cut x).1) [] ((content_cut x).0 ++ (content_cut x).1)) ++ (cond (is_empty (content_cut x).1) (content_cut x).0 (content_cut x).2 ++ node_text core ((content_cut x).4 ++ z))
unfolding IsFlowNode node_text
core_text b core n x old z h1 h2 h3 = search (rules, false≢true, append-nil, append_assoc)
