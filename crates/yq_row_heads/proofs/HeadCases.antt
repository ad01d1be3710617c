-- The head of a row by cases: nothing, a block scalar, a quoted one, a plain one on one line, and any other inline node.
use Rattle.std.proofs.Common.{◌≡◌, ℕ, ℤ, List, [], ◌∷◌, true, false, length, Option, Some, None, refl, sym, subst, ◌∙◌, rules}
use Rattle.std.{specs.Prelude.◌==◌, proofs.lemmas.Bool.{cond-true, cond-false}}
use Rattle.yq_core.{specs.Answers.{ReadFails, ReadError}, specs.declared.fault.ReadFault.ReadFault, specs.Scalar.plain_of}
use Rattle.yq_core.{specs.Text.is_empty, specs.Scalars.{is_quoted, scalar_content}, specs.Trees.scalar_node}
use Rattle.yq_documents.specs.FlowReading.{head_flow_at, node_flow_at}
use Rattle.yq_documents.specs.RowReading.{block_head_at, read_head, is_block_head, is_short_plain, node_head_at, string_head}
use Rattle.yq_failure.specs.declared.failure.Failure.TheVariants as reading

-- what reads has no fault
pub no_fault : {Y : Type 0} (e : ReadError) (f : ReadFault) (read : Option Y) (y : Y) → e ≡ reading.Fault f → ReadFails e read → read ≡ Some y → ⊥
no_fault {Y} e f read y is fails some =
    let none : read ≡ None = subst (λ (x : ReadError). ReadFails x read) is fails in
    let no : Some y ≡ None = sym some ∙ none in
    absurd cc

pub same_empty : (t : List ℕ) → (length t == 0) ≡ is_empty t
same_empty [] = refl
same_empty (b ∷ bs) = search rules

module _ (whole : List ℕ) (n : ℤ) (head t : List ℕ) (some : is_empty head ≡ false) where
  pub block_head : is_block_head head ≡ true → read_head whole n head t ≡ block_head_at n t
  unfolding read_head
  block_head b = cond-false _ _ _ some ∙ cond-true _ _ _ b

  pub block_flow : is_block_head head ≡ true → head_flow_at whole n head t ≡ None
  unfolding head_flow_at
  block_flow b = cond-false _ _ _ some ∙ cond-true _ _ _ b

module _ (whole : List ℕ) (n : ℤ) (head t : List ℕ) (some : is_empty head ≡ false) (inline : is_block_head head ≡ false) where
  pub quoted_head : is_quoted head ≡ true → read_head whole n head t ≡ Some (string_head (scalar_content head))
  unfolding read_head
  quoted_head q = cond-false _ _ _ some ∙ cond-false _ _ _ inline ∙ cond-true _ _ _ q

  pub quoted_flow : is_quoted head ≡ true → head_flow_at whole n head t ≡ None
  unfolding head_flow_at
  quoted_flow q = cond-false _ _ _ some ∙ cond-false _ _ _ inline ∙ cond-true _ _ _ q

  pub plain_head : is_quoted head ≡ false → is_short_plain head ≡ true → read_head whole n head t ≡ Some (Some (scalar_node (plain_of head)))
  unfolding read_head
  plain_head q p = cond-false _ _ _ some ∙ cond-false _ _ _ inline ∙ cond-false _ _ _ q ∙ cond-true _ _ _ p

  pub plain_flow : is_quoted head ≡ false → is_short_plain head ≡ true → head_flow_at whole n head t ≡ None
  unfolding head_flow_at
  plain_flow q p = cond-false _ _ _ some ∙ cond-false _ _ _ inline ∙ cond-false _ _ _ q ∙ cond-true _ _ _ p

  pub node_head : is_quoted head ≡ false → is_short_plain head ≡ false → read_head whole n head t ≡ node_head_at whole n t
  unfolding read_head
  node_head q p = cond-false _ _ _ some ∙ cond-false _ _ _ inline ∙ cond-false _ _ _ q ∙ cond-false _ _ _ p

  pub node_flow : is_quoted head ≡ false → is_short_plain head ≡ false → head_flow_at whole n head t ≡ node_flow_at whole n t
  unfolding head_flow_at
  node_flow q p = cond-false _ _ _ some ∙ cond-false _ _ _ inline ∙ cond-false _ _ _ q ∙ cond-false _ _ _ p
