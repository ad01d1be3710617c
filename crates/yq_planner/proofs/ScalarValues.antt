-- The node of a scalar of the code.
use Rattle.std.proofs.Common.{rules, ◌≡◌, None}
use Rattle.yq_core.{specs.Scalar.ScalarText, specs.Tree.scalar, specs.Values.value_node, specs.declared.value.Value.the_lemmas}
use Rattle.yq_core.specs.declared.value.Value.TheVariants as values

pub scalar_value : (s : ScalarText) → value_node (values.Scalar s) ≡ scalar None s.kind s.text
scalar_value s = search (rules, the_lemmas)
