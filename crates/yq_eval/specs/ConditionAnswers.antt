-- What is compared in conditions, by values of the code (own).
use Rattle.std.specs.Prelude.{ℕ, Bool, List, Option, Some, None, map}
use Rattle.yq_core.{specs.Scalar.ScalarText, specs.SchemaReading.int_value, specs.Tree.Node}
use Rattle.yq_semantics.specs.Conditions.{condition_holds, first_equals, is_scalar, operand_is, same_int}
use Rattle.yq_semantics.{specs.Judgement.{Judgement, gives, refuses}, specs.declared.refusal.Refusal.TheVariants.ThroughAlias}
use Rattle.yq_semantics.{specs.Places.FoundPlace, specs.Program.value_at, specs.View.{condition_of, operand_of, program_step}}
use Rattle.yq_semantics.{specs.declared.program.Condition.Condition, specs.declared.program.Comparison.Comparison}
use Rattle.yq_semantics.specs.declared.program.PathStep.{PathStep}

-- whether texts are the same integer, or the same text where one of them is none
abbrev pub are_same_ints : List ℕ → List ℕ → Bool
are_same_ints one other = same_int (int_value one) (int_value other) one other

-- whether a node is a scalar
abbrev pub is_that_scalar : ScalarText → Node → Judgement Bool
is_that_scalar s n = is_scalar s.kind s.text n

-- whether the first of places is a scalar
abbrev pub first_is_that : ScalarText → List FoundPlace → Judgement Bool
first_is_that s ps = first_equals s.kind s.text ps

-- whether what is compared is the scalar of a comparison, at a place of the document of that number
abbrev pub equals_scalar : ℕ → Comparison → FoundPlace → Judgement Bool
equals_scalar doc c p = operand_is doc (operand_of c.operand) c.scalar.kind c.scalar.text p

-- whether the value to which steps lead from a place is a scalar
abbrev pub value_equals : List PathStep → ScalarText → FoundPlace → Judgement Bool
value_equals steps s p = operand_is 0 (value_at (map program_step steps)) s.kind s.text p

-- what is known of a node, or the refusal of an alias
abbrev pub unless_alias : Option Bool → Judgement Bool
unless_alias (Some b) = gives b
unless_alias None = refuses ThroughAlias

-- whether a condition holds at a place of the document of that number
abbrev pub holds_at : ℕ → Condition → FoundPlace → Judgement Bool
holds_at doc condition p = condition_holds doc (condition_of condition) p
