-- Whether a value is the scalar that is there (YAML 1.2.2, 3.2.1; own).
use Rattle.std.{specs.Prelude.{ℕ, ◌==◌, ◌||◌, List, Option, Some, None, Bool, false}, specs.Str.bytes_eq}
use Rattle.yq_core.{specs.Answers.◌>>=◌, specs.Scalar.ScalarText, specs.Tree.Node, specs.declared.kind.Kind.TheVariants.Null}
use Rattle.yq_places.specs.NodesAt.{scalar_in}
use Rattle.yq_edit_rules.specs.Style.{is_same, table_row}

-- whether there are two scalars, and they are equal (own)
abbrev pub are_same : Option ScalarText → Option ScalarText → Bool
are_same None b = false
are_same (Some a) None = false
are_same (Some a) (Some b) = is_same a b

-- whether a value is a scalar equal to the node that is there, if one is (own)
abbrev pub keeps_scalar : Option Node → Node → Bool
keeps_scalar old v = are_same (old >>= scalar_in) (scalar_in v)

-- whether a plain text on one line may mean a scalar: that is null, or its text (own)
abbrev pub may_spell : List ℕ → ScalarText → Bool
may_spell t s = table_row s.kind == table_row Null || bytes_eq t s.text
