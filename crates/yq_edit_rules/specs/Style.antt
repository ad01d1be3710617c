-- How a scalar is written in the place of another.
use Rattle.std.{specs.Prelude.{ℕ, Bool, ◌&&◌, ◌==◌, if◌then◌else◌}, specs.Str.bytes_eq}
use Rattle.yq_core.{specs.declared.kind.Kind.Kind, specs.Scalar.ScalarText, specs.Writable.can_write, specs.declared.style.Place.Place}
use Rattle.yq_core.{specs.declared.style.Style.Style, specs.NodesWritten.written_style}
use Rattle.yq_core.specs.declared.kind.Kind.TheVariants as kinds

-- the row of the core schema's table that a kind has, from 0 (YAML 1.2.2, section 10.3.2)
abbrev pub table_row : Kind → ℕ
table_row kinds.Null = 0
table_row kinds.Bool = 1
table_row kinds.Int = 2
table_row kinds.Float = 3
table_row kinds.Text = 4

-- whether two scalars are equal: their kinds and their texts are (YAML 1.2.2, section 3.2.1.3)
abbrev pub is_same : ScalarText → ScalarText → Bool
is_same a b = table_row a.kind == table_row b.kind && bytes_eq a.text b.text

-- the style in which a scalar is written in a place that has one of a style: in that style if it can be, else plain if it can be, else in double quotes (own)
abbrev pub style_in : Place → ScalarText → Style → Style
style_in place s old = if can_write s old place then old else written_style s place
