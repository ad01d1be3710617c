-- The break that is written in a text (YAML 1.2.2, 5.4; own).
use Rattle.std.specs.Prelude.{ℕ, List, if◌then◌else◌}
use Rattle.yq_core.{specs.declared.block_types.Break.Break, specs.declared.block_types.Break.TheVariants.{Lf, CrLf}}
use Rattle.yq_core.specs.Text.{cut, front, ends_line, is_return}

-- the break that ends the first line of a text; LF where there is none (5.4; own)
abbrev pub first_break : List ℕ → Break
first_break t = if front is_return (cut ends_line t).1 then CrLf else Lf
