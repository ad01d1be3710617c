use Rattle.std.{proofs.Common.{◌≡◌, ◌++◌, length}, specs.Str.IsUtf8, specs.String.string_bytes}
use Rattle.yq_core.specs.Text.{text_lines, joined}
use Rattle.yq_core.specs.BlockRepair as spec
use Rattle.yq_scalar.proofs.block_repair.push_gap.Given as goal

abbrev pub decreases-each : goal.decreases-each
decreases-each l = length l.rest

abbrev pub invariant-each : goal.invariant-each
invariant-each l = record {
  utf8 : IsUtf8 l.rest;
  so_far : string_bytes l.out ++ joined (spec.repair l.keep l.indent l.column (text_lines l.rest)) ≡ string_bytes l.fn.out ++ joined (spec.repair l.keep l.indent l.column (text_lines l.gap));
}
