use Rattle.std.{proofs.Common.{◌≡◌, ◌+◌, ◌-◌, ◌≤◌, ◌^◌, length, min}, specs.Str.IsUtf8}
use Rattle.yq_core.specs.Text.{text_lines, joined}
use Rattle.yq_core.specs.BlockWritten as spec
use Rattle.yq_scalar.proofs.block_written.written_len.Given as goal

abbrev pub decreases-each : goal.decreases-each
decreases-each l = length l.rest

abbrev pub invariant-each : goal.invariant-each
invariant-each l = record {
  utf8 : IsUtf8 l.rest;
  fits : l.len ≤ 2 ^ 64 - 1;
  so_far : min (l.len + length (joined (spec.raw_written l.indent (spec.break_text l.br) (text_lines l.rest)))) (2 ^ 64 - 1) ≡ min (length (joined (spec.raw_written l.indent (spec.break_text l.br) (text_lines l.text)))) (2 ^ 64 - 1);
}
