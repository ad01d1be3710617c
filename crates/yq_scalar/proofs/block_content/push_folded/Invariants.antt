use Rattle.std.{proofs.Common.{◌≡◌, ◌++◌, ◌+◌, ◌≤◌, length}, specs.Str.IsUtf8, specs.String.string_bytes}
use Rattle.yq_core.{specs.Text.text_lines, specs.declared.block_types.LineBefore.TheVariants.Nothing}
use Rattle.yq_core.specs.BlockContent as spec
use Rattle.yq_scalar.proofs.block_content.push_folded.Given as goal

abbrev pub decreases-each : goal.decreases-each
decreases-each l = length l.rest

abbrev pub invariant-each : goal.invariant-each
invariant-each l = record {
  utf8 : IsUtf8 l.rest;
  few : l.empty + length l.rest ≤ length l.raw;
  so_far : string_bytes l.out ++ spec.folded l.chomping l.indent l.before l.empty (text_lines l.rest) ≡ string_bytes l.fn.out ++ spec.folded l.chomping l.indent Nothing 0 (text_lines l.raw);
}
