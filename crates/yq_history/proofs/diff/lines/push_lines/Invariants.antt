use Rattle.std.{proofs.Common.{◌≡◌, ◌+◌, ◌≤◌, ◌++◌, length, string_bytes}, specs.Str.IsUtf8}
use Rattle.yq_core.specs.Text.{text_lines}
use Rattle.yq_history.specs.DiffPrinting.{marked_lines}
use Rattle.yq_history.proofs.diff.lines.push_lines.Given as goal

abbrev pub invariant-lines : goal.invariant-lines
invariant-lines l = record {
  rest_text : IsUtf8 l.rest;
  within : l.count + length l.rest ≤ length l.text;
  so_far : l.count + length (text_lines l.rest) ≡ length (text_lines l.text);
  printed : string_bytes l.out ++ marked_lines l.mark (text_lines l.rest) ≡ string_bytes l.fn.out ++ marked_lines l.mark (text_lines l.text);
}

abbrev pub decreases-lines : goal.decreases-lines
decreases-lines l = length l.rest
