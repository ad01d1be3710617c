use Rattle.std.{proofs.Common.{◌≡◌, ◌++◌}, specs.Str.IsUtf8}
use Rattle.yq_core.specs.Text.{text_lines}
use Rattle.yq_history.specs.DiffParts.{new_parts, old_parts}
use Rattle.yq_history.proofs.diff.parts.parts_of.Given as goal

-- the parts so far, and what follows them
abbrev pub invariant-steps : goal.invariant-steps
invariant-steps l = record {
  old_text : IsUtf8 l.old;
  new_text : IsUtf8 l.new;
  old_lines : old_parts l.parts.items ++ text_lines l.old ≡ text_lines l.fn.old;
  new_lines : new_parts l.parts.items ++ text_lines l.new ≡ text_lines l.fn.new;
}
