use Rattle.std.proofs.Common.{◌≡◌, ◌+◌, ◌≤◌, ◌++◌, drop, length, string_bytes}
use Rattle.yq_history.{specs.DiffParts.{new_parts, old_parts}, specs.DiffPrinting.{open_of, opened, print_parts}}
use Rattle.yq_history.proofs.diff.open.push_hunks.Given as goal

-- what is printed so far, and what is printed of the parts that are left
abbrev pub invariant-parts : goal.invariant-parts
invariant-parts l = record {
  printed : string_bytes l.out ++ print_parts (open_of l.hunk) (drop l.part-index l.parts) ≡ string_bytes l.fn.out ++ print_parts (opened 0 0) l.parts;
  old_order : l.hunk.old_before ≤ l.hunk.old_at;
  new_order : l.hunk.new_before ≤ l.hunk.new_at;
  old_sum : l.hunk.old_at + length (old_parts (drop l.part-index l.parts)) ≡ length (old_parts l.parts);
  new_sum : l.hunk.new_at + length (new_parts (drop l.part-index l.parts)) ≡ length (new_parts l.parts);
}
