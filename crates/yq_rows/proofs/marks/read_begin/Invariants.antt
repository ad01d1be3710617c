use Rattle.std.{proofs.Common.{◌≡◌, ◌-◌, ◌≤◌, length, take, drop}, specs.Str.IsUtf8}
use Rattle.yq_row_table.{specs.Slicing.{begun, with_dashes}, specs.Reading.read_marks}
use Rattle.yq_rows.proofs.marks.read_begin.Given as goal

abbrev pub decreases-dashes : goal.decreases-dashes
decreases-dashes l = length l.rest

abbrev pub invariant-dashes : goal.invariant-dashes
invariant-dashes l = record {
  text : IsUtf8 l.rest;
  short : length l.rest ≤ length l.text;
  is_located : drop (length l.text - length l.rest) l.text ≡ l.rest;
  so_far : with_dashes (take (length l.text - length l.rest) l.text) (begun (read_marks l.rest)) ≡ begun (read_marks l.text);
}
