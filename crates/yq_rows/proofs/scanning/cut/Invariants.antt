use Rattle.std.{proofs.Common.{◌≡◌, ◌-◌, [], length, true}, specs.Str.IsUtf8}
use Rattle.yq_row_table.{specs.Ends.{EndsAreLocated, bounds_in}, specs.Kept.{ends_placed, parts_placed}}
use Rattle.yq_row_table.{specs.Slicing.{read_view, parts_sliced}, specs.Offsets.{Ends, AreRowsIn, rows_in}, specs.Reading.all_parts}
use Rattle.yq_row_table.specs.WordRows.{AreOtherRows}
use Rattle.yq_rows.proofs.scanning.cut.Given as goal

abbrev pub decreases-parts : goal.decreases-parts
decreases-parts l = length l.rest

abbrev pub invariant-parts : goal.invariant-parts
invariant-parts l = record {
  text : IsUtf8 l.rest;
  ends : Ends l.rest l.text;
  are_there : AreRowsIn l.text l.rows.items;
  ends_are_there : EndsAreLocated l.text l.ends.items;
  so_far : parts_sliced (rows_in l.text l.rows.items) (bounds_in l.text l.ends.items) (all_parts l.is_open l.rest) ≡ read_view (all_parts true l.text);
  placed : parts_placed l.rows.items (length l.text - length l.rest) (all_parts l.is_open l.rest) ≡ parts_placed [] (length l.text - length l.text) (all_parts true l.text);
  ends_placed : ends_placed l.ends.items (length l.text - length l.rest) (length l.rows.items) (all_parts l.is_open l.rest) ≡ ends_placed [] (length l.text - length l.text) 0 (all_parts true l.text);
  others : l.noted ≡ true → AreOtherRows (rows_in l.text l.rows.items) 0 l.notes.others.items;
}
