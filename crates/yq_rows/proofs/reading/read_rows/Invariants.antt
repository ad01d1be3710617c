use Rattle.std.{proofs.Common.{◌≡◌, ◌-◌, length, true}, specs.Str.IsUtf8}
use Rattle.yq_row_table.{specs.Grammar.unlimited, specs.Kept.rows_placed, specs.Slicing.rows_sliced}
use Rattle.yq_row_table.{specs.Offsets.{Ends, AreRowsIn, rows_in}, specs.Reading.all_rows, specs.WordRows.AreOtherRows}
use Rattle.yq_rows.specs.ReadPieces.{limit_view}
use Rattle.yq_rows.proofs.reading.read_rows.Given as goal

abbrev pub decreases-rows : goal.decreases-rows
decreases-rows l = length l.at

abbrev pub invariant-rows : goal.invariant-rows
invariant-rows l = record {
  text : IsUtf8 l.at;
  ends : Ends l.at l.whole;
  are_there : AreRowsIn l.whole l.rows.items;
  so_far : rows_sliced (rows_in l.whole l.rows.items) (all_rows (limit_view l.limit) l.at) ≡ rows_sliced (rows_in l.whole l.fn.rows.items) (all_rows unlimited l.text);
  placed : rows_placed l.rows.items (length l.whole - length l.at) (all_rows (limit_view l.limit) l.at) ≡ rows_placed l.fn.rows.items (length l.whole - length l.text) (all_rows unlimited l.text);
  others : l.noted ≡ true → AreOtherRows (rows_in l.whole l.fn.rows.items) 0 l.fn.notes.others.items → AreOtherRows (rows_in l.whole l.rows.items) 0 l.notes.others.items;
}
