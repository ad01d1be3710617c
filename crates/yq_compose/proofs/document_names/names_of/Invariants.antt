use Rattle.std.proofs.Common.{◌≡◌, ℕ, ◌-◌, ◌≤◌, ◌++◌, drop}
use Rattle.yq_outline.{specs.Names.line_names, specs.Lines.lines_of_rows}
use Rattle.yq_compose.{specs.Ahead.IsAhead, specs.Checking.IsChecked, specs.Named.all_named}
use Rattle.yq_compose.proofs.document_names.names_of.Given as goal

-- the names so far come before those from here on, and what is made of a row that is no later is at hand
abbrev pub invariant-rows : goal.invariant-rows
invariant-rows l = record {
  ahead : (k : IsChecked l.x) → (n : ℕ) × (n ≤ l.i) × IsAhead l.x.decoded.now n l.decoded;
  names : (k : IsChecked l.x) → all_named l.names.items ++ line_names (lines_of_rows (drop (l.i - l.x.document.first) k.document.rows)) ≡ line_names (lines_of_rows k.document.rows);
}
