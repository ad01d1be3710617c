use Rattle.std.proofs.Common.{◌≡◌, ◌≤◌, drop, take, length}
use Rattle.yq_history.{specs.ListedDiffs.{AreDiffLines, texts_back}, specs.ListedView.{backwards, bytes_of_some, exprs_of}}
use Rattle.yq_history.proofs.ListedLaws.{first_text}
use Rattle.yq_history.proofs.listed_diffs.done_lines.Given as goal

-- the lines so far are those of the records from here to the cursor, and the text is the one before these
abbrev pub invariant-records : goal.invariant-records
invariant-records l =
    let records = drop l.left (take l.state.at l.state.records) in
    record {
      within : l.left ≤ l.state.at;
      there : l.left ≤ length l.state.records;
      near : bytes_of_some l.near ≡ first_text (texts_back records l.text);
      printed : AreDiffLines l.file l.left l.state.at (exprs_of records) (texts_back records l.text) (backwards l.lines.items);
    }

abbrev pub decreases-records : goal.decreases-records
decreases-records l = l.left
