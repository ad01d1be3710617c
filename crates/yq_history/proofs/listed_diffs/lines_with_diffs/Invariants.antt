use Rattle.std.proofs.Common.{◌≡◌, ◌≤◌, take, string_bytes}
use Rattle.yq_history.{specs.ListedDiffs.AreDiffLines, specs.ListedView.{bytes_of_some, exprs_of}, proofs.ListedLaws.{last_of, texts_to}}
use Rattle.yq_history.proofs.listed_diffs.lines_with_diffs.Given as goal

-- the lines so far are those of the records up to here, and the text is the one after these
abbrev pub invariant-records : goal.invariant-records
invariant-records l =
    let texts = texts_to l.state.at l.state.records l.fn.text.items l.i in
    record {
      begun : l.state.at ≤ l.i;
      near : bytes_of_some l.near ≡ last_of texts;
      printed : AreDiffLines l.file 0 l.state.at (exprs_of (take l.i l.state.records)) texts (string_bytes l.lines);
    }
