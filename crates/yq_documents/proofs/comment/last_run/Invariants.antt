use Rattle.std.{proofs.Common.{◌≡◌, length}, specs.Str.IsUtf8}
use Rattle.yq_core.specs.Text.{text_lines}
use Rattle.yq_documents.proofs.RunLaws.{run_or}
use Rattle.yq_documents.specs.Pieces as pieces
use Rattle.yq_documents.proofs.comment.last_run.Given as goal

-- the run is what is here, if the lines after it are comments
abbrev pub invariant-lines : goal.invariant-lines
invariant-lines l = record {
  run_text : IsUtf8 l.run;
  rest_text : IsUtf8 l.rest;
  so_far : pieces.last_run (text_lines l.gap) ≡ run_or (text_lines l.run) (text_lines l.rest);
}

abbrev pub decreases-lines : goal.decreases-lines
decreases-lines l = length l.rest
