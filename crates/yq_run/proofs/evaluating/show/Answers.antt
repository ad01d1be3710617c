use Rattle.yq_semantics.specs.View.{program_of}
use Rattle.yq_commands.{specs.Evaluation.shows, proofs.ShowLaws.read_shows}
use Rattle.yq_run.proofs.evaluating.show.Goals as goal

pub returns-then-is_read-clause-ok : goal.returns-then-is_read-clause-ok
returns-then-is_read-clause-ok c = read_shows c.args.file.now (shows c.args.options (program_of c.args.program.now) c.args.text.now) c.show_read.result c.show_read.ensures.ok
