use Rattle.std.proofs.Common.{◌∙◌, length, map, ap}
use Rattle.yq_core.specs.Entries.{tree_step}
use Rattle.yq_batch.proofs.RemovalAnswers.{removals_begin}
use Rattle.yq_batch.proofs.head_removals.remove_in_heads.Goals as goal

pub remove_in_head-requires-clause-run : goal.remove_in_head-requires-clause-run
remove_in_head-requires-clause-run c =
    removals_begin c.args.cut.now c.args.found.doc (map tree_step c.args.found.stem.now) c.in_ok-run.run' c.text.ensures.read c.requires.head.leads (c.in_ok-run.ensures.text ∙ c.text.ensures.text)
    (c.in_ok-run.ensures.keep ∙ ap length c.text.ensures.text)

pub remove_in_row-requires-clause-run : goal.remove_in_row-requires-clause-run
remove_in_row-requires-clause-run c =
    removals_begin c.args.cut.now c.args.found.doc (map tree_step c.args.found.stem.now) c.in_ok-run.run' c.text.ensures.read c.requires.head.leads (c.in_ok-run.ensures.text ∙ c.text.ensures.text)
    (c.in_ok-run.ensures.keep ∙ ap length c.text.ensures.text)
