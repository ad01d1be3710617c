use Rattle.std.proofs.Common.{◌≡◌, ◌∙◌, List, ℕ, subst, arith}
use Rattle.yq_documents.specs.Reading.{cut_of}
use Rattle.yq_batch.{specs.OpenRows.MayDo, proofs.RowOpenAnswers.{operand_at, puts_set}}
use Rattle.yq_batch.proofs.any_row.puts_inside.Goals as goal

pub change_inside-requires : goal.change_inside-requires
change_inside-requires c = operand_at c.args.ops.now _ c.index-ops-number.result c.index-ops-number.is (omega (arith, c.if-number-ops.false)) c.requires

pub rows-preserved : goal.rows-preserved
rows-preserved c =
    let same : c.rows.way ≡ c.args.cut.now = c.rows.invariant.same in
    record {
      same = c.in_ok-found.ensures.same ∙ same;
      puts = λ e is.
          puts_set (cut_of c.args.cut.now) c.args.doc e c.args.ops.now c.rows.changes.items _ c.index-ops-number.result c.in_ok-found.found (c.rows.invariant.puts e is) c.index-ops-number.is (omega (arith, c.if-number-ops.false))
          (subst (λ (u : List ℕ). MayDo u c.args.doc c.args.end.now c.index-ops-number.result c.in_ok-found.found) same c.in_ok-found.ensures.puts e is);
    }
