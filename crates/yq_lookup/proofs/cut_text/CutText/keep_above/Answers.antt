use Rattle.std.{proofs.Common.subst, specs.Prelude.IfSome}
use Rattle.yq_documents.specs.Reading.{cut_of}
use Rattle.yq_row_table.specs.View.{rows_view}
use Rattle.yq_row_walk.specs.Walk.{IsLineAbove}
use Rattle.yq_lookup.proofs.cut_text.CutText.keep_above.Goals as goal

pub keep_line-requires : goal.keep_line-requires
keep_line-requires c = subst (λ o. IfSome o (IsLineAbove (rows_view (cut_of c.args.self.now)))) c.in-Some.is c.requires
