use Rattle.std.{proofs.Common.{◌≡◌, ◌++◌, ◌∙◌, arith, drop, take}, proofs.lemmas.Result.IfOk-weaker}
use Rattle.yq_row_table.specs.PartEnds.{ends_exchanged}
use Rattle.yq_rows.{specs.Exchanging.joined_ends, specs.Sides.origin, proofs.ExchangeLaws.ends_shifted}
use Rattle.yq_rows.proofs.exchanging.exchange_ends.Goals as goal

pub returns-clause-ok : goal.returns-clause-ok
returns-clause-ok c =
    let front = c.args.front in
    let old = c.args.old in
    let new = c.args.new in
    let es = c.args.ends.now in
    let found = c.args.found.now in
    let come = ends_shifted origin front found (omega arith) (omega arith) c.requires.found in
    let later = ends_shifted old new (drop old.ends es) (omega arith) (omega (arith, c.requires.small)) c.requires.after in
    let all : ends_exchanged front.ends old.ends c.shift.result c.shift-2.result es found ≡ joined_ends front old new es found =
    (λ i. ends_exchanged front.ends old.ends (c.shift.ensures i) (c.shift-2.ensures i) es found) ∙ (λ i. take front.ends es ++ (come i ++ later i)) in
    IfOk-weaker c.exchange.result _ _ (λ _ h. h ∙ all) c.exchange.ensures.ok
