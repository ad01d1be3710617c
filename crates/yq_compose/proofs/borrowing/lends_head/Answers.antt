use Rattle.std.{proofs.Common.{sym, ap, ◌∙◌, arith}, proofs.lemmas.Bool.leb-true}
use Rattle.yq_documents.specs.Decoded.{borrowed_depth, opens_collection}
use Rattle.yq_compose.proofs.BorrowedHeads.{deeper_head}
use Rattle.yq_compose.proofs.borrowing.lends_head.Goals as goal

pub returns-in-Some : goal.returns-in-Some
returns-in-Some c = λ yes.
    let p = c.in-Some.ensures in
    record {
      opens = ap opens_collection (sym c.as_bytes.ensures.value) ∙ (sym c.opens_collection.ensures ∙ c.if-not-opens_collection.false);
      passes = (omega arith, (p.1.0, deeper_head c.in-Some.depth borrowed_depth c.args.text.now p.1.0 (leb-true _ _ yes) p.1.1));
    }
