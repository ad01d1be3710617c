use Rattle.std.{proofs.Common.{ltb, rules, arith, subst, sym}, proofs.lemmas.List.take_rest}
use Rattle.std.proofs.lemmas.List.Sorted.{IsPartitionPoint-from_clause, IsPartitionedBy-ltb}
use Rattle.yq_documents.proofs.DecodedLaws.{rises}
use Rattle.yq_compose.{specs.Ahead.IsAhead, proofs.AheadLaws.{ahead_all, ahead_found}}
use Rattle.yq_compose.proofs.ahead.ahead_from.Goals as goal

pub returns : goal.returns
returns c =
    let ms = c.args.decoded.now in
    let at = c.partition_point-at.result in
    let part = IsPartitionPoint-from_clause (λ m. ltb m.row c.args.row) _ _ c.partition_point-at.ensures.partitioned (IsPartitionedBy-ltb (λ m. m.row) _ c.args.row (rises 0 ms c.requires)) (λ a r q k. search rules) in
    subst (IsAhead ms c.args.row) (sym (take_rest ms at)) (ahead_found ms 0 ms c.args.row at (ahead_all ms c.requires) (omega arith) part)
