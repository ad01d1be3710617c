use Rattle.std.proofs.Common.{length, ltb, rules, refl, sym, ap, ◌∙◌, arith}
use Rattle.std.proofs.lemmas.List.Sorted.{IsPartitionPoint-from_clause, IsPartitionedBy-ltb}
use Rattle.std.proofs.lemmas.Option.{same_Some, slice_get_read, slice_get_within}
use Rattle.yq_documents.{specs.declared.decoded.Decoded.Decoded, proofs.DecodedLaws.{decoded_found, decoded_none, rises}}
use Rattle.yq_documents.proofs.of_row.decoded_at.Goals as goal

pub returns-then-at-decoded : goal.returns-then-at-decoded
returns-then-at-decoded c =
    let ms = c.args.decoded.now in
    let part = IsPartitionPoint-from_clause (λ m. ltb m.row c.args.row) _ _ c.partition_point-at.ensures.partitioned (IsPartitionedBy-ltb (λ m. m.row) _ c.args.row (rises 0 ms c.requires)) (λ a r q k. search rules) in
    decoded_none 0 ms c.args.row c.partition_point-at.result c.requires part (λ m e is. omega (arith, slice_get_within ms c.partition_point-at.result m e, c.if-at-decoded.true))

pub returns-then-found-row : goal.returns-then-found-row
returns-then-found-row c =
    let ms = c.args.decoded.now in
    let at = c.partition_point-at.result in
    let part = IsPartitionPoint-from_clause (λ m. ltb m.row c.args.row) _ _ c.partition_point-at.ensures.partitioned (IsPartitionedBy-ltb (λ m. m.row) _ c.args.row (rises 0 ms c.requires)) (λ a r q k. search rules) in
    let there = slice_get_read ms (length ms) at c.index-decoded-at.result refl (omega arith) c.index-decoded-at.is in
    decoded_none 0 ms c.args.row at c.requires part (λ m e is. c.if-found-row.true (ap (λ (y : Decoded). y.row) (same_Some _ _ (sym there ∙ e)) ∙ is))

pub returns : goal.returns
returns c =
    let ms = c.args.decoded.now in
    let at = c.partition_point-at.result in
    let part = IsPartitionPoint-from_clause (λ m. ltb m.row c.args.row) _ _ c.partition_point-at.ensures.partitioned (IsPartitionedBy-ltb (λ m. m.row) _ c.args.row (rises 0 ms c.requires)) (λ a r q k. search rules) in
    let there = slice_get_read ms (length ms) at c.index-decoded-at.result refl (omega arith) c.index-decoded-at.is in
    decoded_found ms c.args.row at c.index-decoded-at.result part there c.if-found-row.false
