use Rattle.std.{proofs.Common.{◌∙◌, ap, map, List, ℕ}, specs.Borrow.Bor}
use Rattle.yq_core.specs.Keys.{are_distinct}
use Rattle.yq_expr_parser.proofs.Keys.{tested, keys_of_fields}
use Rattle.yq_expr_parser.proofs.parse.literal.keys_differ.Goals as goal

pub returns : goal.returns
returns c =
    let texts = λ (ks : List (Bor (List ℕ))). map (λ k. k.now) ks in
    tested c.are_distinct.result (texts c.deref_mut.result.now) c.are_distinct.ensures
    ∙ ap are_distinct (ap texts c.deref_mut.ensures.value ∙ c.in_ok-keys.ensures ∙ keys_of_fields c.args.fields.now.items)
