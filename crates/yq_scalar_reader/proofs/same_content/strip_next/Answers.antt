use Rattle.std.proofs.Common.{◌++◌, ℕ, List, [], ap, ◌∙◌, bytes_eq, rules}
use Rattle.yq_core.{specs.ContentReading.{content_on, before_of, within}, proofs.FoldLaws.{content_next, gap_next, space_ends}}
use Rattle.yq_core.proofs.ItemLaws.{cut_within, shorter_still}
use Rattle.yq_scalar_reader.{specs.Folded.folded_text, proofs.SameContentLaws.{same_after, other_front}}
use Rattle.yq_scalar_reader.proofs.same_content.strip_next.Goals as goal

pub fold_item-item-requires : goal.fold_item-item-requires
fold_item-item-requires c = search (rules, space_ends)

pub returns-in_err-after-clause-same : goal.returns-in_err-after-clause-same
returns-in_err-after-clause-same c =
    let gap : List ℕ = folded_text c.fold_gap.result in
    let tail : List ℕ = content_on c.args.quote 0 within [] c.split_space.result.1.now in
    rw c.from_residual.ensures (ap (λ l. bytes_eq l c.args.wanted.now) (gap_next c.args.quote c.args.joined c.args.text.now _ _ gap c.split_space.ensures c.fold_gap.ensures)
    ∙ other_front gap tail c.args.wanted.now c.in_err-after.ensures)

pub returns-in_err-left-clause-same : goal.returns-in_err-left-clause-same
returns-in_err-left-clause-same c =
    let gap : List ℕ = folded_text c.fold_gap.result in
    let front : List ℕ = folded_text c.fold_item-item.result.folded in
    let tail : List ℕ = content_on c.args.quote 0 (before_of c.fold_item-item.result.joined) [] c.fold_item-item.result.rest.now in
    rw c.from_residual-in_err-left.ensures
    (ap (λ l. bytes_eq l c.args.wanted.now)
    (content_next c.args.quote c.args.joined c.fold_item-item.result.joined c.args.text.now _ _ _ gap front c.split_space.ensures
    c.fold_gap.ensures c.fold_item-item.ensures.value)
    ∙ (same_after gap (front ++ tail) c.args.wanted.now _ c.in_ok-after.ensures
    ∙ other_front front tail _ c.in_err-left.ensures))

pub returns-clause-same : goal.returns-clause-same
returns-clause-same c =
    let gap : List ℕ = folded_text c.fold_gap.result in
    let front : List ℕ = folded_text c.fold_item-item.result.folded in
    let tail : List ℕ = content_on c.args.quote 0 (before_of c.fold_item-item.result.joined) [] c.fold_item-item.result.rest.now in
    ap (λ l. bytes_eq l c.args.wanted.now) (content_next c.args.quote c.args.joined c.fold_item-item.result.joined c.args.text.now _ _ _ gap front c.split_space.ensures c.fold_gap.ensures c.fold_item-item.ensures.value)
    ∙ (same_after gap (front ++ tail) c.args.wanted.now _ c.in_ok-after.ensures
    ∙ same_after front tail _ _ c.in_ok-left.ensures)

pub returns-clause-shorter : goal.returns-clause-shorter
returns-clause-shorter c = search (rules, cut_within, shorter_still)
