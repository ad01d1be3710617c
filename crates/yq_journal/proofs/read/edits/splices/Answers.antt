use Rattle.std.proofs.Common.{◌+◌, ◌++◌, drop, option_map, sym, ap, ◌∙◌, arith}
use Rattle.serde_json.specs.View.{items_view}
use Rattle.yq_journal.{specs.Json.{each_of, splice_of}, proofs.JsonLaws.{read_all, read_more, read_none}}
use Rattle.yq_journal.proofs.read.edits.splices.Goals as goal

pub values-preserved : goal.values-preserved
values-preserved c =
    ap (λ l. option_map (λ ys. l ++ ys) (each_of splice_of (items_view (drop (c.values.entry-index + 1) c.deref-entry-items.result.now)))) c.in_ok-push-in-Some-2.ensures.items
    ∙ read_more splice_of c.deref-entry-items.result.now c.values.entry-index c.entry-item.result c.values.found.items c.in-Some-2.splice _ (omega arith) c.entry-item.is
    (sym c.in_ok-splice.ensures ∙ c.in-Some-2.is) c.values.invariant

pub returns-in-None : goal.returns-in-None
returns-in-None c =
    read_none splice_of c.deref-entry-items.result.now c.values.entry-index c.entry-item.result c.values.found.items _ (omega arith) c.entry-item.is
    (sym c.in_ok-splice.ensures ∙ c.in-None.is) c.values.invariant

pub returns : goal.returns
returns c = read_all splice_of c.deref-entry-items.result.now c.values.entry-index c.values.found.items _ (omega arith) c.values.invariant
