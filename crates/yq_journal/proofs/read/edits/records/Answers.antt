use Rattle.std.proofs.Common.{◌+◌, ◌++◌, drop, option_map, sym, ap, ◌∙◌, arith}
use Rattle.serde_json.specs.View.{items_view}
use Rattle.yq_journal.{specs.Json.{each_of, record_of}, proofs.JsonLaws.{read_all, read_more, read_none}}
use Rattle.yq_journal.proofs.read.edits.records.Goals as goal

pub values-preserved : goal.values-preserved
values-preserved c =
    ap (λ l. option_map (λ ys. l ++ ys) (each_of (record_of c.args.counted) (items_view (drop (c.values.entry-index + 1) c.deref-entry-items.result.now)))) c.in_ok-push-in-Some-2.ensures.items
    ∙ read_more (record_of c.args.counted) c.deref-entry-items.result.now c.values.entry-index c.entry-item.result c.values.found.items c.in-Some-2.record _ (omega arith) c.entry-item.is
    (sym c.in_ok-record.ensures ∙ c.in-Some-2.is) c.values.invariant

pub returns-in-None : goal.returns-in-None
returns-in-None c =
    read_none (record_of c.args.counted) c.deref-entry-items.result.now c.values.entry-index c.entry-item.result c.values.found.items _ (omega arith) c.entry-item.is
    (sym c.in_ok-record.ensures ∙ c.in-None.is) c.values.invariant

pub returns : goal.returns
returns c = read_all (record_of c.args.counted) c.deref-entry-items.result.now c.values.entry-index c.values.found.items _ (omega arith) c.values.invariant
