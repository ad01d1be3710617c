use Rattle.std.{proofs.Common.{String, string_bytes, sym, ap, ◌∙◌}, specs.declared.alloc.Global.Global}
use Rattle.yq_core.{specs.Values.field_of, specs.declared.value.Value.Value}
use Rattle.yq_planner.proofs.SumLaws.{numbered_more}
use Rattle.yq_planner.proofs.updating.key_numbers.numbers_of.Goals as goal

pub entries-preserved : goal.entries-preserved
entries-preserved c = λ k.
    numbered_more field_of c.args.entries.now c.entries.number c.index-entries-number.result c.as_str.result.now k _ _ c.entries-test.true
    c.index-entries-number.is (c.as_str.ensures.value ∙ ap (λ (e : String Global × Value). string_bytes e.0) (sym c.index-entries-number.is))
    (c.entries.invariant k) (c.in_ok-keep_number.ensures k)
