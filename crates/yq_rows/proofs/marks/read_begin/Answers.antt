use Rattle.std.proofs.Common.{◌≡◌, ◌-◌, length, take, rules, refl, sym, ap, ◌∙◌, true, false, arith}
use Rattle.yq_row_table.{specs.Reading.{is_dash, read_marks}, specs.Slicing.begun}
use Rattle.yq_row_table.proofs.BeginSteps.{dash_further, dash_boundary, dash_last, no_dash, mark_within}
use Rattle.yq_row_table.{proofs.DashSteps.{dash_goes, none_goes, key_goes, dash_keyed}, proofs.FrontLaws.{front_join, front_boundary}}
use Rattle.yq_rows.proofs.Columns.{after_dash, front_none}
use Rattle.yq_rows.proofs.marks.read_begin.Goals as goal

pub split_at-requires-in-Some : goal.split_at-requires-in-Some
split_at-requires-in-Some c =
    let dash : is_dash c.dashes.rest.now ≡ true = ap is_dash (sym c.as_bytes.ensures.value) ∙ (sym c.is_dash.ensures ∙ c.dashes-test.true) in
    let key = key_goes c.split_spaces.result.0.now c.split_spaces.result.1.now (c.in-Some.key.now, c.in-Some.colon.now, c.in-Some.after.now) (sym c.goes_on.ensures ∙ c.if-not-goes_on.true) (sym c.in-Some.ensures) in
    let keyed = dash_keyed c.args.text.now c.dashes.rest.now c.split_at.result.1.now c.split_spaces.result.0.now c.split_spaces.result.1.now _ _ _
    c.dashes.invariant.is_located c.dashes.invariant.short c.dashes.invariant.so_far dash c.split_at.ensures.back c.split_spaces.ensures key in
    front_boundary c.args.text.now _ c.split_spaces.result.1.now keyed.join (search rules)

pub returns-in-Some-clause-read : goal.returns-in-Some-clause-read
returns-in-Some-clause-read c =
    let dash : is_dash c.dashes.rest.now ≡ true = ap is_dash (sym c.as_bytes.ensures.value) ∙ (sym c.is_dash.ensures ∙ c.dashes-test.true) in
    let key = key_goes c.split_spaces.result.0.now c.split_spaces.result.1.now (c.in-Some.key.now, c.in-Some.colon.now, c.in-Some.after.now) (sym c.goes_on.ensures ∙ c.if-not-goes_on.true) (sym c.in-Some.ensures) in
    let keyed = dash_keyed c.args.text.now c.dashes.rest.now c.split_at.result.1.now c.split_spaces.result.0.now c.split_spaces.result.1.now _ _ _
    c.dashes.invariant.is_located c.dashes.invariant.short c.dashes.invariant.so_far dash c.split_at.ensures.back c.split_spaces.ensures key in
    rw c.split_at-in-Some.ensures.front keyed.read

pub returns-in-Some-clause-shorter : goal.returns-in-Some-clause-shorter
returns-in-Some-clause-shorter c =
    let dash : is_dash c.dashes.rest.now ≡ true = ap is_dash (sym c.as_bytes.ensures.value) ∙ (sym c.is_dash.ensures ∙ c.dashes-test.true) in
    let key = key_goes c.split_spaces.result.0.now c.split_spaces.result.1.now (c.in-Some.key.now, c.in-Some.colon.now, c.in-Some.after.now) (sym c.goes_on.ensures ∙ c.if-not-goes_on.true) (sym c.in-Some.ensures) in
    let keyed = dash_keyed c.args.text.now c.dashes.rest.now c.split_at.result.1.now c.split_spaces.result.0.now c.split_spaces.result.1.now _ _ _
    c.dashes.invariant.is_located c.dashes.invariant.short c.dashes.invariant.so_far dash c.split_at.ensures.back c.split_spaces.ensures key in
    keyed.shorter

pub split_at-requires-in-None : goal.split_at-requires-in-None
split_at-requires-in-None c =
    let dash : is_dash c.dashes.rest.now ≡ true = ap is_dash (sym c.as_bytes.ensures.value) ∙ (sym c.is_dash.ensures ∙ c.dashes-test.true) in
    dash_boundary c.args.text.now c.dashes.rest.now c.split_at.result.1.now c.dashes.invariant.is_located dash c.split_at.ensures.back (search rules)

pub returns-in-None-clause-read : goal.returns-in-None-clause-read
returns-in-None-clause-read c =
    let dash : is_dash c.dashes.rest.now ≡ true = ap is_dash (sym c.as_bytes.ensures.value) ∙ (sym c.is_dash.ensures ∙ c.dashes-test.true) in
    rw c.split_at-in-None.ensures.front
    (dash_last c.args.text.now c.dashes.rest.now c.split_at.result.1.now c.split_spaces.result.0.now c.split_spaces.result.1.now
    c.dashes.invariant.is_located c.dashes.invariant.short c.dashes.invariant.so_far dash c.split_at.ensures.back c.split_spaces.ensures
    (none_goes c.split_spaces.result.0.now c.split_spaces.result.1.now (sym c.goes_on.ensures ∙ c.if-not-goes_on.true) (sym c.in-None.ensures)))

pub dashes-preserved : goal.dashes-preserved
dashes-preserved c =
    let dash : is_dash c.dashes.rest.now ≡ true = ap is_dash (sym c.as_bytes.ensures.value) ∙ (sym c.is_dash.ensures ∙ c.dashes-test.true) in
    let step = dash_further c.args.text.now c.dashes.rest.now c.split_at.result.1.now c.split_spaces.result.0.now c.split_spaces.result.1.now
    c.dashes.invariant.is_located c.dashes.invariant.so_far dash c.split_at.ensures.back c.split_spaces.ensures
    (dash_goes c.split_spaces.result.0.now c.split_spaces.result.1.now (sym c.goes_on.ensures ∙ c.if-not-goes_on.false)) in
    record {
      text = search rules;
      short = omega (arith, step.shorter, c.dashes.invariant.short);
      is_located = step.is_located;
      so_far = step.so_far;
    }

pub split_at-requires-2 : goal.split_at-requires-2
split_at-requires-2 c =
    front_boundary c.args.text.now (take (length c.args.text.now - length c.dashes.rest.now) c.args.text.now) c.dashes.rest.now
    (front_join c.args.text.now c.dashes.rest.now c.dashes.invariant.is_located) c.dashes.invariant.text

pub returns-clause-read : goal.returns-clause-read
returns-clause-read c =
    let none : is_dash c.dashes.rest.now ≡ false = ap is_dash (sym c.as_bytes.ensures.value) ∙ (sym c.is_dash.ensures ∙ c.dashes-test.false) in
    rw c.split_at-2.ensures.front
    (no_dash c.args.text.now c.dashes.rest.now c.read_mark.result.1.now _ c.dashes.invariant.is_located c.dashes.invariant.short c.dashes.invariant.so_far none c.read_mark.ensures)

pub returns-clause-shorter : goal.returns-clause-shorter
returns-clause-shorter c = omega (arith, mark_within c.dashes.rest.now c.read_mark.result.1.now _ c.read_mark.ensures, c.dashes.invariant.short)

pub overflow_sub-text : goal.overflow_sub-text
overflow_sub-text c = omega (arith, after_dash c.dashes.rest.now c.split_at.result.1.now c.split_spaces.result.0.now c.split_spaces.result.1.now c.split_at.ensures.back_len c.split_spaces.ensures, c.dashes.invariant.short)

pub overflow_sub-result : goal.overflow_sub-result
overflow_sub-result c = omega (arith, after_dash c.dashes.rest.now c.split_at.result.1.now c.split_spaces.result.0.now c.split_spaces.result.1.now c.split_at.ensures.back_len c.split_spaces.ensures, c.dashes.invariant.short)

pub dashes-smaller : goal.dashes-smaller
dashes-smaller c = after_dash c.dashes.rest.now c.split_at.result.1.now c.split_spaces.result.0.now c.split_spaces.result.1.now c.split_at.ensures.back_len c.split_spaces.ensures

pub dashes-init : goal.dashes-init
dashes-init c =
    let none : length c.args.text.now - length c.args.text.now ≡ 0 = omega arith in
    record {
      text = c.utf8.text;
      short = omega arith;
      is_located = rw none refl;
      so_far = rw none (front_none (begun (read_marks c.args.text.now)));
    }
