use Rattle.std.proofs.Common.{◌≡◌, ◌-◌, length, rules, refl, sym, ap, ◌∙◌, true, arith}
use Rattle.yq_core.{specs.Runs.is_word_byte, specs.Text.front}
use Rattle.yq_row_table.{specs.Reading.{is_dash, read_marks, read_row_key}, specs.Slicing.begun, proofs.DashSteps.dash_keyed}
use Rattle.yq_row_table.proofs.FrontLaws.{front_boundary}
use Rattle.yq_rows.{proofs.Columns.front_none, proofs.WordRows.{dash_begun, some_spaces, word_after}}
use Rattle.yq_rows.proofs.word_keys.begin_after.Goals as goal

pub word_key-requires-clause-word : goal.word_key-requires-clause-word
word_key-requires-clause-word c = ap (front is_word_byte) (sym c.as_bytes-2.ensures.value) ∙ (sym c.begins_word.ensures ∙ c.if-not-begins_word.false)

pub returns-then-ends_in_word-clause-read : goal.returns-then-ends_in_word-clause-read
returns-then-ends_in_word-clause-read c =
    let dash : is_dash c.args.text.now ≡ true = ap is_dash (sym c.as_bytes.ensures.value) ∙ (sym c.is_dash.ensures ∙ c.if-not-is_dash.false) in
    let word = ap (front is_word_byte) (sym c.as_bytes-2.ensures.value) ∙ (sym c.begins_word.ensures ∙ c.if-not-begins_word.false) in
    dash_begun c.args.text.now c.split_at.result.0.now c.split_at.result.1.now c.split_spaces.result.0.now c.split_spaces.result.1.now dash c.split_at.ensures.front c.split_at.ensures.back c.split_spaces.ensures word
    (ap read_row_key (sym c.as_bytes-4.ensures.value) ∙ c.if-ends_in_word.ensures refl)

pub split_at-requires-2 : goal.split_at-requires-2
split_at-requires-2 c =
    let text = c.args.text.now in
    let none : length text - length text ≡ 0 = omega arith in
    let dash : is_dash text ≡ true = ap is_dash (sym c.as_bytes.ensures.value) ∙ (sym c.is_dash.ensures ∙ c.if-not-is_dash.false) in
    let word = ap (front is_word_byte) (sym c.as_bytes-2.ensures.value) ∙ (sym c.begins_word.ensures ∙ c.if-not-begins_word.false) in
    let key = word_after c.split_spaces.result.0.now c.split_spaces.result.1.now _ (some_spaces c.split_spaces.result.0.now c.is_empty.result c.is_empty.ensures c.if-is_empty.false) word c.in_ok-key.ensures in
    let keyed = dash_keyed text text c.split_at.result.1.now c.split_spaces.result.0.now c.split_spaces.result.1.now _ _ _ (rw none refl)
    (omega arith) (rw none (front_none (begun (read_marks text)))) dash c.split_at.ensures.back c.split_spaces.ensures key in
    front_boundary text _ c.split_spaces.result.1.now keyed.join (search rules)

pub returns-clause-read : goal.returns-clause-read
returns-clause-read c =
    let text = c.args.text.now in
    let none : length text - length text ≡ 0 = omega arith in
    let dash : is_dash text ≡ true = ap is_dash (sym c.as_bytes.ensures.value) ∙ (sym c.is_dash.ensures ∙ c.if-not-is_dash.false) in
    let word = ap (front is_word_byte) (sym c.as_bytes-2.ensures.value) ∙ (sym c.begins_word.ensures ∙ c.if-not-begins_word.false) in
    let key = word_after c.split_spaces.result.0.now c.split_spaces.result.1.now _ (some_spaces c.split_spaces.result.0.now c.is_empty.result c.is_empty.ensures c.if-is_empty.false) word c.in_ok-key.ensures in
    let keyed = dash_keyed text text c.split_at.result.1.now c.split_spaces.result.0.now c.split_spaces.result.1.now _ _ _ (rw none refl)
    (omega arith) (rw none (front_none (begun (read_marks text)))) dash c.split_at.ensures.back c.split_spaces.ensures key in
    rw c.split_at-2.ensures.front keyed.read
