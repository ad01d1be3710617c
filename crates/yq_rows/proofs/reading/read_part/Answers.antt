use Rattle.std.proofs.Common.{◌≡◌, ◌-◌, length, true, false, ◌||◌, List, ℕ, sym, ap, ◌∙◌}
use Rattle.yq_row_table.{specs.Kept.rows_placed, specs.Slicing.rows_sliced, specs.Offsets.rows_in, specs.Reading.cut_gap}
use Rattle.yq_row_table.{proofs.RowSlicing.{part_same, part_shut}, specs.Grammar.ends_part}
use Rattle.yq_rows.proofs.reading.read_part.Goals as goal

pub returns-then-not-may_begin-clause-found : goal.returns-then-not-may_begin-clause-found
returns-then-not-may_begin-clause-found c =
    let first : (cut_gap c.args.text.now).1 ≡ c.split_gap.result.1.now = ap (λ (y : List ℕ × List ℕ). y.1) (sym c.split_gap.ensures) in
    let shut : (c.args.at.open || ends_part (cut_gap c.args.text.now).1) ≡ false = ap (λ (t : List ℕ). c.args.at.open || ends_part t) (first ∙ sym c.as_bytes.ensures.value) ∙ (sym c.may_begin.ensures ∙ c.if-not-may_begin.true) in
    ap (rows_sliced (rows_in c.args.whole.now c.args.rows.items)) (part_shut c.args.at.open c.args.text.now shut)

pub returns-clause-found : goal.returns-clause-found
returns-clause-found c =
    let first : (cut_gap c.args.text.now).1 ≡ c.split_gap.result.1.now = ap (λ (y : List ℕ × List ℕ). y.1) (sym c.split_gap.ensures) in
    let is_located : (c.args.at.open || ends_part (cut_gap c.args.text.now).1) ≡ true = ap (λ (t : List ℕ). c.args.at.open || ends_part t) (first ∙ sym c.as_bytes.ensures.value) ∙ (sym c.may_begin.ensures ∙ c.if-not-may_begin.false) in
    rw (part_same c.args.at.open c.args.text.now is_located) c.read_rows.ensures.found

pub returns-then-not-may_begin-clause-placed : goal.returns-then-not-may_begin-clause-placed
returns-then-not-may_begin-clause-placed c =
    let first : (cut_gap c.args.text.now).1 ≡ c.split_gap.result.1.now = ap (λ (y : List ℕ × List ℕ). y.1) (sym c.split_gap.ensures) in
    let shut : (c.args.at.open || ends_part (cut_gap c.args.text.now).1) ≡ false = ap (λ (t : List ℕ). c.args.at.open || ends_part t) (first ∙ sym c.as_bytes.ensures.value) ∙ (sym c.may_begin.ensures ∙ c.if-not-may_begin.true) in
    ap (rows_placed c.args.rows.items (length c.args.whole.now - length c.args.text.now)) (part_shut c.args.at.open c.args.text.now shut)

pub returns-clause-placed : goal.returns-clause-placed
returns-clause-placed c =
    let first : (cut_gap c.args.text.now).1 ≡ c.split_gap.result.1.now = ap (λ (y : List ℕ × List ℕ). y.1) (sym c.split_gap.ensures) in
    let is_located : (c.args.at.open || ends_part (cut_gap c.args.text.now).1) ≡ true = ap (λ (t : List ℕ). c.args.at.open || ends_part t) (first ∙ sym c.as_bytes.ensures.value) ∙ (sym c.may_begin.ensures ∙ c.if-not-may_begin.false) in
    rw (part_same c.args.at.open c.args.text.now is_located) c.read_rows.ensures.placed
