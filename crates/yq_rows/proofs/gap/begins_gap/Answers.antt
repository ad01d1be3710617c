use Rattle.std.{proofs.Common.{◌≡◌, ℕ, Bool, false, List, [], ◌∷◌, ◌==◌, ◌||◌, drop, length, sym, ap, ◌∙◌}, proofs.lemmas.Bool.false≢true}
use Rattle.std.specs.List.{prefix_len}
use Rattle.yq_core.{specs.Lines.is_hash, specs.Text.{ends_line, past_white}}
use Rattle.yq_row_table.{specs.Reading.begins_gap, proofs.WordFronts.{row_gap, indented_gap, without_spaces}}
use Rattle.yq_rows.proofs.gap.begins_gap.Goals as goal

pub returns-then-begins_row : goal.returns-then-begins_row
returns-then-begins_row c = sym (row_gap c.args.text.now (sym c.begins_row.ensures ∙ c.if-begins_row.true))

pub returns-then-begins_row-2 : goal.returns-then-begins_row-2
returns-then-begins_row-2 c = sym (indented_gap c.args.text.now c.split_at.result.1.now c.spaces_len.result c.spaces_len.ensures.value c.split_at.ensures.back (sym c.begins_row-2.ensures ∙ c.if-begins_row-2.true))

-- a text that isn't empty begins a gap by what comes after its white space
gap_by : (t u w : List ℕ) (n : ℕ) → (length t == 0) ≡ false → n ≡ prefix_len (λ b. b == 32) t → u ≡ drop n t → w ≡ past_white u → begins_gap t ≡ (ends_line w || is_hash w)
gap_by [] u w n some spaces back past = absurd (false≢true (sym some))
gap_by (b ∷ bs) u w n some spaces back past = ap (λ (l : List ℕ). ends_line l || is_hash l) (without_spaces (b ∷ bs) u n spaces back ∙ sym past)

pub returns-then-ends_line : goal.returns-then-ends_line
returns-then-ends_line c =
    let w : List ℕ = c.past_white-next.result.now in
    c.if-ends_line.true
    ∙ sym (gap_by c.args.text.now c.split_at.result.1.now w c.spaces_len.result (sym c.is_empty.ensures ∙ c.if-not-is_empty.true) c.spaces_len.ensures.value c.split_at.ensures.back c.past_white-next.ensures
    ∙ ap (λ (x : Bool). x || is_hash w) (sym c.ends_line.ensures ∙ c.if-ends_line.true))

pub returns-else-ends_line : goal.returns-else-ends_line
returns-else-ends_line c =
    let w : List ℕ = c.past_white-next.result.now in
    c.is_hash.ensures
    ∙ sym (gap_by c.args.text.now c.split_at.result.1.now w c.spaces_len.result (sym c.is_empty.ensures ∙ c.if-not-is_empty.true) c.spaces_len.ensures.value c.split_at.ensures.back c.past_white-next.ensures
    ∙ ap (λ (x : Bool). x || is_hash w) (sym c.ends_line.ensures ∙ c.if-ends_line.false))
