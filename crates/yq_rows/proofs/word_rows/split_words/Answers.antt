use Rattle.std.proofs.Common.{◌≡◌, ◌+◌, false, eqb-true, drop, take, arith, refl, sym, ap, ◌∙◌, ℕ}
use Rattle.yq_core.{specs.Plain.{ends_plain, holds_break}, proofs.PlainLaws.boundary_plain, proofs.Upto.upto_le_length}
use Rattle.yq_rows.proofs.WordRows.{words_all}
use Rattle.yq_rows.proofs.word_rows.split_words.Goals as goal

pub overflow_add-n : goal.overflow_add-n
overflow_add-n c = omega (arith, upto_le_length (ends_plain false c.args.spaces) c.split_at.result.1.now, c.further_len-more.ensures, c.split_at.ensures.back_len, c.words_len-n.ensures.within)

pub split_at-requires-2 : goal.split_at-requires-2
split_at-requires-2 c =
    let back = c.split_at.ensures.back ∙ ap (drop c.words_len-n.result) c.as_bytes-2.ensures.value in
    boundary_plain false c.args.spaces c.args.text.now (c.words_len-n.result + c.further_len-more.result)
    (words_all c.args.spaces c.args.text.now c.split_at.result.1.now c.words_len-n.result c.further_len-more.result
    (rw c.as_bytes.ensures.value at (c.words_len-n.ensures.value c.args.spaces)) back c.further_len-more.ensures)

pub returns-clause-cut : goal.returns-clause-cut
returns-clause-cut c =
    let back = c.split_at.ensures.back ∙ ap (drop c.words_len-n.result) c.as_bytes-2.ensures.value in
    let n = words_all c.args.spaces c.args.text.now c.split_at.result.1.now c.words_len-n.result c.further_len-more.result (rw c.as_bytes.ensures.value at (c.words_len-n.ensures.value c.args.spaces)) back c.further_len-more.ensures in
    rw (c.split_at-2.ensures.front, c.split_at-2.ensures.back, n) refl

pub returns-clause-line : goal.returns-clause-line
returns-clause-line c = λ yes.
    let none = eqb-true c.further_len-more.result 0 yes in
    let same : c.words_len-n.result + c.further_len-more.result ≡ c.words_len-n.result = omega (arith, none) in
    ap holds_break (c.split_at-2.ensures.front ∙ (ap (λ (k : ℕ). take k c.args.text.now) same ∙ ap (take c.words_len-n.result) (sym c.as_bytes.ensures.value))) ∙ c.words_len-n.ensures.line
