use Rattle.std.proofs.Common.{◌≡◌, ◌∙◌, ℕ, List, Some, false, true, sym, ap, subst, take}
use Rattle.yq_core.{specs.Runs.is_word_byte, specs.Text.{front, upto}, specs.Nodes.begins_with, specs.Plain.{ends_plain, holds_break}}
use Rattle.yq_core.specs.Scalars.{is_quoted}
use Rattle.yq_row_table.{specs.WordRows.is_word_head, proofs.WordFronts.{word_at, word_block, word_other, word_scalar}}
use Rattle.yq_rows.{proofs.QuotedFronts.quoted_front, proofs.WordRows.word_head}
use Rattle.yq_rows.proofs.word_rows.find_front.Goals as goal

pub returns-then-begins_word : goal.returns-then-begins_word
returns-then-begins_word c =
    let text = c.args.text.now in
    let word = ap (front is_word_byte) (sym c.as_bytes.ensures.value) ∙ (sym c.begins_word.ensures ∙ c.if-begins_word.true) in
    let n = upto (ends_plain false c.args.spaces) text in
    let head : c.split_words.result.0.now ≡ take n text = ap (λ (y : List ℕ × List ℕ). y.0) c.split_words.ensures.cut in
    record {
      block = word_block text word;
      other = word_other text word;
      begins = word_scalar text word;
      read = word_at c.args.spaces text word ∙ ap Some (sym c.split_words.ensures.cut);
      word = λ yes. subst (λ (h : List ℕ). is_word_head h ≡ true) (sym head) (word_head text n word (ap holds_break (sym head) ∙ c.split_words.ensures.line yes));
    }

pub returns : goal.returns
returns c =
    quoted_front c.args.spaces c.args.text.now _ _ _ (ap (begins_with 34) (sym c.as_bytes-2.ensures.value) ∙ (sym c.first_is.ensures ∙ c.if-not-first_is.false))
    (c.is_quoted.ensures ∙ ap is_quoted c.as_bytes-3.ensures.value) c.in_ok-head.ensures.short
