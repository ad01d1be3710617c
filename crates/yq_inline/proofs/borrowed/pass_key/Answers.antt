use Rattle.std.{proofs.Common.{sym, ◌∙◌}, proofs.lemmas.Bool.and_from}
use Rattle.yq_core.proofs.BorrowedTexts.{borrows_key}
use Rattle.yq_inline.proofs.borrowed.pass_key.Goals as goal

pub returns-clause-passed : goal.returns-clause-passed
returns-clause-passed c =
    let short = c.in_ok-key.ensures.short in
    record {
      key = c.in_ok-key.key.now;
      read = short.read;
      borrowed = short.borrows;
      fit = and_from _ _ (sym c.key_fits.ensures ∙ c.if-not-key_fits.false) (c.is_short.ensures c.if-not-is_short.false);
      means = c.borrowed_text.ensures ∙ borrows_key c.in_ok-key.key.now short.quoted short.borrows;
    }
