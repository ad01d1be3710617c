use Rattle.std.proofs.Common.{◌≡◌, false, sym, ◌∙◌, subst}
use Rattle.yq_core.{specs.Plain.ends_plain, specs.Text.upto}
use Rattle.yq_rows.proofs.WordRows.{scalar_ends, some_front, no_space_in}
use Rattle.yq_rows.proofs.word_rows.ends_scalar.Goals as goal

pub split_at-requires : goal.split_at-requires
split_at-requires c = some_front c.args.text.now 10 (sym c.first_is.ensures ∙ c.if-not-first_is.false)

pub returns-then-indent-least : goal.returns-then-indent-least
returns-then-indent-least c = λ yes.
    subst (λ o. upto (ends_plain false o) c.args.text.now ≡ 0) (sym c.in-Some.is)
    (scalar_ends c.in-Some.least c.args.text.now c.split_at.result.1.now c.split_at-then-indent-least.result.1.now c.spaces_len-indent.result
    (sym c.first_is.ensures ∙ c.if-not-first_is.false) c.split_at.ensures.back c.spaces_len-indent.ensures.value
    c.split_at-then-indent-least.ensures.back c.if-indent-least.true (sym c.is_space.ensures ∙ no_space_in c.is_space.result yes))
