use Rattle.std.proofs.Common.{◌≡◌, true, false, ◌||◌, length, refl, sym, ◌∙◌, rules}
use Rattle.yq_expr_parser.{specs.Parse.is_foreign_token, specs.TokenView.token_view}
use Rattle.yq_expr_parser.{proofs.Surveys.{survey_turn, survey_stops, counted_within}, proofs.survey.survey.Goals.{then-other, else-other}}
use Rattle.yq_expr_parser.proofs.survey.survey.Goals as goal

pub tokens-preserved-then-is_foreign : goal.tokens-preserved-then-is_foreign
tokens-preserved-then-is_foreign c =
    let flag : (c.tokens.other || is_foreign_token (token_view c.in-Some.token)) ≡ c.if-other.value = elim c.if-other.branch [
      | then-other w ↦ rw (w.value-is, w.if-other.true) refl
      | else-other w ↦ rw (w.if-other.false, w.value-is) (sym w.is_foreign.ensures)
    ] in (
      search rules,
      counted_within c.is_opening.result _ c.tokens.opened (length c.in-Some.after.now) (length c.tokens.rest.now) _ c.counted-opened.ensures c.tokens.invariant.1 c.in-Some.ensures.shorter,
      counted_within c.is_closing.result _ c.tokens.closed (length c.in-Some.after.now) (length c.tokens.rest.now) _ c.counted-closed.ensures c.tokens.invariant.2 c.in-Some.ensures.shorter,
      rw c.if-is_foreign.true (survey_turn c.tokens.other c.tokens.opened c.tokens.closed c.tokens.rest.now (token_view c.in-Some.token, c.in-Some.after.now) true c.is_opening.result c.is_closing.result _ _ _
          c.in-Some.ensures.value c.if-is_unread.ensures c.is_opening.ensures c.is_closing.ensures c.counted-opened.ensures c.counted-closed.ensures (flag ∙ c.if-is_foreign.true) c.tokens.invariant.3),
    )

pub tokens-preserved : goal.tokens-preserved
tokens-preserved c =
    let flag : (c.tokens.other || is_foreign_token (token_view c.in-Some.token)) ≡ c.if-other.value = elim c.if-other.branch [
      | then-other w ↦ rw (w.value-is, w.if-other.true) refl
      | else-other w ↦ rw (w.if-other.false, w.value-is) (sym w.is_foreign.ensures)
    ] in (
      search rules,
      counted_within c.is_opening.result _ c.tokens.opened (length c.in-Some.after.now) (length c.tokens.rest.now) _ c.counted-opened.ensures c.tokens.invariant.1 c.in-Some.ensures.shorter,
      counted_within c.is_closing.result _ c.tokens.closed (length c.in-Some.after.now) (length c.tokens.rest.now) _ c.counted-closed.ensures c.tokens.invariant.2 c.in-Some.ensures.shorter,
      survey_turn c.tokens.other c.tokens.opened c.tokens.closed c.tokens.rest.now (token_view c.in-Some.token, c.in-Some.after.now) false c.is_opening.result c.is_closing.result _ _ _
          c.in-Some.ensures.value c.if-is_unread.ensures c.is_opening.ensures c.is_closing.ensures c.counted-opened.ensures c.counted-closed.ensures (flag ∙ c.if-is_foreign.false) c.tokens.invariant.3,
    )

pub returns-then-is_unread : goal.returns-then-is_unread
returns-then-is_unread c =
    (c.misread.ensures, survey_stops c.tokens.other c.tokens.opened c.tokens.closed c.tokens.rest.now (token_view c.in-Some.token, c.in-Some.after.now) _ c.in-Some.ensures.value c.if-is_unread.ensures c.tokens.invariant.3)
