use Rattle.std.{proofs.Common.{rules, arith, ◌≡◌, ◌∙◌, sym, refl, ap, Some, map, true, false}, specs.Prelude.codes}
use Rattle.std.proofs.lemmas.Result.{err_from_is_err_and}
use Rattle.yq_expr_parser.proofs.LoopSteps.{failed, onto_new, parted_more, parted_end, parted_fails, item_lessens, field_lessens}
use Rattle.yq_expr_parser.proofs.ReadSteps.{bind_gives, bind_fails, either_some, either_none, fails_as, gives_as, closed_reads, test_fails}
use Rattle.yq_expr_parser.{proofs.ReadSteps.{test_holds, deeper}, specs.Parse.{literal_at, field_at}, specs.Lexing.tokens}
use Rattle.yq_core.{proofs.NodesWrittenLaws.node_list, specs.Values.{value_node, field_of}, specs.Keys.are_distinct}
use Rattle.yq_semantics.proofs.ValueMaps.{node_of-map}
use Rattle.yq_expr_parser.proofs.parse.literal.+literal.Goals as goal

pub literal-returns-then-branch-clause-value : goal.literal-returns-then-branch-clause-value
literal-returns-then-branch-clause-value t c =
    let differ : are_distinct (map (λ e. e.0) (map field_of c.in_ok-fields.fields.items)) ≡ true = sym c.in_ok-keys_differ.ensures ∙ c.if-branch.true in
    deeper _ _ (omega arith) ∙ either_none _ _ _ _ (sym c.in_default.ensures.value) (either_some _ _ _ _ _ (sym c.in-Some-after.ensures.value)
    (bind_gives _ _ _ _ c.in_ok-fields.ensures.value (test_holds _ _ _ _ differ (ap (λ n. Some (n, tokens c.in_ok-fields.rest.now)) (sym (node_of-map c.in_ok-fields.fields))))))

pub literal-returns-in-Some-after-clause-value : goal.literal-returns-in-Some-after-clause-value
literal-returns-in-Some-after-clause-value t c =
    let same : are_distinct (map (λ e. e.0) (map field_of c.in_ok-fields.fields.items)) ≡ false = sym c.in_ok-keys_differ.ensures ∙ c.if-branch.false in (
      c.misread.ensures,
      deeper _ _ (omega arith) ∙ either_none _ _ _ _ (sym c.in_default.ensures.value) (either_some _ _ _ _ _ (sym c.in-Some-after.ensures.value)
          (bind_gives _ _ _ _ c.in_ok-fields.ensures.value (test_fails _ _ _ _ same refl))),
    )

pub literal-returns-in-Some-clause-value : goal.literal-returns-in-Some-clause-value
literal-returns-in-Some-clause-value t c =
    deeper _ _ (omega arith) ∙ either_some _ _ _ _ _ (sym c.in-Some.ensures.value)
    (bind_gives _ _ _ _ c.in_ok-items.ensures.value (ap (λ n. Some (n, tokens c.in_ok-items.rest.now)) (sym (node_list c.in_ok-items.items))))

pub literal-returns-in_err-items-clause-value : goal.literal-returns-in_err-items-clause-value
literal-returns-in_err-items-clause-value t c =
    failed _ c.from_residual.result _ _ (err_from_is_err_and c.from_residual.result c.from_residual.ensures.1)
    (fails_as _ _ _ (deeper _ _ (omega arith) ∙ either_some _ _ _ _ _ (sym c.in-Some.ensures.value) refl) (bind_fails _ _ _ c.in_err-items.ensures.value))

pub field-returns-clause-value : goal.field-returns-clause-value
field-returns-clause-value t c =
    bind_gives _ _ _ _ c.in_ok-key.ensures.value (bind_gives _ _ _ _ c.in_ok-rest.ensures.value (bind_gives _ _ _ _ c.in_ok-value.ensures.value refl))

pub field-returns-clause-shorter : goal.field-returns-clause-shorter
field-returns-clause-shorter t c = omega (arith, c.in_ok-value.ensures.shorter, c.in_ok-rest.ensures.shorter, c.in_ok-key.ensures.shorter)

pub literal-returns-then-branch-clause-shorter : goal.literal-returns-then-branch-clause-shorter
literal-returns-then-branch-clause-shorter t c = omega (arith, c.in_ok-fields.ensures.shorter, c.in-Some-after.ensures.shorter)

pub literal-returns-in-Some-clause-shorter : goal.literal-returns-in-Some-clause-shorter
literal-returns-in-Some-clause-shorter t c = omega (arith, c.in_ok-items.ensures.shorter, c.in-Some.ensures.shorter)

pub literal-returns-in_err-fields-clause-value : goal.literal-returns-in_err-fields-clause-value
literal-returns-in_err-fields-clause-value t c =
    failed _ c.from_residual-in_err-fields.result _ _ (err_from_is_err_and c.from_residual-in_err-fields.result c.from_residual-in_err-fields.ensures.1)
    (fails_as _ _ _ (deeper _ _ (omega arith) ∙ either_none _ _ _ _ (sym c.in_default.ensures.value) (either_some _ _ _ _ _ (sym c.in-Some-after.ensures.value) refl)) (bind_fails _ _ _ c.in_err-fields.ensures.value))

pub list-items-init : goal.list-items-init
list-items-init t c = (search rules, omega arith, onto_new value_node _ _ c.new-found.ensures.items)

pub list-items-preserved : goal.list-items-preserved
list-items-preserved t c = (
  search rules,
  omega (arith, c.in_ok-item.ensures.shorter, c.in-Some-after.ensures.shorter, c.items.invariant.1),
  parted_more value_node (codes ",") (literal_at c.args.depth) (item_lessens c.args.depth) _ (tokens c.items.rest.now) _ c.items.invariant.2 _ _ c.in_ok-item.ensures.value _ c.in_ok-push.ensures.items _ (sym c.in-Some-after.ensures.value),
)

pub list-returns-in-Some-clause-value : goal.list-returns-in-Some-clause-value
list-returns-in-Some-clause-value t c =
    either_some _ _ _ _ _ (sym c.in-Some.ensures.value) (ap (λ l. Some (map value_node l, tokens c.in-Some.rest.now)) (sym c.new-found.ensures.items))

pub list-returns-in_err-item-clause-value : goal.list-returns-in_err-item-clause-value
list-returns-in_err-item-clause-value t c =
    failed _ c.from_residual.result _ _ (err_from_is_err_and c.from_residual.result c.from_residual.ensures.1)
    (fails_as _ _ _ (either_none _ _ _ _ (sym c.in_default.ensures.value) refl)
    (bind_fails _ _ _ (parted_fails (codes ",") (literal_at c.args.depth) (map value_node c.items.found.items) (tokens c.items.rest.now) _ c.items.invariant.2 _ c.in_err-item.ensures.value)))

pub list-returns-in-None-clause-value : goal.list-returns-in-None-clause-value
list-returns-in-None-clause-value t c =
    gives_as _ c.closed.result _ _ (either_none _ _ _ _ (sym c.in_default.ensures.value)
    (bind_gives _ _ _ _ (parted_end value_node (codes ",") (literal_at c.args.depth) (item_lessens c.args.depth) _ (tokens c.items.rest.now) _
    c.items.invariant.2 _ _ c.in_ok-item.ensures.value _ c.in_ok-push.ensures.items (sym c.in-None.ensures.value)) refl))
    (closed_reads _ c.closed.result _ _ c.closed.ensures.value)

pub mapping-fields-init : goal.mapping-fields-init
mapping-fields-init t c = (search rules, omega arith, onto_new field_of _ _ c.new-found.ensures.items)

pub mapping-fields-preserved : goal.mapping-fields-preserved
mapping-fields-preserved t c = (
  search rules,
  omega (arith, c.in_ok-field.ensures.shorter, c.in-Some-after.ensures.shorter, c.fields.invariant.1),
  parted_more field_of (codes ",") (field_at (literal_at c.args.depth)) (field_lessens c.args.depth) _ (tokens c.fields.rest.now) _
      c.fields.invariant.2 _ _ c.in_ok-field.ensures.value _ c.in_ok-push.ensures.items _ (sym c.in-Some-after.ensures.value),
)

pub mapping-returns-in-Some-clause-value : goal.mapping-returns-in-Some-clause-value
mapping-returns-in-Some-clause-value t c =
    either_some _ _ _ _ _ (sym c.in-Some.ensures.value) (ap (λ l. Some (map field_of l, tokens c.in-Some.rest.now)) (sym c.new-found.ensures.items))

pub mapping-returns-in_err-field-clause-value : goal.mapping-returns-in_err-field-clause-value
mapping-returns-in_err-field-clause-value t c =
    failed _ c.from_residual.result _ _ (err_from_is_err_and c.from_residual.result c.from_residual.ensures.1)
    (fails_as _ _ _ (either_none _ _ _ _ (sym c.in_default.ensures.value) refl)
    (bind_fails _ _ _ (parted_fails (codes ",") (field_at (literal_at c.args.depth)) (map field_of c.fields.found.items) (tokens c.fields.rest.now) _ c.fields.invariant.2 _ c.in_err-field.ensures.value)))

pub mapping-returns-in-None-clause-value : goal.mapping-returns-in-None-clause-value
mapping-returns-in-None-clause-value t c =
    gives_as _ c.closed.result _ _ (either_none _ _ _ _ (sym c.in_default.ensures.value)
    (bind_gives _ _ _ _ (parted_end field_of (codes ",") (field_at (literal_at c.args.depth)) (field_lessens c.args.depth) _
    (tokens c.fields.rest.now) _ c.fields.invariant.2 _ _ c.in_ok-field.ensures.value _ c.in_ok-push.ensures.items (sym c.in-None.ensures.value))
    refl))
    (closed_reads _ c.closed.result _ _ c.closed.ensures.value)
