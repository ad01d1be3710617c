-- Operations at and below a node: their paths from the root, and the first of them apart.
use Rattle.std.proofs.Common.{rules, ◌≡◌, ℕ, ◌-◌, ◌≤◌, List, [], ◌∷◌, ◌++◌, length, map, take, drop, slice_index_or, Some, option_map, sym}
use Rattle.std.{proofs.Common.{ap, ◌∙◌, subst, arith, string_bytes, take_all}, proofs.Math.Seq.take-append_seam}
use Rattle.std.proofs.lemmas.List.{length-map, take-map}
use Rattle.yq_core.{specs.Entries.tree_step, specs.Paths.Step, specs.Values.value_node}
use Rattle.yq_documents.{specs.Located.steps_of, specs.Reading.{cut_of, read_at}, specs.declared.path.Path.Path}
use Rattle.yq_semantics.specs.Operations.{Operation, append, head_comment, line_comment, remove, replace}
use Rattle.yq_semantics.{specs.Under.{op_under, ops_under}, specs.declared.op.Op.Op, specs.Judgement.ExprError, proofs.UnderLaws.ops_whole}
use Rattle.yq_text.specs.Splice.{Splice}
use Rattle.yq_edit_rules.specs.Operands.{HasOperand}
use Rattle.yq_edit_laws.{specs.Answers.EditFails, specs.Carried.{carried, carry_all}, specs.Edit.{edit_after, gives}}
use Rattle.yq_edit_laws.{specs.Theorems.{IsApplied, IsFitting}, specs.Valid.{AreServed, HaveOperands}}
use Rattle.yq_edit_laws.{proofs.OrderLaws.{after_both, following_none, fails_after, fails_on}, proofs.ServeLaws.{fits, others_serve}}
use Rattle.yq_batch.{specs.Together.CarriesFirst, specs.Under.{CarriesUnder, IsPathUnder, op_at, path_in}, proofs.RunAnswers.begins_with}
use Rattle.yq_batch.{specs.Runs.now_text, specs.declared.run.PutRun.PutRun, specs.declared.together.Together.Together}
use Rattle.yq_core.specs.declared.path.Step as declared
use Rattle.yq_semantics.specs.declared.op.Op as op

-- ---- paths

-- what an operation means at its path from the root
pub at_under : (front : List declared.Step) (o : Op) (p : Path) → IsPathUnder front o p → op_at p o ≡ op_under front o
at_under front (op.TheVariants.Replace own v) p h = λ i. replace (h.0 i) (h.1 i) (value_node v)
at_under front (op.TheVariants.Append own key v) p h = λ i. append (h.0 i) (h.1 i) (option_map string_bytes key) (value_node v)
at_under front (op.TheVariants.Remove own) p h = λ i. remove (h.0 i) (h.1 i)
at_under front (op.TheVariants.LineComment own text) p h = λ i. line_comment (h.0 i) (h.1 i) (string_bytes text)
at_under front (op.TheVariants.HeadComment own text) p h = λ i. head_comment (h.0 i) (h.1 i) (string_bytes text)

-- and at its own one, which is that
pub at_root : (front : List declared.Step) (o : Op) (p : Path) → length front ≡ 0 → p ≡ path_in o → op_at p o ≡ op_under front o
at_root [] o p none is = at_under [] o p (ap (λ (x : Path). x.doc) is, ap steps_of is)
at_root (s ∷ front) o p none is = absurd (omega (arith, none))

-- steps after those to a node, which are the first ones
pub leads_on : (front own old left all : List declared.Step) (n : ℕ) → n ≡ length front → take (length front) (map tree_step old) ≡ map tree_step front →
    left ≡ take n old → map tree_step all ≡ map tree_step left ++ map tree_step own → map tree_step all ≡ map tree_step front ++ map tree_step own
leads_on front own old left all n count begins first both =
    both ∙ ap (λ (ss : List Step). ss ++ map tree_step own) (ap (map tree_step) (first ∙ ap (λ (m : ℕ). take m old) count) ∙ (sym (take-map tree_step (length front) old) ∙ begins))

-- those to the node come first
pub begins_on : (front all : List declared.Step) (own : List Step) → map tree_step all ≡ map tree_step front ++ own → take (length front) (map tree_step all) ≡ map tree_step front
begins_on front all own is =
    ap (take (length front)) is ∙ (ap (λ (n : ℕ). take n (map tree_step front ++ own)) (sym (length-map front tree_step)) ∙ take-append_seam (map tree_step front) own)

-- ---- the first one apart

abbrev later : List Op → List Op
later os = take (length os - 1) (drop 1 os)

first_apart : (os : List Op) (o : Op) → 1 ≤ length os → o ≡ slice_index_or os 0 o → os ≡ o ∷ later os
first_apart [] o some at = absurd (omega (arith, some))
first_apart (x ∷ os) o some at = (λ i. sym at i ∷ sym (take_all (length (x ∷ os) - 1) os (omega arith)) i)

module _ (front : List declared.Step) where
  apart : (os : List Op) (o : Op) → 1 ≤ length os → o ≡ slice_index_or os 0 o → ops_under front os ≡ op_under front o ∷ ops_under front (later os)
  apart os o some at = ap (ops_under front) (first_apart os o some at)

  -- one that others follow
  pub others_come : (os : List Op) (o : Op) (t m : List ℕ) (bs cs all : List Splice) → 1 ≤ length os → o ≡ slice_index_or os 0 o → carried (op_under front o) t ≡ gives m cs → all ≡ bs ++ cs →
      edit_after all (carry_all (ops_under front (later os)) m) ≡ edit_after bs (carry_all (ops_under front os) t)
  others_come os o t m bs cs all some at new_bytes joined = search (rules, after_both, apart)

  pub others_served : (os : List Op) (o : Op) (t m : List ℕ) (cs : List Splice) → 1 ≤ length os → o ≡ slice_index_or os 0 o → AreServed (ops_under front os) t →
      IsApplied (op_under front o) t m cs → AreServed (ops_under front (later os)) m
  others_served os o t m cs some at h a =
      let s = subst (λ (x : List Operation). AreServed x t) (apart os o some at) h in
      (_, others_serve s.0 (op_under front o) (ops_under front (later os)) t s.1 m cs a)

  -- one that fails
  pub first_fails : (os : List Op) (o : Op) (t : List ℕ) (bs : List Splice) (e : ExprError) → 1 ≤ length os → o ≡ slice_index_or os 0 o →
      EditFails e (carried (op_under front o) t) → EditFails e (edit_after bs (carry_all (ops_under front os) t))
  first_fails os o t bs e some at h =
      fails_after e bs (carry_all (ops_under front os) t)
      (subst (λ (x : List Operation). EditFails e (carry_all x t)) (sym (apart os o some at)) (fails_on e (carry_all (ops_under front (later os))) (carried (op_under front o) t) h))

  pub first_fits : (os : List Op) (o : Op) (t : List ℕ) → 1 ≤ length os → o ≡ slice_index_or os 0 o → AreServed (ops_under front os) t → IsFitting (op_under front o) t
  first_fits os o t some at h = search (rules, subst (λ (x : List Operation). AreServed x t) (apart os o some at) h, fits)

  pub first_operand : (os : List Op) (o : Op) → 1 ≤ length os → o ≡ slice_index_or os 0 o → HaveOperands (ops_under front os) → HasOperand (op_under front o)
  first_operand os o some at h = (subst HaveOperands (apart os o some at) h).0

  -- ---- operations that were carried out together

  -- those that are left give what all do, on the text that was made, after its splices
  pub carries_under : (left : List Op) (u : List ℕ) (cs : List Splice) (ops : List Op) (t : List ℕ) (x : Together) → x.left.now ≡ left → string_bytes x.edited.text ≡ u →
      x.edited.splices.items ≡ cs → edit_after cs (carry_all (ops_under front left) u) ≡ carry_all (ops_under front ops) t → AreServed (ops_under front left) u → CarriesUnder front ops t x
  carries_under left u cs ops t x rest text splices whole serves = record {
    whole = (λ i. edit_after (splices i) (carry_all (ops_under front (rest i)) (text i))) ∙ whole;
    serves = subst (λ (os : List Op). AreServed (ops_under front os) (string_bytes x.edited.text)) (sym rest) (subst (AreServed (ops_under front left)) (sym text) serves);
  }

  -- all operations, on the text of a run in which nothing was put
  pub under_begin : (t : List ℕ) (r : PutRun) (ops : List Op) → read_at t ≡ Some (cut_of t) → string_bytes r.text ≡ [] → r.done ≡ 0 → r.splices.items ≡ [] →
      edit_after r.splices.items (carry_all (ops_under front ops) (now_text (cut_of t) r)) ≡ carry_all (ops_under front ops) t
  under_begin t r ops read text done splices =
      (λ i. edit_after (splices i) (carry_all (ops_under front ops) (begins_with t r read text done i))) ∙ following_none (carry_all (ops_under front ops) t)

-- operations at and below the root
pub first_whole : (ops : List Op) (t : List ℕ) (x : Together) → CarriesUnder [] ops t x → CarriesFirst ops t x
first_whole ops t x h = record {
  whole = ap (λ (os : List Operation). edit_after x.edited.splices.items (carry_all os (string_bytes x.edited.text))) (sym (ops_whole x.left.now)) ∙ (h.whole ∙ ap (λ (os : List Operation). carry_all os t) (ops_whole ops));
  serves = subst (λ (os : List Operation). AreServed os (string_bytes x.edited.text)) (ops_whole x.left.now) h.serves;
}
