-- Operations of which the first ones were carried out together.
use Rattle.std.proofs.Common.{◌≡◌, ◌∙◌, ℕ, List, [], Some, sym, subst, string_bytes}
use Rattle.yq_text.specs.Splice.{Splice}
use Rattle.yq_documents.specs.Reading.{cut_of, read_at}
use Rattle.yq_semantics.{specs.Operations.operations_of, specs.declared.op.Op.Op}
use Rattle.yq_edit_laws.{specs.Carried.carry_all, specs.Edit.{Edit, edit_after}, specs.Valid.AreServed, proofs.OrderLaws.following_none}
use Rattle.yq_batch.{specs.HeadRuns.all_on, specs.Together.CarriesSome, proofs.RunAnswers.begins_with, specs.declared.run.PutRun.PutRun}
use Rattle.yq_batch.specs.declared.together.Together.{Together}

-- those that are left give what all do, on the text that was made, after its splices
pub carries_some : (left : List Op) (u : List ℕ) (cs : List Splice) (all : Edit) (x : Together) → x.left.now ≡ left → string_bytes x.edited.text ≡ u →
    x.edited.splices.items ≡ cs → edit_after cs (carry_all (operations_of left) u) ≡ all → AreServed (operations_of left) u → CarriesSome all x
carries_some left u cs all x rest text splices whole serves = record {
  whole = (λ i. edit_after (splices i) (carry_all (operations_of (rest i)) (text i))) ∙ whole;
  serves = subst (λ (os : List Op). AreServed (operations_of os) (string_bytes x.edited.text)) (sym rest) (subst (AreServed (operations_of left)) (sym text) serves);
}

-- all operations, on the text of a run in which nothing was put
pub all_begin : (t : List ℕ) (r : PutRun) (ops : List Op) → read_at t ≡ Some (cut_of t) → string_bytes r.text ≡ [] → r.done ≡ 0 → r.splices.items ≡ [] →
    all_on ops (cut_of t) r ≡ carry_all (operations_of ops) t
all_begin t r ops read text done splices =
    (λ i. edit_after (splices i) (carry_all (operations_of ops) (begins_with t r read text done i))) ∙ following_none (carry_all (operations_of ops) t)
