-- The splices of an edit lead from the old text to the new one.
use Rattle.std.proofs.Common.{ℕ, ◌+◌, ◌^◌, ◌<◌, ◌≤◌, List, [], ◌∷◌, ◌++◌, length, Some, sym, ap, ◌∙◌, subst, arith}
use Rattle.std.specs.Prelude.{option_and_then}
use Rattle.yq_text.{specs.Limit.text_limit, specs.Splice.{Splice, all_done, lengths_done}, specs.Script.{Segment, old_text, new_text}}
use Rattle.yq_text.{proofs.ScriptLaws.{changes_lead, changes_lengths}, proofs.SpliceLaws.{all_done-append, lengths_done-append}}
use Rattle.yq_semantics.{specs.Operations.Operation, specs.Program.{Program, Update}}
use Rattle.yq_edit_laws.specs.Theorems.{AreSplices, InOrder, IsApplied, IsEdited, IsUpdated, Leading}

-- splices one list after the other
splices_join : (t m new : List ℕ) (ds es : List Splice) → AreSplices ds t m → AreSplices es m new → AreSplices (ds ++ es) t new
splices_join t m new ds es p q = record {
  texts = all_done-append ds es t ∙ ap (option_and_then (all_done es)) p.texts ∙ q.texts;
  lengths = lengths_done-append ds es (length t) ∙ ap (option_and_then (lengths_done es)) p.lengths ∙ q.lengths;
}

leads_splices : {A : Type 0} (R : Leading A) → ((x : A) (t new : List ℕ) (cs : List Splice) → R x t new cs → AreSplices cs t new) →
    (xs : List A) (t new : List ℕ) (cs : List Splice) → InOrder R xs t new cs → AreSplices cs t new
leads_splices R each [] t new cs h =
    subst (λ x. AreSplices x t new) (sym h.1) (record { texts = ap Some h.0; lengths = ap (λ x. Some (length x)) h.0 })
leads_splices R each (x ∷ xs) t new cs h =
    subst (λ y. AreSplices y t new) (sym h.5) (splices_join t h.0 new h.1 h.2 (each x t h.0 h.1 h.3) (leads_splices R each xs h.0 new h.2 h.4))

operation_splices : (op : Operation) (t new : List ℕ) (cs : List Splice) → IsApplied op t new cs → AreSplices cs t new
operation_splices op t new cs k =
    let ss : List Segment = k.segments in
    let small : length t ≤ text_limit = k.read.cut.size in
    let new_bytes : length new ≤ text_limit = k.reads.cut.size in
    let fits : length (old_text ss) + length (new_text ss) < 2 ^ 64 = omega (arith, small, new_bytes, ap length k.old_is, ap length k.new_is) in
    record {
      texts = sym (λ i. all_done (k.splices i) (k.old_is i)) ∙ (changes_lead ss ∙ ap Some k.new_is);
      lengths = sym (λ i. lengths_done (k.splices i) (length (k.old_is i))) ∙ (changes_lengths ss fits ∙ ap (λ (x : List ℕ). Some (length x)) k.new_is);
    }

update_splices : (u : Update) (t new : List ℕ) (cs : List Splice) → IsUpdated u t new cs → AreSplices cs t new
update_splices u t new cs k = leads_splices IsApplied operation_splices k.operations t new cs k.leads

pub program_splices : (p : Program) (t new : List ℕ) (cs : List Splice) → IsEdited p t new cs → AreSplices cs t new
program_splices p t new cs k = leads_splices IsUpdated update_splices k.all t new cs k.leads
