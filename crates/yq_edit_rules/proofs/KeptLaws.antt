-- A scalar that is put in its own place changes nothing.
use Rattle.std.proofs.Common.{◌≡◌, ℕ, List, [], Option, Some, Bool, true, false, sym, ap, ◌∙◌, subst, append-nil, rules, eqb-true}
use Rattle.std.{proofs.lemmas.Bool.{false≢true, and_parts}, specs.List.slice_get, proofs.lemmas.Slice.Eq.bytes_eq-Decides}
use Rattle.yq_core.{specs.Paths.{Step, changed_at, node_at}, specs.Scalar.ScalarText, specs.Tree.Node, specs.declared.kind.Kind.Kind}
use Rattle.yq_flow_edits.specs.Valued.{IsValueTree}
use Rattle.yq_row_table.specs.Rows.{Part, Cut, cut_text}
use Rattle.yq_documents.{specs.Documents.{document_parts, lead_of}, specs.Reading.{documents, read_at, root_of}}
use Rattle.yq_documents.specs.TreeEdits.{led, replaced_node}
use Rattle.yq_edit_rules.{specs.Changed.{changed, IsChanged, put_document}, proofs.LeadLaws.same_lead_goes, specs.Replacing.are_same}
use Rattle.yq_edit_rules.{specs.EditLaws.EqualScalarsStay, specs.ReadsAfter.ReadsAfter, proofs.DoneLaws.{nth_map, document_done, part_of}}
use Rattle.yq_edit_rules.{proofs.SamePlaceLaws.{change_own, nth_own, put_own}, specs.Style.{table_row, is_same}}
use Rattle.yq_semantics.specs.Operations.{replace}
use Rattle.yq_places.specs.NodesAt.{scalar_in}
use Rattle.yq_documents.specs.Reading as reading

-- ---- scalars that are tested to be equal are

same_kind : (a b : Kind) → table_row a ≡ table_row b → a ≡ b
same_kind a b h = search rules

-- scalars that are tested to be equal are
pub same_is : (a b : ScalarText) → is_same a b ≡ true → a ≡ b
same_is a b h = search (rules, and_parts, same_kind, eqb-true, bytes_eq-Decides)

-- ---- a scalar that is put in its own place changes nothing

pub led_same : (block : Bool) (lead : List (List ℕ)) (steps : List Step) (v : Node) → (steps ≡ [] → block ≡ false) → led block lead steps v ≡ v
led_same block lead steps v h1 = search (rules, false≢true)

led_scalar : (o : Option ScalarText) (block : Bool) (lead : List (List ℕ)) (steps : List Step) (v : Node) → are_same o (scalar_in v) ≡ true → led block lead steps v ≡ v
led_scalar o block lead steps v e = search (rules, false≢true)

kept_reads : (doc : ℕ) (steps : List Step) (v : Node) (c : Cut) (p : Part) → read_at (cut_text c) ≡ Some c → slice_get (document_parts c) doc ≡ Some p → (n : Node) → IsValueTree v → node_at steps (root_of p) ≡ Some n →
    are_same (scalar_in n) (scalar_in v) ≡ true → ReadsAfter (replace doc steps v) c (cut_text c)
kept_reads doc steps v c p read at n h there e =
    let own : changed_at steps (replaced_node v) (root_of p) ≡ root_of p = change_own steps (replaced_node v) (root_of p) n there (search (rules, false≢true, same_is, e)) in
    let same : put_document doc p c ≡ c = put_own doc c p at in
    let stays : changed (lead_of p) (changed_at steps (replaced_node v)) (reading.part_document p) ≡ reading.part_document p = (λ i. record { lead = lead_of p; root = own i }) in
    let kept : IsChanged c (put_document doc p c) doc (lead_of p) (changed_at steps (replaced_node v)) = record {
      read = subst (λ x. read_at (cut_text x) ≡ Some x) (sym same) read;
      documents_are = ap documents same ∙ sym (nth_own doc (reading.part_document p) (changed (lead_of p) (changed_at steps (replaced_node v))) (documents c) (nth_map doc p reading.part_document (document_parts c) at) stays);
    } in
    search (rules, document_done, led_scalar, same_lead_goes, same, kept)

-- what keeps the whole text
pub equal_scalars_stay : EqualScalarsStay
equal_scalars_stay n steps v c read same = search (rules, append-nil, part_of, kept_reads)
