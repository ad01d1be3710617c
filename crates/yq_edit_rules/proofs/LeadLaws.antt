-- The lead that goes with the root of a part in the place of another one.
use Rattle.std.{proofs.Common.{inl, inr, ◌⊎◌, ◌≡◌, List, [], ◌∷◌, true, refl, sym, ap, ◌∙◌, rules}, proofs.lemmas.Bool.false≢true}
use Rattle.yq_core.specs.Tree.{children_of}
use Rattle.yq_outline.{specs.Group.group, specs.Outline.Line}
use Rattle.yq_documents.{specs.Documents.lead_of, specs.Reading.root_of, specs.Ready.begins_no_node, specs.TreeEdits.lead_by}
use Rattle.yq_edit_rules.{specs.Siblings.HasEntries, proofs.AfterLaws.{by_first, none_kept}, proofs.EditedLaws.root_has_lead}
use Rattle.yq_edit_rules.specs.Rooms.{SameLeadGoes, BlockLeadGoes}

pub block_lead_goes : BlockLeadGoes
block_lead_goes p q block has =
    sym (ap (λ b. lead_by b (children_of (root_of q)) (lead_of p)) block ∙ by_first (children_of (root_of q)) (lead_of q) (lead_of p) (root_has_lead q has))

-- a root that is block has items or entries, or no lines
pub block_entries : (ls : List Line) → begins_no_node ls ≡ true → (HasEntries (group ls)) ⊎ (ls ≡ [])
block_entries [] h = inr refl
block_entries (l ∷ ls) h = inl (search (rules, false≢true))

pub same_lead_goes : SameLeadGoes
same_lead_goes p q same block = search (rules, none_kept, root_of, false≢true, block_entries, block_lead_goes)
