-- What goes with an item or entry, by what is known of the node above it.
use Rattle.std.proofs.Common.{◌≡◌, Bool, true, false, cond, ℕ, ◌-◌, List, [], ◌∷◌, length, take, Option, Some, None, option_map, refl, sym}
use Rattle.std.{proofs.Common.{ap, ◌∙◌, subst}, proofs.lemmas.Option.none-some, specs.List.slice_get, specs.Option.option_or}
use Rattle.yq_text.specs.Script.{Segment}
use Rattle.yq_core.{specs.Answers.◌>>=◌, specs.Paths.Step, specs.Tree.Node}
use Rattle.yq_row_table.specs.Rows.{Cut}
use Rattle.yq_documents.specs.Documents.{document_parts}
use Rattle.yq_places.{specs.FirstPlaces.{first_out, first_removal}, specs.NodesAt.{NodeAt, node_in, node_summary, summary_several}}
use Rattle.yq_places.{specs.PlacedRows.placed_document, specs.RemovalPlaces.{has_others_at, has_several}, specs.Placements.last_step}
use Rattle.yq_places.proofs.NodeAtLaws.{none_agrees, several_agrees}
use Rattle.yq_edit_rules.proofs.RemovalChangeLaws.{take_init}
use Rattle.yq_edit_rules.specs.Edits.{empty_collection, removed, replace_segments, rows_or_sole, sole_removed}
use Rattle.yq_edit_rules.{specs.EntryEdits.one_removed, specs.Removing.{first_removed, rows_removed}}
use Rattle.yq_edit_laws.{specs.Emptying.summary_above, proofs.FlowSoundLaws.last_is, proofs.PlacementExists.last_there}

-- ---- whether there are others

others_above : (n : ℕ) (steps : List Step) (c : Cut) (x : List Step × Step) → Some x ≡ last_step steps → has_others_at n steps c ≡ has_several (node_in n x.0 c)
others_above n steps c x last =
    ap (λ (ss : List Step). has_several (node_in n ss c)) (subst (λ (ss : List Step). take (length ss - 1) ss ≡ x.0) (sym (last_is steps x.0 x.1 (sym last))) (take_init x.0 x.1))

others_known : (n : ℕ) (steps : List Step) (c : Cut) (v : NodeAt) (o : Option (List Step × Step)) → o ≡ last_step steps → Some v ≡ summary_above n c o → has_others_at n steps c ≡ summary_several v
others_known n steps c v None last is = absurd cc
others_known n steps c v (Some x) last is = others_above n steps c x last ∙ sym (several_agrees (node_in n x.0 c) v is)

abbrev by_others : ℕ → List Step → Cut → Bool → Option (List Segment)
by_others n steps c b = cond b (one_removed n steps c) (sole_removed n c (last_step steps))

-- by what is known of the node above
pub by_known : (n : ℕ) (steps : List Step) (c : Cut) (v : NodeAt) (b : Bool) → Some v ≡ summary_above n c (last_step steps) → b ≡ summary_several v → by_others n steps c b ≡ rows_or_sole n steps c
by_known n steps c v b is several = ap (by_others n steps c) (several ∙ sym (others_known n steps c v (last_step steps) refl is))

-- ---- no node is above

bind_none : {A B : Type 0} (o : Option A) → ◌≡◌ {A = Option B} (o >>= λ x. None) None
bind_none None = refl
bind_none (Some x) = refl

bind_twice : {A B C : Type 0} (o : Option A) (f : B → Option C) → ◌≡◌ {A = Option C} ((o >>= λ x. None) >>= f) None
bind_twice None f = refl
bind_twice (Some x) f = refl

-- the root is in no collection
no_first : (n : ℕ) (c : Cut) → first_removal n [] c ≡ None
no_first n c = ap (option_map first_out) (bind_twice (slice_get (document_parts c) n) _)

root_stays : (n : ℕ) (c : Cut) → removed n [] c ≡ None
root_stays n c = go (has_others_at n [] c)
  where
    go : (b : Bool) → by_others n [] c b ≡ None
    go true =
        ap (λ o. option_or (option_map rows_removed o) (option_map first_removed (first_removal n [] c))) (bind_none (placed_document n c))
        ∙ ap (option_map first_removed) (no_first n c)
    go false = refl

pub no_step : (n : ℕ) (steps : List Step) (c : Cut) → None ≡ last_step steps → removed n steps c ≡ None
no_step n [] c e = root_stays n c
no_step n (s ∷ ss) c e = absurd (none-some _ (e ∙ (last_there s ss).1))

no_summary : (o : Option Node) → None ≡ option_map node_summary o → o ≡ None
no_summary None e = refl
no_summary (Some n) e = absurd cc

pub none_above : (n : ℕ) (steps : List Step) (c : Cut) (x : List Step × Step) → Some x ≡ last_step steps → None ≡ option_map node_summary (node_in n x.0 c) → rows_or_sole n steps c ≡ None
none_above n steps c x last is =
    ap (by_others n steps c) (others_above n steps c x last ∙ sym (none_agrees (node_in n x.0 c) is))
    ∙ (ap (sole_removed n c) (sym last) ∙ ap (λ (o : Option Node). o >>= empty_collection >>= λ v. replace_segments n x.0 v c) (no_summary (node_in n x.0 c) is))
