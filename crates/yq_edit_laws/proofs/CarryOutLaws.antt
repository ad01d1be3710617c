-- What each operation exchanges carries it out, by the laws of each kind of edit.
use Rattle.std.proofs.Common.{rules, ◌≡◌, ◌⊎◌, inl, inr, ℕ, Bool, true, false, cond, List, [], ◌∷◌, Option, Some, None, option_map, refl}
use Rattle.std.{proofs.Common.subst, proofs.lemmas.Option.{none-some, same_Some}, specs.Option.option_or}
use Rattle.yq_core.{specs.Answers.◌>>=◌, specs.Paths.Step, specs.Tree.Node, proofs.Bools.bind_some}
use Rattle.yq_flow_edits.proofs.RemoveTexts.{either}
use Rattle.yq_row_table.specs.Rows.{Cut, cut_text}
use Rattle.yq_documents.specs.Reading.{read_at}
use Rattle.yq_places.{specs.FlowNodes.flow_collection, specs.NodesAt.node_in, specs.RemovalPlaces.has_others_at}
use Rattle.yq_places.{specs.Placements.{flow_placement, last_step, rows_of_entry, placement_at}, proofs.PrintedTexts.map_some}
use Rattle.yq_semantics.specs.Operations.{replace, append, remove, line_comment, head_comment}
use Rattle.yq_text.specs.Script.{Segment, keep}
use Rattle.yq_edit_rules.specs.EditLaws.{KindsCarryOut, EditsCarryOut, IsEdit}
use Rattle.yq_edit_rules.specs.Edits.{empty_collection, part_removed, replace_segments, rows_or_sole, sole_removed}
use Rattle.yq_edit_rules.{specs.EntryEdits.{block_more, one_removed}, specs.FlowParts.{flow_more, flow_put}, specs.Layouts.layout_of}
use Rattle.yq_edit_rules.{specs.ReplaceEdits.{has_text, value_put}, specs.Replacing.keeps_scalar}

module _ (laws : KindsCarryOut) where
  replaced_is : (n : ℕ) (steps : List Step) (v : Node) (c : Cut) (ss : List Segment) → read_at (cut_text c) ≡ Some c → replace_segments n steps v c ≡ Some ss → IsEdit (replace n steps v) c ss
  replaced_is n steps v c ss read is = go (keeps_scalar (node_in n steps c) v) refl is
    where
      block : Option (List Segment)
      block = option_map (value_put (has_text (node_in n steps c)) (layout_of n c) v) (placement_at n steps c)

      flow : Option (List Segment)
      flow = option_map (flow_put (cut_text c) v) (flow_placement n c (last_step steps))

      there : keeps_scalar (node_in n steps c) v ≡ false → (block ≡ Some ss) ⊎ (flow ≡ Some ss) → IsEdit (replace n steps v) c ss
      there other (inl e) = let t = map_some (placement_at n steps c) e in subst (IsEdit (replace n steps v) c) t.2 (laws.values n steps v c t.0 read t.1 other)
      there other (inr e) = let x = map_some (flow_placement n c (last_step steps)) e in subst (IsEdit (replace n steps v) c) x.2 (laws.flow_values n steps v c x.0 read x.1 other)

      go : (b : Bool) → keeps_scalar (node_in n steps c) v ≡ b → cond b (Some (keep (cut_text c) ∷ [])) (option_or block flow) ≡ Some ss → IsEdit (replace n steps v) c ss
      go true same e = subst (IsEdit (replace n steps v) c) (same_Some _ _ e) (laws.equal n steps v c read same)
      go false other e = there other (either block flow e)

  appended_is : (n : ℕ) (steps : List Step) (key : Option (List ℕ)) (v : Node) (c : Cut) (ss : List Segment) → read_at (cut_text c) ≡ Some c →
      ((placement_at n steps c >>= block_more (layout_of n c) key v) ≡ Some ss) ⊎ ((flow_collection n steps c >>= flow_more (cut_text c) key v) ≡ Some ss) → IsEdit (append n steps key v) c ss
  appended_is n steps key v c ss read (inl e) = let t = bind_some (placement_at n steps c) e in laws.more n steps key v c t.0 ss read t.1 t.2
  appended_is n steps key v c ss read (inr e) = let w = bind_some (flow_collection n steps c) e in laws.flow_more n steps key v c w.0 ss read w.1 w.2

  part_is : (n : ℕ) (steps : List Step) (c : Cut) (ss : List Segment) → read_at (cut_text c) ≡ Some c → (o : Option (List Step × Step)) → last_step steps ≡ o → part_removed n c o ≡ Some ss → IsEdit (remove n steps) c ss
  part_is n steps c ss read None last e = absurd (none-some _ e)
  part_is n steps c ss read (Some x) last e = let w = bind_some (flow_collection n x.0 c) e in laws.flow_part n steps x.0 x.1 c w.0 ss read last w.1 w.2

  removed_is : (n : ℕ) (steps : List Step) (c : Cut) (ss : List Segment) → read_at (cut_text c) ≡ Some c → (b : Bool) → has_others_at n steps c ≡ b →
      cond b (one_removed n steps c) (sole_removed n c (last_step steps)) ≡ Some ss → IsEdit (remove n steps) c ss
  removed_is n steps c ss read true others is = laws.one n steps c ss read others is
  removed_is n steps c ss read false others is = sole (last_step steps) refl is
    where
      sole : (o : Option (List Step × Step)) → last_step steps ≡ o → sole_removed n c o ≡ Some ss → IsEdit (remove n steps) c ss
      sole None last e = absurd (none-some _ e)
      sole (Some x) last e =
          let v = bind_some {f = λ (u : Node). replace_segments n x.0 u c} (node_in n x.0 c >>= empty_collection) e in
          laws.sole n steps x.0 x.1 v.0 c ss read last others v.1 (replaced_is n x.0 v.0 c ss read v.2)

  pub edits_carry_out : EditsCarryOut
  edits_carry_out (replace n steps v) c ss read is = replaced_is n steps v c ss read is
  edits_carry_out (append n steps key v) c ss read is = search (rules, appended_is, either)
  edits_carry_out (remove n steps) c ss read is = by (either (part_removed n c (last_step steps)) (rows_or_sole n steps c) is)
    where
      by : (part_removed n c (last_step steps) ≡ Some ss) ⊎ (rows_or_sole n steps c ≡ Some ss) → IsEdit (remove n steps) c ss
      by (inl e) = part_is n steps c ss read (last_step steps) refl e
      by (inr e) = removed_is n steps c ss read (has_others_at n steps c) refl e
  edits_carry_out (line_comment n steps text) c ss read is = let e = bind_some (rows_of_entry n steps c) is in laws.line_comment n steps text c e.0 ss read e.1 e.2
  edits_carry_out (head_comment n steps text) c ss read is = let e = bind_some (rows_of_entry n steps c) is in laws.head_comment n steps text c e.0 ss read e.1 e.2
