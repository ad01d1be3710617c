-- One more item or entry taken out of a collection of a head, before those that were.
use Rattle.std.proofs.Common.{◌≡◌, ℕ, ◌≤◌, ◌<◌, List, [], ◌++◌, length, take, drop, Option, Some, option_map, refl, sym, ap, ◌∙◌}
use Rattle.std.{proofs.Common.{append_assoc, arith}, specs.Option.option_or, specs.Str.IsCharBoundary}
use Rattle.yq_text.{specs.Limit.text_limit, specs.Script.{Segment, splice_at}}
use Rattle.yq_core.{specs.Answers.◌>>=◌, specs.Paths.Step, specs.Collections.CollPieces}
use Rattle.yq_flow_edits.{specs.FlowEdits.FlowEdit, specs.Removals.removing}
use Rattle.yq_row_table.specs.Rows.{Cut, cut_text}
use Rattle.yq_documents.specs.Reading.{read_at}
use Rattle.yq_places.{specs.FlowNodes.flow_collection, specs.Placements.last_step}
use Rattle.yq_semantics.{specs.Operations.remove, specs.declared.refusal.Refusal.TheVariants.TooLarge}
use Rattle.yq_edit_rules.{specs.Edits.{op_edits, or_stay, part_removed, rows_or_sole}, specs.FlowParts.{flow_removed, flow_segments}}
use Rattle.yq_edit_laws.{proofs.CutLaws.text_read, proofs.FlowPlacements.at}
use Rattle.yq_edit_laws.proofs.FlowRemoveLaws.{bounds, bytes, collection_before, head_after, next, removed_reads, texts}
use Rattle.yq_edit_laws.{specs.Carried.{carried, carry_one}, specs.Edit.{by_reading, edit_of_segments, gives, refuses}}
use Rattle.yq_edit_laws.specs.Theorems.{IsFitting}
use Rattle.yq_batch.{specs.RemovalRuns.{IsRemovalRun, text_exchanged}, proofs.HeadsBefore.row_keeps, proofs.RunEdits.fits_now}
use Rattle.yq_batch.proofs.BackEdits.{back_finish, back_large, back_new, back_order, back_start, back_text, back_there, drop_is, gone_first}
use Rattle.yq_batch.proofs.BackEdits.{gone_is, own_front}

-- An edit of a collection as it is now, which begins in the bytes that stay, and puts nothing.
module _ (c : Cut) (n : ℕ) (stem left path : List Step) (s : Step) (keep : ℕ) (tail : List ℕ) (run : IsRemovalRun c n stem keep tail)
    (last : last_step path ≡ Some (stem ++ left, s)) (z : CollPieces) (found : flow_collection n (stem ++ left) run.cut ≡ Some z)
    (g : FlowEdit) (gone : removing s z ≡ Some g) (lead : g.lead ≡ []) (before : List ℕ) (now_is : take keep (cut_text c) ++ tail ≡ before ++ (g.old ++ g.after))
    (start finish : ℕ) (start_is : start ≡ length before) (finish_is : finish ≡ length (before ++ g.old)) (short : start ≤ keep) where
  abbrev pub t : List ℕ
  t = cut_text c

  abbrev pub now : List ℕ
  now = take keep t ++ tail

  abbrev pub text : cut_text run.cut ≡ now
  text = text_read now run.cut run.read

  abbrev pub read : read_at (cut_text run.cut) ≡ Some run.cut
  read = ap read_at text ∙ run.read

  nothing : g.lead ++ g.written ≡ []
  nothing = λ i. lead i ++ (bytes run.cut n path (stem ++ left) s z g read last found gone).none_written i

  edits : op_edits (remove n path) run.cut ≡ Some (flow_segments (cut_text run.cut) g)
  edits =
      ap (λ (o : Option (List Segment)). option_or o (rows_or_sole n path run.cut))
      (ap (part_removed n run.cut) last ∙ (ap (λ (o : Option CollPieces). o >>= flow_removed (cut_text run.cut) s) found ∙ ap (option_map (flow_segments (cut_text run.cut))) gone))

  comes : carried (remove n path) now ≡ edit_of_segments (flow_segments (cut_text run.cut) g)
  comes =
      ap (carried (remove n path)) (sym text)
      ∙ (ap (by_reading (carry_one (remove n path))) read ∙ ap (λ (o : Option (List Segment)). edit_of_segments (or_stay run.cut o)) edits)

  without : text_exchanged now start finish (g.lead ++ g.written) ≡ text_exchanged now start finish []
  without = ap (text_exchanged now start finish) nothing

  pub removal_there : length (text_exchanged now start finish []) ≤ text_limit → carried (remove n path) now ≡ gives (text_exchanged now start finish []) (splice_at start (drop start (take finish now)) [])
  removal_there small =
      back_there c n stem keep tail run g before now_is start finish start_is finish_is short (remove n path) comes (omega (arith, small, ap length without))
      ∙ λ i. gives (without i) (splice_at start (drop start (take finish now)) (nothing i))

  pub removal_large : text_limit < length (text_exchanged now start finish []) → carried (remove n path) now ≡ refuses TooLarge
  removal_large large = back_large c n stem keep tail run g before now_is start finish start_is finish_is short (remove n path) comes (omega (arith, large, ap length without))

  -- where it goes, in the text as it is now
  pub start_there : IsCharBoundary now start
  start_there = back_start c n stem keep tail run g before now_is start finish start_is finish_is short (bounds run.cut n path (stem ++ left) s z g read last found gone)

  pub finish_there : IsCharBoundary now finish
  finish_there = back_finish c n stem keep tail run g before now_is start finish start_is finish_is short (bounds run.cut n path (stem ++ left) s z g read last found gone)

  pub in_order : start ≤ finish
  in_order = back_order c n stem keep tail run g before now_is start finish start_is finish_is short

  -- the run goes on after it
  pub new_text_is : text_exchanged now start finish [] ≡ take start t ++ g.after
  new_text_is =
      sym without
      ∙ (back_text c n stem keep tail run g before now_is start finish start_is finish_is short ∙ ap (λ (l : List ℕ). take start t ++ (l ++ g.after)) nothing)

  pub front_stays : take start t ++ g.after ≡ before ++ g.after
  front_stays = ap (λ (l : List ℕ). l ++ g.after) (own_front c n stem keep tail run g before now_is start finish start_is finish_is short)

  abbrev pub next_cut : Cut
  next_cut = next run.cut n path (stem ++ left) s z g read last found gone stem left refl run.leads

  abbrev first : List ℕ
  first = gone_first c n stem keep tail run g before now_is start finish start_is finish_is short

  pub removal_goes_on : IsFitting (remove n path) now → length (text_exchanged now start finish []) ≤ text_limit →
      (on : IsRemovalRun c n stem start g.after) × (on.cut ≡ next_cut)
  removal_goes_on fitting small =
      let fit = fits_now (remove n path) now run.cut tt fitting run.read in
      let new_bytes = back_new c n stem keep tail run g before now_is start finish start_is finish_is short ∙ without in
      let reads = removed_reads run.cut n path (stem ++ left) s z g read last found gone fit (omega (arith, small, ap length new_bytes)) in (
        record {
          within = omega (arith, short, run.within);
          cut = next_cut;
          read = ap read_at (sym (new_bytes ∙ new_text_is)) ∙ reads;
          leads = head_after run.cut n path (stem ++ left) s z g read last found gone stem left refl run.leads;
          stays = λ ss u m at_end ends.
              let own : u.rest ≡ (m ++ first) ++ drop keep t = ends ∙ (ap (λ (l : List ℕ). m ++ l) (drop_is c n stem keep tail run g before now_is start finish start_is finish_is short) ∙ sym (append_assoc m first (drop keep t))) in
              let rest : (m ++ first) ++ tail ≡ m ++ (g.old ++ g.after) = append_assoc m first tail ∙ ap (λ (l : List ℕ). m ++ l) (gone_is c n stem keep tail run g before now_is start finish start_is finish_is short) in
              collection_before run.cut n path (stem ++ left) s z g read last found gone stem left refl run.leads ss (record u { rest = (m ++ first) ++ tail }) m (run.stays ss u (m ++ first) at_end own) rest
              ∙ ap (λ (l : List ℕ). Some (record u { rest = m ++ (l ++ g.after) })) nothing;
          row =
              let now_read : read_at (cut_text next_cut) ≡ Some next_cut = ap read_at (text_read _ next_cut reads) ∙ reads in
              row_keeps c run.cut n (stem ++ left) z (at run.cut n (stem ++ left) z read found) g stem left refl run.leads read (texts run.cut n path (stem ++ left) s z g read last found gone) now_read
              keep start tail first g.after run.row (ap (λ (l : List ℕ). l ++ g.after) nothing) (drop_is c n stem keep tail run g before now_is start finish start_is finish_is short)
              (gone_is c n stem keep tail run g before now_is start finish start_is finish_is short);
        },
        refl,
      )
