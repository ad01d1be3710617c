-- One of several items or entries taken out of a text, by its segments.
use Rattle.std.proofs.Common.{rules, inl, arith, ◌≡◌, ℕ, ◌≤◌, Bool, true, false, cond, List, [], ◌∷◌, ◌++◌, length, replicate, Option, Some}
use Rattle.std.proofs.Common.{None, refl, sym, ap, ◌∙◌, subst, append_assoc, append-nil}
use Rattle.std.{proofs.lemmas.List.{take-append-drop, length-append}, proofs.lemmas.Option.same_Some}
use Rattle.yq_core.{specs.Block.RawLines, specs.BlockRepair.{is_short, is_outdented_comment, repair}, specs.Lines.is_blank}
use Rattle.yq_core.{specs.Paths.Step, specs.Text.{cut, no_white, past_white, upto, joined, text_lines}, proofs.LineLaws.joined_lines}
use Rattle.yq_text.{specs.Limit.text_limit, specs.Script.{Segment, keep, put, old_text, new_text, kept_back}}
use Rattle.yq_text.proofs.KeptSegments.{IsAfter, after, back_last}
use Rattle.yq_row_table.{specs.Rows.{Row, print_row, Part, Cut, cut_text}, specs.Splices.first_gap, proofs.FrontLaws.front_le}
use Rattle.yq_documents.{specs.Reading.{documents, read_at}, proofs.RunLaws.run_split}
use Rattle.yq_places.specs.RemovalPlaces.{kept_gap, Seam, Removal, removal_place, has_others_at}
use Rattle.yq_edit_rules.{specs.RemovalChanges.{mended, MayTakeOut, IsTakenOut}, proofs.LeadLaws.block_lead_goes}
use Rattle.yq_edit_rules.{proofs.RemovalChangeLaws.{AreRowsTaken, removal_is_there, entry_taken}, specs.Changed.put_document}
use Rattle.yq_edit_rules.{specs.Removes.left_gap, specs.EditLaws.IsEdit}
use Rattle.yq_edit_rules.{specs.Removing.{put_indent, lines_mended, gap_mended, rows_removed}, specs.Local.IsLocalTo}
use Rattle.yq_edit_rules.{specs.ReadsAfter.ReadsAfter, proofs.LocalLaws.{at_row, cut_known}, proofs.DoneLaws.{document_done, part_of}}
use Rattle.yq_edit_rules.proofs.EditsFitLaws.{not_used}
use Rattle.yq_semantics.{specs.Fits.Fits, specs.Operations.remove, specs.Rooms.room_of}
use Rattle.yq_edit_laws.{specs.TouchedRanges.LiesInOne, proofs.GapLaws.{RowsGoOut, out_in_one, out_local}}

-- ---- segments one after the other

old_both : (a b : List Segment) → old_text (a ++ b) ≡ old_text a ++ old_text b
old_both [] b = refl
old_both (keep t ∷ a) b = ap (λ (x : List ℕ). t ++ x) (old_both a b) ∙ sym (append_assoc t (old_text a) (old_text b))
old_both (put o w ∷ a) b = ap (λ (x : List ℕ). o ++ x) (old_both a b) ∙ sym (append_assoc o (old_text a) (old_text b))

new_both : (a b : List Segment) → new_text (a ++ b) ≡ new_text a ++ new_text b
new_both [] b = refl
new_both (keep t ∷ a) b = ap (λ (x : List ℕ). t ++ x) (new_both a b) ∙ sym (append_assoc t (new_text a) (new_text b))
new_both (put o w ∷ a) b = ap (λ (x : List ℕ). w ++ x) (new_both a b) ∙ sym (append_assoc w (new_text a) (new_text b))

-- ---- the gap that is mended

line_parts : (l : List ℕ) → (cut no_white l).0 ++ past_white l ≡ l
line_parts l = take-append-drop (upto no_white l) l

-- a line, whatever becomes of it, before others
line_old : (b k sh out : Bool) (column : ℕ) (l : List ℕ) (ls : RawLines) (ms : List Segment) → old_text ms ≡ joined ls →
    old_text (cond b (cond k (put l [] ∷ []) (cond sh (keep l ∷ []) (put_indent 0 l)) ++ ms) (cond out (keep l ∷ []) (put_indent column l) ++ (keep (joined ls) ∷ []))) ≡ l ++ joined ls
line_old true true sh out column l ls ms h = ap (λ (x : List ℕ). l ++ x) h
line_old true false true out column l ls ms h = ap (λ (x : List ℕ). l ++ x) h
line_old true false false out column l ls ms h =
    ap (λ (x : List ℕ). (cut no_white l).0 ++ (past_white l ++ x)) h ∙ (sym (append_assoc (cut no_white l).0 (past_white l) (joined ls)) ∙ ap (λ (x : List ℕ). x ++ joined ls) (line_parts l))
line_old false k sh true column l ls ms h = ap (λ (x : List ℕ). l ++ x) (append-nil (joined ls))
line_old false k sh false column l ls ms h =
    ap (λ (x : List ℕ). (cut no_white l).0 ++ (past_white l ++ x)) (append-nil (joined ls))
    ∙ (sym (append_assoc (cut no_white l).0 (past_white l) (joined ls)) ∙ ap (λ (x : List ℕ). x ++ joined ls) (line_parts l))

lines_old : (s : Seam) (ls : RawLines) → old_text (lines_mended s ls) ≡ joined ls
lines_old s [] = refl
lines_old s (l ∷ ls) = line_old (is_blank l) s.keeps (is_short s.indent l) (is_outdented_comment s.indent l) s.column l ls (lines_mended s ls) (lines_old s ls)

gap_old : (s : Option Seam) (gap : List ℕ) → old_text (gap_mended s gap) ≡ gap
gap_old None gap = append-nil gap
gap_old (Some s) gap = lines_old s (text_lines gap) ∙ joined_lines gap

line_new : (b k sh out : Bool) (column : ℕ) (l : List ℕ) (ls rs : RawLines) (ms : List Segment) → new_text ms ≡ joined rs →
    new_text (cond b (cond k (put l [] ∷ []) (cond sh (keep l ∷ []) (put_indent 0 l)) ++ ms) (cond out (keep l ∷ []) (put_indent column l) ++ (keep (joined ls) ∷ [])))
    ≡ joined (cond b (cond k rs (cond sh l (past_white l) ∷ rs)) (cond out l (replicate column 32 ++ past_white l) ∷ ls))
line_new b k sh out column l ls rs ms h = search (rules, append-nil, append_assoc)

lines_new : (s : Seam) (ls : RawLines) → new_text (lines_mended s ls) ≡ joined (repair s.keeps s.indent s.column ls)
unfolding repair
lines_new s [] = refl
lines_new s (l ∷ ls) = line_new (is_blank l) s.keeps (is_short s.indent l) (is_outdented_comment s.indent l) s.column l ls (repair s.keeps s.indent s.column ls) (lines_mended s ls) (lines_new s ls)

gap_new : (s : Option Seam) (gap : List ℕ) → new_text (gap_mended s gap) ≡ mended s gap
gap_new None gap = append-nil gap
gap_new (Some s) gap = lines_new s (text_lines gap)

-- ---- what is taken out

removed_old : (x : Removal) → old_text (rows_removed x) ≡ x.before ++ (x.gone ++ (x.gap ++ x.after))
removed_old x = search (rules, x.gone, old_both, x.seam, gap_old, append-nil)

removed_new : (x : Removal) → new_text (rows_removed x) ≡ x.before ++ (mended x.seam x.gap ++ x.after)
removed_new x = search (rules, new_both, x.seam, gap_new, append-nil)

-- ---- the documents after it

pub may_take : (doc : ℕ) (steps : List Step) (c : Cut) → has_others_at doc steps c ≡ true → Fits (room_of (cut_text c)) (remove doc steps) (documents c) → MayTakeOut c doc steps
may_take doc steps c others fits = search (rules, part_of, not_used)

-- the text without an item or entry reads so
pub taken_reads : (doc : ℕ) (steps : List Step) (c : Cut) (t : List ℕ) → read_at (cut_text c) ≡ Some c → IsTakenOut c doc steps t → ReadsAfter (remove doc steps) c t
taken_reads doc steps c t read out = search (rules, block_lead_goes, document_done)

-- ---- the items that go

gap_no_longer : (rs : List Row) (end : List ℕ) (first : Row) (others : List Row) → rs ≡ first ∷ others → length (kept_gap rs end) ≤ length (print_row first [])
gap_no_longer rs end first others e =
    search (rules, arith, run_split (text_lines first.gap) ∙ joined_lines first.gap, ap (λ (xs : List Row). length (kept_gap xs end)) e, length-append)

module _ (doc : ℕ) (steps : List Step) (c : Cut) (x : Removal) (old : old_text (rows_removed x) ≡ cut_text c) (out : IsTakenOut c doc steps (x.before ++ (mended x.seam x.gap ++ x.after))) (a : AreRowsTaken c doc x out.old out.new) where
  went_out : RowsGoOut (rows_removed x) c doc out.old
  went_out =
      let p : Part = out.old in
      let kept : List ℕ = kept_gap (a.first ∷ a.others) p.end in
      let m : IsAfter (gap_mended x.seam x.gap) = after (gap_mended x.seam x.gap) in
      let u : List ℕ = kept_back (gap_mended x.seam x.gap) in
      record {
        there = out.there;
        start = a.start;
        put = a.put;
        front = a.front;
        first = a.first;
        others = a.others;
        back = a.back;
        gap = left_gap a.front (a.first ∷ a.others) a.back p;
        rows_are = a.rows_are;
        lead = kept;
        end' = u;
        before_is = append-nil x.before ∙ (a.before_is ∙ at_row a.start a.front kept);
        following_is = back_last (gap_mended x.seam x.gap) x.after ∙ ap (λ t. u ++ t) a.following_is;
        begins = gap_no_longer (a.first ∷ a.others) p.end a.first a.others refl;
        ends = front_le (first_gap a.back p.end) m.old u (sym a.gap_is ∙ (sym (gap_old x.seam x.gap) ∙ m.old_is));
        puts = refl;
        old_is = old;
        new_is = sym (ap (λ (q : Part). cut_text (put_document doc q c)) (sym a.new_is) ∙ (out.text ∙ sym (removed_new x)));
      }

  taken_local : IsLocalTo (rows_removed x) c
  unfolding went_out
  taken_local = search (rules, out_local (rows_removed x) c doc out.old went_out, cut_known, removed_new)

  pub lies_in_one : (new : Cut) → read_at (new_text (rows_removed x)) ≡ Some new → LiesInOne (rows_removed x) new
  unfolding went_out
  lies_in_one new read =
      subst (LiesInOne (rows_removed x)) (same_Some _ _ (sym out.changed.read ∙ (ap read_at (out.text ∙ sym (removed_new x)) ∙ read)))
      (subst (λ (q : Part). LiesInOne (rows_removed x) (put_document doc q c)) (sym a.new_is) (out_in_one (rows_removed x) c doc out.old went_out))

-- an item or entry taken out with its rows
pub rows_out : (n : ℕ) (steps : List Step) (c : Cut) (x : Removal) → read_at (cut_text c) ≡ Some c → has_others_at n steps c ≡ true → removal_place n steps c ≡ Some x → IsEdit (remove n steps) c (rows_removed x)
rows_out n steps c x read others place =
    let t : List ℕ = x.before ++ (mended x.seam x.gap ++ x.after) in
    let old : old_text (rows_removed x) ≡ cut_text c = removed_old x ∙ sym (removal_is_there c n steps x read place) in
    record {
      old = old;
      carried = λ operand fits size.
          let both = entry_taken c n steps x read place (may_take n steps c others fits) (subst (λ (t : List ℕ). length t ≤ text_limit) (removed_new x) size) in
          record { reads = subst (ReadsAfter (remove n steps) c) (sym (removed_new x)) (taken_reads n steps c t read both.0); local = inl (taken_local n steps c x old both.0 both.1) };
    }

-- what is written then lies in one item
pub rows_near : (n : ℕ) (steps : List Step) (c : Cut) (x : Removal) → read_at (cut_text c) ≡ Some c → has_others_at n steps c ≡ true → removal_place n steps c ≡ Some x → Fits (room_of (cut_text c)) (remove n steps) (documents c) →
    length (new_text (rows_removed x)) ≤ text_limit → (new : Cut) → read_at (new_text (rows_removed x)) ≡ Some new → LiesInOne (rows_removed x) new
rows_near n steps c x read others place fits size =
    let both = entry_taken c n steps x read place (may_take n steps c others fits) (subst (λ (t : List ℕ). length t ≤ text_limit) (removed_new x) size) in
    lies_in_one n steps c x (removed_old x ∙ sym (removal_is_there c n steps x read place)) both.0 both.1
