-- The first of several items or entries of a compact collection taken out of a text, by its segments.
use Rattle.std.proofs.Common.{rules, ◌≡◌, ◌⊎◌, inl, inr, refl, ◌∷◌, [], ℕ, ◌≤◌, true, List, ◌++◌, length, Option, Some, None, option_map}
use Rattle.std.{proofs.Common.{sym, ap, ◌∙◌, subst, append-nil}, proofs.lemmas.Option.{none-some, same_Some}, specs.Option.option_or}
use Rattle.yq_text.{specs.Limit.text_limit, specs.Script.{Segment, old_text, new_text}}
use Rattle.yq_core.specs.Paths.{Step}
use Rattle.yq_row_table.{specs.Rows.{Cut, cut_text}, specs.Items.rows_items}
use Rattle.yq_places.{specs.FirstPlaces.first_removal, specs.RemovalPlaces.{Removal, has_others_at, removal_place}}
use Rattle.yq_documents.{specs.Pieces.TextPiece, specs.Reading.read_at}
use Rattle.yq_edit_rules.{specs.Changed.put_document, specs.RemovalChanges.IsTakenOut, proofs.DocumentItemLaws.rows_joined}
use Rattle.yq_edit_rules.{proofs.FirstBreakLaws.IsOneBreak, proofs.FirstOutLaws.first_is_there}
use Rattle.yq_edit_rules.{proofs.FirstRemovalLaws.{IsRowLeft, EndLastRow, first_gone}, specs.EditLaws.{IsEdit, OneIsRemoved}}
use Rattle.yq_edit_rules.{specs.Removing.{first_removed, rows_removed}, specs.Local.{InLast, IsLocalTo}, specs.ReadsAfter.ReadsAfter}
use Rattle.yq_edit_rules.{proofs.LastRows.gone_last, proofs.OneLines.is_one_line, proofs.ItemsLocal.rows_last}
use Rattle.yq_edit_rules.proofs.LocalLaws.{cut_known, RowsGiveWay, one_local}
use Rattle.yq_semantics.specs.Operations.{remove}
use Rattle.yq_edit_laws.proofs.RemovingLaws.{may_take, rows_out, taken_reads}

removed_new : (x : TextPiece) → new_text (first_removed x) ≡ x.before ++ x.after
removed_new x = ap (λ (t : List ℕ). x.before ++ t) (append-nil x.after)

-- ---- the items that go

one_break : (t : List ℕ) → IsOneBreak t → is_one_line t ≡ true
one_break t (inl e) = ap is_one_line e
one_break t (inr e) = ap is_one_line e

left_local : (doc : ℕ) (steps : List Step) (c : Cut) (x : TextPiece) → read_at (cut_text c) ≡ Some c → old_text (first_removed x) ≡ cut_text c → (out : IsTakenOut c doc steps (x.before ++ x.after)) → IsRowLeft c doc x out.old out.new →
    IsLocalTo (first_removed x) c
left_local doc steps c x read old out a =
    let ss : List Segment = first_removed x in
    let e : RowsGiveWay ss c doc out.new = record {
      p = out.old;
      there = out.there;
      start = a.start;
      put = a.put;
      front = a.front;
      gone = a.first ∷ a.others;
      come = a.row ∷ [];
      back = a.back;
      rows_are = a.rows_are;
      come_are = a.new_are;
      end_is = a.end_is;
      lead = a.lead;
      trail = a.trail;
      before_is = append-nil x.before ∙ a.before_is;
      following_is = append-nil x.after ∙ a.following_is;
      puts = refl;
      old_is = old;
      new_is = removed_new x ∙ sym out.text;
    } in
    cut_known ss c (put_document doc out.new c) out.changed.read (out.text ∙ sym (removed_new x)) (one_local ss c doc out.new e a.row refl a.begins (go e a.ends))
  where
    go : (e : RowsGiveWay (first_removed x) c doc out.new) → IsOneBreak e.trail ⊎ EndLastRow e.trail e.gone → InLast e.trail (rows_items e.gone [])
    go e (inl one) = gone_last (first_removed x) c doc out.new e read (one_break e.trail one)
    go e (inr h) = search (rules, rows_joined, rows_last)

-- the first item or entry of a compact collection taken out
first_is_out : (n : ℕ) (steps : List Step) (c : Cut) (x : TextPiece) → read_at (cut_text c) ≡ Some c → has_others_at n steps c ≡ true → first_removal n steps c ≡ Some x → IsEdit (remove n steps) c (first_removed x)
first_is_out n steps c x read others place =
    let old : old_text (first_removed x) ≡ cut_text c =
    ap (λ (t : List ℕ). x.before ++ (x.text ++ t)) (append-nil x.after) ∙ sym (first_is_there c n steps x place) in
    record {
      old = old;
      carried = λ operand fits size.
          let both = first_gone c n steps x read place (may_take n steps c others fits) (subst (λ (t : List ℕ). length t ≤ text_limit) (removed_new x) size) in
          record { reads = subst (ReadsAfter (remove n steps) c) (sym (removed_new x)) (taken_reads n steps c (x.before ++ x.after) read both.0); local = inl (left_local n steps c x read old both.0 both.1) };
    }

pub one_is_removed : OneIsRemoved
one_is_removed n steps c ss read others is = go (removal_place n steps c) refl is
  where
    first : (o : Option TextPiece) → first_removal n steps c ≡ o → option_map first_removed o ≡ Some ss → IsEdit (remove n steps) c ss
    first None at h = absurd (none-some _ h)
    first (Some x) at h = subst (IsEdit (remove n steps) c) (same_Some _ _ h) (first_is_out n steps c x read others at)

    go : (o : Option Removal) → removal_place n steps c ≡ o → option_or (option_map rows_removed o) (option_map first_removed (first_removal n steps c)) ≡ Some ss → IsEdit (remove n steps) c ss
    go None at h = first (first_removal n steps c) refl h
    go (Some x) at h = subst (IsEdit (remove n steps) c) (same_Some _ _ h) (rows_out n steps c x read others at)
