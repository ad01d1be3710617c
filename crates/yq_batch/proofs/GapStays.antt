-- An item or entry taken out with its lines, where the gap after them stays as it is.
use Rattle.std.proofs.Common.{◌≡◌, ◌⊎◌, inl, inr, ℕ, ◌+◌, ◌<◌, ◌≤◌, Bool, true, false, ◌&&◌, not, cond, leb, List, [], ◌∷◌, ◌++◌, length}
use Rattle.std.{proofs.Common.{Option, Some, None, refl, ap, ◌∙◌, subst, arith, append-nil}, proofs.lemmas.Bool.{le-leb, lt-ltb}}
use Rattle.std.proofs.lemmas.List.{append_cancel_left}
use Rattle.yq_text.specs.Limit.{text_limit}
use Rattle.yq_text.specs.Script.{Segment, are_kept, changes, keep, keep_before, put, put_before, merged, new_text, old_text, splice_at}
use Rattle.yq_text.specs.Script.{splices_at}
use Rattle.yq_core.{specs.BlockRepair.{is_outdented_comment, is_short}, specs.Lines.{without_spaces, is_blank, is_tab, spaces}}
use Rattle.yq_core.{specs.Paths.Step, specs.Text.{ends_line, joined, text_lines}}
use Rattle.yq_row_table.specs.Rows.{Cut, cut_text}
use Rattle.yq_documents.specs.Reading.{read_at}
use Rattle.yq_places.specs.RemovalPlaces.{Removal, Seam, has_others_at, removal_place}
use Rattle.yq_edit_rules.specs.Removing.{blank_mended, comment_mended, gap_mended, lines_mended, put_indent, rows_removed}
use Rattle.yq_edit_rules.proofs.RemovalChangeLaws.{removal_is_there}
use Rattle.yq_edit_laws.{proofs.RemovingLaws.rows_out, specs.Edit.{edit_of_segments, exchange_edit, gives}}
use Rattle.yq_batch.specs.RowRemovals.{AreLow, StaysAt, is_spaced}
use Rattle.yq_text.specs.Exchanging as exchange

-- ---- segments that stay

kept_both : (a b : List Segment) → are_kept a ≡ true → are_kept b ≡ true → are_kept (a ++ b) ≡ true
kept_both [] b h k = k
kept_both (keep t ∷ a) b h k = kept_both a b h k
kept_both (put o w ∷ a) b h k = absurd cc

kept_text_same : (ss : List Segment) → are_kept ss ≡ true → new_text ss ≡ old_text ss
kept_text_same [] h = refl
kept_text_same (keep t ∷ ss) h = ap (λ (x : List ℕ). t ++ x) (kept_text_same ss h)
kept_text_same (put o w ∷ ss) h = absurd cc

pub kept_merged : (ss : List Segment) → are_kept ss ≡ true → (merged ss ≡ []) ⊎ ((t : List ℕ) × (merged ss ≡ keep t ∷ []))
kept_merged [] h = inl refl
kept_merged (put o w ∷ ss) h = absurd cc
kept_merged (keep [] ∷ ss) h = kept_merged ss h
kept_merged (keep (b ∷ t) ∷ ss) h = go (merged ss) (kept_merged ss h)
  where
    go : (ms : List Segment) → (ms ≡ []) ⊎ ((u : List ℕ) × (ms ≡ keep u ∷ [])) → (keep_before (b ∷ t) ms ≡ []) ⊎ ((u : List ℕ) × (keep_before (b ∷ t) ms ≡ keep u ∷ []))
    go ms (inl e) = inr (b ∷ t, ap (keep_before (b ∷ t)) e)
    go ms (inr e) = inr (b ∷ (t ++ e.0), ap (keep_before (b ∷ t)) e.1)

from_start : (n : ℕ) → 0 + n ≡ n
from_start n = omega arith

-- the splices of one exchange between segments that stay
pub one_splice : (b o w : List ℕ) (ss : List Segment) → are_kept ss ≡ true → changes (keep b ∷ (put o w ∷ ss)) ≡ splice_at (length b) o w
unfolding changes
one_splice b o w ss h = go b (merged ss) (kept_merged ss h)
  where
    go : (b : List ℕ) (ms : List Segment) → (ms ≡ []) ⊎ ((t : List ℕ) × (ms ≡ keep t ∷ [])) →
        splices_at 0 (keep_before b (put_before o w ms)) ≡ splice_at (length b) o w
    go [] ms (inl e) = ap (λ (x : List Segment). splices_at 0 (put_before o w x)) e ∙ append-nil _
    go [] ms (inr e) = ap (λ (x : List Segment). splices_at 0 (put_before o w x)) e.1 ∙ append-nil _
    go (x ∷ b) ms (inl e) =
        ap (λ (y : List Segment). splices_at 0 (keep_before (x ∷ b) (put_before o w y))) e ∙ (append-nil _ ∙ ap (λ (n : ℕ). splice_at n o w) (from_start (length (x ∷ b))))
    go (x ∷ b) ms (inr e) =
        ap (λ (y : List Segment). splices_at 0 (keep_before (x ∷ b) (put_before o w y))) e.1 ∙ (append-nil _ ∙ ap (λ (n : ℕ). splice_at n o w) (from_start (length (x ∷ b))))

-- ---- the gap

line_kept : (s : Seam) (n : ℕ) (l : List ℕ) (ls : List (List ℕ)) → s.keeps ≡ false → n ≤ s.indent → is_spaced l ≡ true → spaces l < n → are_kept (lines_mended s ls) ≡ true →
    are_kept (lines_mended s (l ∷ ls)) ≡ true
line_kept s n l ls keeps deep spaced low rest = go (is_blank l) spaced
  where
    short : leb (spaces l) s.indent ≡ true
    short = le-leb (spaces l) s.indent (omega (arith, deep, low))

    go : (b : Bool) → cond b (ends_line (without_spaces l)) (not (is_tab (without_spaces l))) ≡ true → are_kept (cond b (blank_mended s l ++ lines_mended s ls) (comment_mended s l ++ (keep (joined ls) ∷ []))) ≡ true
    go true e =
        let is : is_short s.indent l ≡ true = (λ i. e i && short i) in
        let same : blank_mended s l ≡ keep l ∷ [] = (λ i. cond (keeps i) (put l [] ∷ []) (cond (is i) (keep l ∷ []) (put_indent 0 l))) in
        ap (λ (ss : List Segment). are_kept (ss ++ lines_mended s ls)) same ∙ rest
    go false e =
        let is : is_outdented_comment s.indent l ≡ true = (λ i. lt-ltb (spaces l) s.indent (omega (arith, deep, low)) i && e i) in
        ap (λ (b : Bool). are_kept (cond b (keep l ∷ []) (put_indent s.column l) ++ (keep (joined ls) ∷ []))) is

lines_kept : (s : Seam) (n : ℕ) (ls : List (List ℕ)) → s.keeps ≡ false → n ≤ s.indent → AreLow n ls → are_kept (lines_mended s ls) ≡ true
lines_kept s n [] keeps deep low = refl
lines_kept s n (l ∷ ls) keeps deep low = line_kept s n l ls keeps deep low.0 low.1 (lines_kept s n ls keeps deep low.2)

no_lines : (s : Seam) (ls : List (List ℕ)) → AreLow 0 ls → are_kept (lines_mended s ls) ≡ true
no_lines s [] low = refl
no_lines s (l ∷ ls) low = let less = low.1 in absurd (omega (arith, less))

pub gap_kept : (o : Option Seam) (n : ℕ) (gap : List ℕ) → StaysAt o (Some n) → AreLow n (text_lines gap) → are_kept (gap_mended o gap) ≡ true
gap_kept None n gap stays low = refl
gap_kept (Some s) n gap (inl none) low = no_lines s (text_lines gap) (subst (λ (m : ℕ). AreLow m (text_lines gap)) none low)
gap_kept (Some s) n gap (inr deep) low = lines_kept s n (text_lines gap) deep.0 deep.1 low

-- ---- what comes of it

module _ (n : ℕ) (steps : List Step) (c : Cut) (x : Removal) (read : read_at (cut_text c) ≡ Some c) (others : has_others_at n steps c ≡ true) (place : removal_place n steps c ≡ Some x)
    (kept : are_kept (gap_mended x.seam x.gap) ≡ true) where
  abbrev tail : List Segment
  tail = gap_mended x.seam x.gap ++ (keep x.after ∷ [])

  tail_kept : are_kept tail ≡ true
  tail_kept = kept_both (gap_mended x.seam x.gap) (keep x.after ∷ []) kept refl

  pub text : cut_text c ≡ x.before ++ (x.gone ++ (x.gap ++ x.after))
  text = removal_is_there c n steps x read place

  tail_is : old_text tail ≡ x.gap ++ x.after
  tail_is =
      append_cancel_left x.gone (old_text tail) (x.gap ++ x.after)
      (append_cancel_left x.before (x.gone ++ old_text tail) (x.gone ++ (x.gap ++ x.after)) ((rows_out n steps c x read others place).old ∙ text))

  pub new_is : new_text (rows_removed x) ≡ x.before ++ (x.gap ++ x.after)
  new_is = ap (λ (t : List ℕ). x.before ++ t) (kept_text_same tail tail_kept ∙ tail_is)

  pub segments_come : length (x.before ++ (x.gap ++ x.after)) ≤ text_limit → edit_of_segments (rows_removed x) ≡ gives (x.before ++ (x.gap ++ x.after)) (splice_at (length x.before) x.gone [])
  segments_come size =
      (λ i. exchange_edit (cond (leb (length (new_is i)) text_limit) (exchange.gives (new_is i) (one_splice x.before x.gone [] tail tail_kept i)) exchange.too_large))
      ∙ ap (λ (b : Bool). exchange_edit (cond b (exchange.gives (x.before ++ (x.gap ++ x.after)) (splice_at (length x.before) x.gone [])) exchange.too_large))
      (le-leb (length (x.before ++ (x.gap ++ x.after))) text_limit size)
