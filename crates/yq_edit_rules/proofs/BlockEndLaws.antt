-- What comes after rows that are written one after the other.
use Rattle.std.proofs.Common.{rules, ◌≡◌, ℕ, suc, ◌≤◌, Bool, true, false, not, ◌&&◌, ◌||◌, eqb, List, ◌++◌, Option, Some, refl, sym, ◌∙◌}
use Rattle.std.{proofs.Common.{inl, inr, arith, []}, proofs.lemmas.Bool.{false≢true, not-true, false_from_ne_true, and_parts, cases_Bool}}
use Rattle.yq_core.{specs.declared.block_types.Break.Break, specs.BlockWritten.break_text}
use Rattle.yq_core.specs.Plain.{no_gap, last_line, plain_may_follow, follows, ends_plain, ends_text}
use Rattle.yq_core.specs.Text.{cut, is_space, is_empty, is_line, front}
use Rattle.yq_row_table.{specs.Grammar.IsTail, proofs.PlainEnds.{AtLine, tail_ends}}
use Rattle.yq_edit_rules.specs.BlockValues.{IsEnd}
use Rattle.yq_core.specs.declared.block_types.Break.TheVariants as breaks

-- a break
pub break_tail : (br : Break) (rest : List ℕ) → IsTail (break_text br) rest
unfolding is_line
break_tail breaks.Lf rest = record { white = []; comment = []; line = record { break = break_text breaks.Lf; spelled = refl; blank = tt; as_comment = tt; ends = inl refl }; apart = refl }
break_tail breaks.CrLf rest = record { white = []; comment = []; line = record { break = break_text breaks.CrLf; spelled = refl; blank = tt; as_comment = tt; ends = inl refl }; apart = refl }

pub break_ends : (br : Break) (d : ℕ) (rest : List ℕ) → AtLine d rest → ends_plain false (Some d) (break_text br ++ rest) ≡ true
break_ends br d rest at = let tail = break_tail br rest in tail_ends d tail.white tail.comment (break_text br) rest tail.line tail.apart at

pub line_ends : (br : Break) (column : ℕ) (rest : List ℕ) → AtLine (suc column) rest → IsEnd column (break_text br) rest
line_ends br column rest at = record { tail = break_tail br rest; plain = break_ends br (suc column) rest at }

follow_less : (d e : ℕ) (line : Option (List ℕ)) (text : List ℕ) → d ≤ e → plain_may_follow (Some e) line text ≡ true → plain_may_follow (Some d) line text ≡ true
follow_less d e line text h k = search (rules, and_parts)

abbrev may_go_on : List ℕ → Bool
may_go_on t = not (is_empty t) && not (front (λ b. eqb b 35) t) && not (ends_text false t)

follows_less : (d e : ℕ) (gap text : List ℕ) → d ≤ e → follows false (Some d) gap text ≡ false → follows false (Some e) gap text ≡ false
follows_less d e gap text h k = false_from_ne_true (follows false (Some e) gap text) (λ on.
    let p = and_parts (may_go_on text) (plain_may_follow (Some e) (last_line gap) text) on in
    let yes : follows false (Some d) gap text ≡ true = rw (p.0, follow_less d e (last_line gap) text h p.1) refl in
    false≢true (sym k ∙ yes))

ends_deeper : (d e : ℕ) (t : List ℕ) → d ≤ e → ends_plain false (Some d) t ≡ true → ends_plain false (Some e) t ≡ true
ends_deeper d e t h k = elim (cases_Bool (is_space t)) [
  | inl s ↦ (
      let no : follows false (Some d) (cut no_gap t).0 (cut no_gap t).1 ≡ false = not-true _ (rw s at k) in
      rw s (rw (follows_less d e (cut no_gap t).0 (cut no_gap t).1 h no) refl))
  | inr s ↦ (let same : (is_empty t || ends_text false t) ≡ true = rw s at k in rw s same)
]

pub deeper_end : (column below : ℕ) (end rest : List ℕ) → column ≤ below → IsEnd column end rest → IsEnd below end rest
deeper_end column below end rest h e = record { tail = e.tail; plain = ends_deeper (suc column) (suc below) (end ++ rest) (omega (arith, h)) e.plain }
