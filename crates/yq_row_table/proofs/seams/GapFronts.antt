-- Gaps one after the other, and what stays in front of a gap after a block scalar.
use Rattle.std.proofs.Common.{◌≡◌, ℕ, Bool, true, false, not, List, [], ◌∷◌, ◌++◌, refl, sym, ap, ◌∙◌, subst, ⊎_elim, rules}
use Rattle.std.proofs.lemmas.Bool.{false≢true, not-false, not-true, and_parts, cases_Bool, or_parts}
use Rattle.yq_core.{specs.Block.{RawLines, ends_block, is_empty_line, is_less_indented}, specs.declared.block_lines.TextIndent.TextIndent}
use Rattle.yq_core.{specs.Lines.{without_spaces, is_blank}, specs.Text.{is_empty, ends_line, joined, text_lines}, specs.BlockRepair.repair}
use Rattle.yq_core.{proofs.SpaceLaws.char_not_blank, proofs.LineLaws.joined-append}
use Rattle.yq_row_table.{specs.Gap.{AreGapLines, IsGap}, specs.Removal.hold_comment, proofs.NothingLaws.{some_after, line_end_other}}
use Rattle.yq_row_table.proofs.seams.GapSeams.{gap_lines_of, lines_before, repaired_gap}

-- gaps one after the other
lines_joined : (ls ms : List (List ℕ)) (x y : List ℕ) → is_empty x ≡ false → AreGapLines ls x → AreGapLines ms y → AreGapLines (ls ++ ms) y
lines_joined [] ms x y some h k = k
lines_joined (l ∷ ls) ms x y some h k = search (rules, line_end_other, some_after, lines_joined ls ms x y some h.1 k)

-- A gap before a text that isn't empty, and a gap after it.
pub gap_joined : (g h x y : List ℕ) → is_empty x ≡ false → IsGap g x → IsGap h y → IsGap (g ++ h) y
gap_joined g h x y some a b = search (rules, joined-append, lines_joined)

pub gap_lines : (gap rest : List ℕ) (h : IsGap gap rest) → text_lines gap ≡ h.lines
gap_lines gap rest h = ap text_lines h.spelled ∙ gap_lines_of h.lines rest h.each

pub lines_joined_of : (kept next x : List ℕ) → is_empty x ≡ false → IsGap kept x → text_lines (kept ++ next) ≡ text_lines kept ++ text_lines next
lines_joined_of kept next x some h = ap (λ g. text_lines (g ++ next)) h.spelled ∙ (lines_before h.lines x next some h.each ∙ ap (λ ls. ls ++ text_lines next) (sym (gap_lines kept x h)))

pub gap_repaired : (keep : Bool) (m column : ℕ) (gap rest : List ℕ) → IsGap gap rest → IsGap (joined (repair keep m column (text_lines gap))) rest
gap_repaired keep m column gap rest h = subst (λ (ls : RawLines). IsGap (joined (repair keep m column ls)) rest) (sym (gap_lines gap rest h)) (repaired_gap keep m column h.lines rest h.each)

pub ends_blank : (keep : Bool) (f : TextIndent) (ls old new : RawLines) → hold_comment ls ≡ false → ends_block keep f (ls ++ old) ≡ true → ends_block keep f new ≡ true → ends_block keep f (ls ++ new) ≡ true
unfolding ends_block
ends_blank keep f [] old new c h k = k
ends_blank keep f (l ∷ ls) old new c h k =
    let parts = or_parts (not (is_blank l)) (hold_comment ls) c in
    let blank = not-false (is_blank l) parts.0 in
    ⊎_elim {0, 0, 0}
    (λ e.
    let more = and_parts (not keep) (ends_block keep f (ls ++ old)) (rw e at h) in
    let again = ends_blank keep f ls old new parts.1 more.1 k in
    rw (more.0, again) (rw e refl))
    (λ e. absurd (search (rules, and_parts, false≢true, char_not_blank, not-true)))
    (cases_Bool (is_empty_line f l))

pub ends_comment : (keep : Bool) (f : TextIndent) (ls old new : RawLines) → hold_comment ls ≡ true → ends_block keep f (ls ++ old) ≡ true → ends_block keep f (ls ++ new) ≡ true
unfolding ends_block
ends_comment keep f [] old new c h = absurd (false≢true c)
ends_comment keep f (l ∷ ls) old new c h = ⊎_elim {0, 0, 0}
    (λ e.
    let more = and_parts (not keep) (ends_block keep f (ls ++ old)) (rw e at h) in
    let blank : is_blank l ≡ true = Rattle.yq_core.proofs.SpaceLaws.spaces_blank l (and_parts (ends_line (without_spaces l)) _ e).0 in
    let rest : hold_comment ls ≡ true = rw blank at c in
    let again = ends_comment keep f ls old new rest more.1 in
    rw (more.0, again) (rw e refl))
    (λ e. let less : is_less_indented f l ≡ true = rw e at h in rw e less)
    (cases_Bool (is_empty_line f l))
