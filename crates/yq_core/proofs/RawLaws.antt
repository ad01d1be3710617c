-- The raw lines of a block scalar, both ways.
use Rattle.std.proofs.Common.{◌≡◌, ℕ, ◌<◌, Bool, true, false, not, List, [], ◌∷◌, ◌++◌, length, Some, refl, sym, ap, ◌∙◌, subst, inl, inr}
use Rattle.std.proofs.Common.{◌⊎◌, ⊎_elim, arith, append_assoc, append-nil, ltb-true, rules}
use Rattle.std.proofs.lemmas.Bool.{false≢true, false_from_ne_true, leb-true, not-true, or_right, and_from, and_parts}
use Rattle.std.proofs.lemmas.Option.{same_Some}
use Rattle.yq_core.{proofs.Bools.{chosen, bind_some}, proofs.LineLaws.{lines_again, AreLines, line_some}}
use Rattle.yq_core.specs.Block.{RawLines, is_empty_line, is_text_line, is_less_indented, ends_block, AreRaw, no_lines, ends_in_text}
use Rattle.yq_core.{specs.BlockReading.{is_empty_at, is_text_at, with_empty, raw_at}, specs.Text.{is_empty, text_lines, joined, is_line}}
use Rattle.yq_core.specs.declared.block_lines.TextIndent.{TextIndent}

-- the raw lines and what follows are the lines
abbrev pub Cut : RawLines → RawLines × RawLines → Type 0
Cut ls x = ls ≡ x.0 ++ x.1

cut_empty : (keep : Bool) (l : List ℕ) (ls : RawLines) (x y : RawLines × RawLines) → Cut ls x → with_empty keep l ls x ≡ Some y → Cut (l ∷ ls) y
cut_empty keep l ls x y h e = search rules

pub raw_split : (keep : Bool) (f : TextIndent) (ls : RawLines) (x : RawLines × RawLines) → raw_at keep f ls ≡ Some x → Cut ls x
unfolding raw_at
raw_split keep f [] x h = subst (Cut []) (same_Some _ _ h) refl
raw_split keep f (l ∷ ls) x h = ⊎_elim {0, 0, 0}
    (λ w. let y = bind_some (raw_at keep f ls) w.1 in cut_empty keep l ls y.0 x (raw_split keep f ls y.0 y.1) y.2)
    (λ w. ⊎_elim {0, 0, 0}
    (λ v. let y = bind_some (raw_at keep f ls) v.1 in subst (Cut (l ∷ ls)) (same_Some _ _ y.2) (ap (λ m. l ∷ m) (raw_split keep f ls y.0 y.1)))
    (λ v. ⊎_elim {0, 0, 0} (λ u. subst (Cut (l ∷ ls)) (same_Some _ _ u.1) refl) (λ u. cc) (chosen (is_less_indented f l) v.1))
    (chosen (is_text_at f l) w.1))
    (chosen (is_empty_at keep f l) h)

-- what the raw lines are, and what follows them
pub record IsRaw (keep : Bool) (f : TextIndent) (x : RawLines × RawLines) : Type 0 where
  pub lines : AreRaw f x.0
  pub ends : (keep ≡ true) ⊎ (ends_in_text f x.0 ≡ true)
  pub after : ends_block keep f x.1 ≡ true

some_nil : (l j : List ℕ) → 0 < length l → is_empty (l ++ j) ≡ false
some_nil [] j some = absurd (omega arith)
some_nil (b ∷ l) j some = refl

pub joined_none : (f : TextIndent) (ls : RawLines) → AreRaw f ls → is_empty (joined ls) ≡ true → ls ≡ []
joined_none f [] a h = refl
joined_none f (l ∷ ls) a h = absurd (false≢true (sym (some_nil l (joined ls) (line_some l a.0.0)) ∙ h))

joined_some : (f : TextIndent) (ls : RawLines) → AreRaw f ls → no_lines ls ≡ false → is_empty (joined ls) ≡ false
joined_some f ls a h = search (rules, false≢true, some_nil, line_some)

-- a line is of one kind
pub next_not_empty : (f : TextIndent) (l : List ℕ) → is_less_indented f l ≡ true → is_empty_line f l ≡ false
next_not_empty f l h = search (rules, and_parts, not-true)

next_not_text : (f : TextIndent) (l : List ℕ) → is_less_indented f l ≡ true → is_text_line f l ≡ false
next_not_text f l h = search (rules, and_parts, ltb-true, false_from_ne_true, leb-true)

-- reading gives such lines
ends_more : (f : TextIndent) (l : List ℕ) (ls : RawLines) → no_lines ls ≡ false → ends_in_text f ls ≡ true → ends_in_text f (l ∷ ls) ≡ true
ends_more f l ls some h = rw some h

ends_text : (f : TextIndent) (l : List ℕ) (ls : RawLines) → is_text_line f l ≡ true → ends_in_text f ls ≡ true → ends_in_text f (l ∷ ls) ≡ true
ends_text f l ls is h = search rules

some_lines : (ls : RawLines) → is_empty (joined ls) ≡ false → no_lines ls ≡ false
some_lines ls h = search rules

no_more : (ls : RawLines) (x : RawLines × RawLines) → ls ≡ [] → Cut ls x → no_lines x.0 ≡ false → ⊥
no_more ls x none cut some = search rules

pub ends_blank : (f : TextIndent) (l : List ℕ) (ls : RawLines) → is_empty_line f l ≡ true → ends_block false f ls ≡ true → ends_block false f (l ∷ ls) ≡ true
unfolding ends_block
ends_blank f l ls is h = rw is h

takes_empty : (keep : Bool) (f : TextIndent) (l : List ℕ) (ls : RawLines) (x y : RawLines × RawLines) → is_empty_at keep f l ≡ true →
    (is_line l ≡ true) ⊎ (ls ≡ []) → Cut ls x → IsRaw keep f x → with_empty keep l ls x ≡ Some y → IsRaw keep f y
takes_empty keep f l ls x y is line cut h e = search (rules, same_Some, and_parts, joined_none, ends_blank, some_lines, no_more, ends_more, false≢true, chosen)

pub raw_takes : (keep : Bool) (f : TextIndent) (ls : RawLines) (x : RawLines × RawLines) → AreLines ls → raw_at keep f ls ≡ Some x → IsRaw keep f x
unfolding raw_at ends_block
raw_takes keep f [] x a h = subst (IsRaw keep f) (same_Some _ _ h) (record { lines = tt; ends = inr refl; after = refl })
raw_takes keep f (l ∷ ls) x a h = ⊎_elim {0, 0, 0}
    (λ w. let y = bind_some (raw_at keep f ls) w.1 in takes_empty keep f l ls y.0 x w.0 a.0 (raw_split keep f ls y.0 y.1) (raw_takes keep f ls y.0 a.1 y.1) y.2)
    (λ w. ⊎_elim {0, 0, 0}
    (λ v. let y = bind_some (raw_at keep f ls) v.1 in
    let again = raw_takes keep f ls y.0 a.1 y.1 in
    let parts = and_parts (is_text_line f l) (is_line l) v.0 in
    subst (IsRaw keep f) (same_Some _ _ y.2) (record {
      lines = ((parts.1, inr parts.0), again.lines);
      ends = ⊎_elim {0, 0, 0} (λ k. inl k) (λ k. inr (ends_text f l y.0.0 parts.0 k)) again.ends;
      after = again.after;
    }))
    (λ v. ⊎_elim {0, 0, 0} (λ u. subst (IsRaw keep f) (same_Some _ _ u.1) (record { lines = tt; ends = inr refl; after = rw (next_not_empty f l u.0) u.0 })) (λ u. cc) (chosen (is_less_indented f l) v.1))
    (chosen (is_text_at f l) w.1))
    (chosen (is_empty_at keep f l) h)

-- such lines are read so
pub raw_none : (keep : Bool) (f : TextIndent) (ls : RawLines) → ends_block keep f ls ≡ true → raw_at keep f ls ≡ Some ([], ls)
unfolding raw_at ends_block
raw_none keep f [] h = refl
raw_none keep f (l ∷ ls) h = ⊎_elim {0, 0, 0}
    (λ w. let parts = and_parts (not keep) (ends_block keep f ls) w.1 in
    let again = raw_none keep f ls parts.1 in
    rw (w.0, parts.0, again) (rw parts.0 refl))
    (λ w. rw (next_not_text f l w.1, w.0, w.1) refl)
    (chosen (is_empty_line f l) h)

following_ends : (keep : Bool) (f : TextIndent) (l : List ℕ) (ls : RawLines) → (keep ≡ true) ⊎ (ends_in_text f (l ∷ ls) ≡ true) → (keep ≡ true) ⊎ (ends_in_text f ls ≡ true)
following_ends keep f l ls e = search rules

pub raw_again : (keep : Bool) (f : TextIndent) (raw rest : RawLines) → AreRaw f raw → (keep ≡ true) ⊎ (ends_in_text f raw ≡ true) → ends_block keep f rest ≡ true → raw_at keep f (raw ++ rest) ≡ Some (raw, rest)
unfolding raw_at
raw_again keep f [] rest a e h = raw_none keep f rest h
raw_again keep f (l ∷ ls) rest a e h =
    let again = raw_again keep f ls rest a.1 (following_ends keep f l ls e) h in
    search (rules, ⊎_elim, false≢true, and_parts, not-true, joined_some, and_from, or_right, again)

-- lines and their text
pub lines_raw : (f : TextIndent) (raw : RawLines) (t : List ℕ) → AreRaw f raw → text_lines (joined raw ++ t) ≡ raw ++ text_lines t
lines_raw f [] t h = refl
lines_raw f (l ∷ raw) t h = ap text_lines (append_assoc l (joined raw) t) ∙ (lines_again l (joined raw ++ t) h.0.0 ∙ ap (λ m. l ∷ m) (lines_raw f raw t h.1))

pub raw_lines : (f : TextIndent) (raw : RawLines) → AreRaw f raw → text_lines (joined raw) ≡ raw
unfolding text_lines
raw_lines f raw h = ap text_lines (sym (append-nil (joined raw))) ∙ (lines_raw f raw [] h ∙ append-nil raw)
