-- Segments that put one text in the place of another: a value on one line, a line comment or a head comment.
use Rattle.std.proofs.lemmas.Grind.{common_steps}
use Rattle.std.proofs.Common.{rules, ◌≡◌, ℕ, ◌+◌, Bool, true, false, cond, List, [], ◌∷◌, ◌++◌, length, refl, ap, ◌∙◌, arith, append-nil}
use Rattle.std.{proofs.Common.{append_assoc, length-append, subst}, specs.Prelude.⊤}
use Rattle.yq_core.{specs.declared.style.Place.TheVariants.Block as InBlock, specs.Text.joined, specs.Tree.Node}
use Rattle.yq_places.specs.Placements.{Held, LinesIn}
use Rattle.yq_text.proofs.BetweenLaws.{after_nothing}
use Rattle.yq_text.{specs.Script.{Segment, changes, keep, keep_before, merged, put, put_before, splice_at, splices_at}, specs.Splice.Splice}
use Rattle.yq_text.proofs.TouchLaws.{put_twice}
use Rattle.yq_edit_rules.{specs.CommentEdits.comment_written, specs.EntryEdits.after_held, specs.PiecePuts.after_lines}
use Rattle.yq_edit_rules.specs.ReplaceEdits.{spaced_text}
use Rattle.yq_edit_rules.specs.RowChanges.{CommentPutsOne, InlinePutsOne, PiecePutsOne, PutsOne, inline_put, takes_white}
use Rattle.yq_edit_rules.specs.WrittenValues.{value_text}

-- ---- segments that exchange no bytes

abbrev AreQuiet : List Segment → Type 0
AreQuiet [] = ⊤
AreQuiet (keep t ∷ ss) = AreQuiet ss
AreQuiet (put o w ∷ ss) = (o ≡ []) × (w ≡ []) × AreQuiet ss

after_keep : (n : ℕ) (t : List ℕ) (ss : List Segment) → splices_at n (keep_before t ss) ≡ splices_at (n + length t) ss
after_keep n [] ss = let same : n ≡ n + 0 = omega arith in ap (λ (m : ℕ). splices_at m ss) same
after_keep n (b ∷ t) [] = refl
after_keep n (b ∷ t) (keep u ∷ ss) = let same : n + length (b ∷ (t ++ u)) ≡ n + length (b ∷ t) + length u = omega (arith, length-append t u) in ap (λ (m : ℕ). splices_at m ss) same
after_keep n (b ∷ t) (put o w ∷ ss) = refl

first_keep : (t : List ℕ) (ss : List Segment) → splices_at 0 (keep_before t ss) ≡ splices_at (length t) ss
first_keep t ss = let same : 0 + length t ≡ length t = omega arith in after_keep 0 t ss ∙ ap (λ (m : ℕ). splices_at m ss) same

-- texts that are kept one after the other
abbrev keeps : List (List ℕ) → List Segment → List Segment
keeps [] ss = ss
keeps (t ∷ ts) ss = keep t ∷ keeps ts ss

kept_first : (ts : List (List ℕ)) (n : ℕ) (ss : List Segment) → splices_at n (merged (keeps ts ss)) ≡ splices_at (n + length (joined ts)) (merged ss)
kept_first [] n ss = let same : n ≡ n + 0 = omega arith in ap (λ (m : ℕ). splices_at m (merged ss)) same
kept_first (t ∷ ts) n ss =
    let same : n + length t + length (joined ts) ≡ n + length (t ++ joined ts) = omega (arith, length-append t (joined ts)) in
    after_keep n t (merged (keeps ts ss)) ∙ (kept_first ts (n + length t) ss ∙ ap (λ (m : ℕ). splices_at m (merged ss)) same)

quiet_splices : (n : ℕ) (ss : List Segment) → AreQuiet ss → splices_at n (merged ss) ≡ []
quiet_splices n [] h = refl
quiet_splices n (keep t ∷ ss) h = after_keep n t (merged ss) ∙ quiet_splices (n + length t) ss h
quiet_splices n (put o w ∷ ss) h = (λ i. splices_at n (put_before (h.0 i) (h.1 i) (merged ss))) ∙ (after_nothing n (merged ss) ∙ quiet_splices n ss h.2)

put_keep : (o w : List ℕ) (b : ℕ) (t : List ℕ) (ss : List Segment) → put_before o w (keep_before (b ∷ t) ss) ≡ put o w ∷ keep_before (b ∷ t) ss
put_keep o w b t [] = refl
put_keep o w b t (keep u ∷ ss) = refl
put_keep o w b t (put p x ∷ ss) = refl

-- before such ones an exchange is one splice
put_quiet : (n : ℕ) (o w : List ℕ) (ss : List Segment) → AreQuiet ss → splices_at n (put_before o w (merged ss)) ≡ splice_at n o w
put_quiet n o w [] h = append-nil (splice_at n o w)
put_quiet n o w (keep [] ∷ ss) h = put_quiet n o w ss h
put_quiet n o w (keep (b ∷ t) ∷ ss) h =
    ap (splices_at n) (put_keep o w b t (merged ss))
    ∙ (ap (λ (cs : List Splice). splice_at n o w ++ cs) (quiet_splices (n + length w) (keep (b ∷ t) ∷ ss) h) ∙ append-nil (splice_at n o w))
put_quiet n o w (put p x ∷ ss) h =
    (λ i. splices_at n (put_before o w (put_before (h.0 i) (h.1 i) (merged ss))))
    ∙ (ap (splices_at n) (put_twice o w [] [] (merged ss)) ∙ ((λ i. splices_at n (put_before (append-nil o i) (append-nil w i) (merged ss))) ∙ put_quiet n o w ss h.2))

-- ---- a value on one line

pub value_put_one : (v : Node) (h : Held) → h.break ≡ [] → h.lines ≡ [] →
    PutsOne (inline_put v h) (h.before ++ h.space) h.head (spaced_text h.head (value_text InBlock h.head v)) (h.white ++ (h.comment ++ (h.last ++ h.after)))
unfolding changes
value_put_one v h none no_lines = grind (arith, common_steps, append-nil, append_assoc, first_keep, after_keep, put_quiet, length-append)

pub inline_puts : InlinePutsOne
inline_puts v h some none no_lines =
    subst (λ (t : List ℕ). PutsOne (inline_put v h) (h.before ++ h.space) h.head t (h.white ++ (h.comment ++ (h.last ++ h.after))))
    (ap (λ (b : Bool). cond b (32 ∷ value_text InBlock h.head v) (value_text InBlock h.head v)) some) (value_put_one v h none no_lines)

-- ---- lines after those under a key or dash

pub lines_put_one : (h : Held) (new : List ℕ) → PutsOne (after_held h new) (h.before ++ (h.space ++ (h.head ++ (h.white ++ (h.comment ++ (h.break ++ (h.lines ++ h.last))))))) [] new h.after
unfolding changes
lines_put_one h new =
    let ts : List (List ℕ) = h.before ∷ (h.space ∷ (h.head ∷ (h.white ∷ (h.comment ∷ (h.break ∷ (h.lines ∷ (h.last ∷ []))))))) in
    record {
      old_is = simp (append_assoc, append-nil) refl;
      new_is = simp (append_assoc, append-nil) refl;
      changes_are =
          kept_first ts 0 (put [] new ∷ (keep h.after ∷ []))
          ∙ (put_quiet (0 + length (joined ts)) [] new (keep h.after ∷ []) tt
          ∙ ap (λ (m : ℕ). splice_at m [] new)
          (omega (
            arith,
            ap (λ (x : List ℕ). length (h.before ++ (h.space ++ (h.head ++ (h.white ++ (h.comment ++ (h.break ++ (h.lines ++ x))))))))
                (append-nil h.last),
          )));
    }

-- ---- lines after others

pub lines_put_after : (w : LinesIn) (new : List ℕ) → PutsOne (after_lines w new) (w.before ++ (w.lines ++ w.last)) [] new w.after
unfolding changes
lines_put_after w new = search (rules, append_assoc, append-nil, first_keep, after_keep, put_quiet, length-append)

-- ---- a line comment

module _ (h : Held) (text : List ℕ) where
  abbrev lower : List ℕ
  lower = h.break ++ (h.lines ++ (h.last ++ h.after))

  abbrev kept : List Segment
  kept = keep h.break ∷ (keep h.lines ∷ (keep h.last ∷ (keep h.after ∷ [])))

  abbrev new : List ℕ
  new = comment_written text h.comment

  abbrev segments : Bool → List Segment
  segments b = keep h.before ∷ (keep h.space ∷ (keep h.head ∷ (cond b (put h.white []) (keep h.white) ∷ (put h.comment new ∷ kept))))

  by_white : (b : Bool) → PutsOne (segments b) (h.before ++ (h.space ++ (h.head ++ cond b [] h.white))) (cond b h.white [] ++ h.comment) new lower
  unfolding changes
  by_white true = grind (arith, common_steps, append_assoc, append-nil, kept_first, put_twice, put_quiet)
  by_white false = record {
    old_is = simp (append_assoc, append-nil) refl;
    new_is = simp (append_assoc, append-nil) refl;
    changes_are =
        kept_first (h.before ∷ (h.space ∷ (h.head ∷ (h.white ∷ [])))) 0 (put h.comment new ∷ kept)
        ∙ (put_quiet (0 + length (h.before ++ (h.space ++ (h.head ++ (h.white ++ []))))) h.comment new kept tt
        ∙ ap (λ (m : ℕ). splice_at m h.comment new) (omega (arith, ap (λ (x : List ℕ). length (h.before ++ (h.space ++ (h.head ++ x)))) (append-nil h.white))));
  }

pub comment_puts : CommentPutsOne
comment_puts text h = by_white h text (takes_white text h)

-- ---- a piece

pub piece_puts : PiecePutsOne
unfolding changes
piece_puts w t = search (rules, append-nil, first_keep, put_quiet)
