-- A text in one line in the place of the lines under a key or dash after which nothing is on its line.
use Rattle.std.proofs.Common.{◌≡◌, ◌⊎◌, inl, inr, ℕ, ◌+◌, ◌≤◌, true, cond, List, [], ◌∷◌, ◌++◌, length, drop, take, refl, sym, ap, ◌∙◌}
use Rattle.std.{proofs.Common.{append_assoc, append-nil, arith, length-append}, proofs.Math.Seq.{take-append_seam, drop-append_seam}}
use Rattle.std.proofs.lemmas.Bool.{le-leb}
use Rattle.yq_core.{specs.Paths.{Step, To, Nth}, specs.declared.style.Place.TheVariants.Block as InBlock, specs.Nodes.node_text}
use Rattle.yq_core.specs.NodesWritten.{flow_of}
use Rattle.yq_text.specs.Limit.{text_limit}
use Rattle.yq_text.specs.Script.{Segment, are_kept, changes, keep, keep_before, merged, new_text, put, put_before, splice_at, splices_at}
use Rattle.yq_places.specs.Placements.{Held}
use Rattle.yq_edit_rules.{specs.PlacementLaws.held_text, specs.ReplaceEdits.{held_put, spaced_text}}
use Rattle.yq_edit_rules.specs.WrittenValues.{inline, value_text}
use Rattle.yq_edit_laws.specs.Edit.{edit_of_segments, exchange_edit, gives}
use Rattle.yq_batch.{specs.EmptiedRows.emptied_text, specs.RemovalRuns.text_exchanged, proofs.GapStays.{kept_merged, one_splice}}
use Rattle.yq_batch.proofs.SoleRows.{emptied_value}
use Rattle.yq_text.specs.Exchanging as exchange

-- the text of an empty collection, after a space
pub emptied_is : (s : Step) → 32 ∷ value_text InBlock [] (emptied_value s) ≡ emptied_text s
unfolding node_text flow_of
emptied_is (To k) = refl
emptied_is (Nth n) = refl

-- ---- exchanges that touch

keeps : (b sp o w : List ℕ) (ms : List Segment) → keep_before b (keep_before sp (put o w ∷ ms)) ≡ keep_before (b ++ sp) (put o w ∷ ms)
keeps b [] o w ms = ap (λ (y : List ℕ). keep_before y (put o w ∷ ms)) (sym (append-nil b))
keeps [] (y ∷ sp) o w ms = refl
keeps (x ∷ b) (y ∷ sp) o w ms = refl

joined_splice : (b sp w br ls : List ℕ) (rest : List Segment) → are_kept rest ≡ true →
    changes (keep b ∷ (keep sp ∷ (put [] w ∷ (keep [] ∷ (keep [] ∷ (put br [] ∷ (put ls [] ∷ rest))))))) ≡ splice_at (length (b ++ sp)) (br ++ ls) w
unfolding changes
joined_splice b sp w br ls rest kept = ap (splices_at 0) (go (merged rest) (kept_merged rest kept)) ∙ one_splice (b ++ sp) (br ++ ls) w rest kept
  where
    go : (ms : List Segment) → (ms ≡ []) ⊎ ((t : List ℕ) × (ms ≡ keep t ∷ [])) →
        keep_before b (keep_before sp (put_before [] w (put_before br [] (put_before ls [] ms)))) ≡ keep_before (b ++ sp) (put_before (br ++ ls) w ms)
    go ms (inl e) =
        (λ i. keep_before b (keep_before sp (put_before [] w (put_before br [] (put_before ls [] (e i))))))
        ∙ ((λ i. keep_before b (keep_before sp (put (br ++ ls) (append-nil w i) ∷ [])))
        ∙ (keeps b sp (br ++ ls) w [] ∙ λ i. keep_before (b ++ sp) (put_before (br ++ ls) w (sym e i))))
    go ms (inr e) =
        (λ i. keep_before b (keep_before sp (put_before [] w (put_before br [] (put_before ls [] (e.1 i))))))
        ∙ ((λ i. keep_before b (keep_before sp (put (br ++ ls) (append-nil w i) ∷ (keep e.0 ∷ []))))
        ∙ (keeps b sp (br ++ ls) w (keep e.0 ∷ []) ∙ λ i. keep_before (b ++ sp) (put_before (br ++ ls) w (sym e.1 i))))

-- ---- what a key or dash holds

module _ (br : List ℕ) (h : Held) (t : List ℕ) (head : h.head ≡ []) (white : h.white ≡ []) (comment : h.comment ≡ []) where
  abbrev pub us : List Segment
  us = held_put br h (inline t)

  abbrev pub before : List ℕ
  before = h.before ++ h.space

  abbrev pub old : List ℕ
  old = h.break ++ h.lines

  abbrev pub after : List ℕ
  after = h.last ++ h.after

  pub old_is : held_text h ≡ before ++ (old ++ after)
  old_is =
      (λ i. h.before ++ (h.space ++ (head i ++ (white i ++ (comment i ++ (h.break ++ (h.lines ++ (h.last ++ h.after))))))))
      ∙ (sym (append_assoc h.before h.space (h.break ++ (h.lines ++ after))) ∙ ap (λ (l : List ℕ). before ++ l) (sym (append_assoc h.break h.lines after)))

  pub new_is : new_text us ≡ before ++ ((32 ∷ t) ++ after)
  new_is =
      (λ i. h.before ++ (h.space ++ (spaced_text (head i) t ++ (white i ++ (comment i ++ (h.last ++ append-nil h.after i))))))
      ∙ sym (append_assoc h.before h.space ((32 ∷ t) ++ after))

  changes_are : changes us ≡ splice_at (length before) old (32 ∷ t)
  changes_are =
      (λ i. changes (keep h.before ∷ (keep h.space ∷ (put (head i) (spaced_text (head i) t) ∷ (keep (white i) ∷ (keep (comment i) ∷ (put h.break [] ∷ (put h.lines [] ∷ (keep h.last ∷ (keep h.after ∷ []))))))))))
      ∙ joined_splice h.before h.space (32 ∷ t) h.break h.lines (keep h.last ∷ (keep h.after ∷ [])) refl

  pub segments_come : length (new_text us) ≤ text_limit → edit_of_segments us ≡ gives (before ++ ((32 ∷ t) ++ after)) (splice_at (length before) old (32 ∷ t))
  segments_come size =
      ap (λ b. exchange_edit (cond b (exchange.gives (new_text us) (changes us)) exchange.too_large)) (le-leb (length (new_text us)) text_limit size)
      ∙ λ i. gives (new_is i) (changes_are i)

  -- in the text, by where that is
  module _ (now : List ℕ) (now_is : now ≡ held_text h) (start finish : ℕ) (start_is : start ≡ length before) (finish_is : finish ≡ start + length old) where
    pub in_three : now ≡ before ++ (old ++ after)
    in_three = now_is ∙ old_is

    pub in_two : now ≡ (before ++ old) ++ after
    in_two = in_three ∙ sym (append_assoc before old after)

    pub front_size : finish ≡ length (before ++ old)
    front_size = omega (arith, start_is, finish_is, length-append before old)

    pub front_there : take start now ≡ before
    front_there = (λ i. take (start_is i) (in_three i)) ∙ take-append_seam before (old ++ after)

    pub left_there : drop finish now ≡ after
    left_there = (λ i. drop (front_size i) (in_two i)) ∙ drop-append_seam (before ++ old) after

    pub old_front : take finish now ≡ before ++ old
    old_front = (λ i. take (front_size i) (in_two i)) ∙ take-append_seam (before ++ old) after

    pub old_there : drop start (take finish now) ≡ old
    old_there = (λ i. drop (start_is i) (old_front i)) ∙ drop-append_seam before old

    pub made_there : (new : List ℕ) → text_exchanged now start finish new ≡ before ++ (new ++ after)
    made_there new = λ i. front_there i ++ (new ++ left_there i)
