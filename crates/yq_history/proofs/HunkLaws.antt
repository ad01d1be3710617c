-- Hunks of parts lead from one text to the other, and reversed they lead back.
use Rattle.std.proofs.Common.{rules, ◌≡◌, ℕ, ◌+◌, List, [], ◌∷◌, ◌++◌, length, map, refl, sym, ap, ◌∙◌, subst, arith, append_assoc}
use Rattle.std.proofs.lemmas.List.{length-append}
use Rattle.yq_core.specs.Text.{text_lines}
use Rattle.yq_history.specs.Hunks.{LineChange, unchanged, deleted, added, old_side, new_side, Hunk, Applies, reversed_change, reversed_hunk}
use Rattle.yq_history.{specs.DiffParts.{old_parts, new_parts, closed_hunk, hunks_from}, specs.declared.diff.part.Part.Part}
use Rattle.yq_history.specs.declared.diff.part.Part.TheVariants as part

-- ---- the sides of lines that are joined

pub old_side-append : (cs ds : List LineChange) → old_side (cs ++ ds) ≡ old_side cs ++ old_side ds
old_side-append [] ds = refl
old_side-append (unchanged l ∷ cs) ds = ap (λ ls. l ∷ ls) (old_side-append cs ds)
old_side-append (deleted l ∷ cs) ds = ap (λ ls. l ∷ ls) (old_side-append cs ds)
old_side-append (added l ∷ cs) ds = old_side-append cs ds

pub new_side-append : (cs ds : List LineChange) → new_side (cs ++ ds) ≡ new_side cs ++ new_side ds
new_side-append [] ds = refl
new_side-append (unchanged l ∷ cs) ds = ap (λ ls. l ∷ ls) (new_side-append cs ds)
new_side-append (deleted l ∷ cs) ds = new_side-append cs ds
new_side-append (added l ∷ cs) ds = ap (λ ls. l ∷ ls) (new_side-append cs ds)

pub old_unchanged : (ls : List (List ℕ)) → old_side (map unchanged ls) ≡ ls
old_unchanged [] = refl
old_unchanged (l ∷ ls) = ap (λ ms. l ∷ ms) (old_unchanged ls)

pub new_unchanged : (ls : List (List ℕ)) → new_side (map unchanged ls) ≡ ls
new_unchanged [] = refl
new_unchanged (l ∷ ls) = ap (λ ms. l ∷ ms) (new_unchanged ls)

pub old_deleted : (ls : List (List ℕ)) → old_side (map deleted ls) ≡ ls
old_deleted [] = refl
old_deleted (l ∷ ls) = ap (λ ms. l ∷ ms) (old_deleted ls)

pub new_deleted : (ls : List (List ℕ)) → new_side (map deleted ls) ≡ []
new_deleted [] = refl
new_deleted (l ∷ ls) = new_deleted ls

pub old_added : (ls : List (List ℕ)) → old_side (map added ls) ≡ []
old_added [] = refl
old_added (l ∷ ls) = old_added ls

pub new_added : (ls : List (List ℕ)) → new_side (map added ls) ≡ ls
new_added [] = refl
new_added (l ∷ ls) = ap (λ ms. l ∷ ms) (new_added ls)

pub old_reversed : (cs : List LineChange) → old_side (map reversed_change cs) ≡ new_side cs
old_reversed [] = refl
old_reversed (unchanged l ∷ cs) = ap (λ ls. l ∷ ls) (old_reversed cs)
old_reversed (deleted l ∷ cs) = old_reversed cs
old_reversed (added l ∷ cs) = ap (λ ls. l ∷ ls) (old_reversed cs)

pub new_reversed : (cs : List LineChange) → new_side (map reversed_change cs) ≡ old_side cs
new_reversed [] = refl
new_reversed (unchanged l ∷ cs) = ap (λ ls. l ∷ ls) (new_reversed cs)
new_reversed (deleted l ∷ cs) = ap (λ ls. l ∷ ls) (new_reversed cs)
new_reversed (added l ∷ cs) = new_reversed cs

-- lines of one side, then others, before a rest
old_more : (cs ds : List LineChange) (ls rest : List (List ℕ)) → old_side ds ≡ ls → old_side (cs ++ ds) ++ rest ≡ old_side cs ++ (ls ++ rest)
old_more cs ds ls rest h = ap (λ x. x ++ rest) (old_side-append cs ds) ∙ (append_assoc (old_side cs) (old_side ds) rest ∙ ap (λ x. old_side cs ++ (x ++ rest)) h)

new_more : (cs ds : List LineChange) (ls rest : List (List ℕ)) → new_side ds ≡ ls → new_side (cs ++ ds) ++ rest ≡ new_side cs ++ (ls ++ rest)
new_more cs ds ls rest h = ap (λ x. x ++ rest) (new_side-append cs ds) ∙ (append_assoc (new_side cs) (new_side ds) rest ∙ ap (λ x. new_side cs ++ (x ++ rest)) h)

-- ---- hunks, and hunks before others

-- hunks apply after more lines that stay
pub applies_after : (n : ℕ) (hs : List Hunk) (ls old new : List (List ℕ)) → Applies (n + length ls) hs old new → Applies n hs (ls ++ old) (ls ++ new)
applies_after n [] ls old new h = ap (λ x. ls ++ x) h
applies_after n (k ∷ hs) ls old new (old_rest, new_rest, first, rest) = (
  old_rest,
  new_rest,
  record {
    between = ls ++ first.between;
    before = omega (arith, first.before, length-append ls first.between);
    old_is = ap (λ x. ls ++ x) first.old_is ∙ sym (append_assoc ls first.between (old_side k.changes ++ old_rest));
    new_is = ap (λ x. ls ++ x) first.new_is ∙ sym (append_assoc ls first.between (new_side k.changes ++ new_rest));
  },
  rest,
)

-- a hunk that is closed, and hunks after it
closed_applies : (m n : ℕ) (cs : List LineChange) (hs : List Hunk) (old new : List (List ℕ)) → Applies (m + length (old_side cs)) hs old new →
    Applies m (closed_hunk m n cs ++ hs) (old_side cs ++ old) (new_side cs ++ new)
closed_applies m n cs hs old new h = search rules

closed_back : (m n : ℕ) (cs : List LineChange) (hs : List Hunk) (old new : List (List ℕ)) → Applies (n + length (new_side cs)) (map reversed_hunk hs) new old →
    Applies n (map reversed_hunk (closed_hunk m n cs ++ hs)) (new_side cs ++ new) (old_side cs ++ old)
closed_back m n [] hs old new h = subst (λ i. Applies i (map reversed_hunk hs) new old) (omega arith) h
closed_back m n (c ∷ cs) hs old new h = (
  new,
  old,
  record {
    between = [];
    before = omega arith;
    old_is = ap (λ x. x ++ new) (sym (old_reversed (c ∷ cs)));
    new_is = ap (λ x. x ++ old) (sym (new_reversed (c ∷ cs)));
  },
  subst (λ ls. Applies (n + length ls) (map reversed_hunk hs) new old) (sym (old_reversed (c ∷ cs))) h,
)

last_back : (m n : ℕ) (cs : List LineChange) → Applies n (map reversed_hunk (closed_hunk m n cs)) (new_side cs ++ []) (old_side cs ++ [])
last_back m n [] = refl
last_back m n (c ∷ cs) = closed_back m n (c ∷ cs) [] [] [] refl

-- ---- hunks of parts

pub hunks_apply : (m n : ℕ) (cs : List LineChange) (ps : List Part) → Applies m (hunks_from m n cs ps) (old_side cs ++ old_parts ps) (new_side cs ++ new_parts ps)
hunks_apply m n cs [] = search rules
hunks_apply m n cs (part.Skipped t ∷ ps) =
    let ls : List (List ℕ) = text_lines t.now in
    closed_applies m n cs _ (ls ++ old_parts ps) (ls ++ new_parts ps)
    (applies_after (m + length (old_side cs)) _ ls (old_parts ps) (new_parts ps)
    (hunks_apply (m + length (old_side cs) + length ls) (n + length (new_side cs) + length ls) [] ps))
hunks_apply m n cs (part.Unchanged t ∷ ps) =
    let ds : List LineChange = map unchanged (text_lines t.now) in
    subst (λ x. Applies m (hunks_from m n (cs ++ ds) ps) x (new_side cs ++ (text_lines t.now ++ new_parts ps))) (old_more cs ds (text_lines t.now) (old_parts ps) (old_unchanged (text_lines t.now)))
    (subst (λ x. Applies m (hunks_from m n (cs ++ ds) ps) (old_side (cs ++ ds) ++ old_parts ps) x) (new_more cs ds (text_lines t.now) (new_parts ps) (new_unchanged (text_lines t.now)))
    (hunks_apply m n (cs ++ ds) ps))
hunks_apply m n cs (part.Deleted t ∷ ps) =
    let ds : List LineChange = map deleted (text_lines t.now) in
    subst (λ x. Applies m (hunks_from m n (cs ++ ds) ps) x (new_side cs ++ new_parts ps)) (old_more cs ds (text_lines t.now) (old_parts ps) (old_deleted (text_lines t.now)))
    (subst (λ x. Applies m (hunks_from m n (cs ++ ds) ps) (old_side (cs ++ ds) ++ old_parts ps) x) (new_more cs ds [] (new_parts ps) (new_deleted (text_lines t.now)))
    (hunks_apply m n (cs ++ ds) ps))
hunks_apply m n cs (part.Added t ∷ ps) =
    let ds : List LineChange = map added (text_lines t.now) in
    subst (λ x. Applies m (hunks_from m n (cs ++ ds) ps) x (new_side cs ++ (text_lines t.now ++ new_parts ps))) (old_more cs ds [] (old_parts ps) (old_added (text_lines t.now)))
    (subst (λ x. Applies m (hunks_from m n (cs ++ ds) ps) (old_side (cs ++ ds) ++ old_parts ps) x) (new_more cs ds (text_lines t.now) (new_parts ps) (new_added (text_lines t.now)))
    (hunks_apply m n (cs ++ ds) ps))

pub hunks_back : (m n : ℕ) (cs : List LineChange) (ps : List Part) → Applies n (map reversed_hunk (hunks_from m n cs ps)) (new_side cs ++ new_parts ps) (old_side cs ++ old_parts ps)
hunks_back m n cs [] = last_back m n cs
hunks_back m n cs (part.Skipped t ∷ ps) =
    let ls : List (List ℕ) = text_lines t.now in
    search (rules, closed_back, applies_after, hunks_back (m + length (old_side cs) + length ls) (n + length (new_side cs) + length ls) [] ps)
hunks_back m n cs (part.Unchanged t ∷ ps) =
    let ds : List LineChange = map unchanged (text_lines t.now) in
    search (rules, old_more, old_unchanged, new_more, new_unchanged, hunks_back m n (cs ++ ds) ps)
hunks_back m n cs (part.Deleted t ∷ ps) =
    let ds : List LineChange = map deleted (text_lines t.now) in
    search (rules, old_more, old_deleted, new_more, new_deleted, hunks_back m n (cs ++ ds) ps)
hunks_back m n cs (part.Added t ∷ ps) =
    let ds : List LineChange = map added (text_lines t.now) in
    search (rules, old_more, old_added, new_more, new_added, hunks_back m n (cs ++ ds) ps)
