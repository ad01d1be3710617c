-- The entries under a line, or of a document, have different keys.
use Rattle.std.proofs.Common.{◌≡◌, ◌⊎◌, inl, inr, ℕ, zero, suc, ◌+◌, ltb, Bool, true, false, cond, not, ◌&&◌, List, [], ◌∷◌, ◌++◌, Some}
use Rattle.std.proofs.Common.{None, bytes_eq, refl, sym, ap, ◌∙◌, subst, arith, rules}
use Rattle.std.proofs.lemmas.Bool.{and_parts, or_parts, not-true, ltb-true, eqb-true, le-leb, cond-false, false≢true}
use Rattle.std.{proofs.lemmas.Option.{same_Some, none-some}, specs.List.{slice_get, list_any}}
use Rattle.yq_core.{specs.Keys.{keys_of, are_distinct}, specs.Paths.{To, is_here}, specs.Text.with_first}
use Rattle.yq_core.proofs.DistinctKeys.{differ, differs}
use Rattle.yq_outline.{specs.Ends.{part, has_no_lines, IsEndOf}, specs.Group.{deeper_lines, shallow, group}}
use Rattle.yq_outline.{specs.Outline.{LineMark, Bare, Line, level, Outline, end, row, children, key_of, label}, specs.Places.find_row}
use Rattle.yq_outline.{specs.Sound.{is_sound_outline, is_entry_line}, specs.Positions.position}
use Rattle.yq_outline.{proofs.EndsLaws.{deeper_line, not_end, row_parts}, proofs.NameLaws.part-all}
use Rattle.yq_outline.proofs.SoundLaws.{asked, keys_with, IsEntryLevel, asked_line, entry_level, sound_entries, too_deep, sound_bare}

-- An outline is that of a node, or the rest of a collection's.
record Rest (o : Outline) : Type 0 where
  pub depth : ℕ
  pub at : ℕ
  pub keys : List (List ℕ)
  pub asks : asked depth at keys o ≡ true
  pub entries : IsEntryLevel at

abbrev IsSound : Outline → Type 0
IsSound o = (d : ℕ) × (is_sound_outline d o ≡ true)

-- nothing is sound
end_sound : IsSound end
end_sound = (0, ap (λ b. b && true) (le-leb 0 0 (omega arith)))

-- what a node's lines are: nothing, one line alone, or the entries of a collection
node_lines : (d : ℕ) (l : Line) (u a : Outline) → is_sound_outline d (row l u a) ≡ true → ((has_no_lines u ≡ true) × (has_no_lines a ≡ true) × (l.mark ≡ Bare)) ⊎ Rest (row l u a)
node_lines d l u a sound = go l.mark refl d sound
  where
    entry : (d : ℕ) → is_entry_line l.mark ≡ true → is_sound_outline d (row l u a) ≡ true → Rest (row l u a)
    entry zero is s = absurd (false≢true (sym (too_deep l u a is) ∙ s))
    entry (suc d) is s = record { depth = d; at = level l; keys = []; asks = sym (sound_entries d l u a is) ∙ s; entries = entry_level l is }

    go : (m : LineMark) → l.mark ≡ m → (d : ℕ) → is_sound_outline d (row l u a) ≡ true → ((has_no_lines u ≡ true) × (has_no_lines a ≡ true) × (l.mark ≡ Bare)) ⊎ Rest (row l u a)
    go Bare mark d s = search (rules, and_parts, sound_bare)
    go x mark d s = inr (entry d (ap is_entry_line mark) s)

is_nothing : (o : Outline) → has_no_lines o ≡ true → o ≡ end
is_nothing o h1 = search (rules, false≢true)

-- what is under a line of a collection, and what is after
rest_parts : (l : Line) (u a : Outline) → Rest (row l u a) → IsSound u × Rest a
rest_parts l u a r = search (rules, and_parts, ltb-true, eqb-true, asked_line, asked, keys_with)

-- What is under each line of an outline is that of a node.
abbrev AreUnder : Outline → Type 0
AreUnder end = Unit {0}
AreUnder (row l u a) = IsSound u × AreUnder u × AreUnder a

are_under : (o : Outline) → IsSound o ⊎ Rest o → AreUnder o
are_under end h = tt
are_under (row l u a) h = let x = parts h in (x.0, are_under u (inl x.0), are_under a x.1)
  where
    of_node : ((has_no_lines u ≡ true) × (has_no_lines a ≡ true) × (l.mark ≡ Bare)) ⊎ Rest (row l u a) → IsSound u × (IsSound a ⊎ Rest a)
    of_node (inl x) = (subst IsSound (sym (is_nothing u x.0)) end_sound, inl (subst IsSound (sym (is_nothing a x.1)) end_sound))
    of_node (inr r) = let x = rest_parts l u a r in (x.0, inr x.1)

    parts : IsSound (row l u a) ⊎ Rest (row l u a) → IsSound u × (IsSound a ⊎ Rest a)
    parts (inl s) = of_node (node_lines s.0 l u a s.1)
    parts (inr r) = of_node (inr r)

-- the same of an outline of two parts
under_joined : (n : ℕ) (o : Outline) → AreUnder (deeper_lines n o) → AreUnder (shallow n o) → AreUnder o
under_joined n end h g = tt
under_joined n (row l u a) h g = go (ltb n (level l)) h g (under_joined n a)
  where
    go : (b : Bool) → AreUnder (cond b (row l u (deeper_lines n a)) end) → AreUnder (cond b (shallow n a) (row l u a)) → (AreUnder (deeper_lines n a) → AreUnder (shallow n a) → AreUnder a) → AreUnder (row l u a)
    go b h1 h2 h3 = search rules

under_line : (ls : List Line) (i : ℕ) (l : Line) → slice_get ls i ≡ Some l → AreUnder (group ls) → IsSound (part ls (i + 1) (level l))
under_line [] i l is h = absurd (cc)
under_line (m ∷ ls) zero l is h = subst (λ (x : Line). IsSound (deeper_lines (level x) (group ls))) (same_Some _ _ is) h.0
under_line (m ∷ ls) (suc i) l is h =
    let more : suc (i + 1) ≡ suc i + 1 = omega arith in
    subst (λ (k : ℕ). IsSound (part (m ∷ ls) k (level l))) more (under_line ls i l is (under_joined (level m) (group ls) h.1 h.2))

after_keys : (ks js : List (List ℕ)) → are_distinct (ks ++ js) ≡ true → are_distinct js ≡ true
after_keys [] js e = e
after_keys (k ∷ ks) js e = after_keys ks js (and_parts (not (list_any (bytes_eq k) (ks ++ js))) (are_distinct (ks ++ js)) e).1

-- the entries of a node have different keys
keys_differ : (o : Outline) → IsSound o → are_distinct (keys_of (children o)) ≡ true
keys_differ o h1 = search (rules, node_lines, is_nothing, and_parts, after_keys)

pub line_keys : (d : ℕ) (ls : List Line) (i : ℕ) (l : Line) → is_sound_outline d (group ls) ≡ true → slice_get ls i ≡ Some l → are_distinct (keys_of (children (part ls (i + 1) (level l)))) ≡ true
line_keys d ls i l sound is = keys_differ _ (under_line ls i l is (are_under (group ls) (inl (d, sound))))

pub root_keys : (d : ℕ) (ls : List Line) → is_sound_outline d (group ls) ≡ true → are_distinct (keys_of (children (part ls 0 0))) ≡ true
root_keys d ls sound = keys_differ _ (subst IsSound (sym (part-all ls)) (d, sound))

-- where no entry has a key, the key leads nowhere
nowhere : (key : List ℕ) (o : Outline) → list_any (bytes_eq key) (keys_of (children o)) ≡ false → find_row (To key) o ≡ None
nowhere key end none = refl
nowhere key (row l u a) none = search (rules, or_parts, cond-false, differs, differ, nowhere key a)

-- The first of lines with different keys is not the entry of a key that one after it has.
module _ (ls : List Line) (at floor next : ℕ) (l : Line) (is : slice_get ls at ≡ Some l) (deep : true ≡ not (has_no_lines (part ls at floor)))
    (ends : IsEndOf ls at next) (differ' : are_distinct (keys_of (children (part ls at floor))) ≡ true) where
  own : are_distinct (with_first (key_of l.mark) (keys_of (children (part ls next floor)))) ≡ true
  own = subst (λ (o : Outline). are_distinct (keys_of (children o)) ≡ true) (row_parts ls at floor next l is (deeper_line ls at floor l is (not_end _ deep)) (ends.2 l is)) differ'

  pub keys_after : are_distinct (keys_of (children (part ls next floor))) ≡ true
  keys_after = search (rules, own)

  pub other_key : (key : List ℕ) (w : ℕ × Line × Outline) → position next (find_row (To key) (part ls next floor)) ≡ Some w → is_here (To key) (label l) ≡ false
  other_key key w found = search (rules, own, none-some, and_parts, not-true, differs, nowhere)
