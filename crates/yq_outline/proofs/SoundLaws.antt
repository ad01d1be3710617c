-- What is asked of the items or entries of a collection, line by line.
use Rattle.yq_outline.proofs.Values.{same_rank}
use Rattle.yq_outline.specs.Outline.{LineMark, Bare, Dash, rank, Line, level, Outline, end, row, anchored, head_or, key_of, children, value}
use Rattle.yq_outline.{specs.Group.{deeper_lines, shallow, is_open, is_whole, level_or, is_even, is_fine}, specs.Ends.has_no_lines}
use Rattle.yq_outline.specs.Sound.{is_sound_outline, head_is_sound, line_is_sound, is_entry_line}
use Rattle.std.proofs.Common.{◌≡◌, ℕ, suc, ◌+◌, ◌<◌, ◌≤◌, max, leb, ltb, eqb, List, [], ◌++◌, Option, Some, None, is_some, Bool, true}
use Rattle.std.proofs.Common.{false, ◌&&◌, ◌⊎◌, refl, ap, ◌∙◌, append_assoc, rules}
use Rattle.std.proofs.lemmas.Bool.{lt-ltb, eq-eqb, ne_eqb, leb-true, le-leb, cases_eq, and_parts, false_from_ne_true, false≢true}
use Rattle.std.proofs.Math.Bool.{and-false, and-true, and_comm}
use Rattle.yq_core.{specs.Tree.Node, specs.Keys.{keys_of, depth, deepest, are_distinct, has_unique_keys, each_has_unique_keys}}
use Rattle.yq_core.specs.Text.{with_first}

-- what is asked of the items or entries from one on, where these keys come before it
abbrev pub asked : ℕ → ℕ → List (List ℕ) → Outline → Bool
asked d n keys o = is_even n o && (leb (deepest (children o)) d && (each_has_unique_keys (children o) && are_distinct (keys ++ keys_of (children o))))

-- keys with that of one more line, if it has one
abbrev pub keys_with : List (List ℕ) → LineMark → List (List ℕ)
keys_with keys m = keys ++ with_first (key_of m) []

-- a level at which lines are items or entries
abbrev pub IsEntryLevel : ℕ → Type 0
IsEntryLevel n = (l : Line) → level l ≡ n → is_entry_line l.mark ≡ true

-- the two parts of what is asked of a head
abbrev head_depth : ℕ → Option Node → Bool
head_depth d None = true
head_depth d (Some h) = leb (depth h) d

abbrev head_unique : Option Node → Bool
head_unique None = true
head_unique (Some h) = has_unique_keys h

head_parts : (d : ℕ) (h : Option Node) → head_is_sound d h ≡ (head_depth d h && head_unique h)
head_parts d h = search rules

pub depth-anchored : (a : Option (List ℕ)) (n : Node) → depth (anchored a n) ≡ depth n
depth-anchored a n = search rules

unique-anchored : (a : Option (List ℕ)) (n : Node) → has_unique_keys (anchored a n) ≡ has_unique_keys n
unique-anchored a n = search rules

depth-head : (d : ℕ) (h : Option Node) (o : Outline) → is_open h o ≡ true → leb (depth (head_or h (value o))) d ≡ (leb (depth (value o)) d && head_depth d h)
depth-head d h o h1 = search (rules, and-true, le-leb, false≢true)

unique-head : (h : Option Node) (o : Outline) → is_open h o ≡ true → has_unique_keys (head_or h (value o)) ≡ (has_unique_keys (value o) && head_unique h)
unique-head h o h1 = search (rules, and-true, false≢true)

no_leb : (a b : ℕ) → (a ≤ b → ⊥) → leb a b ≡ false
no_leb a b h = false_from_ne_true (leb a b) (λ e. h (leb-true a b e))

leb-max : (a b d : ℕ) → leb (max a b) d ≡ (leb a d && leb b d)
leb-max a b d = search (rules, max, le-leb, leb-true, no_leb, false≢true)

leb-suc : (a d : ℕ) → leb (suc a) (suc d) ≡ leb a d
leb-suc a d = search (rules, le-leb, leb-true, no_leb, false≢true)

-- nine facts in two orders
sorted : (f e l h x u g y z : Bool) → (f && e) && (((l && h) && x) && (((u && g) && y) && z)) ≡ (h && g) && ((f && (l && u)) && (e && (x && (y && z))))
sorted f e l h x u g y z = search (rules, and-false)

even_any : (d : ℕ) (o : Outline) → is_even (level_or d o) o ≡ is_fine o
even_any d o = search rules

whole_entry : (m : LineMark) (h : Option Node) (o : Outline) → is_entry_line m ≡ true → is_whole m h o ≡ true
whole_entry m h o h1 = search (rules, false≢true)

keys_again : (keys : List (List ℕ)) (k : Option (List ℕ)) (more : List (List ℕ)) → keys ++ with_first k more ≡ (keys ++ with_first k []) ++ more
keys_again keys k more = search (rules, append_assoc)

-- what is asked of a line and of those after it
asked_row : (d n : ℕ) (keys : List (List ℕ)) (l : Line) (u a : Outline) → is_entry_line l.mark ≡ true → level l ≡ n → is_open l.head u ≡ true → level l < level_or (level l + 1) u →
    asked d n keys (row l u a) ≡ (head_is_sound d l.head && (is_sound_outline d u && asked d n (keys_with keys l.mark) a))
asked_row d n keys l u a entry lev open' deep =
    search (rules, depth-anchored, depth-head, unique-anchored, unique-head, keys_again, eq-eqb, whole_entry, lt-ltb, even_any, leb-max, sorted, head_parts)

-- a line at another level, or with a head and lines under it
not_level : (d n : ℕ) (keys : List (List ℕ)) (l : Line) (u a : Outline) → (level l ≡ n → ⊥) → asked d n keys (row l u a) ≡ false
not_level d n keys l u a e = rw (ne_eqb (level l) n e) refl

-- what is asked of a line in a collection, of those under it and of those after it
pub asked_line : (d n : ℕ) (keys : List (List ℕ)) (l : Line) (u a : Outline) → IsEntryLevel n → level l < level_or (level l + 1) u →
    asked d n keys (row l u a) ≡ (line_is_sound d n l u && (is_sound_outline d u && asked d n (keys_with keys l.mark) a))
asked_line d n keys l u a entries deep = go (cases_eq (level l) n)
  where
    next : Bool
    next = is_sound_outline d u && asked d n (keys_with keys l.mark) a

    opened : (b : Bool) → level l ≡ n → is_open l.head u ≡ b → asked d n keys (row l u a) ≡ (b && head_is_sound d l.head) && next
    opened b h1 h2 = search (rules, asked_row, eq-eqb)

    go : (level l ≡ n) ⊎ (level l ≡ n → ⊥) → asked d n keys (row l u a) ≡ (line_is_sound d n l u && next)
    go lev = search (rules, opened, next, eq-eqb, not_level, ne_eqb)

entry_by_rank : (a b : LineMark) → rank a ≡ rank b → is_entry_line b ≡ true → is_entry_line a ≡ true
entry_by_rank a b h1 h2 = search (rules, false≢true)

pub entry_level : (l : Line) → is_entry_line l.mark ≡ true → IsEntryLevel (level l)
entry_level l h m e = entry_by_rank m.mark l.mark (same_rank m l e) h

no_key : (a : LineMark) → rank a ≡ 3 → key_of a ≡ None
no_key a h1 = search rules

-- items have no keys
no_keys : (l : Line) (o : Outline) → l.mark ≡ Dash → is_even (level l) o ≡ true → keys_of (children o) ≡ []
no_keys l end mark e = refl
no_keys l (row m u a) mark e =
    let p = and_parts (eqb (level m) (level l)) _ e in
    let q = and_parts (is_open m.head u) _ p.1 in
    let r = and_parts (is_whole m.mark m.head a) _ q.1 in
    let s = and_parts (ltb (level l) (level_or (level m + 1) u)) _ r.1 in
    let t = and_parts (is_even (level_or (level m + 1) u) u) (is_even (level l) a) s.1 in
    ap (λ k. with_first k (keys_of (children a))) (no_key m.mark (same_rank m l (same (cases_eq (level m) (level l)) p.0) ∙ ap rank mark)) ∙ no_keys l a mark t.1
  where
    same : (level m ≡ level l) ⊎ (level m ≡ level l → ⊥) → eqb (level m) (level l) ≡ true → level m ≡ level l
    same h1 h2 = search (rules, false≢true, ne_eqb)

-- a fact that follows from the first
guarded : (b x y z : Bool) → (b ≡ true → z ≡ true) → (b && (x && y)) ≡ (b && (x && (y && z)))
guarded b x y z h1 = search (rules, and-true)

-- what is asked of a collection, of its items or entries
pub sound_entries : (d : ℕ) (l : Line) (u a : Outline) → is_entry_line l.mark ≡ true → is_sound_outline (suc d) (row l u a) ≡ asked d (level l) [] (row l u a)
sound_entries d l u a entry = go l.mark refl entry
  where
    go : (m : LineMark) → l.mark ≡ m → is_entry_line m ≡ true → is_sound_outline (suc d) (row l u a) ≡ asked d (level l) [] (row l u a)
    go m h1 h2 = search (rules, false≢true, leb-suc, and_comm, guarded, no_keys)

pub too_deep : (l : Line) (u a : Outline) → is_entry_line l.mark ≡ true → is_sound_outline 0 (row l u a) ≡ false
too_deep l u a entry = search (rules, false≢true, no_leb, and-false)

-- a node on a line of its own, with what is under it and after it
alone : (d n : ℕ) (h : Option Node) (u a : Outline) → n < n + 1 →
    ((is_open h u && (is_whole Bare h a && (ltb n (level_or (n + 1) u) && (is_even (level_or (n + 1) u) u && is_even n a)))) && (leb (depth (head_or h (value u))) d && has_unique_keys (head_or h (value u))))
    ≡ ((is_some h && (has_no_lines u && has_no_lines a)) && head_is_sound d h)
alone d n h u a h1 = search (rules, lt-ltb)

-- what is asked of a node on a line of its own
pub sound_bare : (d : ℕ) (l : Line) (u a : Outline) → l.mark ≡ Bare → is_sound_outline d (row l u a) ≡ ((is_some l.head && (has_no_lines u && has_no_lines a)) && head_is_sound d l.head)
sound_bare d l u a mark = search (rules, eq-eqb, depth-anchored, unique-anchored, alone)

-- nothing is under a line and nothing after it, where the next one is not deeper than a lower level
pub lone : (n floor : ℕ) (o : Outline) → floor < n → (has_no_lines (deeper_lines n o) && has_no_lines (deeper_lines floor (shallow n o))) ≡ has_no_lines (deeper_lines floor o)
lone n floor end h = refl
lone n floor (row l u a) h = search rules
