-- Outlines one after the other: their lines, evenness, and items or entries.
use Rattle.std.proofs.Common.{◌≡◌, ℕ, ◌∷◌, ◌++◌, refl, sym, ap, ◌∙◌, append_assoc, rules}
use Rattle.yq_core.{specs.Paths.{within, append_children}, specs.Tree.{Children, child}}
use Rattle.yq_outline.specs.Outline.{LineMark, Line, level, Outline, end, row, flatten, IsEven, label, children, value}
use Rattle.yq_outline.{specs.Places.content_under, proofs.Allowing.IsCollection}
use Rattle.yq_outline.{proofs.Values.{same_rank, same_collection, same_entry, within-shaped}, proofs.Plug.entry_whole}
use Rattle.yq_edit_rules.specs.Siblings.{append_outline, IsEntry, HasEntries}
use Rattle.yq_outline.proofs.Allowing as allowing

-- marks of items and entries
pub entry_in : (m : LineMark) → IsEntry m → allowing.IsEntry m
entry_in m h1 = search rules

pub entry_out : (m : LineMark) → allowing.IsEntry m → IsEntry m
entry_out m h1 = search rules

pub entries : (o : Outline) → HasEntries o → IsCollection o
entries end b = absurd b
entries (row l u a) b = entry_in l.mark b

-- lines
pub flatten-append : (a b : Outline) → flatten (append_outline a b) ≡ flatten a ++ flatten b
flatten-append end b = refl
flatten-append (row l u a) b = ap (λ x. l ∷ x) (ap (λ x. flatten u ++ x) (flatten-append a b) ∙ sym (append_assoc (flatten u) (flatten a) (flatten b)))

-- items and entries
pub children-append : (a b : Outline) → children (append_outline a b) ≡ append_children (children a) (children b)
children-append end b = refl
children-append (row l u a) b = ap (child (label l) (content_under l u)) (children-append a b)

-- what comes after an entry's line at its level is an entry's
pub next : (n : ℕ) (l : Line) (o : Outline) → allowing.IsEntry l.mark → level l ≡ n → IsEven n o → IsCollection o
next n l end e h even = tt
next n l (row k v b) e h even = same_entry l.mark k.mark e (same_rank l k (h ∙ sym even.0))

-- evenness
pub even_right : (n : ℕ) (a b : Outline) → IsEven n (append_outline a b) → IsEven n b
even_right n end b e = e
even_right n (row l u a) b e = even_right n a b e.4

pub even_left : (n : ℕ) (a b : Outline) → IsCollection (append_outline a b) → IsEven n (append_outline a b) → IsEven n a
even_left n end b c e = tt
even_left n (row l u a) b c e = (e.0, e.1, entry_whole l.mark l.head a c, e.3, even_left n a b (next n l (append_outline a b) c e.0 e.4) e.4)

pub even_append : (n : ℕ) (a b : Outline) → IsCollection (append_outline a b) → IsEven n a → IsEven n b → IsEven n (append_outline a b)
even_append n end b c e f = f
even_append n (row l u a) b c e f = (e.0, e.1, entry_whole l.mark l.head (append_outline a b) c, e.3, even_append n a b (left a b n l c e.0 e.4 f) e.4 f)
  where
    left : (a b : Outline) (n : ℕ) (l : Line) → allowing.IsEntry l.mark → level l ≡ n → IsEven n a → IsEven n b → IsCollection (append_outline a b)
    left end b n l c h e f = next n l b c h f
    left (row k v a) b n l c h e f = next n l (row k v a) c h e

-- after others, or alone, a run is a collection's
pub rest_entries : (n : ℕ) (a b : Outline) → IsCollection (append_outline a b) → IsEven n (append_outline a b) → IsCollection b
rest_entries n end b c e = c
rest_entries n (row l u a) b c e = rest_entries n a b (next n l (append_outline a b) c e.0 e.4) e.4

pub block_value : (n : ℕ) (o p : Outline) (g : Children → Children) → HasEntries o → HasEntries p → IsEven n o → IsEven n p → children p ≡ g (children o) → value p ≡ within g (value o)
block_value n o p g b c d e kids = search (rules, same_collection, same_rank, within-shaped, entries)

-- items or entries that are replaced keep the others even
pub even_replaced : (n : ℕ) (a b c d : Outline) → IsEven n (append_outline a (append_outline b c)) → IsEven n d → HasEntries (append_outline a (append_outline b c)) →
    HasEntries (append_outline a (append_outline d c)) → IsEven n (append_outline a (append_outline d c))
even_replaced n a b c d even new old block =
    let left : IsEven n a = even_left n a (append_outline b c) (entries _ old) even in
    let back : IsEven n c = even_right n b c (even_right n a (append_outline b c) even) in
    even_append n a (append_outline d c) (entries _ block) left (even_append n d c (after a n left block new back) new back)
  where
    run : (d : Outline) (n : ℕ) (l : Line) → allowing.IsEntry l.mark → level l ≡ n → IsEven n d → IsEven n c → IsCollection (append_outline d c)
    run end n l e h new back = next n l c e h back
    run (row k v d) n l e h new back = next n l (row k v d) e h new

    after : (a : Outline) (n : ℕ) → IsEven n a → HasEntries (append_outline a (append_outline d c)) → IsEven n d → IsEven n c → IsCollection (append_outline d c)
    after end n e b new back = entries (append_outline d c) b
    after (row l u a) n e b new back = run d n l (entry_in l.mark b) e.0 new back
