-- What exchanging the lines in a place does to the lines, to evenness and to the tree.
use Rattle.std.proofs.Common.{◌≡◌, ℕ, ◌++◌, Option, None, refl, sym, ap, subst, append_assoc, append-nil, rules}
use Rattle.std.proofs.lemmas.Option.{none-some}
use Rattle.yq_core.specs.Tree.{Node}
use Rattle.yq_outline.specs.Outline.{LineMark, Line, level, Outline, row, flatten, IsOpen, IsWhole, IsEven}
use Rattle.yq_outline.specs.Places.{Context, here, below, beside, plug, lines_before, lines_after, compose}
use Rattle.yq_outline.proofs.Allowing.{IsEntry, Allows}

pub flatten-plug : (p : Context) (o : Outline) → flatten (plug p o) ≡ lines_before p ++ (flatten o ++ lines_after p)
flatten-plug here o = sym (append-nil (flatten o))
flatten-plug (below l p a) o = search (rules, append_assoc, flatten-plug p o)
flatten-plug (beside l u p) o = cc (flatten-plug p o, append_assoc (flatten u) (lines_before p) (flatten o ++ lines_after p))

pub plug-compose : (p q : Context) (o : Outline) → plug (compose p q) o ≡ plug p (plug q o)
plug-compose here q o = refl
plug-compose (below l p a) q o = ap (λ x. row l x a) (plug-compose p q o)
plug-compose (beside l u p) q o = ap (row l u) (plug-compose p q o)

pub closed : (h : Option Node) (o : Outline) → h ≡ None → IsOpen h o
closed h o h1 = search (rules, none-some)

pub entry_whole : (m : LineMark) (h : Option Node) (o : Outline) → IsEntry m → IsWhole m h o
entry_whole m h o h1 = search rules

-- what is in a place at the level that it allows makes an even outline
pub plug-even : (n m : ℕ) (p : Context) (o : Outline) → Allows n p m → IsEven m o → IsEven n (plug p o)
plug-even n m here o h e = subst (λ k. IsEven k o) (sym h) e
plug-even n m (below l p a) o h e = search (rules, closed, entry_whole, plug-even h.3.0 m p o h.3.2 e)
plug-even n m (beside l u p) o h e = search (rules, entry_whole, plug-even n m p o h.4 e)

-- nothing in a place is the end of an outline
never_end : (P : Outline → Type 0) (p : Context) (l : Line) (u a : Outline) → ((k : Line) (v b : Outline) → P (row k v b)) → P (plug p (row l u a))
never_end P here l u a f = f l u a
never_end P (below k p b) l u a f = f k (plug p (row l u a)) b
never_end P (beside k v p) l u a f = f k v (plug p (row l u a))

pub headless : (h : Option Node) (k : Line) (v b : Outline) → IsOpen h (row k v b) → h ≡ None
headless h k v b h1 = search rules

pub headless_entry : (m : LineMark) (h : Option Node) (b : Outline) → h ≡ None → IsWhole m h b → IsEntry m
headless_entry m h b h1 h2 = search (rules, none-some)

followed_entry : (m : LineMark) (h : Option Node) (k : Line) (v b : Outline) → IsWhole m h (row k v b) → IsEntry m
followed_entry m h k v b h1 = search rules

-- a place that holds a line allows its level, and what is there is even
pub allows_from : (n : ℕ) (p : Context) (l : Line) (u a : Outline) → IsEven n (plug p (row l u a)) → Allows n p (level l) × IsEven (level l) (row l u a)
allows_from n here l u a e = (sym e.0, subst (λ k. IsEven k (row l u a)) (sym e.0) e)
allows_from n (below k p b) l u a e =
    let deep = allows_from e.3.0 p l u a e.3.2 in
    let none = never_end (λ o. IsOpen k.head o → k.head ≡ None) p l u a (headless k.head) e.1 in
    ((e.0, none, headless_entry k.mark k.head b none e.2, (e.3.0, e.3.1, deep.0), e.4), deep.1)
allows_from n (beside k v p) l u a e =
    let deep = allows_from n p l u a e.4 in
    let entry = never_end (λ o. IsWhole k.mark k.head o → IsEntry k.mark) p l u a (followed_entry k.mark k.head) e.2 in
    ((e.0, e.1, entry, e.3, deep.0), deep.1)
