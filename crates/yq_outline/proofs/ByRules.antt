-- The rules of the grammar and outlines say the same.
use Rattle.std.proofs.Common.{◌≡◌, ℕ, ◌+◌, ◌<◌, List, [], ◌∷◌, ◌++◌, Option, Some, None, refl, sym, ◌∙◌, subst, arith, rules}
use Rattle.std.proofs.lemmas.Option.{none-some}
use Rattle.yq_core.specs.Tree.{Node, Children, none, child}
use Rattle.yq_outline.specs.Outline.{LineMark, Bare, Key, Dash, Line, level, Outline, end, row, flatten, IsOpen, IsWhole, IsEven, anchored}
use Rattle.yq_outline.specs.Outline.{head_or, null_node, label, outline_node, children, value, IsLocatedAt}
use Rattle.yq_outline.specs.Grammar.{IsNodeOutline, alone, mapping, sequence, AreEntryLines, no_more, entry, IsUnder, headed, missing}
use Rattle.yq_outline.{specs.Grammar.deeper_lines, proofs.Allowing.{IsEntry, IsCollection}, proofs.Values.{same_entry, same_rank}}

-- an outline of these lines, with these items or entries
record Listed (n : ℕ) (lines : List Line) (cs : Children) : Type 0 where
  outline : Outline
  even : IsEven n outline
  lines_are : flatten outline ≡ lines
  children_are : children outline ≡ cs

record Held (l : Line) (lines : List Line) (v : Node) : Type 0 where
  outline : Outline
  open' : IsOpen l.head outline
  deep : (m : ℕ) × (level l < m) × IsEven m outline
  lines_are : flatten outline ≡ lines
  node_is : head_or l.head (value outline) ≡ v

not_bare : (m : LineMark) (h : Option Node) (o : Outline) → (m ≡ Bare → ⊥) → IsWhole m h o
not_bare m h o h1 = search rules

alone_whole : (m : LineMark) (h : Option Node) (v : Node) → m ≡ Bare → h ≡ Some v → IsWhole m h end
alone_whole m h v h1 h2 = search (rules, none-some)

kind : (m : LineMark) (n : ℕ) (l : Line) (ls : List Line) (cs : Children) → l.mark ≡ m → (x : Listed n (l ∷ ls) cs) → value x.outline ≡ outline_node m cs
kind m n l ls cs e x = search rules

mutual
  from_node : {n : ℕ} {ls : List Line} {v : Node} → IsNodeOutline n ls v → IsLocatedAt ls v n
  from_node (alone {n} {l} {v} lev bare head) =
      record { outline = row l end end; even = (lev, rw head tt, alone_whole l.mark l.head v bare head, (n + 1, omega arith, tt), tt); lines_are = refl; node_is = rw (bare, head) refl }
  from_node (mapping {n} {l} {k} {ls} {cs} mark es) =
      let x = from_entries es in record { outline = x.outline; even = x.even; lines_are = x.lines_are; node_is = kind (Key k) n l ls cs mark x }
  from_node (sequence {n} {l} {ls} {cs} mark es) =
      let x = from_entries es in record { outline = x.outline; even = x.even; lines_are = x.lines_are; node_is = kind Dash n l ls cs mark x }

  from_entries : {n : ℕ} {ls : List Line} {cs : Children} → AreEntryLines n ls cs → Listed n ls cs
  from_entries no_more = record { outline = end; even = tt; lines_are = refl; children_are = refl }
  from_entries (entry {n} {l} {under} {after} {all} {v} {cs} lev mark u es is) =
      let x = from_under u in
      let y = from_entries es in
      record {
        outline = row l x.outline y.outline;
        even = (lev, x.open', not_bare l.mark l.head y.outline mark, (x.deep.0, subst (λ k. k < x.deep.0) lev x.deep.1, x.deep.2), y.even);
        lines_are = λ i. l ∷ ((λ j. x.lines_are j ++ y.lines_are j) ∙ sym is) i;
        children_are = λ i. child (label l) (anchored l.anchor (x.node_is i)) (y.children_are i);
      }

  from_under : {l : Line} {ls : List Line} {v : Node} → IsUnder l ls v → Held l ls v
  from_under (headed {l} {v} head) = record { outline = end; open' = rw head tt; deep = (level l + 1, omega arith, tt); lines_are = refl; node_is = rw head refl }
  from_under (missing {l} head) = record { outline = end; open' = rw head tt; deep = (level l + 1, omega arith, tt); lines_are = refl; node_is = rw head refl }
  from_under (deeper_lines {l} {n} {ls} {v} head lt d) =
      let x = from_node d in record { outline = x.outline; open' = rw head tt; deep = (n, lt, x.even); lines_are = x.lines_are; node_is = rw head x.node_is }

next_entries : (k : Line) (n : ℕ) (a : Outline) → IsEntry k.mark → level k ≡ n → IsEven n a → IsCollection a
next_entries k n a h1 h2 h3 = search (rules, same_entry, same_rank)

entry_mark : (m : LineMark) → IsEntry m → m ≡ Bare → ⊥
entry_mark m h1 h2 = search rules

node_of : (n : ℕ) (k : Line) (u a : Outline) (m : LineMark) (h : Option Node) → k.mark ≡ m → k.head ≡ h → level k ≡ n → IsOpen h u → IsWhole m h a →
    (IsCollection (row k u a) → AreEntryLines n (flatten (row k u a)) (children (row k u a))) → IsNodeOutline n (flatten (row k u a)) (value (row k u a))
node_of n k u a (Key j) h e f lev op w ih =
    let P : LineMark → Type 0 = λ m. IsNodeOutline n (flatten (row k u a)) (outline_node m (children (row k u a))) in subst P (sym e) (mapping e (ih (subst IsEntry (sym e) tt)))
node_of n k u a Dash h e f lev op w ih =
    let P : LineMark → Type 0 = λ m. IsNodeOutline n (flatten (row k u a)) (outline_node m (children (row k u a))) in subst P (sym e) (sequence e (ih (subst IsEntry (sym e) tt)))
node_of n k u a Bare None e f lev op w ih = absurd w
node_of n k u (row l v b) Bare (Some x) e f lev op w ih = absurd w
node_of n k (row l v b) end Bare (Some x) e f lev op w ih = absurd op
node_of n k end end Bare (Some x) e f lev op w ih =
    let P : LineMark → Type 0 = λ m. IsNodeOutline n (k ∷ []) (outline_node m (child (label k) (anchored k.anchor (head_or k.head null_node)) none)) in
    let Q : Option Node → Type 0 = λ h. IsNodeOutline n (k ∷ []) (anchored k.anchor (head_or h null_node)) in
    subst P (sym e) (subst Q (sym f) (alone lev e f))

-- a line's head, or the lines under it
under_of : (l : Line) (h : Option Node) (o : Outline) → l.head ≡ h → IsOpen h o → (m : ℕ) → level l < m → IsEven m o → (IsCollection o → AreEntryLines m (flatten o) (children o)) →
    IsUnder l (flatten o) (head_or h (value o))
under_of l (Some n) end e op m lt d ih = headed e
under_of l (Some n) (row k u a) e op m lt d ih = absurd op
under_of l None end e op m lt d ih = missing e
under_of l None (row k u a) e op m lt d ih = deeper_lines e lt (node_of m k u a k.mark k.head refl refl d.0 d.1 d.2 ih)

to_entries : (n : ℕ) (o : Outline) → IsCollection o → IsEven n o → AreEntryLines n (flatten o) (children o)
to_entries n end c e = no_more
to_entries n (row l u a) c e =
    entry e.0 (entry_mark l.mark c) (under_of l l.head u refl e.1 e.3.0 (subst (λ k. k < e.3.0) (sym e.0) e.3.1) e.3.2 (λ b. to_entries e.3.0 u b e.3.2)) (to_entries n a (next_entries l n a c e.0 e.4) e.4) refl

-- lines that mean a node are none, or the node's by the rules
pub rules_from : (n : ℕ) (lines : List Line) (v : Node) → IsLocatedAt lines v n → (l : Line) (ls : List Line) → lines ≡ l ∷ ls → IsNodeOutline n lines v
rules_from n lines v s l ls is = search (rules, node_of, to_entries)

pub rules_give : (n : ℕ) (lines : List Line) (v : Node) → IsNodeOutline n lines v → IsLocatedAt lines v n
rules_give n lines v d = from_node d
