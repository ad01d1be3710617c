-- Where rows may be, by the levels of lines.
use Rattle.std.proofs.Common.{◌≡◌, ℕ, zero, suc, ◌+◌, ◌*◌, ◌-◌, ◌<◌, ◌≤◌, ℤ, List, [], ◌∷◌, ◌++◌, Option, Some, None, is_some, true, refl}
use Rattle.std.{proofs.Common.{sym, ap, rules, ◌∙◌, subst, arith, ⊎_elim, append_assoc}, proofs.lemmas.Bool.{false≢true, lt-ltb, ltb-true}}
use Rattle.std.proofs.lemmas.Option.{none-some, same_Some}
use mathlib.Core.List.{head-eq_of_cons-eq}
use Rattle.yq_core.{specs.Block.{BlockText, RawLines, IsDigit, IsTextIndent}, specs.declared.block_lines.TextIndent.TextIndent}
use Rattle.yq_core.specs.Piece.{deeper}
use Rattle.yq_outline.{specs.Comments.head_comment, specs.Lines.{mark_line, lines_from, row_lines, lines_of_rows, head_of}}
use Rattle.yq_outline.{specs.Outline.{Line, level}, proofs.Values.rank_small}
use Rattle.yq_row_table.specs.Grammar.{allows, limit_after, limit_after_content, AreDashes}
use Rattle.yq_row_table.specs.Rows.{Content, Row, after_columns, before_column, mark_column, parent_of, parent_indent}
use Rattle.yq_row_table.specs.Removal.{block_of, last_block, next_column, IsLessDeep}
use Rattle.yq_edit_rules.{specs.Moved.dash_lines, specs.Columns.{NextAllowed, NextStays, BlockIsDeeper, ClosedIsLessDeep}}
use Rattle.yq_edit_rules.specs.LineRows.{Begins, AreApartLines, AreDeep, AreClosed}
use Rattle.yq_edit_rules.{proofs.ApartLaws.{apart_skip, closed_back, first_level}, proofs.LineLaws.{above_mark, mark_after}}
use Rattle.yq_row_table.specs.Rows as rows

-- columns and levels
pub after_more : (column : ℕ) (ns : List ℕ) → column ≤ after_columns column ns
after_more column [] = omega arith
after_more column (n ∷ ns) = let more = after_more (suc (column + n)) ns in omega (arith, more)

pub next_low : (n : ℕ) (back : List Row) (b : Row) (bs : List Row) → back ≡ b ∷ bs → Begins n (lines_of_rows back) → 3 * b.column + 1 ≤ n
next_low n back b bs e h = first_level (head_comment b.gap) b.column b.dashes b.mark b.content (lines_of_rows bs) n (subst (λ (x : List Row). Begins n (lines_of_rows x)) e h)

pub high_level : (l : Line) → level l ≤ 3 * l.column + 3
unfolding level
high_level l = omega (arith, rank_small l.mark)

first_high : (above : List (List ℕ)) (column : ℕ) (ns : List ℕ) (m : rows.RowMark) (c : Content) (rest : List Line) (l : Line) (ls : List Line) → lines_from above column ns m c ++ rest ≡ l ∷ ls →
    level l ≤ 3 * column + 3
first_high above column [] m c rest l ls e = let high = high_level (mark_line above column m c) in let same = ap level (head-eq_of_cons-eq e) in omega (arith, high, same)
first_high above column (n ∷ ns) m c rest l ls e = let x = Rattle.yq_outline.specs.Lines.dash_line above column in let high = high_level x in let same = ap level (head-eq_of_cons-eq e) in omega (arith, high, same)

bare_high : (n : ℕ) (above : List (List ℕ)) (column : ℕ) (c : Content) (rest : List Line) → AreDeep n (lines_from above column [] rows.Bare c ++ rest) → n ≤ 3 * column + 1
unfolding level
bare_high n above column c rest h = h.0

-- limits
pub allowed_content : (n : ℤ) (c : Content) (column : ℕ) → column < deeper n → allows (limit_after_content n c) column ≡ true
allowed_content n c column h1 = search (rules, lt-ltb)

pub below_node : (column n : ℕ) → column < n → column < deeper (before_column n)
below_node column zero h = omega (arith, h)
below_node column (suc n) h = omega (arith, h)

-- a column less deep than a row's first line is less deep than what comes after its mark
row_limit : (n m column : ℕ) (r : Row) (rest : List Line) → AreDashes r.dashes r.mark → AreDeep n (row_lines r ++ rest) → m < n → 3 * column + 1 ≤ m → allows (limit_after r) column ≡ true
row_limit n m column r rest d deep less low = allowed_content (parent_indent r) r.content column (go r.mark refl r.dashes refl)
  where
    high : (ls : List Line) → AreDeep n ls → (ls ≡ row_lines r ++ rest) → n ≤ 3 * r.column + 3
    high [] h e = absurd (none r.dashes e)
      where
        none : (ns : List ℕ) → [] ≡ lines_from (head_comment r.gap) r.column ns r.mark r.content ++ rest → ⊥
        none [] e = cc
        none (k ∷ ns) e = cc
    high (l ∷ ls) h e = let own = first_high (head_comment r.gap) r.column r.dashes r.mark r.content rest l ls (sym e) in let least = h.0 in omega (arith, own, least)

    entry : column ≤ mark_column r
    entry = let up = high (row_lines r ++ rest) deep refl in let more = after_more r.column r.dashes in omega (arith, up, less, low, more)

    node : (ns : List ℕ) → r.dashes ≡ ns → r.mark ≡ rows.Bare → column < mark_column r
    node [] e b = search (rules, arith, bare_high)
    node (k ∷ ns) e b = absurd (false≢true ((subst (λ (x : rows.RowMark). AreDashes (k ∷ ns) x) b (subst (λ (x : List ℕ). AreDashes x r.mark) e d)).1))

    go : (mark : rows.RowMark) → r.mark ≡ mark → (ns : List ℕ) → r.dashes ≡ ns → column < deeper (parent_of r.mark (mark_column r))
    go rows.Bare e ns f = subst (λ (x : rows.RowMark). column < deeper (parent_of x (mark_column r))) (sym e) (below_node column (mark_column r) (node ns f e))
    go rows.Dash e ns f = subst (λ (x : rows.RowMark). column < deeper (parent_of x (mark_column r))) (sym e) (omega (arith, entry))
    go (rows.Key key colon) e ns f = subst (λ (x : rows.RowMark). column < deeper (parent_of x (mark_column r))) (sym e) (omega (arith, entry))

deep_back : (n : ℕ) (xs ys : List Line) → AreDeep n (xs ++ ys) → AreDeep n ys
deep_back n [] ys h = h
deep_back n (x ∷ xs) ys h = deep_back n xs ys h.1

pub next_allowed : NextAllowed
next_allowed n limit [] back end rest h some deep m less next = absurd (false≢true (sym some))
next_allowed n limit (r ∷ []) [] end rest h some deep m less next = refl
next_allowed n limit (r ∷ []) (b ∷ bs) end rest h some deep m less next = row_limit n m b.column r [] h.0.dashes deep less (next_low m (b ∷ bs) b bs refl next)
next_allowed n limit (r ∷ (q ∷ new)) back end rest h some deep m less next = next_allowed n (limit_after r) (q ∷ new) back end rest h.1 refl (deep_back n (row_lines r) (lines_of_rows (q ∷ new)) deep) m less next

pub next_stays : NextStays
next_stays limit [] back end rest l ls h e next = absurd (cc)
next_stays limit (r ∷ rs) [] end rest l ls h e next = refl
next_stays limit (r ∷ rs) (b ∷ bs) end rest l ls h e next =
    let high = first_high (head_comment r.gap) r.column r.dashes r.mark r.content (lines_of_rows rs) l ls e in
    let low = next_low (level l) (b ∷ bs) b bs refl next in
    search (rules, lt-ltb, ltb-true)

-- the indentation of a block scalar
pub indent_least : (least : ℕ) (digit : Option ℕ) (f : TextIndent) (raw : RawLines) → IsDigit digit → IsTextIndent least digit f raw → least ≤ f.columns
indent_least least (Some d) f raw small h = let same = ap (λ (x : TextIndent). x.columns) h in let one = small.0 in omega (arith, same, one)
indent_least least None f [] small h = let same = ap (λ (x : TextIndent). x.columns) h in omega (arith, same)
indent_least least None f (l ∷ raw) small h =
    ⊎_elim {0, 0, 0} (λ e. indent_least least None f raw tt e.2) (λ e. let same = ap (λ (x : TextIndent). x.columns) e.1 in let own = e.2 in omega (arith, same, own)) h

-- the last line of rows
abbrev last_line : Row → Line
last_line r = mark_line (above_mark (head_comment r.gap) r.dashes) (mark_column r) r.mark r.content

last_apart : (r : Row) (zs : List Line) → AreApartLines (row_lines r) zs → Begins (level (last_line r)) zs
last_apart r zs h = skip (dash_lines (head_comment r.gap) r.column r.dashes) (subst (λ (ls : List Line). AreApartLines ls zs) (mark_after (head_comment r.gap) r.column r.dashes r.mark r.content) h)
  where
    skip : (a : List Line) → AreApartLines (a ++ (last_line r ∷ [])) zs → Begins (level (last_line r)) zs
    skip (x ∷ (y ∷ a)) h = skip (y ∷ a) h
    skip _ h = h

pub apart_later : (a b z : List Line) → (b ≡ [] → ⊥) → AreApartLines (a ++ b) z → AreApartLines b z
apart_later (x ∷ []) [] z some h = absurd (some refl)
apart_later (x ∷ (y ∷ a)) b z some h = apart_later (y ∷ a) b z some h
apart_later _ _ z some h = h

rows_lines : (q : Row) (rs : List Row) → lines_of_rows (q ∷ rs) ≡ [] → ⊥
rows_lines q rs e = go q.dashes e
  where
    go : (ns : List ℕ) → lines_from (head_comment q.gap) q.column ns q.mark q.content ++ lines_of_rows rs ≡ [] → ⊥
    go [] e = cc
    go (n ∷ ns) e = cc

pub block_is_deeper : BlockIsDeeper
unfolding level
block_is_deeper limit [] rows end rest b l h e apart = absurd (cc)
block_is_deeper limit (r ∷ []) rows end rest b l h e apart =
    let own : level l ≤ level (last_line r) =
    last_apart r (l ∷ []) (subst (λ (ls : List Line). AreApartLines ls (l ∷ [])) (Rattle.std.proofs.Common.append-nil (row_lines r)) apart) in
    let low : 3 * l.column + 1 ≤ level l = omega (arith, rank_small l.mark) in
    let high = high_level (last_line r) in
    let deep : mark_column r < b.indent.columns = search (rules, same_Some, indent_least, false≢true, none-some) in
    omega (arith, own, low, high, deep)
block_is_deeper limit (r ∷ (q ∷ front)) rows end rest b l h e apart = block_is_deeper (limit_after r) (q ∷ front) rows end rest b l h.1 e (apart_later (row_lines r) (lines_of_rows (q ∷ front)) (l ∷ []) (rows_lines q front) apart)

-- after a block scalar closed lines are apart
block_head : (c : Content) (b : BlockText) → block_of c ≡ Some b → is_some (head_of c) ≡ true
block_head c b h1 = search rules

pub last_closed : (front : List Row) (b : BlockText) (zs : List Line) → last_block front ≡ Some b → AreClosed (lines_of_rows front ++ zs) → AreApartLines (lines_of_rows front) zs
last_closed [] b zs e h = absurd (cc)
last_closed (r ∷ []) b zs e h = search (rules, mark_after, append_assoc, apart_skip, closed_back, block_head)
last_closed (r ∷ (q ∷ front)) b zs e h =
    apart_skip (row_lines r) (lines_of_rows (q ∷ front)) zs (rows_lines q front) (last_closed (q ∷ front) b zs e
    (closed_back (row_lines r) (lines_of_rows (q ∷ front) ++ zs) (subst AreClosed (append_assoc (row_lines r) (lines_of_rows (q ∷ front)) zs) h)))

pub apart_first : (a : List Line) (l : Line) (ls : List Line) → AreApartLines a (l ∷ ls) → AreApartLines a (l ∷ [])
apart_first [] l ls h = tt
apart_first (x ∷ []) l ls h = h
apart_first (x ∷ (y ∷ a)) l ls h = apart_first (y ∷ a) l ls h

bare : (l : Line) (column : ℕ) (a : List Line) → AreApartLines a (l ∷ []) → 3 * column + 1 ≤ level l → AreApartLines a (record l { column = column; mark = Rattle.yq_outline.specs.Outline.Bare } ∷ [])
unfolding level
bare l column [] h low = tt
bare l column (x ∷ []) h low = omega (arith, h, low)
bare l column (x ∷ (y ∷ a)) h low = bare l column (y ∷ a) h low

pub closed_is_there_less : ClosedIsLessDeep
closed_is_there_less limit front gone back end rest l ls h closed next = go (last_block front) refl back next
  where
    go : (o : Option BlockText) → last_block front ≡ o → (back : List Row) → Begins (level l) (lines_of_rows back) → IsLessDeep o (next_column back)
    go None e back n = tt
    go (Some b) e [] n = let deep = block_is_deeper limit front gone end rest b l h e (apart_first (lines_of_rows front) l ls (last_closed front b (l ∷ ls) e closed)) in omega (arith, deep)
    go (Some b) e (r ∷ rs) n =
        let apart = apart_first (lines_of_rows front) l ls (last_closed front b (l ∷ ls) e closed) in
        let deep =
        block_is_deeper limit front gone end rest b (record l { column = r.column; mark = Rattle.yq_outline.specs.Outline.Bare }) h e (bare l r.column (lines_of_rows front) apart (next_low (level l) (r ∷ rs) r rs refl n)) in
        deep

-- where rows may be
pub ruleset columns = (next_allowed, next_stays, block_is_deeper, closed_is_there_less)
