-- Rows in two parts, and where steps lead among those of the first one, whatever rows come after them.
use Rattle.std.proofs.Common.{◌≡◌, inl, inr, ℕ, zero, suc, ◌-◌, ◌<◌, Bool, true, false, cond, ltb, List, [], ◌∷◌, ◌++◌, length, Option}
use Rattle.std.proofs.Common.{Some, option_map, refl, sym, ap, ◌∙◌, append_assoc, append-nil, arith, length-append}
use Rattle.std.proofs.lemmas.Bool.{cases_lt, ltb-false, ltb-true}
use Rattle.yq_core.{specs.Answers.◌>>=◌, specs.Paths.Step, proofs.Bools.bind_some}
use Rattle.yq_outline.{specs.Ends.line_at_steps, specs.Lines.{lines_of_rows, row_lines}, specs.Outline.Line}
use Rattle.yq_row_table.specs.Rows.{Row}
use Rattle.yq_documents.specs.LinesInRows.{RowLine, one_row_later, row_line, row_line_of}
use Rattle.yq_places.{proofs.PlacedPartLaws.map_some, proofs.UnderExchange.lines_append, proofs.UptoLaws.line_stays}
use Rattle.yq_batch.{proofs.OwnRowsStay.row_size, proofs.RowsBeforeOffset.split_front}

-- ---- lists in two parts in two ways

pub equal_parts : {A : Type 0} (a b c d : List A) → a ++ b ≡ c ++ d → length a ≡ length c → (a ≡ c) × (b ≡ d)
equal_parts {A} a b c d e size =
    let h = split_front a b c d e (omega (arith, size)) in
    go h.0 h.1 h.2
  where
    go : (m : List A) → c ≡ a ++ m → b ≡ m ++ d → (a ≡ c) × (b ≡ d)
    go [] p q = (sym (append-nil a) ∙ sym p, q)
    go (x ∷ m) p q = absurd (omega (arith, size, ap length p, length-append a (x ∷ m)))

pub no_lines : (m : List Row) → length (lines_of_rows m) ≡ 0 → m ≡ []
no_lines [] e = refl
no_lines (r ∷ m) e = absurd (omega (arith, e, row_size r, length-append (row_lines r) (lines_of_rows m)))

-- rows in two parts, of which the first ones have as many lines
pub parts_by_lines : (a b c d : List Row) → a ++ b ≡ c ++ d → length (lines_of_rows a) ≡ length (lines_of_rows c) → (a ≡ c) × (b ≡ d)
parts_by_lines a b c d e size = elim (cases_lt (length c) (length a)) [
  | inl less ↦
      let h = split_front c d a b (sym e) (omega (arith, less)) in
      let none : h.0 ≡ [] = no_lines h.0 (omega (arith, size, ap (λ (rs : List Row). length (lines_of_rows rs)) h.1, ap length (lines_append c h.0), length-append (lines_of_rows c) (lines_of_rows h.0))) in
      equal_parts a b c d e (ap length (h.1 ∙ (ap (λ (m : List Row). c ++ m) none ∙ append-nil c)))
  | inr least ↦
      let h = split_front a b c d e (omega (arith, least)) in
      let none : h.0 ≡ [] = no_lines h.0 (omega (arith, size, ap (λ (rs : List Row). length (lines_of_rows rs)) h.1, ap length (lines_append a h.0), length-append (lines_of_rows a) (lines_of_rows h.0))) in
      equal_parts a b c d e (sym (ap length (h.1 ∙ (ap (λ (m : List Row). a ++ m) none ∙ append-nil a))))
]

-- ---- lines of the first part

pub line_split : (m : ℕ) (ls : List Line) → m < length ls → (xs : List Line) × (l : Line) × (ys : List Line) × (ls ≡ xs ++ (l ∷ ys)) × (length xs ≡ m)
line_split m [] less = absurd (omega (arith, less))
line_split zero (l ∷ ls) less = ([], l, ls, refl, refl)
line_split (suc m) (l ∷ ls) less = let h = line_split m ls (omega (arith, less)) in (l ∷ h.0, h.1, h.2, ap (λ (k : List Line). l ∷ k) h.3, ap suc h.4)

line_within : (m : ℕ) (a b : List Row) (x : RowLine) → row_line m (a ++ b) ≡ Some x → x.before < length a → m < length (lines_of_rows a)
line_within m [] b x e less = absurd (omega (arith, less))
line_within m (r ∷ a) b x e less = go (ltb (length r.dashes) m) refl (line_within (m - suc (length r.dashes)) a b) e
  where
    go : (c : Bool) → ltb (length r.dashes) m ≡ c →
        ((y : RowLine) → row_line (m - suc (length r.dashes)) (a ++ b) ≡ Some y → y.before < length a → m - suc (length r.dashes) < length (lines_of_rows a)) →
        cond c (option_map one_row_later (row_line (m - suc (length r.dashes)) (a ++ b))) (Some (record { before = 0; row = r; line = m })) ≡ Some x → m < length (lines_of_rows (r ∷ a))
    go true is again e =
        let y = map_some one_row_later (row_line (m - suc (length r.dashes)) (a ++ b)) x e in
        let later = again y.0 y.1 (omega (arith, less, ap (λ (z : RowLine). z.before) y.2)) in
        omega (arith, later, ltb-true (length r.dashes) m is, row_size r, length-append (row_lines r) (lines_of_rows a))
    go false is again e = omega (arith, ltb-false (length r.dashes) m is, row_size r, length-append (row_lines r) (lines_of_rows a))

row_stays : (m : ℕ) (a b c : List Row) (x : RowLine) → row_line m (a ++ b) ≡ Some x → x.before < length a → row_line m (a ++ c) ≡ Some x
row_stays m [] b c x e less = absurd (omega (arith, less))
row_stays m (r ∷ a) b c x e less = go (ltb (length r.dashes) m) (row_stays (m - suc (length r.dashes)) a b c) e
  where
    go : (t : Bool) → ((y : RowLine) → row_line (m - suc (length r.dashes)) (a ++ b) ≡ Some y → y.before < length a → row_line (m - suc (length r.dashes)) (a ++ c) ≡ Some y) →
        cond t (option_map one_row_later (row_line (m - suc (length r.dashes)) (a ++ b))) (Some (record { before = 0; row = r; line = m })) ≡ Some x →
        cond t (option_map one_row_later (row_line (m - suc (length r.dashes)) (a ++ c))) (Some (record { before = 0; row = r; line = m })) ≡ Some x
    go true again e =
        let y = map_some one_row_later (row_line (m - suc (length r.dashes)) (a ++ b)) x e in
        ap (option_map one_row_later) (again y.0 y.1 (omega (arith, less, ap (λ (z : RowLine). z.before) y.2))) ∙ ap Some y.2
    go false again e = e

-- a line of the first part to which steps lead is there, whatever comes after that
pub line_there : (steps : List Step) (a b c : List Row) (x : RowLine) → row_line_of steps (a ++ b) ≡ Some x → x.before < length a → row_line_of steps (a ++ c) ≡ Some x
line_there steps a b c x e less =
    let m = bind_some (line_at_steps steps (lines_of_rows (a ++ b))) e in
    let p = line_split m.0 (lines_of_rows a) (line_within m.0 a b x m.2 less) in
    let at : (d : List Row) → lines_of_rows (a ++ d) ≡ p.0 ++ (p.1 ∷ (p.2 ++ lines_of_rows d)) = λ d. lines_append a d ∙ (ap (λ (ls : List Line). ls ++ lines_of_rows d) p.3 ∙ append_assoc p.0 (p.1 ∷ p.2) (lines_of_rows d)) in
    let there : line_at_steps steps (p.0 ++ (p.1 ∷ (p.2 ++ lines_of_rows b))) ≡ Some (length p.0) = ap (line_at_steps steps) (sym (at b)) ∙ (m.1 ∙ ap Some (sym p.4)) in
    let line : line_at_steps steps (lines_of_rows (a ++ c)) ≡ Some m.0 = ap (line_at_steps steps) (at c) ∙ (line_stays steps p.0 p.1 (p.2 ++ lines_of_rows b) (p.2 ++ lines_of_rows c) there ∙ ap Some p.4) in
    ap (λ (o : Option ℕ). o >>= λ n. row_line n (a ++ c)) line ∙ row_stays m.0 a b c x m.2 less
