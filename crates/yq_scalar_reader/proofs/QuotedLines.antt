-- Keys and scalars in quotes that are on one line and have no escapes.
use Rattle.std.proofs.Common.{◌≡◌, ℕ, suc, ◌+◌, ◌-◌, ◌≤◌, true, false, not, ◌&&◌, eqb, eqb-true, List, [], ◌∷◌, length, take, drop, refl}
use Rattle.std.{proofs.Common.{sym, ap, ◌∙◌, arith, inl, inr, subst}, proofs.lemmas.Bool.{cases_Bool, false≢true, or_cases}}
use Rattle.std.specs.List.{list_any, prefix_len}
use Rattle.yq_core.{specs.Borrowed.borrows_text, specs.Nodes.begins_with, specs.Plain.holds_break, specs.Runs.run_goes_on}
use Rattle.yq_core.{specs.QuotedReading.is_quote, specs.Text.is_feed, specs.declared.runs.Run.TheVariants.Quoted, proofs.Bools.at_byte}

-- how long the run is over a byte more
run_on : (q b : ℕ) (bs : List ℕ) → run_goes_on (Quoted q) b ≡ true → suc (prefix_len (run_goes_on (Quoted q)) bs) ≡ prefix_len (run_goes_on (Quoted q)) (b ∷ bs)
run_on q b bs i = rw i (omega arith)

run_off : (q b : ℕ) (bs : List ℕ) → run_goes_on (Quoted q) b ≡ false → 0 ≡ prefix_len (run_goes_on (Quoted q)) (b ∷ bs)
run_off q b bs i = rw i refl

-- no break is in a run and the quote after it, which end the text
no_break : (q : ℕ) (t : List ℕ) (n : ℕ) → eqb q 10 ≡ false → n ≡ prefix_len (run_goes_on (Quoted q)) t → n + 1 ≡ length t → begins_with q (drop n t) ≡ true → list_any is_feed t ≡ false
no_break q [] n other run long ends = refl
no_break q (b ∷ bs) n other run long ends = elim (cases_Bool (run_goes_on (Quoted q) b)) [
  | inl i ↦
      let k : ℕ = prefix_len (run_goes_on (Quoted q)) bs in
      let next : n ≡ suc k = run ∙ sym (run_on q b bs i) in
      let inside : is_feed b ≡ false = at_byte (run_goes_on (Quoted q)) b 10 i (stops_feed q) in
      rw inside (no_break q bs k other refl (omega (arith, next, long)) (ap (λ (m : ℕ). begins_with q (drop m (b ∷ bs))) (sym next) ∙ ends))
  | inr i ↦
      let none : n ≡ 0 = run ∙ sym (run_off q b bs i) in
      let same : eqb b q ≡ true = ap (λ (m : ℕ). begins_with q (drop m (b ∷ bs))) (sym none) ∙ ends in
      let last : is_feed b ≡ false = ap (λ (x : ℕ). eqb x 10) (eqb-true b q same) ∙ other in
      rw last (nothing bs (omega (arith, none, long)))
]
  where
    stops_feed : (q : ℕ) → run_goes_on (Quoted q) 10 ≡ false
    stops_feed q = elim (cases_Bool (eqb 10 q)) [ inl e ↦ rw e refl | inr e ↦ rw e refl ]

    nothing : (l : List ℕ) → length l ≡ 0 → list_any is_feed l ≡ false
    nothing [] e = refl
    nothing (x ∷ l) e = absurd (omega (arith, e))

-- a byte at which the run stops isn't in it
not_in_run : (q k : ℕ) (t : List ℕ) → run_goes_on (Quoted q) k ≡ false → list_any (λ x. eqb x k) (take (prefix_len (run_goes_on (Quoted q)) t) t) ≡ false
not_in_run q k [] stop = refl
not_in_run q k (b ∷ bs) stop = elim (cases_Bool (run_goes_on (Quoted q) b)) [
  | inl i ↦
      ap (λ (m : ℕ). list_any (λ x. eqb x k) (take m (b ∷ bs))) (sym (run_on q b bs i))
      ∙ (rw (at_byte (run_goes_on (Quoted q)) b k i stop) (not_in_run q k bs stop))
  | inr i ↦ ap (λ (m : ℕ). list_any (λ x. eqb x k) (take m (b ∷ bs))) (sym (run_off q b bs i))
]

-- between double and between single quotes
lent : (q k : ℕ) (t : List ℕ) (n : ℕ) → eqb q 10 ≡ false → run_goes_on (Quoted q) k ≡ false → n ≡ prefix_len (run_goes_on (Quoted q)) t → n + 2 ≡ length (q ∷ t) → begins_with q (drop n t) ≡ true →
    (holds_break (q ∷ t) ≡ false) × (list_any (λ x. eqb x k) (take (length (q ∷ t) - 2) t) ≡ false)
lent q k t n other stop run long ends = (
  rw other (no_break q t n other run (omega (arith, long)) ends),
  ap (λ (m : ℕ). list_any (λ x. eqb x k) (take m t)) (let same : length (q ∷ t) - 2 ≡ prefix_len (run_goes_on (Quoted q)) t = omega (arith, run, long) in same) ∙ not_in_run q k t stop,
)

double : (t : List ℕ) (n : ℕ) → n ≡ prefix_len (run_goes_on (Quoted 34)) t → n + 2 ≡ length (34 ∷ t) → begins_with 34 (drop n t) ≡ true → borrows_text (34 ∷ t) ≡ true
double t n run long ends = let l = lent 34 92 t n refl refl run long ends in (λ i. not (l.0 i) && not (l.1 i))

single : (t : List ℕ) (n : ℕ) → n ≡ prefix_len (run_goes_on (Quoted 39)) t → n + 2 ≡ length (39 ∷ t) → begins_with 39 (drop n t) ≡ true → borrows_text (39 ∷ t) ≡ true
single t n run long ends = let l = lent 39 39 t n refl refl run long ends in (λ i. not (l.0 i) && not (l.1 i))

pub some_front : (t : List ℕ) (q : ℕ) → begins_with q t ≡ true → 1 ≤ length t
some_front [] q h = absurd (false≢true h)
some_front (b ∷ bs) q h = omega arith

pub quoted_line : (t rest end : List ℕ) (q n : ℕ) → is_quote q ≡ true → begins_with q t ≡ true → rest ≡ drop 1 t →
    n ≡ prefix_len (run_goes_on (Quoted q)) rest → end ≡ drop n rest → n + 2 ≡ length t → begins_with q end ≡ true → borrows_text t ≡ true
quoted_line [] rest end q n quote front back run last long ends = absurd (false≢true front)
quoted_line (b ∷ bs) rest end q n quote front back run last long ends =
    let same : n ≡ prefix_len (run_goes_on (Quoted q)) bs = run ∙ ap (prefix_len (run_goes_on (Quoted q))) back in
    let stop : begins_with q (drop n bs) ≡ true = ap (λ (l : List ℕ). begins_with q (drop n l)) (sym back) ∙ (ap (begins_with q) (sym last) ∙ ends) in
    subst (λ (x : ℕ). borrows_text (x ∷ bs) ≡ true) (sym (eqb-true b q front))
    (elim (or_cases (eqb q 34) (eqb q 39) quote) [
      | inl e ↦ go q 34 (eqb-true q 34 e) (λ s u. double bs n s long u) same stop
      | inr e ↦ go q 39 (eqb-true q 39 e) (λ s u. single bs n s long u) same stop
    ])
  where
    go : (q k : ℕ) → q ≡ k → (n ≡ prefix_len (run_goes_on (Quoted k)) bs → begins_with k (drop n bs) ≡ true → borrows_text (k ∷ bs) ≡ true) →
        n ≡ prefix_len (run_goes_on (Quoted q)) bs → begins_with q (drop n bs) ≡ true → borrows_text (q ∷ bs) ≡ true
    go q k e f s u = subst (λ (x : ℕ). borrows_text (x ∷ bs) ≡ true) (sym e) (f (subst (λ (x : ℕ). n ≡ prefix_len (run_goes_on (Quoted x)) bs) e s) (subst (λ (x : ℕ). begins_with x (drop n bs) ≡ true) e u))
