-- A plain scalar, read and spelled.
use Rattle.std.proofs.Common.{◌≡◌, ℕ, ◌<◌, Bool, true, List, ◌∷◌, ◌++◌, Option, Some, refl, ⊎_elim, ap, subst, eqb-true, rules}
use Rattle.std.{proofs.lemmas.Bool.{or_cases, and_parts}, proofs.lemmas.List.take-append-drop, proofs.lemmas.Option.cond_some}
use Rattle.std.specs.Str.{IsCharBoundary}
use Rattle.yq_core.{specs.Text.{upto, cut}, specs.Plain.{ends_plain, is_flow_indicator, begins_plain, IsPlain, plain_at}}
use Rattle.yq_core.{proofs.Bools.chosen, proofs.Boundaries.{boundary_ends, space_ascii}}
use Rattle.yq_core.proofs.Upto.{cut-append, cut_takes, none_in_cut, upto_ends}

pub flow_ascii : (b : ℕ) → is_flow_indicator b ≡ true → b < 128
flow_ascii b = search (rules, or_cases, eqb-true)

pub plain_ascii : (flow : Bool) (spaces : Option ℕ) (b : ℕ) (bs : List ℕ) → ends_plain flow spaces (b ∷ bs) ≡ true → b < 128
plain_ascii flow spaces b bs h = ⊎_elim (λ w. space_ascii b bs w.0) (λ w. (search (rules, ⊎_elim, eqb-true, and_parts, flow_ascii, or_cases))) (chosen _ h)

pub boundary_plain : (flow : Bool) (spaces : Option ℕ) (t : List ℕ) (n : ℕ) → n ≡ upto (ends_plain flow spaces) t → IsCharBoundary t n
boundary_plain flow spaces t n e = rw e (boundary_ends (ends_plain flow spaces) t (plain_ascii flow spaces) refl)

pub plain_is : (flow : Bool) (spaces : Option ℕ) (t : List ℕ) → begins_plain flow t ≡ true → IsPlain flow spaces (cut (ends_plain flow spaces) t).0 (cut (ends_plain flow spaces) t).1
plain_is flow spaces t h = record { begins = rw (take-append-drop) h; inside = none_in_cut (ends_plain flow spaces) t; ends = upto_ends (ends_plain flow spaces) t refl }

pub plain_takes : (flow : Bool) (spaces : Option ℕ) (t : List ℕ) (x : List ℕ × List ℕ) → plain_at flow spaces t ≡ Some x → (t ≡ x.0 ++ x.1) × IsPlain flow spaces x.0 x.1
unfolding plain_at
plain_takes flow spaces t x h =
    let g = cond_some (begins_plain flow t) _ _ h in
    subst (λ (y : List ℕ × List ℕ). (t ≡ y.0 ++ y.1) × IsPlain flow spaces y.0 y.1) g.1 (cut_takes (ends_plain flow spaces) t, plain_is flow spaces t g.0)

pub plain_again : (flow : Bool) (spaces : Option ℕ) (p rest : List ℕ) → IsPlain flow spaces p rest → plain_at flow spaces (p ++ rest) ≡ Some (p, rest)
unfolding plain_at
plain_again flow spaces p rest h = rw h.begins (ap Some (cut-append (ends_plain flow spaces) p rest h.inside h.ends))
