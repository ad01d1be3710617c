-- Values nested too deep.
use Rattle.std.{proofs.lemmas.Bool.{cases_Bool, le-ltb, lt-ltb, ltb-false, ltb-true}, proofs.Common.{◌≡◌, ℕ, suc, ◌-◌, ◌<◌, ltb, rules}}

-- one collection more
pub one_deeper : (l d : ℕ) → 0 < l → ltb (l - 1) d ≡ ltb l (suc d)
one_deeper l d some = search (rules, ltb-true, lt-ltb, ltb-false, le-ltb, cases_Bool)
