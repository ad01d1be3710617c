-- What reading a pair and writing to it leave.
use Rattle.std.{proofs.Common.{rules, ◌≡◌, ℕ, List, Option, Some, Ok, Vec, option_map, sym, subst}, proofs.lemmas.Option.none-some}
use Rattle.std.{specs.FinMap.get, specs.declared.alloc.Global.Global}
use Rattle.yq_journal.{specs.Good.{Describes, journal_beside}, specs.History.{History, text_at}, specs.State.{State, settled_beside}}
use Rattle.yq_journal.proofs.GoodLaws.{settles, settled_rests}
use Rattle.yq_store.specs.FileMap.{FileMap}
use Rattle.yq_history.specs.Pair.{GoodIn, Opens, PairAtRest}

-- the file of a good pair is the text at the cursor
pub good_text : (c : FileMap) (f j : List ℕ) (m : Option History) → GoodIn c f j m → get c f ≡ option_map text_at m
good_text c f j m good = search (rules, settles)

-- a pair in a store that holds the same
pub same_pair : (c e : FileMap) (f j : List ℕ) (h : Option History) → e ≡ c → GoodIn c f j h → GoodIn e f j h
same_pair c e f j h is good = subst (λ m. GoodIn m f j h) (sym is) good

module _ (c : FileMap) (f j : List ℕ) (t : List ℕ) (s : State) (file_is : get c f ≡ Some t) (journal_is : journal_beside (get c j) ≡ Some s) where
  -- what is read of a good pair describes its history
  pub reads : (h : History) → GoodIn c f j (Some h) → Describes s t h
  reads h k = search rules

  -- and can be settled
  pub settled_pair : (r : State) (h : History) → settled_beside s t ≡ Some r → GoodIn c f j (Some h) → PairAtRest c f j r t h
  settled_pair r h is good = record {
    file_is = file_is;
    at_rest = (settled_rests s r t h (reads h good) is).0;
    is_located = good;
  }

-- a pair that was read and settled
pub opens : (c e : FileMap) (f j : List ℕ) (v : Vec ℕ Global) (s r : State) (h : Option History) →
    e ≡ c → get c f ≡ Some v.items → journal_beside (get c j) ≡ Some s → settled_beside s v.items ≡ Some r → GoodIn c f j h → Opens e f j h (Ok (v, r))
opens c e f j v s r h is file journal rest good = search (rules, none-some, settled_pair)
