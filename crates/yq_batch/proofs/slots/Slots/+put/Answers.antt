use Rattle.std.{proofs.Common.{ℕ, Option, sym, [], ◌∷◌, ◌++◌, subst, arith, rules}, specs.Prelude.{IfOk, IfSome}}
use Rattle.yq_batch.{specs.Slots.{IsPutIn, HasCounts, slot_of, slots_of}, proofs.SlotCounts.{counts_put, in_right, one_put}}
use Rattle.yq_batch.specs.declared.slots.Slots.{Slots}
use Rattle.yq_batch.proofs.slots.Slots.+put.Goals as goal

pub returns-then-place-split-clause-put : goal.returns-then-place-split-clause-put
returns-then-place-split-clause-put t c =
    let own = subst (λ (o : Option (ℕ × ℕ)). IfSome o
    (λ p. IsPutIn (slots_of c.deref_mut.result.now) (slots_of c.put.new.self) c.args.place c.args.lead.now c.args.written.now
    p.0 p.1)) c.in-Some.is c.in_ok-put-in-Two.ensures.put in
    let h = subst (λ (s : Slots). IsPutIn (slots_of s) (slots_of c.put.new.self) c.args.place c.args.lead.now c.args.written.now c.in-Some.put.0 c.in-Some.put.1) c.deref_mut.ensures.value own in
    let known : HasCounts c.args.self.now = search rules in
    let counts = subst HasCounts c.in-Two.is known in
    subst (λ (s : Slots). IsPutIn (slots_of s) (slots_of c.in-Two.left.value ++ slots_of c.put.new.self) c.args.place c.args.lead.now c.args.written.now c.in-Some-moved.at c.in-Some.put.1) (sym c.in-Two.is)
    (in_right c.args.place c.args.lead.now c.args.written.now (slots_of c.in-Two.left.value) (slots_of c.in-Two.right.value) (slots_of c.put.new.self) c.in-Some.put.0 c.in-Some-moved.at c.in-Some.put.1 h
    (omega (arith, c.in-Some-moved.ensures, counts.0, counts.1)))

pub returns-in-Some-checked_add-3-clause-counts : goal.returns-in-Some-checked_add-3-clause-counts
returns-in-Some-checked_add-3-clause-counts t c =
    let own = subst (λ (o : Option (ℕ × ℕ)). IfSome o
    (λ p. IsPutIn (slots_of c.deref_mut-in-Two.result.now) (slots_of c.put-in-Two.new.self) c.args.place c.args.lead.now c.args.written.now p.0
    p.1)) c.in-Some-2.is c.in_ok-put-in-Two-2.ensures.put in
    let h = subst (λ (s : Slots). IsPutIn (slots_of s) (slots_of c.put-in-Two.new.self) c.args.place c.args.lead.now c.args.written.now c.in-Some-2.put.0 c.in-Some-2.put.1) c.deref_mut-in-Two.ensures.value own in
    let known = subst (λ (o : Option (ℕ × ℕ)). IfSome o (λ p. HasCounts c.put-in-Two.new.self)) c.in-Some-2.is c.in_ok-put-in-Two-2.ensures.counts in
    let k = counts_put c.args.place c.args.lead.now c.args.written.now (slots_of c.in-Two.left.value) (slots_of c.put-in-Two.new.self) c.in-Some-2.put.0 c.in-Some-2.put.1 h in
    let there : HasCounts c.args.self.now = search rules in
    let counts = subst HasCounts c.in-Two.is there in (
      omega (arith, k.0, counts.0, c.in-Some-checked_add.ensures),
      omega (arith, k.1, counts.1, c.in-Some-checked_add-2.ensures, c.in-Some-checked_add-3.ensures),
      known,
      counts.3,
    )

pub returns-in-One-clause-put : goal.returns-in-One-clause-put
returns-in-One-clause-put t c =
    subst (λ (x : Slots). IfOk c.put_at.result (λ o. IfSome o (λ p. IsPutIn (slots_of x) (slot_of c.in-One.own c.put_at.new.put ∷ []) c.args.place c.args.lead.now c.args.written.now p.0 p.1))) (sym c.in-One.is)
    (one_put c.args.place c.args.lead.now c.args.written.now (slot_of c.in-One.own c.in-One.put) (slot_of c.in-One.own c.put_at.new.put) c.put_at.result c.put_at.ensures)
