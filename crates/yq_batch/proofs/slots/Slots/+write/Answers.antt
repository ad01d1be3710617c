use Rattle.std.{proofs.Common.{length, length-append, sym, ap, subst, string_bytes, arith}, proofs.lemmas.Result.IfOk-weaker}
use Rattle.yq_text.specs.Halves.{whole}
use Rattle.yq_batch.{specs.Slots.slots_of, specs.OpenRuns.{HasWritten, MayWrite}}
use Rattle.yq_batch.{proofs.SlotWrites.{some_slots, write_left, write_right, written_both}, specs.declared.slots.Slots.Slots}
use Rattle.yq_batch.proofs.slots.Slots.+write.Goals as goal

pub write-requires : goal.write-requires
write-requires t c = (
  omega (
    arith,
    ap (λ (s : Slots). length (slots_of s)) c.in-Two.is,
    ap (λ (s : Slots). length (slots_of s)) c.deref-in-Two.ensures,
    length-append (slots_of c.in-Two.left.value) (slots_of c.in-Two.right.value),
    some_slots c.in-Two.right.value,
  ),
  (
    c.requires.edge,
    subst (λ (s : Slots). MayWrite (whole c.args.text) c.args.done.now (slots_of s)) (sym c.deref-in-Two.ensures)
        (write_left (whole c.args.text) c.args.done.now (slots_of c.in-Two.left.value) (slots_of c.in-Two.right.value) (subst (λ (s : Slots). MayWrite (whole c.args.text) c.args.done.now (slots_of s)) c.in-Two.is c.requires.places)),
  ),
)

pub write-requires-in-Two : goal.write-requires-in-Two
write-requires-in-Two t c =
    let w : HasWritten (whole c.args.text) (slots_of c.in-Two.left.value) (string_bytes c.args.out.now) c.args.done.now (string_bytes c.write.new.out) c.write.new.done =
    subst (λ (s : Slots). HasWritten (whole c.args.text) (slots_of s) (string_bytes c.args.out.now) c.args.done.now (string_bytes c.write.new.out) c.write.new.done) c.deref-in-Two.ensures c.in_ok-write-in-Two.ensures in (
      omega (
        arith,
        ap (λ (s : Slots). length (slots_of s)) c.in-Two.is,
        ap (λ (s : Slots). length (slots_of s)) c.deref-in-Two-2.ensures,
        length-append (slots_of c.in-Two.left.value) (slots_of c.in-Two.right.value),
        some_slots c.in-Two.left.value,
      ),
      (
        w.edge,
        subst (λ (s : Slots). MayWrite (whole c.args.text) c.write.new.done (slots_of s)) (sym c.deref-in-Two-2.ensures)
            (write_right (whole c.args.text) c.args.done.now c.write.new.done (string_bytes c.args.out.now) (string_bytes c.write.new.out) (slots_of c.in-Two.left.value) (slots_of c.in-Two.right.value)
            (subst (λ (s : Slots). MayWrite (whole c.args.text) c.args.done.now (slots_of s)) c.in-Two.is c.requires.places) w),
      ),
    )

pub returns-in_ok-write-in-Two : goal.returns-in_ok-write-in-Two
returns-in_ok-write-in-Two t c =
    let w : HasWritten (whole c.args.text) (slots_of c.in-Two.left.value) (string_bytes c.args.out.now) c.args.done.now (string_bytes c.write.new.out) c.write.new.done =
    subst (λ (s : Slots). HasWritten (whole c.args.text) (slots_of s) (string_bytes c.args.out.now) c.args.done.now (string_bytes c.write.new.out) c.write.new.done) c.deref-in-Two.ensures c.in_ok-write-in-Two.ensures in
    IfOk-weaker c.write-in-Two.result _ _
    (λ u second.
    subst (λ (s : Slots). HasWritten (whole c.args.text) (slots_of s) (string_bytes c.args.out.now) c.args.done.now (string_bytes c.write-in-Two.new.out) c.write-in-Two.new.done) (sym c.in-Two.is)
    (written_both (whole c.args.text) c.args.done.now c.write.new.done c.write-in-Two.new.done (string_bytes c.args.out.now)
    (string_bytes c.write.new.out) (string_bytes c.write-in-Two.new.out) (slots_of c.in-Two.left.value) (slots_of c.in-Two.right.value) w
    (subst (λ (s : Slots). HasWritten (whole c.args.text) (slots_of s) (string_bytes c.write.new.out) c.write.new.done (string_bytes c.write-in-Two.new.out) c.write-in-Two.new.done) c.deref-in-Two-2.ensures second)))
    c.write-in-Two.ensures
