-- Values that are added several times, and values that hold what is added.
use Rattle.std.specs.Prelude.{◌≡◌, ℕ, zero, suc, ℤ, ◌+ℤ◌, ◌++◌, List, [], Option, Some, None, Result, IfOk, IfSome, String, string_bytes}
use Rattle.std.{specs.Prelude.if◌then◌else◌, specs.Fmt.signed_decimal, specs.declared.alloc.AllocError.AllocError}
use Rattle.std.specs.declared.alloc.Global.{Global}
use Rattle.yq_core.{specs.Numbers.is_i64, specs.Scalar.ScalarText, specs.Tree.{Node, scalar}, specs.Values.{entries_of, value_node}}
use Rattle.yq_core.{specs.declared.kind.Kind.TheVariants.{Int, Text}, specs.declared.value.Value.Value}
use Rattle.yq_semantics.specs.Judgement.{ExprError, Judgement, Judges, and_then, gives, refuses}
use Rattle.yq_semantics.{specs.RightValues.{sum, with_entries, with_entry}, specs.declared.refusal.Refusal.TheVariants.IntegerRange}

-- a value after another one was added so many times (own)
abbrev pub sum_times : ℕ → Node → Node → Judgement Node
sum_times zero v total = gives total
sum_times (suc n) v total = and_then (sum_times n v) (sum total v)

-- an answer is such a value, or the refusal that comes (own)
abbrev pub JudgesTimes : Result Value ExprError → ℕ → Value → Value → Type 0
JudgesTimes result n v total = Judges value_node result (sum_times n (value_node v) (value_node total))

-- where an answer is a value, it is what a judgement gives (own)
abbrev pub KnowsValue : Result (Option Value) AllocError → Judgement Node → Type 0
KnowsValue result j = IfOk result (λ o. IfSome o (λ v. j ≡ gives (value_node v)))

-- the same of a value to which another one is added so many times (own)
abbrev pub KnowsSum : Result (Option Value) AllocError → ℕ → Value → Value → Type 0
KnowsSum result n v total = KnowsValue result (sum_times n (value_node v) (value_node total))

-- the same of scalars (own)
abbrev pub KnowsScalars : Result (Option Value) AllocError → ℕ → ScalarText → ScalarText → Type 0
KnowsScalars result n s t = KnowsValue result (sum_times n (scalar None s.kind s.text) (scalar None t.kind t.text))

-- the same of ints, by their texts (own)
abbrev pub KnowsInts : Result (Option Value) AllocError → ℕ → List ℕ → List ℕ → Type 0
KnowsInts result n u t = KnowsValue result (sum_times n (scalar None Int u) (scalar None Int t))

-- a value is a text after another one was added so many times (own)
abbrev pub GivesTexts : ℕ → List ℕ → List ℕ → Value → Type 0
GivesTexts n u t v = sum_times n (scalar None Text u) (scalar None Text t) ≡ gives (value_node v)

-- a number after another one was added so many times, if each sum is one of 64 bits (own)
abbrev pub number_times : ℕ → ℤ → ℤ → Option ℤ
number_times zero n m = Some m
number_times (suc k) n m = if is_i64 (m +ℤ n) then number_times k n (m +ℤ n) else None

-- the int of a number, or the refusal of one that has no 64 bits (own)
abbrev pub int_of : Option ℤ → Judgement Node
int_of (Some m) = gives (scalar None Int (signed_decimal m))
int_of None = refuses IntegerRange

-- a text so many times (own)
abbrev pub text_times : ℕ → List ℕ → List ℕ
text_times zero u = []
text_times (suc n) u = u ++ text_times n u

-- a text after a call is the one before it, with another one after it so many times, unless memory ran out (own)
abbrev pub AppendsTimes : {E : Type 0} → Result (Unit {0}) E → ℕ → List ℕ → String Global → String Global → Type 0
AppendsTimes result n u before after = IfOk result (λ _. string_bytes after ≡ string_bytes before ++ text_times n u)

-- entries stay the same if a value is put for a key (own)
abbrev pub HoldEntry : List (String Global × Value) → List ℕ → Value → Type 0
HoldEntry es k v = with_entry (Some k) (value_node v) (entries_of es) ≡ entries_of es

-- entries stay the same if others are put among them (own)
abbrev pub HoldEntries : List (String Global × Value) → List (String Global × Value) → Type 0
HoldEntries es others = with_entries (entries_of es) (entries_of others) ≡ entries_of es

-- a value stays the same if another one is added (own)
abbrev pub HoldsValue : Value → Value → Type 0
HoldsValue one other = sum (value_node one) (value_node other) ≡ gives (value_node one)
