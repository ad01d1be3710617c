-- Lists of commands as runs of a history (own).
use Rattle.std.specs.Prelude.{◌≡◌, ◌≢◌, ◌⊎◌, ◌||◌, ◌&&◌, ◌+◌, ℕ, Bool, true, false, not, List, [], ◌∷◌, ◌++◌, map, flat_map, All}
use Rattle.std.{specs.Prelude.{if◌then◌else◌, IsTrue, MatchBool, MatchResult, Option, Some, None, Result, Ok, Err}, specs.FinMap.get}
use Rattle.yq_journal.specs.History.{History}
use Rattle.yq_commands.{specs.declared.answer.Answer.Answer, specs.declared.answer.Answer.TheVariants.{Done, NoMatch, Refused}}
use Rattle.yq_commands.{specs.CommandNames.{IsOn, IsNotNamed, file_of}, specs.CommandEffects.{OfEffect, expression_cause, output_by}}
use Rattle.yq_commands.{specs.FileEdits.HasEdited, specs.Expecting.{expects_change, works_as_expected}, specs.Help.AnswersHelp}
use Rattle.yq_commands.{specs.Prints.{prints, prints_change, report_of}, specs.CommandSteps.{cause_of, next_of}}
use Rattle.yq_args.specs.declared.command.Command.{Command}
use Rattle.yq_fault.{specs.declared.fault.Fault.Fault, specs.declared.fault.Fault.TheVariants.{OutFailed, OutOfMemory}}
use Rattle.yq_fault.specs.Faults.{is_failure, is_outer_fault, is_output}
use Rattle.yq_history.{specs.Causes.{Cause, IsFor}, specs.Effects.{Effect, Works}, specs.Output.{IsOutput, Showing}, specs.Pair.GoodIn}
use Rattle.yq_history.specs.Report.{Report}
use Rattle.yq_store.{specs.Count.count_plus_one, specs.FileMap.FileMap}

-- the command shares no name with the file and the journal; or it isn't on them, and prints and writes no name
abbrev pub IsUnrelated : List ℕ → List ℕ → Command → Type 0
IsUnrelated file journal c = (IsNotNamed file c × IsNotNamed journal c) ⊎ ((IsOn file journal c → ⊥) × (prints c ≡ true))

-- each command is on the pair, or apart from it
abbrev pub AllOnOrApart : List ℕ → List ℕ → List Command → Type 0
AllOnOrApart file journal cs = All (λ c. IsOn file journal c ⊎ IsUnrelated file journal c) cs

-- what a command gives: its answer, and the bytes that it printed
pub record Reply : Type 0 where
  pub answer : Answer
  pub printed : List ℕ

-- the answers of several
abbrev pub answers_in : List Reply → List Answer
answers_in rs = map (λ (r : Reply). r.answer) rs

-- the bytes that they printed, one after the other
abbrev pub printed_in : List Reply → List ℕ
printed_in rs = flat_map (λ (r : Reply). r.printed) rs

-- the answer to a command that was carried out
abbrev pub answer_by : Bool → Answer
answer_by true = Done
answer_by false = NoMatch

-- the answer to a command that shows this, by how it ended: it was carried out, or its output failed, or it was refused
abbrev pub IsAnswer : {T : Type 0} → Result T Fault → Answer → Report → Type 0
IsAnswer r a s = MatchResult r (λ _. (a ≡ answer_by s.is_match) ⊎ ((a ≡ Refused OutFailed) × (s.printed ≢ []))) (λ x. a ≡ Refused x)

-- a command was refused: it was carried out, but its output failed; or, where a call of the store failed or memory was refused, it was carried out or not;
-- or it was refused for its cause, and the history stays
abbrev pub CommandRefused : Command → Option History → Fault → Option History → Type 0
CommandRefused c h e k =
    MatchBool (is_output e) ((cause_of c h ≡ None) × (k ≡ next_of c h))
    (MatchBool (is_outer_fault e) ((k ≡ h) ⊎ (k ≡ next_of c h)) (IsFor (cause_of c h) e × (k ≡ h)))

-- a command was carried out: what it was asked for is there or not, and it printed these bytes
abbrev pub IsCarriedOut : Command → Option History → Bool → List ℕ → Option History → Type 0
IsCarriedOut c h is_match o k =
    (cause_of c h ≡ None) × (is_match ≡ (report_of c h).is_match) × IsOutput (file_of c) (report_of c h).output o × (k ≡ next_of c h)

-- from a history, a command gives this answer, prints these bytes, and goes on to another history: it is carried out, or it is refused and prints nothing
abbrev pub RunsCommand : Command → Option History → Answer → List ℕ → Option History → Type 0
RunsCommand c h Done o k = IsCarriedOut c h true o k
RunsCommand c h NoMatch o k = IsCarriedOut c h false o k
RunsCommand c h (Refused e) o k = (o ≡ []) × CommandRefused c h e k

-- a command on the pair steps its history, and one apart from it leaves it
abbrev pub Goes : List ℕ → List ℕ → Command → Option History → Reply → Option History → Type 0
Goes file journal c h r k = (IsOn file journal c × RunsCommand c h r.answer r.printed k) ⊎ (IsUnrelated file journal c × (k ≡ h))

-- one command after another
abbrev pub RunsAll : List ℕ → List ℕ → Option History → List Command → List Reply → Option History → Type 0
RunsAll file journal h [] [] k = k ≡ h
RunsAll file journal h (c ∷ cs) (r ∷ rs) k = (m : Option History) × Goes file journal c h r m × RunsAll file journal m cs rs k
RunsAll file journal h [] (r ∷ rs) k = ⊥
RunsAll file journal h (c ∷ cs) [] k = ⊥

-- ---- where nothing failed from outside

-- the reply that a cause calls for: what is to be shown of the file where there is none, and else a refusal that prints nothing
abbrev pub IsReply : List ℕ → Option Cause → Showing → Reply → Type 0
IsReply file None due r = (r.answer ≡ answer_by due.is_match) × IsOutput file due.output r.printed
IsReply file (Some x) due r = ((e : Fault) × (r.answer ≡ Refused e) × IsFor (Some x) e) × (r.printed ≡ [])

-- a command steps a history exactly: it has the reply that its cause calls for, and the history goes on as the command says
abbrev pub StepsExactly : Command → Option History → Reply → Option History → Type 0
StepsExactly c h r k = IsReply (file_of c) (cause_of c h) (report_of c h) r × (k ≡ next_of c h)

-- a command on the pair steps its history so, and one apart from it leaves it
abbrev pub GoesExactly : List ℕ → List ℕ → Command → Option History → Reply → Option History → Type 0
GoesExactly file journal c h r k = (IsOn file journal c × StepsExactly c h r k) ⊎ (IsUnrelated file journal c × (k ≡ h))

-- one command after another
abbrev pub RunExactly : List ℕ → List ℕ → Option History → List Command → List Reply → Option History → Type 0
RunExactly file journal h [] [] k = k ≡ h
RunExactly file journal h (c ∷ cs) (r ∷ rs) k = (m : Option History) × GoesExactly file journal c h r m × RunExactly file journal m cs rs k
RunExactly file journal h [] (r ∷ rs) k = ⊥
RunExactly file journal h (c ∷ cs) [] k = ⊥

-- ---- what the store's names hold between two commands

-- the answer is a refusal in which no call of the store failed and no memory was refused
abbrev pub is_inner_refusal : Answer → Bool
is_inner_refusal (Refused e) = not (is_outer_fault e)
is_inner_refusal _ = false

-- an effect came about
abbrev pub CameAbout : Effect → List ℕ → List ℕ → FileMap → FileMap → Type 0
CameAbout x file journal old new = Works x file journal old new {T = Unit {0}} (Ok tt)

-- it is as expected or not, came about, and printed its bytes
abbrev pub PrintsEffect : Command → Effect → List ℕ → List ℕ → FileMap → FileMap → Bool → List ℕ → Type 0
PrintsEffect c x file journal old new is_expected o =
    (works_as_expected (expects_change c) x ≡ is_expected) × CameAbout x file journal old new
    × IsOutput file (output_by (prints_change c) (get old file) x) o

-- what a command's answer and the bytes that it printed say of an effect: it came about and printed its bytes, and the answer says whether it is as
-- expected; or it was refused and printed nothing; where the output failed, it came about
abbrev pub ReportsEffect : Command → Effect → List ℕ → List ℕ → FileMap → FileMap → Answer → List ℕ → Type 0
ReportsEffect c x file journal old new Done o = PrintsEffect c x file journal old new true o
ReportsEffect c x file journal old new NoMatch o = PrintsEffect c x file journal old new false o
ReportsEffect c x file journal old new (Refused e) o =
    MatchBool (is_output e) (CameAbout x file journal old new) (Works x file journal old new {T = Unit {0}} (Err e)) × (o ≡ [])

-- the reply, and what the file and the journal then hold, are those of the command's effect on what they held, be they good for a history or not
abbrev pub HasEffect : Command → Reply → FileMap → FileMap → Type 0
HasEffect c r old new =
    (file journal : List ℕ) → file ≢ journal → IsOn file journal c →
    OfEffect c (get old file) (get old journal) (λ x. ReportsEffect c x file journal old new r.answer r.printed)

-- from every history for which a pair is good it goes on to one for which the pair is good then
abbrev pub StepsHistory : Command → Reply → FileMap → FileMap → Type 0
StepsHistory c r old new =
    (file journal : List ℕ) → file ≢ journal → IsOn file journal c ⊎ IsUnrelated file journal c → (h : Option History) → GoodIn old file journal h →
    (k : Option History) × Goes file journal c h r k × GoodIn new file journal k

-- a command is refused for this cause, or for lack of memory
abbrev pub ReportsUnparsed : Cause → Answer → Type 0
ReportsUnparsed x (Refused e) = e ≢ OutOfMemory → IsFor (Some x) e
ReportsUnparsed x _ = ⊥

-- the command was carried out
abbrev pub is_accepted : Answer → Bool
is_accepted (Refused e) = false
is_accepted _ = true

-- the command writes no name, or its answer is a refusal that left every name: not one for its output where it writes what it prints
abbrev pub leaves_names : Command → Answer → Bool
leaves_names c (Refused e) = prints c || (is_inner_refusal (Refused e) && not (prints_change c && is_output e))
leaves_names c a = prints c

-- What a command did, by its reply and by what the store's names held before it (old) and hold after it (new).
pub record RunsTo (c : Command) (r : Reply) (old new : FileMap) : Type 0 where
  -- one that is refused so, or only prints, changes nothing
  pub all : leaves_names c r.answer ≡ true → new ≡ old
  -- none changes what the names hold that it doesn't name
  pub others : (q : List ℕ) → IsNotNamed q c → get new q ≡ get old q
  -- it has its effect on the bytes of its file and its journal, or is refused for its cause
  pub effect : HasEffect c r old new
  -- the file held the text at the cursor of its history, and holds the one at the cursor of the next
  pub steps : StepsHistory c r old new
  -- an edit that was accepted gave the defined text
  pub edited : is_accepted r.answer ≡ true → HasEdited c old new r.printed
  -- an expression that is no program is refused before all else
  pub unparsed : (x : Cause) → expression_cause c ≡ Some x → ReportsUnparsed x r.answer
  -- help was printed, or memory ran out, or the output failed
  pub helped : AnswersHelp c r.answer r.printed

-- one command after another
abbrev pub Keeps : FileMap → List Command → List Reply → FileMap → Type 0
Keeps old [] [] new = new ≡ old
Keeps old (c ∷ cs) (r ∷ rs) new = (m : FileMap) × RunsTo c r old m × Keeps m cs rs new
Keeps old [] (r ∷ rs) new = ⊥
Keeps old (c ∷ cs) [] new = ⊥

-- ---- answers

-- memory was refused
abbrev pub is_memory : Fault → Bool
is_memory OutOfMemory = true
is_memory _ = false

-- the answer reports a call of the store that failed
abbrev pub reports_failure : Answer → Bool
reports_failure (Refused e) = is_failure e
reports_failure _ = false

-- the answer says that the output failed
abbrev pub reports_output : Answer → Bool
reports_output (Refused e) = is_output e
reports_output _ = false

-- how many answers do
abbrev pub count_passing : (Answer → Bool) → List Answer → ℕ
count_passing passes [] = 0
count_passing passes (a ∷ as') = if passes a then count_passing passes as' + 1 else count_passing passes as'

-- how many report a call of the store that failed
abbrev pub failures_in : List Answer → ℕ
failures_in as' = count_passing reports_failure as'

-- how many say that the output failed
abbrev pub output_failures_in : List Answer → ℕ
output_failures_in as' = count_passing reports_output as'

-- the answer doesn't report lack of memory
abbrev pub has_memory : Answer → Bool
has_memory (Refused e) = not (is_memory e)
has_memory _ = true

-- ---- what an output takes of a command, by how that ended

-- one that can be observed takes the bytes of a command that was carried out, if the answer doesn't say that it failed, and none of a refused one
abbrev pub PutsReport : {W : Type 0} → Bool → (W → List ℕ) → W → W → {T : Type 0} → Result T Fault → Answer → Report → Type 0
PutsReport observable taken old new r a s =
    IsTrue observable → MatchResult r (λ _. reports_output a ≡ false → taken new ≡ taken old ++ s.printed) (λ _. taken new ≡ taken old)

-- a failure is counted, where the answer to a command that was carried out says so
abbrev pub CountsOutput : {W : Type 0} → (W → ℕ) → W → W → {T : Type 0} → Result T Fault → Answer → Type 0
CountsOutput failures old new r a =
    MatchResult r (λ _. failures new ≡ (if reports_output a then count_plus_one (failures old) else failures old)) (λ _. failures new ≡ failures old)
