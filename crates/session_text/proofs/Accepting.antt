-- Tasks are taken over one after another, up to the first whose name is none.
use Rattle.std.proofs.Common.{◌≡◌, ◌∙◌, ℕ, Bool, true, false, cond, List, Option, Some, None, Result, Ok, Err, ap, refl, subst, sym}
use Rattle.std.specs.Prelude.{MatchResult}
use Rattle.serde_json.specs.Data.{Data}
use Rattle.bench_types.specs.declared.fault.Fault.{Fault}
use Rattle.bench_types.specs.declared.fault.Fault.TheVariants.{BadHeader}
use Rattle.bench_types.specs.declared.flaw.HeaderFlaw.{HeaderFlaw}
use Rattle.bench_types.specs.declared.header.Header.{Header}
use Rattle.bench_types.specs.declared.header.TaskArgs.{TaskArgs}
use Rattle.bench_types.specs.declared.step.Step.{Step}
use Rattle.session_text.specs.declared.fault.ReadFault.{ReadFault}
use Rattle.session_text.specs.declared.fault.TextFault.{TextFault}
use Rattle.session_text.specs.declared.fault.ReadFault.TheVariants as stop
use Rattle.session_text.specs.ReadingRules.{Ends, StopsAt}
use Rattle.session_text.specs.Session.{session_accepted, steps_accepted}
use Rattle.bench_types.specs.Name.{is_name}

abbrev pub name_made : List ℕ → Result (List ℕ) Fault
name_made name = Ok name

abbrev pub task_made : List ℕ → ℕ → ℕ → Option TaskArgs
task_made name priority mask = Some (record { name = name; priority = priority; mask = mask })

-- a name that was made is the text
pub args_of : (test : Bool) (text name : List ℕ) (priority mask : ℕ) → cond test (name_made text) (Err BadHeader) ≡ Ok name → task_made name priority mask ≡
    cond test (task_made text priority mask) None
args_of true text name priority mask e = let same : text ≡ name = cc in rw same refl
args_of false text name priority mask e = absurd cc

-- a task whose name is one
abbrev pub named : TaskArgs → Option TaskArgs
named task = cond (is_name task.name) (Some task) None

taken : (test : Bool) (shape task : TaskArgs) → cond test (Some shape) None ≡ Some task → (test ≡ true) × (shape ≡ task)
taken true shape task e = (refl, cc)
taken false shape task e = absurd cc

left : (test : Bool) (shape : TaskArgs) → cond test (Some shape) None ≡ None → test ≡ false
left true shape e = absurd cc
left false shape e = refl

pub named_some : (shape task : TaskArgs) → named shape ≡ Some task → (is_name shape.name ≡ true) × (shape ≡ task)
named_some shape task e = taken (is_name shape.name) shape task e

pub named_none : (shape : TaskArgs) → named shape ≡ None → is_name shape.name ≡ false
named_none shape e = left (is_name shape.name) shape e

-- what is said of an error
pub of_refused : {A E : Type 0} (P : A → Type 0) (Q : E → Type 0) (r : Result A E) (e : E) → r ≡ Err e → MatchResult r P Q → Q e
of_refused P Q r e is known = subst (λ r. MatchResult r P Q) is known

-- a session is refused for its first step at fault
pub steps_end : (at : List ℕ) (d : Data) (read : Result Header HeaderFlaw) (header : Header) (steps : List Step) (end : ReadFault) → read ≡ Ok header
    → Ends end (steps_accepted header at d steps) → Ends end (session_accepted at d read steps)
unfolding session_accepted
steps_end at d (Err flaw) header steps end is ends = absurd (cc)
steps_end at d (Ok own) header steps stop.Memory is ends = tt
steps_end at d (Ok own) header steps (stop.Fault fault) is ends =
    let same : own ≡ header = cc in
    rw (same, ends) refl

-- a reading that gives this fault ends where it is stopped at
pub ends_at : {A : Type 0} {reading : Result A TextFault} {fault : TextFault} (end : ReadFault) → reading ≡ Err fault → StopsAt fault end → Ends end reading
ends_at stop.Memory is stops = tt
ends_at (stop.Fault first) is stops = is ∙ ap Err (sym stops)
