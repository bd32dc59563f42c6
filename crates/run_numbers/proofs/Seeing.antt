-- A condition and an event, as they are seen of a kernel and as they stand in a table.
use Rattle.std.proofs.Common.{◌≡◌, ℕ, ◌<◌, Bool, true, false, ◌&&◌, ◌==◌, not, nat_lt, Option, Some, None, refl, sym, ap, ◌∙◌, arith, inl}
use Rattle.std.proofs.Common.{inr}
use Rattle.std.specs.Prelude.{option_map, if◌then◌else◌}
use Rattle.std.specs.Option.{option_map_or}
use Rattle.std.proofs.lemmas.Bool.{cases_eq}
use Rattle.std.proofs.lemmas.Bool.Decides.{Decides-eqb, nat_tests}
use Rattle.bench_types.specs.declared.note.Note.{Note}
use Rattle.bench_types.specs.declared.reply.Reply.{Reply}
use Rattle.bench_types.specs.declared.step.Step.{Step}
use Rattle.bench_types.specs.declared.step.Step.TheVariants.{Tick, Switch, Interrupt, QueueInterrupt, ResumeInterrupt, Pass}
use Rattle.bench_types.specs.declared.step.Step.TheVariants as steps
use Rattle.bench_model.specs.Control.{Control, current, task_at}
use Rattle.bench_model.specs.Lists.{list_queues, view_of}
use Rattle.bench_model.specs.Sound.{IsConsistent}
use Rattle.bench_model.specs.Tally.{Moment}
use Rattle.bench_model.specs.Table.{Stamps, Table, stamp_queues}
use Rattle.order_laws.proofs.Looks.{suspended_seen}
use Rattle.order_laws.proofs.SeenMoves.{is_ready_seen}
use Rattle.smp_kernel.specs.Raised.{raised_by, KeepsOthers}
use Rattle.run_numbers.specs.declared.subject.Condition.{Condition}
use Rattle.run_numbers.specs.declared.subject.Condition.TheVariants.{Running, RunningOn, WantsCore, Inverted, Blocked, HeldUp, Suspended, InCall, Raised, PreemptionOff, Busy, Idle, Due, Holding, Held, Empty, Full}
use Rattle.run_numbers.specs.declared.subject.Event.{Event}
use Rattle.run_numbers.specs.declared.subject.Event.TheVariants.{SwitchedIn, Inherits, TimesOut, Refused, Late, Called, SwitchedOn, PutOff, Loses, Interrupted, NotTaken, Awaited, QueueAwaited}
use Rattle.run_numbers.specs.AfterStep.{happens_after, inherited, is_it, overrun_by, risen, known_before}
use Rattle.run_numbers.specs.Conditions.{holds}
use Rattle.run_numbers.specs.Events.{happens, inherits, is_refused, is_unread, note_of, overruns, sets_value}
use Rattle.run_numbers.specs.Readings.{IsConditionOf, IsEventOf}

pub ready_seen : (table : Table) (task : ℕ) → IsConsistent table → task < table.settings.tasks → list_queues.is_ready task (view_of table).orders ≡
    stamp_queues.is_ready task table.orders
ready_seen table task sound low = is_ready_seen table.control table.orders task sound.stamped.given (omega (arith, low, sound.sized.rows))

-- a condition holds in the table just where it is seen to hold
pub holds_seen : (table : Table) (condition : Condition) → IsConsistent table → IsConditionOf table.settings condition → holds list_queues condition
    (view_of table) ≡ holds stamp_queues condition table
holds_seen table (Running task) sound low = refl
holds_seen table (RunningOn task core) sound low = refl
holds_seen table (WantsCore task) sound low = rw (ready_seen table task sound low) refl
holds_seen table (Inverted task) sound low = rw (ready_seen table task sound low) refl
holds_seen table (Blocked task cause) sound low = rw (ready_seen table task sound low) (rw (suspended_seen table task sound low) refl)
holds_seen table (HeldUp task) sound low = rw (ready_seen table task sound low) (rw (suspended_seen table task sound low) refl)
holds_seen table (Suspended task) sound low = suspended_seen table task sound low
holds_seen table (InCall task cause) sound low = refl
holds_seen table (Raised task) sound low = refl
holds_seen table (PreemptionOff task) sound low = refl
holds_seen table (Holding core) sound low = refl
holds_seen table (Busy core) sound low = refl
holds_seen table (Idle core) sound low = refl
holds_seen table (Due core) sound low = refl
holds_seen table (Held mutex) sound low = refl
holds_seen table (Empty queue) sound low = refl
holds_seen table (Full queue) sound low = refl

not_less : (n : ℕ) (b : Bool) → (nat_lt n n && b) ≡ false
not_less n b = at (nat_lt n n) (grind (arith, nat_tests))
  where
    at : (c : Bool) → c ≡ false → (c && b) ≡ false
    at true is = absurd (cc is)
    at false is = refl

-- no task inherits but the one that the step may raise
inherited_seen : (raised : Option ℕ) (before after : Control) (task : ℕ) → KeepsOthers raised before after →
    inherited (option_map (λ task. (task, (task_at before task).in_use)) raised) after task ≡ inherits task before after
inherited_seen None before after task kept = sym (rw (kept task (λ same. absurd (cc same)))
    (not_less (task_at before task).in_use (nat_lt (task_at after task).base (task_at before task).in_use)))
inherited_seen (Some other) before after task kept = elim (cases_eq other task) [
  | inl same ↦ at (other == task) (grind (arith, nat_tests, same)) (ap (λ t. risen after task (task_at before t).in_use) same)
  | inr away ↦ off (other == task) (grind (arith, nat_tests, away)) (kept task (λ is. away (some_is is)))
]
  where
    some_is : Some other ≡ Some task → other ≡ task
    some_is is = cc is

    at : (b : Bool) → b ≡ true → risen after task (task_at before other).in_use ≡ inherits task before after →
        (b && risen after task (task_at before other).in_use) ≡ inherits task before after
    at true is same = same
    at false is same = absurd (cc is)

    off : (b : Bool) → b ≡ false → (task_at after task).in_use ≡ (task_at before task).in_use → (b && risen after task (task_at before other).in_use) ≡ inherits
        task before after
    off true is same = absurd (cc is)
    off false is same = sym (rw same (not_less (task_at before task).in_use (nat_lt (task_at after task).base (task_at before task).in_use)))

-- one that is taken from its core
put_off_at : (table next : Table) (task core : ℕ) → IsConsistent table → task < table.settings.tasks → (b : Bool) → (current table.control core == task) ≡ b
    → ((b && not (current next.control core == task)) && list_queues.is_ready (current table.control core) (view_of table).orders)
    ≡ ((b && not (current next.control core == task)) && stamp_queues.is_ready task table.orders)
put_off_at table next task core sound low true is =
    let same : current table.control core ≡ task = (Decides-eqb (current table.control core) task).0 is in
    ap (λ t. not (current next.control core == task) && list_queues.is_ready t (view_of table).orders) same
    ∙ ap (λ ready. not (current next.control core == task) && ready) (ready_seen table task sound low)
put_off_at table next task core sound low false is = refl

-- one that loses a value
overrun_seen : (note : Option Note) (table : Table) (task : ℕ) → is_it (overrun_by note (view_of table)) task
    ≡ option_map_or (λ note. overruns task note table) note false
overrun_seen None table task = refl
overrun_seen (Some note) table task = at (sets_value note.action && is_unread note table)
  where
    at : (b : Bool) → is_it (if b then Some note.task else None) task ≡ (b && note.task == task)
    at true = refl
    at false = refl

-- a step is an event just where it is told to be
pub happens_seen : (event : Event) (table next : Table) (step : Step) (reply : Reply) → IsConsistent table → IsEventOf table.settings event →
    KeepsOthers (raised_by (view_of table) step) table.control next.control
    →
    let moment : Moment Stamps = record { before = table; step = step; reply = reply; after = next } in
    happens_after event (known_before (view_of table) step) step reply next.control ≡ happens stamp_queues event moment
happens_seen (SwitchedIn task) table next (Switch core) reply sound low kept = refl
happens_seen (SwitchedIn task) table next Tick reply sound low kept = refl
happens_seen (SwitchedIn task) table next (steps.Call core caller call) reply sound low kept = refl
happens_seen (SwitchedIn task) table next (Interrupt core note) reply sound low kept = refl
happens_seen (SwitchedIn task) table next (QueueInterrupt core queue direction) reply sound low kept = refl
happens_seen (SwitchedIn task) table next (ResumeInterrupt core other) reply sound low kept = refl
happens_seen (SwitchedIn task) table next (Pass units) reply sound low kept = refl
happens_seen (Inherits task) table next step reply sound low kept = inherited_seen (raised_by (view_of table) step) table.control next.control task kept
happens_seen (TimesOut task) table next step reply sound low kept = refl
happens_seen (Refused task why) table next step reply sound low kept = refl
happens_seen (Late task) table next step reply sound low kept = refl
happens_seen (Called task cause) table next step reply sound low kept = refl
happens_seen (SwitchedOn core) table next (Switch switched) reply sound low kept = switched_there (switched == core) refl
  where
    switched_there : (b : Bool) → (switched == core) ≡ b
        → (b && not (current next.control switched == current table.control switched))
        ≡ (b && not (current next.control core == current table.control core))
    switched_there true is =
        let same : switched ≡ core = (Decides-eqb switched core).0 is in
        ap (λ c. not (current next.control c == current table.control c)) same
    switched_there false is = refl
happens_seen (SwitchedOn core) table next Tick reply sound low kept = refl
happens_seen (SwitchedOn core) table next (steps.Call other caller call) reply sound low kept = refl
happens_seen (SwitchedOn core) table next (Interrupt other note) reply sound low kept = refl
happens_seen (SwitchedOn core) table next (QueueInterrupt other queue direction) reply sound low kept = refl
happens_seen (SwitchedOn core) table next (ResumeInterrupt other task) reply sound low kept = refl
happens_seen (SwitchedOn core) table next (Pass units) reply sound low kept = refl
happens_seen (PutOff task) table next (Switch core) reply sound low kept =
    put_off_at table next task core sound low (current table.control core == task) refl
happens_seen (PutOff task) table next Tick reply sound low kept = refl
happens_seen (PutOff task) table next (steps.Call core caller call) reply sound low kept = refl
happens_seen (PutOff task) table next (Interrupt core note) reply sound low kept = refl
happens_seen (PutOff task) table next (QueueInterrupt core queue direction) reply sound low kept = refl
happens_seen (PutOff task) table next (ResumeInterrupt core other) reply sound low kept = refl
happens_seen (PutOff task) table next (Pass units) reply sound low kept = refl
happens_seen (Loses task) table next step reply sound low kept = ap (λ it. it && not (is_refused reply)) (overrun_seen (note_of step) table task)
happens_seen (NotTaken mutex) table next step reply sound low kept = refl
happens_seen (Interrupted core) table next step reply sound low kept = refl
happens_seen (Awaited mutex) table next step reply sound low kept = refl
happens_seen (QueueAwaited queue) table next step reply sound low kept = refl
