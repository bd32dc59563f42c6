-- The calls of a list with their works, one step after another.
use Rattle.std.proofs.Common.{◌≡◌, ℕ, zero, suc, ◌+◌, ◌<◌, ◌≤◌, Bool, true, false, cond, eqb, List, [], ◌∷◌, ◌++◌, length, drop, get_or, fold, map, replicate, Option, Some, None, option_map, refl, sym, ap, ◌∙◌, inl, inr, arith, add-one, append_assoc}
use Rattle.std.proofs.Math.Path.{fun_ext}
use Rattle.std.specs.Prelude.{slice_set}
use Rattle.std.specs.List.{range_with_len}
use Rattle.std.specs.Option.{option_to_list}
use Rattle.std.proofs.Math.Seq.{drop-cons}
use Rattle.std.proofs.lemmas.Bool.{cases_eq}
use Rattle.std.proofs.lemmas.Bool.Decides.{nat_tests}
use Rattle.std.proofs.lemmas.Simd.{map-map}
use Rattle.std.proofs.lemmas.List.{drop_all, get_or-drop, length-drop, get_or-set_same, get_or-set_other}
use Rattle.bench_types.specs.declared.step.Step.{Step}
use Rattle.bench_types.specs.declared.step.Step.TheVariants.{Tick, Switch, Interrupt, QueueInterrupt, ResumeInterrupt, Pass}
use Rattle.bench_types.specs.declared.step.Step.TheVariants as steps
use Rattle.kept_edits.specs.declared.edit.WorkChange.{WorkChange}
use Rattle.list_orders.specs.Search.{numbers}
use Rattle.settled_runs.specs.declared.waiting_call.WaitingCall.{WaitingCall}
use Rattle.settled_runs.specs.Settled.{is_finish}
use Rattle.kept_runs.specs.declared.clocks.Clock.{Clock}
use Rattle.kept_runs.specs.declared.works.Unmade.{Unmade}
use Rattle.kept_runs.specs.Clocks.{Clocks, elapsed, later_clock, zero_clock}
use Rattle.kept_runs.specs.Items.{Item}
use Rattle.kept_runs.specs.Works.{Placed, changed_work, placed_call, placed_item, with_clock, works_from}
use Rattle.keeping.specs.Works.{clock_at}
use Rattle.kept_works.specs.Places.{waiting_call}
use Rattle.kept_works.specs.Works.{ends_from, placed_by, AreCallsOf, AreEnds}

abbrev pub placed_with : Clock → List WorkChange → WaitingCall → Placed
placed_with clock changes waits = record { task = waits.task; call = waits.call; clock = clock; changes = changes }

pub placed_of : (clock : Clock) (item : Item) → placed_item (λ anchor task. clock) item ≡ option_map (placed_with clock item.changes) (waiting_call item.step)
placed_of clock item = by item.step
  where
    by : (step : Step) → placed_call (λ anchor task. clock) item.anchor item.changes step ≡ option_map (placed_with clock item.changes) (waiting_call step)
    by Tick = refl
    by (Switch core) = refl
    by (steps.Call core task call) = at (is_finish call)
      where
        at : (b : Bool) → cond b None (Some (record { task = task; call = call; clock = clock; changes = item.changes }))
            ≡ option_map (placed_with clock item.changes) (cond b None (Some (record { task = task; call = call })))
        at true = refl
        at false = refl
    by (Interrupt core note) = refl
    by (QueueInterrupt core queue direction) = refl
    by (ResumeInterrupt core task) = refl
    by (Pass units) = refl

with_clock_set : (last : List Clock) (task : ℕ) (clock : Clock) → task < length last → with_clock (clock_at last) task clock ≡ clock_at (slice_set last task clock)
with_clock_set last task clock within = fun_ext (λ other. elim (cases_eq other task) [
  | inl own ↦
      let yes : eqb other task ≡ true = grind (arith, nat_tests, own) in
      ap (λ (b : Bool). cond b clock (clock_at last other)) yes
      ∙ sym (ap (clock_at (slice_set last task clock)) own ∙ get_or-set_same last task clock zero_clock within)
  | inr away ↦
      let no : eqb other task ≡ false = grind (arith, nat_tests, away) in
      ap (λ (b : Bool). cond b clock (clock_at last other)) no ∙ sym (get_or-set_other last task other clock zero_clock away)
])

placed_none : (clocks : List Clock) → placed_by clocks [] ≡ []
placed_none [] = refl
placed_none (clock ∷ clocks) = refl

-- no step is left
pub placed_end : (items : List Item) (clocks : List Clock) (index : ℕ) → length items ≤ index → placed_by (drop index clocks) (drop index items) ≡ []
placed_end items clocks index past = ap (placed_by (drop index clocks)) (drop_all index items past) ∙ placed_none (drop index clocks)

module _ (items : List Item) (clocks : List Clock) (index : ℕ) (d : Item) (e : Clock) (within : index < length items) (many : length items ≤ length clocks) where
  next_placed : (waits : Option WaitingCall) → waiting_call (get_or items index d).step ≡ waits
      → placed_by (drop index clocks) (drop index items)
      ≡ option_to_list (option_map (placed_with (get_or clocks index e) (get_or items index d).changes) waits) ++ placed_by (drop (suc index) clocks) (drop (suc index) items)
  next_placed waits is =
      let few : index < length clocks = omega (arith, within, many) in
      (λ i. placed_by (drop-cons clocks index e few i) (drop-cons items index d within i))
      ∙ ap (λ (placed : Option Placed). option_to_list placed ++ placed_by (drop (suc index) clocks) (drop (suc index) items))
      (placed_of (get_or clocks index e) (get_or items index d)
      ∙ ap (option_map (placed_with (get_or clocks index e) (get_or items index d).changes)) is)

  pub no_call : waiting_call (get_or items index d).step ≡ None → placed_by (drop index clocks) (drop index items) ≡ placed_by (drop (index + 1) clocks) (drop (index + 1) items)
  no_call is = rw add-one (next_placed None is)

  pub call_on : (waits : WaitingCall) (unmade later : List Unmade) (last now : List Clock) (one : Unmade) (ends : Clocks) (tasks : List ℕ)
      → waiting_call (get_or items index d).step ≡ Some waits → waits.task < length last
      → later ≡ unmade ++ one ∷ []
      → one ≡ record {
        task = waits.task;
        call = Some waits.call;
        work = fold changed_work (elapsed (clock_at last waits.task) (get_or clocks index e)) (get_or items index d).changes;
      }
      → now ≡ slice_set last waits.task (later_clock (clock_at last waits.task) (get_or clocks index e))
      → unmade ++ works_from ends (clock_at last) tasks (placed_by (drop index clocks) (drop index items))
      ≡ later ++ works_from ends (clock_at now) tasks (placed_by (drop (index + 1) clocks) (drop (index + 1) items))
  call_on waits unmade later last now one ends tasks is within is_later is_one is_now =
      rw add-one
      (ap (λ (placed : List Placed). unmade ++ works_from ends (clock_at last) tasks placed) (next_placed (Some waits) is)
      ∙ (λ i. unmade ++ sym is_one i ∷ works_from ends
      (with_clock_set last waits.task (later_clock (clock_at last waits.task) (get_or clocks index e)) within i) tasks
      (placed_by (drop (suc index) clocks) (drop (suc index) items)))
      ∙ sym (append_assoc unmade (one ∷ []) (works_from ends (clock_at (slice_set last waits.task (later_clock (clock_at last waits.task) (get_or clocks index e)))) tasks
      (placed_by (drop (suc index) clocks) (drop (suc index) items))))
      ∙ (λ i. sym is_later i ++ works_from ends (clock_at (sym is_now i)) tasks (placed_by (drop (suc index) clocks) (drop (suc index) items))))

-- ---- the ends of tasks

module _ {Y : Type 0} where
  same_range : (f g : ℕ → Y) (first n : ℕ) → ((k : ℕ) → k < n → f (first + k) ≡ g (first + k)) → map f (range_with_len first n) ≡ map g (range_with_len first n)
  same_range f g first zero same = refl
  same_range f g first (suc n) same =
      let here : first + 0 ≡ first = omega arith in
      let head : f first ≡ g first = sym (ap f here) ∙ same 0 (omega arith) ∙ ap g here in
      let tail : map f (range_with_len (first + 1) n) ≡ map g (range_with_len (first + 1) n) =
      same_range f g (first + 1) n
      (λ k within.
      let next : first + suc k ≡ first + 1 + k = omega arith in
      sym (ap f next) ∙ same (suc k) (omega arith) ∙ ap g next) in
      λ i. head i ∷ tail i

none_worked : (tasks : ℕ) (last : List Clock) → last ≡ replicate tasks zero_clock → clock_at last ≡ (λ task. zero_clock)
none_worked tasks last is = fun_ext (λ task. ap (λ (last : List Clock). clock_at last task) is ∙ any tasks task)
  where
    any : (tasks task : ℕ) → clock_at (replicate tasks zero_clock) task ≡ zero_clock
    any zero task = refl
    any (suc tasks) zero = refl
    any (suc tasks) (suc task) = any tasks task

abbrev end_of : ℕ → Clock → Unmade
end_of task work = record { task = task; call = None; work = work }

-- the calls and the ends that were put in are those that are made of the list
pub calls_and_ends : (cores users : ℕ) (items : List Item) (clocks first last : List Clock) (before unmade all : List Unmade) (tasks : ℕ) (ends : Clocks)
    → length clocks ≡ length items + users → first ≡ replicate tasks zero_clock
    → before ≡ [] → AreCallsOf items clocks first before last unmade → all ≡ unmade ++ ends_from cores (drop (length items) clocks) last
    → AreEnds cores (length items) clocks ends
    → all ≡ works_from ends (λ task. zero_clock) (map (λ user. cores + user) (numbers users)) (placed_by clocks items)
calls_and_ends cores users items clocks first last before unmade all tasks ends many none empty calls is are =
    is ∙ ap (λ (more : List Unmade). unmade ++ more) same
    ∙ sym (calls ends (map (λ user. cores + user) (numbers users)))
    ∙ ap
    (λ (before : List Unmade). before ++ works_from ends (clock_at first) (map (λ user. cores + user) (numbers users)) (placed_by clocks items)) empty
    ∙ ap (λ (worked : Clocks). works_from ends worked (map (λ user. cores + user) (numbers users)) (placed_by clocks items)) (none_worked tasks first none)
  where
    count : length (drop (length items) clocks) ≡ users
    count = omega (arith, length-drop (length items) clocks, many)

    made : ℕ → Unmade
    made user = end_of (cores + user) (elapsed (clock_at last (cores + user)) (clock_at (drop (length items) clocks) user))

    was : ℕ → Unmade
    was user = end_of (cores + user) (elapsed (clock_at last (cores + user)) (ends (cores + user)))

    each : (user : ℕ) → user < users → made user ≡ was user
    each user within =
        ap (λ (clock : Clock). end_of (cores + user) (elapsed (clock_at last (cores + user)) clock))
        (get_or-drop (length items) clocks user zero_clock ∙ sym (are user (omega (arith, many, within))))

    from_zero : (user : ℕ) → user < users → made (0 + user) ≡ was (0 + user)
    from_zero user within = let here : 0 + user ≡ user = omega arith in ap made here ∙ each user within ∙ sym (ap was here)

    same : ends_from cores (drop (length items) clocks) last ≡ works_from ends (clock_at last) (map (λ user. cores + user) (numbers users)) []
    same =
        ap (λ n. map made (numbers n)) count
        ∙ same_range made was 0 users from_zero
        ∙ sym (map-map (λ task. end_of task (elapsed (clock_at last task) (ends task))) (λ user. cores + user) (numbers users))
