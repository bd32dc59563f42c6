-- A replay, step by step.
use Rattle.std.proofs.Common.{◌≡◌, ℕ, ◌+◌, ◌<◌, ◌≤◌, List, [], ◌∷◌, ◌++◌, length, map, take, get_or, refl, sym, ap, subst, ◌∙◌}
use Rattle.std.specs.List.{fold}
use Rattle.std.proofs.lemmas.List.{take_more, take_all, map-append}
use Rattle.bench_types.specs.declared.reply.Reply.{Reply}
use Rattle.bench_types.specs.declared.step.Step.{Step}
use Rattle.bench_types.specs.declared.step.Step.TheVariants.{Tick}
use Rattle.bench_types.specs.Step.{core_of}
use Rattle.bench_model.specs.Control.{current, running}
use Rattle.bench_model.specs.Table.{Table}
use Rattle.bench_model.specs.Lists.{View}
use Rattle.bench_model.specs.Equal.{StandsFor}
use Rattle.bench_model.specs.Session.{step_of, state_after, run_results}
use Rattle.list_orders.proofs.Filters.{fold-append}
use Rattle.meeting_laws.proofs.Runs.{results_follow}
use Rattle.segment_laws.specs.Segments.{currents_after}

abbrev pub reply_in : Reply × List ℕ → Reply
reply_in outcome = outcome.0

-- the kernel stands for the state after the first steps, whose replies and current tasks are kept
pub record IsReplayed (table : Table) (steps : List Step) (place : ℕ) (view : View) (replies : List Reply) (currents : List ℕ) : Type 0 where
  pub stands : StandsFor view (state_after table (take place steps))
  pub replied : replies ≡ map reply_in (run_results table (take place steps))
  pub left : currents ≡ currents_after table (take place steps)

-- what a kernel shows runs in the table that it stands for
pub runs : (view : View) (table : Table) → StandsFor view table → running view.control ≡ running table.control
runs view table stands = sym (ap (λ (v : View). running v.control) stands.shows)

pub cores_stand : (view : View) (table : Table) → StandsFor view table → length view.control.cores ≡ view.settings.cores
cores_stand view table stands = sym (ap (λ (v : View). length v.control.cores) stands.shows) ∙ stands.sound.consistent.sized.cores ∙ ap
    (λ (v : View). v.settings.cores) stands.shows

pub state_after_more : (table : Table) (steps : List Step) (place : ℕ) → place < length steps → state_after table (take (place + 1) steps) ≡
    (step_of (get_or steps place Tick) (state_after table (take place steps))).1
state_after_more table steps place early =
    let go = λ (table : Table) (step : Step). (step_of step table).1 in
    ap (fold go table) (take_more steps place Tick early) ∙ fold-append go table (take place steps) (get_or steps place Tick ∷ [])

-- the trace of one step more
trace_more : (table : Table) (steps : List Step) (place : ℕ) → place < length steps
    → run_results table (take (place + 1) steps) ≡ run_results table (take place steps) ++ run_results (state_after table (take place steps))
    (get_or steps place Tick ∷ [])
trace_more table steps place early = ap (run_results table) (take_more steps place Tick early) ∙ results_follow table (take place steps)
    (get_or steps place Tick ∷ [])

-- what steps leave their cores with, and what the steps after them do
currents_follow : (steps more : List Step) (table : Table) → currents_after table (steps ++ more) ≡ currents_after table steps ++ currents_after
    (state_after table steps) more
currents_follow [] more table = refl
currents_follow (step ∷ steps) more table = let next = (step_of step table).1 in ap (λ tasks. current next.control (core_of step) ∷ tasks)
    (currents_follow steps more next)

currents_more : (table : Table) (steps : List Step) (place : ℕ) → place < length steps
    → currents_after table (take (place + 1) steps) ≡ currents_after table (take place steps) ++ currents_after (state_after table (take place steps))
    (get_or steps place Tick ∷ [])
currents_more table steps place early = ap (currents_after table) (take_more steps place Tick early) ∙ currents_follow (take place steps)
    (get_or steps place Tick ∷ []) table

pub replayed_starts : (table : Table) (steps : List Step) (view : View) (replies : List Reply) (currents : List ℕ) → StandsFor view table → replies ≡ [] →
    currents ≡ [] → IsReplayed table steps 0 view replies currents
replayed_starts table steps view replies currents stands none no_currents = record { stands = stands; replied = none; left = no_currents }

pub replayed_goes : (table : Table) (steps : List Step) (place : ℕ) (view next : View) (replies more_replies : List Reply) (currents more_currents : List ℕ)
    (reply : Reply) (task : ℕ) → place < length steps
    → reply ≡ (step_of (get_or steps place Tick) (state_after table (take place steps))).0 → StandsFor next
    (step_of (get_or steps place Tick) (state_after table (take place steps))).1
    → more_replies ≡ replies ++ reply ∷ [] → task ≡ current next.control (core_of (get_or steps place Tick)) → more_currents ≡ currents ++ task ∷ []
    → IsReplayed table steps place view replies currents → IsReplayed table steps (place + 1) next more_replies more_currents
replayed_goes table steps place view next replies more_replies currents more_currents reply task early replied stands pushed runs_there left so_far =
    let before = state_after table (take place steps) in
    let step = get_or steps place Tick in
    let done = run_results table (take place steps) in
    let last = run_results before (step ∷ []) in
    let seen : task ≡ current (step_of step before).1.control (core_of step) = runs_there ∙ sym
    (ap (λ (v : View). current v.control (core_of step)) stands.shows) in
    record {
      stands = subst (λ t. StandsFor next t) (sym (state_after_more table steps place early)) stands;
      replied = pushed ∙ ap (λ r. replies ++ r ∷ []) replied ∙ ap (λ rs. rs ++ map reply_in last) so_far.replied ∙ sym (map-append reply_in done last) ∙ ap
          (map reply_in) (sym (trace_more table steps place early));
      left = left ∙ ap (λ t. currents ++ t ∷ []) seen ∙ ap (λ ts. ts ++ currents_after before (step ∷ [])) so_far.left ∙ sym
          (currents_more table steps place early);
    }

pub all_replied : (table : Table) (steps : List Step) (place : ℕ) (view : View) (replies : List Reply) (currents : List ℕ) → length steps ≤ place → IsReplayed
    table steps place view replies currents → replies ≡ map reply_in (run_results table steps)
all_replied table steps place view replies currents all so_far = so_far.replied ∙ ap (λ (ss : List Step). map reply_in (run_results table ss))
    (take_all place steps all)

pub all_left : (table : Table) (steps : List Step) (place : ℕ) (view : View) (replies : List Reply) (currents : List ℕ) → length steps ≤ place → IsReplayed
    table steps place view replies currents → currents ≡ currents_after table steps
all_left table steps place view replies currents all so_far = so_far.left ∙ ap (λ (ss : List Step). currents_after table ss) (take_all place steps all)

pub all_stand : (table : Table) (steps : List Step) (place : ℕ) (view : View) (replies : List Reply) (currents : List ℕ) → length steps ≤ place → IsReplayed
    table steps place view replies currents → StandsFor view (state_after table steps)
all_stand table steps place view replies currents all so_far = subst (λ (ss : List Step). StandsFor view (state_after table ss)) (take_all place steps all)
    so_far.stands
