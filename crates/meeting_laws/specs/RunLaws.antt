-- The laws of lists of steps from equal states. Each is a clause of a public function.
use Rattle.std.specs.Prelude.{◌≡◌, ◌⊎◌, ◌↔◌, ℕ, ◌+◌, ◌≤◌, List, [], ◌∷◌, ◌++◌, fold, take, drop, All, true, false}
use Rattle.bench_types.specs.declared.kernel_data.Settings.{Settings}
use Rattle.bench_types.specs.declared.header.Header.{Header}
use Rattle.bench_types.specs.declared.step.Step.{Step}
use Rattle.bench_types.specs.Session.{Session, IsSession}
use Rattle.bench_types.specs.Step.{IsCheckedStep}
use Rattle.bench_model.specs.Equal.{Same, StandsFor}
use Rattle.bench_model.specs.Lists.{View, view_of}
use Rattle.bench_model.specs.Meeting.{last_place}
use Rattle.bench_model.specs.Session.{state_after, run_results, state_at, reply_at, running_at}
use Rattle.bench_model.specs.Shifted.{shift_between, some_delays_until, is_met}
use Rattle.bench_model.specs.Sound.{IsSound}
use Rattle.bench_model.specs.Table.{Table}
use Rattle.bench_model.specs.Tallied.{part_tallies, added}
use Rattle.bench_model.specs.Tally.{TaskTally}
use Rattle.shift_laws.specs.Shifts.{IsShifted, RunShifted}

-- from both tables the steps have the same replies, the same running tasks after each and the same
-- tallies, and lead to equal states at each place
pub record RunAlike (a b : Table) (steps : List Step) : Type 0 where
  pub outcomes : run_results a steps ≡ run_results b steps
  pub tallies : part_tallies a.settings a steps ≡ part_tallies a.settings b steps
  pub states :
      (place : ℕ) → Same (state_after a (take place steps)) (state_after b (take place steps))

-- from equal tables checked steps run alike
abbrev pub EqualRunAlike : Type 0
EqualRunAlike =
    (a b : Table) (steps : List Step) → IsSound a → IsSound b → Same a b
    → All (IsCheckedStep a.settings) steps → RunAlike a b steps

-- Two tables meet by so many ticks before the steps: the second is the first so many ticks later,
-- and no step reads the tick count, where it is another.
pub record MeetBy (by : ℕ) (a b : Table) (steps : List Step) : Type 0 where
  pub later : IsShifted by a b
  pub unread : (by ≡ 0) ⊎ (some_delays_until steps ≡ false)

-- the ticks from one table to the other
abbrev pub ticks_between : Table → Table → ℕ
ticks_between a b = shift_between (view_of a).orders.tick (view_of b).orders.tick

-- the test of a meeting tells just whether the tables meet by the ticks that lie between them
abbrev pub MeetingsAreTested : Type 0
MeetingsAreTested =
    (a b : Table) (steps : List Step)
    → ((is_met a b steps ≡ true) ↔ MeetBy (ticks_between a b) a b steps)

-- and it passes where they meet by any number of ticks
abbrev pub MeetingsPass : Type 0
MeetingsPass =
    (by : ℕ) (a b : Table) (steps : List Step) → MeetBy by a b steps → is_met a b steps ≡ true

-- from tables that meet before them checked steps run alike, so many ticks later
abbrev pub MetRunAlike : Type 0
MetRunAlike =
    (by : ℕ) (a b : Table) (steps : List Step) → IsSound a → IsSound b → MeetBy by a b steps
    → All (IsCheckedStep a.settings) steps → RunShifted by a b steps

-- the outcomes of steps that follow others are those from the state that these left
abbrev pub ResultsFollow : Type 0
ResultsFollow =
    (table : Table) (first second : List Step)
    → run_results table (first ++ second) ≡ run_results table first
    ++ run_results (state_after table first) second

-- the tallies of segments, each from the state that the one before it left
abbrev pub tallies_in_turn : Settings → Table → List (List Step) → List (List TaskTally)
tallies_in_turn settings table [] = []
tallies_in_turn settings table (segment ∷ segments) =
    part_tallies settings table segment
    ∷ tallies_in_turn settings (state_after table segment) segments

-- the tallies of a session are those of its first segment, with each later one's added to them
abbrev pub SegmentsAddUp : Type 0
SegmentsAddUp =
    (settings : Settings) (table : Table) (first : List Step) (segments : List (List Step)) →
    part_tallies settings table (fold (λ steps segment. steps ++ segment) first segments)
    ≡ fold added (part_tallies settings table first)
    (tallies_in_turn settings (state_after table first) segments)

-- every state of a session is sound
abbrev pub StatesAreSound : Type 0
StatesAreSound =
    (session : Session) (place : ℕ) → IsSession session
    → IsSound (state_at session.header session.steps place)

-- the state at a later place is that after the steps between the two
abbrev pub StatesGoOn : Type 0
StatesGoOn =
    (header : Header) (steps : List Step) (place k : ℕ)
    → state_at header steps (place + k)
    ≡ state_after (state_at header steps place) (take k (drop place steps))

-- a kernel that stands for a table stands for each sound table that is equal
abbrev pub EqualStandAlike : Type 0
EqualStandAlike =
    (view : View) (a b : Table) → StandsFor view a → Same a b → IsSound b → StandsFor view b

-- from these places on the sessions have equal replies and the same running tasks, and the second
-- one's states are those of the first so many ticks later
pub record GoOnAlike (by : ℕ) (old new : Session) (p q : ℕ) : Type 0 where
  pub states :
      (k : ℕ)
      → IsShifted by (state_at old.header old.steps (p + k)) (state_at new.header new.steps (q + k))
  pub replies :
      (k : ℕ) → reply_at old.header old.steps (p + k) ≡ reply_at new.header new.steps (q + k)
  pub rows :
      (k : ℕ) → running_at old.header old.steps (p + k) ≡ running_at new.header new.steps (q + k)

-- two sessions that meet at two places, and whose steps after them are the same, go on alike
abbrev pub MetGoOnAlike : Type 0
MetGoOnAlike =
    (by : ℕ) (old new : Session) (p q : ℕ) → IsSession old → IsSession new → p ≤ last_place old
    → q ≤ last_place new →
    MeetBy by (state_at old.header old.steps p) (state_at new.header new.steps q)
    (drop p old.steps)
    → drop p old.steps ≡ drop q new.steps → GoOnAlike by old new p q
