-- No ready task waits, whatever move is made.
use Rattle.std.proofs.Common.{◌≡◌, ℕ, zero, suc, Bool, true, false, cond, not, eqb, ◌&&◌, ◌||◌, List, [], ◌∷◌, map, Some, None, refl, ap, ◌∙◌, arith}
use Rattle.std.specs.List.{filter, find, insert, list_any, prefix_len}
use Rattle.std.proofs.lemmas.Bool.Decides.{nat_tests}
use Rattle.bench_types.specs.declared.kernel_data.Delayed.{Delayed}
use Rattle.list_orders.specs.Search.{inserted, placed, without, has}
use Rattle.bench_model.specs.Control.{Control}
use Rattle.bench_model.specs.Lists.{outranks, one_tick_less}
use Rattle.list_orders.proofs.Filters.{has-filter}
use Rattle.list_orders.proofs.Ranks.{list_any-placed}
use Rattle.tick_delay.specs.Parts.{DelayView, is_delayed, advanced}
use Rattle.smp_kernel.specs.Kernel.{IsDisjoint, delayed_task}

has-moved : (control : Control) (t task : ℕ) (ready : List ℕ) → has t (placed (outranks control) task (without task ready)) ≡
    (eqb task t || (not (eqb t task) && has t ready))
has-moved control t task ready = list_any-placed (outranks control) (λ m. eqb m t) task (without task ready) ∙ ap (λ b. eqb task t || b)
    (has-filter (λ m. not (eqb m task)) t ready)

and_false : (b : Bool) → (b && false) ≡ false
and_false true = refl
and_false false = refl

-- what no entry passes is not found
pub none_found : {E : Type 0} (test : E → Bool) (entries : List E) → list_any test entries ≡ false → find test entries ≡ None
none_found test [] none = refl
none_found test (entry ∷ entries) none = at (test entry) none (none_found test entries)
  where
    at : (b : Bool) → (b || list_any test entries) ≡ false → (list_any test entries ≡ false → find test entries ≡ None) → cond b (Some entry)
        (find test entries) ≡ None
    at true none rest = absurd (cc (none))
    at false none rest = rest none

module _ {E : Type 0} (task_of : E → ℕ) where
  abbrev waits : ℕ → List E → Bool
  waits task entries = list_any (λ entry. eqb (task_of entry) task) entries

  abbrev left : ℕ → List E → List E
  left task entries = filter (λ entry. not (eqb (task_of entry) task)) entries

  waits-left : (t task : ℕ) (entries : List E) → waits t (left task entries) ≡ (not (eqb t task) && waits t entries)
  waits-left t task [] = grind arith
  waits-left t task (entry ∷ entries) = grind (arith, nat_tests, waits-left t task entries)

  -- entries that go leave the others apart
  pub apart_left : (task : ℕ) (ready : List ℕ) (entries : List E) → IsDisjoint task_of ready entries → IsDisjoint task_of ready (left task entries)
  apart_left task ready entries apart t found = grind (arith, waits-left t task entries, apart t found)

  -- where no entry is the task's, all stay that are not its
  pub left_free : (task : ℕ) (entries : List E) → waits task entries ≡ false → left task entries ≡ entries
  left_free task [] free = refl
  left_free task (entry ∷ entries) free = grind (arith, free, left_free task entries (grind (arith, free)))

  pub apart_ready : (control : Control) (task : ℕ) (ready : List ℕ) (entries : List E) → IsDisjoint task_of ready entries → IsDisjoint task_of
      (placed (outranks control) task (without task ready)) (left task entries)
  apart_ready control task ready entries apart t found = at (has t ready) refl
    where
      at : (b : Bool) → has t ready ≡ b → waits t (left task entries) ≡ false
      at true before = grind (arith, waits-left t task entries, apart t before)
      at false before = grind (arith, nat_tests, waits-left t task entries, found, before, has-moved control t task ready)

  -- a task that is ready no more
  pub apart_unready : (task : ℕ) (ready : List ℕ) (entries : List E) → IsDisjoint task_of ready entries → IsDisjoint task_of (without task ready) entries
  apart_unready task ready entries apart t found = at (has t ready) refl
    where
      at : (b : Bool) → has t ready ≡ b → waits t entries ≡ false
      at true before = apart t before
      at false before = absurd (cc (found, before, has-filter (λ m. not (eqb m task)) t ready, and_false (not (eqb t task))))

  -- and waits
  pub apart_waiting : (front : E → E → Bool) (entry : E) (ready : List ℕ) (entries : List E) → IsDisjoint task_of ready entries → IsDisjoint task_of
      (without (task_of entry) ready) (placed front entry entries)
  apart_waiting front entry ready entries apart t found = at (has t ready) refl
    where
      at : (b : Bool) → has t ready ≡ b → waits t (placed front entry entries) ≡ false
      at true before = grind (
        arith,
        nat_tests,
        found,
        before,
        apart t before,
        list_any-placed front (λ e. eqb (task_of e) t) entry entries,
        has-filter
            (λ m. not (eqb m (task_of entry))) t ready,
      )
      at false before = absurd (cc (found, before, has-filter (λ m. not (eqb m (task_of entry))) t ready, and_false (not (eqb t (task_of entry)))))

  waits-inserted : (t n : ℕ) (entry : E) (entries : List E) → waits t (insert entries n entry) ≡ (eqb (task_of entry) t || waits t entries)
  waits-inserted t zero entry [] = refl
  waits-inserted t zero entry (e ∷ es) = refl
  waits-inserted t (suc n) entry [] = refl
  waits-inserted t (suc n) entry (e ∷ es) = grind (arith, waits-inserted t n entry es)

  -- also before the first that does not stay in front of it
  pub apart_inserted : (front : E → E → Bool) (entry : E) (ready : List ℕ) (entries : List E) → IsDisjoint task_of ready entries → IsDisjoint task_of
      (without (task_of entry) ready) (inserted front entry entries)
  apart_inserted front entry ready entries apart t found = at (has t ready) refl
    where
      there : waits t (inserted front entry entries) ≡ (eqb (task_of entry) t || waits t entries)
      there = waits-inserted t (prefix_len (λ e. front e entry) entries) entry entries

      at : (b : Bool) → has t ready ≡ b → waits t (inserted front entry entries) ≡ false
      at true before = grind (arith, nat_tests, found, before, apart t before, there, has-filter (λ m. not (eqb m (task_of entry))) t ready)
      at false before = absurd (cc (found, before, has-filter (λ m. not (eqb m (task_of entry))) t ready, and_false (not (eqb t (task_of entry)))))

  -- where each entry stays that of its task, all stay apart
  pub apart_mapped : (f : E → E) → ((e : E) → task_of (f e) ≡ task_of e) → (ready : List ℕ) (entries : List E) → IsDisjoint task_of ready entries →
      IsDisjoint task_of ready (map f entries)
  apart_mapped f same ready entries apart t found = waits-mapped entries ∙ apart t found
    where
      waits-mapped : (entries : List E) → waits t (map f entries) ≡ waits t entries
      waits-mapped [] = refl
      waits-mapped (e ∷ es) = grind (arith, same e, waits-mapped es)

  -- the ready lists where a task that is ready goes to the end of its list
  pub apart_queued : (task : ℕ) (control : Control) (ready : List ℕ) (entries : List E) → IsDisjoint task_of ready entries → IsDisjoint task_of
      (cond (has task ready) (placed (outranks control) task (without task ready)) ready) entries
  apart_queued task control ready entries apart = at (has task ready) refl
    where
      at : (b : Bool) → has task ready ≡ b → IsDisjoint task_of (cond b (placed (outranks control) task (without task ready)) ready) entries
      at true before t found = moved (has t ready) refl
        where
          moved : (b : Bool) → has t ready ≡ b → waits t entries ≡ false
          moved true here = apart t here
          moved false gone = absurd (grind (arith, nat_tests, found, before, gone, has-moved control t task ready))
      at false before t found = apart t found

waiting-aged : (t : ℕ) (delayed : List Delayed) → is_delayed t (map one_tick_less delayed) ≡ is_delayed t delayed
waiting-aged t [] = refl
waiting-aged t (entry ∷ delayed) = ap (λ b. eqb entry.task t || b) (waiting-aged t delayed)

pub apart_advanced : (ready : List ℕ) (view : DelayView) → IsDisjoint delayed_task ready view.delayed → IsDisjoint delayed_task ready (advanced view).delayed
unfolding advanced
apart_advanced ready view apart t found = waiting-aged t view.delayed ∙ apart t found

-- a task stays ready that goes to the end of its list
pub ready_queued : (task : ℕ) (control : Control) (ready : List ℕ) → has task
    (cond (has task ready) (placed (outranks control) task (without task ready)) ready) ≡ has task ready
ready_queued task control ready = at (has task ready) refl
  where
    at : (b : Bool) → has task ready ≡ b → has task (cond b (placed (outranks control) task (without task ready)) ready) ≡ b
    at true before = grind (arith, nat_tests, has-moved control task task ready)
    at false before = before
