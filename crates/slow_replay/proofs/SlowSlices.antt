-- Counting the tasks of a ready list, and ending time slices core by core.
use Rattle.std.proofs.Common.{◌≡◌, ℕ, ◌+◌, ◌-◌, ◌<◌, ◌≤◌, Bool, true, false, cond, not, ◌&&◌, ◌||◌, eqb, ltb, List, [], ◌∷◌, ◌++◌, length, map, drop, refl, sym}
use Rattle.std.proofs.Common.{ap, ◌∙◌, arith}
use Rattle.std.specs.Prelude.{slice_set, slice_index_or}
use Rattle.std.specs.List.{filter}
use Rattle.std.proofs.lemmas.List.{length-append, append-nil, append_assoc, map-append, drop_more, drop_all, length-drop, get_or-drop, get_or-append_right}
use Rattle.std.proofs.lemmas.List.{set-append_right}
use Rattle.std.proofs.lemmas.List.Elements.{filter-append}
use Rattle.std.proofs.lemmas.List.FromFn.{length-range_with_len, length-map-range_with_len}
use Rattle.bench_types.specs.declared.kernel_data.CoreLook.{CoreLook}
use Rattle.list_orders.specs.Search.{numbers}
use Rattle.bench_model.specs.Control.{core_at, task_at, with_core, asked_by, asked_where}
use Rattle.bench_model.specs.Table.{Table, stamp_queues, is_ready}
use Rattle.bench_model.specs.Seek.{ready_in, shares_its_time, sliced}
use Rattle.list_orders.proofs.Stamped.{length_filter}
use Rattle.list_orders.proofs.Stamped.{numbers_more}

-- how many numbers below n pass the test
abbrev pub count_below : (ℕ → Bool) → ℕ → ℕ
count_below test n = length (filter test (numbers n))

pub counted_more : (test : ℕ → Bool) (n : ℕ) → count_below test (n + 1) ≡ count_below test n + cond (test n) 1 0
counted_more test n = grind (
  arith,
  ap (λ ns. length (filter test ns)) (numbers_more n),
  filter-append test (numbers n) (n ∷ []),
  length-append
      (filter test (numbers n)) (filter test (n ∷ [])),
)

pub counted_few : (test : ℕ → Bool) (n : ℕ) → count_below test n ≤ n
counted_few test n = omega (arith, length_filter test (numbers n), length-range_with_len 0 n)

-- the task stands in the ready list of the priority
abbrev pub stands_in : Table → ℕ → ℕ → Bool
stands_in table priority task = is_ready task table.orders && eqb (task_at table.control task).in_use priority

abbrev with_cores : Table → List CoreLook → Table
with_cores table cores = record table { control = record table.control { cores = cores } }

abbrev no_look : CoreLook
no_look = record { current = 0; pend = false; asked = false }

-- what becomes of a core that looks so as its time slice ends
abbrev turned : Table → ℕ → CoreLook → CoreLook
turned old core look = cond (
    not (look.pend || look.asked) && (task_at old.control look.current).preempt && is_ready look.current old.orders
    && ltb 1 (length (ready_in stamp_queues (task_at old.control look.current).in_use old))
    ) (asked_by 0 core look) look

-- ending the slice of one core
abbrev ended : ℕ → Table → Table
ended core table = record table { control = with_core core (asked_where 0 (shares_its_time stamp_queues table) table.control core) table.control }

module _ (old : Table) where
  abbrev each : ℕ → CoreLook
  each = asked_where 0 (shares_its_time stamp_queues old) old.control

  -- the first cores are done, the others are as they were
  abbrev done_to : ℕ → List CoreLook
  done_to core = map each (numbers core) ++ drop core old.control.cores

  each_length : (core : ℕ) → length (map each (numbers core)) ≡ core
  each_length core = length-map-range_with_len each 0 core

  look_there : (core : ℕ) → slice_index_or (done_to core) core no_look ≡ core_at old.control core
  look_there core =
      let none : core - core ≡ 0 = omega arith in
      let past : core + 0 ≡ core = omega arith in
      get_or-append_right (map each (numbers core)) (drop core old.control.cores) core core no_look (each_length core) (omega arith)
      ∙ ap (λ i. slice_index_or (drop core old.control.cores) i no_look) none ∙ get_or-drop core old.control.cores 0 no_look ∙ ap (core_at old.control) past

  set_there : (core : ℕ) (look : CoreLook) → core < length old.control.cores → slice_set (done_to core) core look ≡ map each (numbers core) ++ look ∷ drop
      (core + 1) old.control.cores
  set_there core look below =
      let none : core - core ≡ 0 = omega arith in
      set-append_right (map each (numbers core)) (drop core old.control.cores) core core look (each_length core) (omega arith)
      ∙ ap (λ i. map each (numbers core) ++ slice_set (drop core old.control.cores) i look) none
      ∙ ap (λ rest. map each (numbers core) ++ slice_set rest 0 look) (drop_more old.control.cores core no_look below)

  done_more : (core : ℕ) → map each (numbers core) ++ each core ∷ drop (core + 1) old.control.cores ≡ done_to (core + 1)
  done_more core =
      sym (append_assoc (map each (numbers core)) (each core ∷ []) (drop (core + 1) old.control.cores))
      ∙ ap (λ looks. looks ++ drop (core + 1) old.control.cores) (sym (ap (map each) (numbers_more core) ∙ map-append each (numbers core) (core ∷ [])))

-- the slices of the first cores have ended
pub record IsSlicing (old : Table) (core : ℕ) (now : Table) : Type 0 where
  pub so_far : now ≡ with_cores old (done_to old core)

pub slicing_starts : (old : Table) → IsSlicing old 0 old
slicing_starts old = record { so_far = refl }

pub slicing_goes : (old now next : Table) (core : ℕ) → IsSlicing old core now → core < length old.control.cores → next ≡ ended core now → IsSlicing old
    (core + 1) next
slicing_goes old now next core slicing below goes = record {
  so_far = goes ∙ ap (ended core) slicing.so_far
      ∙ ap (λ look. with_cores old (slice_set (done_to old core) core (turned old core look))) (look_there old core)
      ∙ ap (with_cores old) (set_there old core (each old core) below ∙ done_more old core);
}

pub slicing_length : (old now : Table) (core : ℕ) → IsSlicing old core now → core ≤ length old.control.cores → length now.control.cores ≡ length
    old.control.cores
slicing_length old now core slicing low =
    ap (λ (t : Table). length t.control.cores) slicing.so_far ∙ omega (
      arith,
      length-append (map (each old) (numbers core)) (drop core old.control.cores),
      each_length old core,
      length-drop core old.control.cores,
    )

pub slicing_ends : (old now : Table) → IsSlicing old (length old.control.cores) now → old.settings.slicing ≡ true → now ≡ sliced stamp_queues old
unfolding sliced
slicing_ends old now slicing on =
    let cores = length old.control.cores in
    slicing.so_far
    ∙ ap (λ rest. with_cores old (map (each old) (numbers cores) ++ rest)) (drop_all cores old.control.cores (omega arith))
    ∙ ap (with_cores old) (append-nil (map (each old) (numbers cores)))
    ∙ ap (λ b. cond b (with_cores old (map (each old) (numbers cores))) old) (sym on)

pub slicing_off : (table : Table) → table.settings.slicing ≡ false → table ≡ sliced stamp_queues table
unfolding sliced
slicing_off table off = sym (ap (λ b. cond b (with_cores table (map (each table) (numbers (length table.control.cores)))) table) off)
