-- Time slices core by core, and the tasks that share a ready list.
use Rattle.std.proofs.Common.{◌≡◌, ◌≢◌, ℕ, ◌+◌, ◌<◌, Bool, true, false, cond, not, eqb, ltb, ◌&&◌, ◌||◌, List, [], ◌∷◌, length, get_or, refl, sym, ap, subst}
use Rattle.std.proofs.Common.{◌∙◌, arith, inl, inr}
use Rattle.std.specs.List.{filter, list_any, AllByRecursion, IsDistinct}
use Rattle.std.proofs.lemmas.Bool.{cases_eq, eqb-true}
use Rattle.std.proofs.lemmas.Bool.Decides.{nat_tests}
use Rattle.std.proofs.lemmas.List.{ext_get_or, length-set, get_or-set_same, get_or-set_other}
use Rattle.std.proofs.lemmas.List.FromFn.{get_or-map-range_with_len, length-map-range_with_len}
use Rattle.bench_types.specs.declared.kernel_data.CoreLook.{CoreLook}
use Rattle.list_orders.specs.Search.{numbers, without, has}
use Rattle.bench_model.specs.Control.{Control, core_at, task_at, is_due, ask, asked_by, asked_where, ask_each}
use Rattle.bench_model.specs.Lists.{list_queues}
use Rattle.bench_model.specs.Seek.{ready_in, shares_its_time, sliced}
use Rattle.bench_model.specs.Cores.{CoresView, cores_of, bare_view, cores_rule}
use Rattle.list_orders.proofs.Filters.{filter-filter, filter_none, has-filter, All-weaker}
use Rattle.ready_core.specs.Fields.{ready_list}
use Rattle.list_orders.proofs.Stamped.{numbers_have, numbers_one}

module _ (acting : ℕ) (control : Control) where
  abbrev no_look : CoreLook
  no_look = record { current = 0; pend = false; asked = false }

  abbrev looks : (ℕ → Bool) → List CoreLook
  looks test = (ask_each acting test control).cores

  pub looks_length : (test : ℕ → Bool) → length (looks test) ≡ length control.cores
  looks_length test = length-map-range_with_len (asked_where acting test control) 0 (length control.cores)

  look_at : (test : ℕ → Bool) (i : ℕ) → i < length control.cores → get_or (looks test) i no_look ≡ asked_where acting test control i
  look_at test i low = get_or-map-range_with_len (asked_where acting test control) 0 (length control.cores) i i no_look low (omega arith)

  abbrev look_by : ℕ → Bool → CoreLook
  look_by i b = cond b (asked_by acting i (core_at control i)) (core_at control i)

  same_looks : (test : ℕ → Bool) (others : List CoreLook) → length others ≡ length control.cores →
      ((i : ℕ) → i < length control.cores → get_or others i no_look ≡ look_by i (test i)) → others ≡ looks test
  same_looks test others sized same = ext_get_or no_look others (looks test) (sized ∙ sym (looks_length test))
      (λ i low. same i (omega (arith, low, sized)) ∙ sym (look_at test i (omega (arith, low, sized))))

  -- tests that agree ask the same cores
  pub asked_alike : (p q : ℕ → Bool) → ((i : ℕ) → i < length control.cores → p i ≡ q i) → ask_each acting p control ≡ ask_each acting q control
  asked_alike p q same = ap (λ (cores : List CoreLook). record control { cores = cores })
      (same_looks q (looks p) (looks_length p) (λ i low. look_at p i low ∙ ap (look_by i) (same i low)))

  -- no core is asked
  pub asked_none : (p : ℕ → Bool) → ((i : ℕ) → i < length control.cores → p i ≡ false) → control ≡ ask_each acting p control
  asked_none p none = ap (λ (cores : List CoreLook). record control { cores = cores })
      (same_looks p control.cores refl (λ i low. ap (look_by i) (sym (none i low))))

  -- one more core is asked
  pub asked_one : (p q : ℕ → Bool) (n : ℕ) → n < length control.cores → p n ≡ false → q n ≡ true → ((i : ℕ) → i < length control.cores → i ≢ n → p i ≡ q i) →
      ask acting n (ask_each acting p control) ≡ ask_each acting q control
  asked_one p q n low before after others = ap (λ (cores : List CoreLook). record control { cores = cores })
      (same_looks q _ (length-set (looks p) n _ ∙ looks_length p) each)
    where
      here : asked_by acting n (core_at (ask_each acting p control) n) ≡ look_by n (q n)
      here = ap (asked_by acting n) (look_at p n low ∙ ap (look_by n) before) ∙ ap (look_by n) (sym after)

      each : (i : ℕ) → i < length control.cores → get_or (ask acting n (ask_each acting p control)).cores i no_look ≡ look_by i (q i)
      each i within = elim (cases_eq i n) [
        | inl same ↦ rw same (get_or-set_same (looks p) n _ no_look (omega (arith, looks_length p, low)) ∙ here)
        | inr away ↦ get_or-set_other (looks p) n i _ no_look away ∙ look_at p i within ∙ ap (look_by i) (others i within away)
      ]

  -- a core that was not asked is as it was
  pub look_stays : (p : ℕ → Bool) (n : ℕ) → n < length control.cores → p n ≡ false → core_at (ask_each acting p control) n ≡ core_at control n
  look_stays p n low before = look_at p n low ∙ ap (look_by n) before

-- whether a core's task shares its time depends on that core alone, of the cores
pub shares_stays : (view : CoresView) (cores : List CoreLook) (core : ℕ) → core_at (record view.control { cores = cores }) core ≡ core_at view.control core →
    shares_its_time list_queues (bare_view (record view { control = record view.control { cores = cores } })) core ≡ shares_its_time list_queues
    (bare_view view) core
shares_stays view cores core same = ap shares same
  where
    shares : CoreLook → Bool
    shares look = not (look.pend || look.asked) && (task_at view.control look.current).preempt && has look.current view.ready && ltb 1
        (length (ready_in list_queues (task_at view.control look.current).in_use (bare_view view)))

-- how many a filter keeps and drops
length_parts : (p : ℕ → Bool) (ns : List ℕ) → length (filter p ns) + length (filter (λ n. not (p n)) ns) ≡ length ns
length_parts p [] = refl
length_parts p (n ∷ ns) = grind (arith, length_parts p ns)

some_kept : (p : ℕ → Bool) (ns : List ℕ) → ltb 0 (length (filter p ns)) ≡ list_any p ns
some_kept p [] = grind (arith, nat_tests)
some_kept p (n ∷ ns) = grind (arith, nat_tests, some_kept p ns)

list_any-filter : (p q : ℕ → Bool) (ns : List ℕ) → list_any p (filter q ns) ≡ list_any (λ n. q n && p n) ns
list_any-filter p q [] = refl
list_any-filter p q (n ∷ ns) = grind (arith, list_any-filter p q ns)

list_any-either : (p q : ℕ → Bool) (ns : List ℕ) → list_any (λ n. p n || q n) ns ≡ (list_any p ns || list_any q ns)
list_any-either p q [] = refl
list_any-either p q (n ∷ ns) = grind (arith, list_any-either p q ns)

list_any-same : (p q : ℕ → Bool) → ((n : ℕ) → p n ≡ q n) → (ns : List ℕ) → list_any p ns ≡ list_any q ns
list_any-same p q same [] = refl
list_any-same p q same (n ∷ ns) = grind (arith, same n, list_any-same p q same ns)

list_any-one : (p : ℕ → Bool) (x : ℕ) (ns : List ℕ) → list_any (λ n. eqb x n && p n) ns ≡ (has x ns && p x)
list_any-one p x [] = refl
list_any-one p x (n ∷ ns) = grind (arith, nat_tests, list_any-one p x ns)

list_any-none : (ns : List ℕ) → list_any (λ n. false) ns ≡ false
list_any-none [] = refl
list_any-none (n ∷ ns) = list_any-none ns

-- to search a list of numbers below n is to search all of them for one that it has
list_any-among : (p : ℕ → Bool) (n : ℕ) (xs : List ℕ) → AllByRecursion (λ x. x < n) xs → list_any (λ t. has t xs && p t) (numbers n) ≡ list_any p xs
list_any-among p n [] low = list_any-none (numbers n)
list_any-among p n (x ∷ xs) low =
    list_any-same (λ t. (eqb x t || has t xs) && p t) (λ t. (eqb x t && p t) || (has t xs && p t)) (λ t. grind arith) (numbers n)
    ∙ list_any-either (λ t. eqb x t && p t) (λ t. has t xs && p t) (numbers n)
    ∙ grind (arith, list_any-one p x (numbers n), numbers_have n x low.0, list_any-among p n xs low.1)

-- more than one number passes where one does and another does
more_than_one : (p : ℕ → Bool) (n x : ℕ) → x < n → p x ≡ true → ltb 1 (length (filter p (numbers n))) ≡ list_any (λ t. not (eqb t x) && p t) (numbers n)
more_than_one p n x low passes =
    let kept = filter p (numbers n) in
    let one : filter (λ t. eqb t x) kept ≡ x ∷ [] = filter-filter (λ t. eqb t x) p (numbers n) ∙ ap (filter p) (numbers_one n x low) ∙ ap
    (λ b. cond b (x ∷ []) []) passes in
    let others = filter (λ t. not (eqb t x)) kept in
    let sizes : 1 + length others ≡ length kept = ap (λ (xs : List ℕ). length xs + length others) (sym one) ∙ length_parts (λ t. eqb t x) kept in
    let turned : others ≡ filter p (without x (numbers n)) = filter-filter (λ t. not (eqb t x)) p (numbers n) in
    let found = some_kept p (without x (numbers n)) in
    let there = list_any-filter p (λ t. not (eqb t x)) (numbers n) in
    grind (arith, nat_tests, sizes, ap length turned, found, there)

-- a ready task stands in a list of more than one where the queue has another of its priority
pub shares_by_queue : (view : CoresView) (queue : List ℕ) (task : ℕ) → ((t : ℕ) → has t view.ready ≡ has t queue) → AllByRecursion
    (λ t. t < length view.control.tasks) queue → task < length view.control.tasks → has task view.ready ≡ true →
    ltb 1 (length (ready_in list_queues (task_at view.control task).in_use (bare_view view))) ≡ list_any
    (λ other. not (eqb other task) && eqb (task_at view.control other).in_use (task_at view.control task).in_use) queue
shares_by_queue view queue task same low within ready =
    let n = length view.control.tasks in
    let rank = λ (t : ℕ). (task_at view.control t).in_use in
    let alike = λ (t : ℕ). eqb (rank t) (rank task) in
    more_than_one (λ t. has t view.ready && alike t) n task within (grind (arith, nat_tests, ready))
    ∙ list_any-same (λ t. not (eqb t task) && (has t view.ready && alike t)) (λ t. has t queue && (not (eqb t task) && alike t)) (λ t. grind (arith, same t))
    (numbers n)
    ∙ list_any-among (λ t. not (eqb t task) && alike t) n queue low

-- a listing has a number that it has once
one_of : (t : ℕ) (xs : List ℕ) → IsDistinct eqb xs → has t xs ≡ true → filter (λ m. eqb m t) xs ≡ t ∷ []
unfolding IsDistinct
one_of t [] once there = absurd (cc (there))
one_of t (x ∷ xs) once there = at (eqb x t) refl (one_of t xs once.1)
  where
    none : eqb x t ≡ true → filter (λ m. eqb m t) xs ≡ []
    none same = filter_none (λ m. eqb m t) xs (All-weaker (λ y. eqb x y ≡ false) (λ y. eqb y t ≡ false) (λ y apart. grind (arith, nat_tests, apart, same)) xs
        once.0)

    at : (b : Bool) → eqb x t ≡ b → (has t xs ≡ true → filter (λ m. eqb m t) xs ≡ t ∷ []) → cond b (x ∷ filter (λ m. eqb m t) xs) (filter (λ m. eqb m t) xs) ≡ t
        ∷ []
    at true same rest = ap (λ ys. x ∷ ys) (none same) ∙ ap (λ y. y ∷ []) (eqb-true x t same)
    at false other rest = rest (grind (arith, there, other))

-- a ready task stands in a list of more than one where the row of its priority has more than one
pub company : (view : CoresView) (row : List ℕ) (task : ℕ) → ready_list (task_at view.control task).in_use view ≡ row → IsDistinct eqb row → AllByRecursion
    (λ t. t < length view.control.tasks) view.ready → task < length view.control.tasks → has task view.ready ≡ true →
    ltb 1 (length (ready_in list_queues (task_at view.control task).in_use (bare_view view))) ≡ ltb 1 (length row)
company view row task is once low within ready =
    let rank = λ (t : ℕ). (task_at view.control t).in_use in
    let alike = λ (t : ℕ). eqb (rank t) (rank task) in
    let other = λ (t : ℕ). not (eqb t task) in
    let there : has task row ≡ true = ap (has task) (sym is) ∙ has-filter alike task view.ready ∙ grind (arith, nat_tests, ready) in
    let sizes = length_parts (λ m. eqb m task) row in
    let sole = ap (λ (xs : List ℕ). length xs) (one_of task row once there) in
    shares_by_queue view view.ready task (λ t. refl) low within ready
    ∙ list_any-same (λ t. other t && alike t) (λ t. alike t && other t) (λ t. grind arith) view.ready
    ∙ sym (list_any-filter other alike view.ready)
    ∙ ap (list_any other) is
    ∙ sym (some_kept other row)
    ∙ grind (arith, nat_tests, sizes, sole)

-- of the cores, those that are looked at and whose task shares its time are asked
abbrev pub sliced_where : (ℕ → Bool) → CoresView → CoresView
sliced_where seen view =
    record view { control = ask_each 0 (λ core. seen core && shares_its_time list_queues (bare_view view) core) view.control }

pub size_stays : (view later : CoresView) (seen : ℕ → Bool) → later ≡ sliced_where seen view → length later.control.cores ≡ length view.control.cores
size_stays view later seen is = ap (λ (v : CoresView). length v.control.cores) is ∙ looks_length 0 view.control
    (λ core. seen core && shares_its_time list_queues (bare_view view) core)

-- a core that was not looked at is as it was
pub due_stays : (view later : CoresView) (seen : ℕ → Bool) (core : ℕ) → core < length view.control.cores → later ≡ sliced_where seen view → seen core ≡ false →
    is_due later.control core ≡ is_due view.control core
due_stays view later seen core low is unseen =
    let test : ℕ → Bool = λ core. seen core && shares_its_time list_queues (bare_view view) core in
    ap (λ (v : CoresView). is_due v.control core) is
    ∙ ap (λ (look : CoreLook). look.pend || look.asked) (look_stays 0 view.control test core low
    (ap (λ b. b && shares_its_time list_queues (bare_view view) core) unseen))

-- one more core is looked at
pub slice_more : (view later : CoresView) (seen next : ℕ → Bool) (core : ℕ) → core < length view.control.cores → later ≡ sliced_where seen view → seen core ≡
    false → next core ≡ true → ((c : ℕ) → c ≢ core → seen c ≡ next c) →
    cond (shares_its_time list_queues (bare_view later) core) (record later { control = ask 0 core later.control }) later ≡ sliced_where next view
slice_more view later seen next core low is unseen then others = subst (λ v. cond (shares_its_time list_queues (bare_view v) core)
    (record v { control = ask 0 core v.control }) v ≡ sliced_where next view) (sym is)
    (ap (λ b. cond b (record before { control = ask 0 core before.control }) before)
    (shares_stays view (looks 0 view.control p) core (look_stays 0 view.control p core low p_here)) ∙ at (test core) refl)
  where
    test : ℕ → Bool
    test = shares_its_time list_queues (bare_view view)

    p : ℕ → Bool
    p c = seen c && test c

    q : ℕ → Bool
    q c = next c && test c

    before : CoresView
    before = sliced_where seen view

    p_here : p core ≡ false
    p_here = ap (λ b. b && test core) unseen

    q_here : q core ≡ test core
    q_here = ap (λ b. b && test core) then

    away : (c : ℕ) → c ≢ core → p c ≡ q c
    away c apart = ap (λ b. b && test c) (others c apart)

    at : (b : Bool) → test core ≡ b → cond b (record before { control = ask 0 core before.control }) before ≡ sliced_where next view
    at true passes = ap (λ (control : Control). record view { control = control })
        (asked_one 0 view.control p q core low p_here (q_here ∙ passes) (λ c within apart. away c apart))
    at false fails = ap (λ (control : Control). record view { control = control }) (asked_alike 0 view.control p q (λ c within. elim (cases_eq c core) [
      | inl same ↦ rw same (p_here ∙ sym (q_here ∙ fails))
      | inr apart ↦ away c apart
    ]))

-- no core whose task may share its time is looked at yet
pub slice_none : (view : CoresView) (seen : ℕ → Bool) → ((c : ℕ) → c < length view.control.cores → seen c ≡ true → is_due view.control c ≡ true) → view ≡
    sliced_where seen view
slice_none view seen due = ap (λ (control : Control). record view { control = control })
    (asked_none 0 view.control (λ c. seen c && shares_its_time list_queues (bare_view view) c) each)
  where
    each : (c : ℕ) → c < length view.control.cores → (seen c && shares_its_time list_queues (bare_view view) c) ≡ false
    each c low = at (seen c) refl
      where
        at : (b : Bool) → seen c ≡ b → (b && shares_its_time list_queues (bare_view view) c) ≡ false
        at true looked = ap (λ (d : Bool). not d && (task_at view.control (core_at view.control c).current).preempt && has (core_at view.control c).current
            view.ready && ltb 1 (length (ready_in list_queues (task_at view.control (core_at view.control c).current).in_use (bare_view view))))
            (due c low looked)
        at false _ = refl

pub sliced_on : (view : CoresView) (seen : ℕ → Bool) → view.slicing ≡ true → ((c : ℕ) → seen c ≡ true) → sliced_where seen view ≡ cores_rule
    (sliced list_queues) view
unfolding sliced
sliced_on view seen on all = ap (λ (control : Control). record view { control = control })
    (asked_alike 0 view.control (λ c. seen c && shares_its_time list_queues (bare_view view) c) (shares_its_time list_queues (bare_view view))
    (λ c low. ap (λ b. b && shares_its_time list_queues (bare_view view) c) (all c)))
    ∙ ap (λ b. cores_of (cond b (record (bare_view view) { control = ask_each 0 (shares_its_time list_queues (bare_view view)) view.control })
    (bare_view view))) (sym on)

pub sliced_off : (view : CoresView) → view.slicing ≡ false → view ≡ cores_rule (sliced list_queues) view
unfolding sliced
sliced_off view off = ap (λ b. cores_of (cond b (record (bare_view view) { control = ask_each 0 (shares_its_time list_queues (bare_view view)) view.control })
    (bare_view view))) (sym off)
