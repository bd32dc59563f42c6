-- How the calls of each task are put in a row, the last of the list first.
use Rattle.std.proofs.Common.{◌≡◌, ◌≢◌, ℕ, suc, ◌-◌, ◌<◌, true, false, List, length, map, replicate, None, sym, ap, subst, ◌∙◌, inl, inr, arith}
use Rattle.std.specs.Prelude.{All, slice_index, slice_set}
use Rattle.std.specs.List.{range_with_len}
use Rattle.std.proofs.lemmas.Bool.{cases_eq, cases_lt}
use Rattle.std.proofs.lemmas.Bool.Decides.{nat_tests}
use Rattle.std.proofs.lemmas.List.{ext_get_or, get_or-replicate, get_or-set_same, get_or-set_other, length-replicate, length-set}
use Rattle.std.proofs.lemmas.List.Elements.{All-get_or}
use Rattle.std.proofs.lemmas.List.FromFn.{get_or-map-range_with_len, length-map-range_with_len}
use Rattle.list_orders.proofs.Filters.{All-weaker}
use Rattle.list_orders.proofs.Stamped.{numbers_below}
use Rattle.kept_runs.specs.declared.works.Unmade.{Unmade}
use Rattle.kept_runs.specs.Clocks.{zero_clock}
use Rattle.keeping.specs.Queues.{call_at, is_of, is_unmade, unmade_in, AreInRows, AreLinked, AreQueues, HasCaller, IsNext}
use Rattle.keeping.proofs.Rows.{filter_all}

pub linked_start : (calls : List Unmade) (tasks : ℕ) (heads next : List ℕ) → heads ≡ replicate tasks (length calls)
    → next ≡ replicate (length calls) (length calls) → AreLinked calls (length calls) tasks heads next
linked_start calls tasks heads next first second = record {
  reached = omega arith;
  head_each = ap length first ∙ length-replicate tasks (length calls);
  next_each = ap length second ∙ length-replicate (length calls) (length calls);
  first = λ task user.
      let here : slice_index heads task ≡ length calls = ap (λ heads. slice_index heads task) first ∙ get_or-replicate tasks task (length calls) 0 user in
      record {
        low = omega (arith, here);
        high = omega (arith, here);
        own = λ low. absurd (omega (arith, here, low));
        between = λ other past low. absurd (omega (arith, here, past, low));
      };
  after = λ task index past low is. absurd (omega (arith, past, low));
}

module _ (calls : List Unmade) (from tasks : ℕ) (heads next : List ℕ) (linked : AreLinked calls (suc from) tasks heads next) (task : ℕ) (user : task < tasks)
    (is : (call_at calls from).task ≡ task) where
  -- the next calls from one place earlier on, where that is none of the task
  earlier : (other index : ℕ) → is_of calls other from ≡ false → IsNext calls other (suc from) index → IsNext calls other from index
  earlier other index none later = record {
    low = omega (arith, later.low);
    high = later.high;
    own = later.own;
    between = λ k past low. elim (cases_eq k from) [
      | inl same ↦ ap (is_of calls other) same ∙ none
      | inr away ↦ later.between k (omega (arith, past, away)) low
    ];
  }

  linked_call : AreLinked calls from tasks (slice_set heads task from) (slice_set next from (slice_index heads task))
  linked_call = record {
    reached = omega (arith, linked.reached);
    head_each = length-set heads task from ∙ linked.head_each;
    next_each = length-set next from (slice_index heads task) ∙ linked.next_each;
    first = λ other low. elim (cases_eq other task) [
      | inl same ↦ subst (λ other. IsNext calls other from (slice_index (slice_set heads task from) other)) (sym same) own
      | inr away ↦
          subst (IsNext calls other from) (sym (get_or-set_other heads task other from 0 away))
          (earlier other (slice_index heads other) (not_own other away) (linked.first other low))
    ];
    after = λ other index past low call. elim (cases_eq index from) [
      | inl same ↦
          subst (λ index. IsNext calls other (suc index) (slice_index (slice_set next from (slice_index heads task)) index)) (sym same)
          (first_after other (ap (is_of calls other) (sym same) ∙ call))
      | inr away ↦
          subst (IsNext calls other (suc index)) (sym (get_or-set_other next from index (slice_index heads task) 0 away))
          (linked.after other index (omega (arith, past, away)) low call)
    ];
  }
    where
      own : IsNext calls task from (slice_index (slice_set heads task from) task)
      own = subst (IsNext calls task from) (sym (get_or-set_same heads task from 0 (omega (arith, user, linked.head_each)))) (record {
        low = omega arith;
        high = omega (arith, linked.reached);
        own = λ low. grind (arith, nat_tests, is);
        between = λ other past low. absurd (omega (arith, past, low));
      })

      not_own : (other : ℕ) → other ≢ task → is_of calls other from ≡ false
      not_own other away = grind (arith, nat_tests, is, away)

      first_after : (other : ℕ) → is_of calls other from ≡ true → IsNext calls other (suc from) (slice_index (slice_set next from (slice_index heads task)) from)
      first_after other call =
          let same : task ≡ other = grind (arith, nat_tests, is, call) in
          let here = get_or-set_same next from (slice_index heads task) 0 (omega (arith, linked.reached, linked.next_each)) in
          subst (IsNext calls other (suc from)) (sym here)
          (subst (λ other. IsNext calls other (suc from) (slice_index heads task)) same (linked.first task user))

-- one place earlier on
pub linked_more :
    (calls : List Unmade) (index tasks : ℕ) (heads next : List ℕ) → 0 < index → AreLinked calls index tasks heads next → (task : ℕ)
    → task < tasks → (call_at calls (index - 1)).task ≡ task
    → AreLinked calls (index - 1) tasks (slice_set heads task (index - 1)) (slice_set next (index - 1) (slice_index heads task))
linked_more calls index tasks heads next some linked task user is =
    let same : index ≡ suc (index - 1) = omega (arith, some) in
    linked_call calls (index - 1) tasks heads next (subst (λ index. AreLinked calls index tasks heads next) same linked) task user is

pub linked_rows : (calls : List Unmade) (tasks : ℕ) (heads next : List ℕ) → AreLinked calls 0 tasks heads next → AreInRows calls tasks heads next
linked_rows calls tasks heads next linked = record {
  head_each = linked.head_each;
  next_each = linked.next_each;
  few = λ task user. (linked.first task user).high;
  own = λ task user. (linked.first task user).own;
  after = λ task index low is. linked.after task index (omega arith) low is;
}

pub all_unmade : (calls : List Unmade) (tasks : ℕ) (heads next : List ℕ) → AreLinked calls 0 tasks heads next → All (HasCaller tasks) calls
    → unmade_in heads calls ≡ calls
unfolding unmade_in
all_unmade calls tasks heads next linked callers =
    let none : Unmade = record { task = 0; call = None; work = zero_clock } in
    ap (map (call_at calls)) (filter_all (is_unmade heads calls) (range_with_len 0 (length calls))
    (All-weaker (λ index. index < length calls) (λ index. is_unmade heads calls index ≡ true) each (range_with_len 0 (length calls)) (numbers_below (length calls))))
    ∙ sym (ext_get_or none calls (map (call_at calls) (range_with_len 0 (length calls))) (sym (length-map-range_with_len (call_at calls) 0 (length calls)))
    (λ index below. sym (get_or-map-range_with_len (call_at calls) 0 (length calls) index index none (omega (arith, below)) (omega arith))))
  where
    each : (index : ℕ) → index < length calls → is_unmade heads calls index ≡ true
    each index below =
        let task = (call_at calls index).task in
        let user : task < tasks = All-get_or (HasCaller tasks) calls index _ below callers in
        let own : is_of calls task index ≡ true = grind (arith, nat_tests) in
        elim (cases_lt index (slice_index heads task)) [
          | inl early ↦ absurd (let none = (linked.first task user).between index (omega arith) early in cc (own, none))
          | inr late ↦ grind (arith, nat_tests, late)
        ]

pub queues_are : (calls : List Unmade) (tasks : ℕ) (heads next : List ℕ) → AreLinked calls 0 tasks heads next → All (HasCaller tasks) calls
    → AreQueues calls tasks heads next
queues_are calls tasks heads next linked callers = record {
  rows = linked_rows calls tasks heads next linked;
  all = all_unmade calls tasks heads next linked callers;
}
