-- The first ready task that passes a test, list by list.
use Rattle.std.proofs.Common.{◌≡◌, ℕ, zero, suc, ◌+◌, ◌-◌, ◌*◌, ◌<◌, ◌≤◌, ◌%◌, ◌^◌, Bool, true, false, cond, eqb, ltb, ◌&&◌, List, [], ◌∷◌, ◌++◌, length}
use Rattle.std.proofs.Common.{bit_and, w32, Option, Some, None, refl, sym, ap, ◌∙◌, arith, pow-suc, inl, inr}
use Rattle.std.specs.Prelude.{is_some}
use Rattle.std.specs.Int.{bit_at, bit_not}
use Rattle.std.specs.List.{find}
use Rattle.std.proofs.lemmas.Bool.{cases_eq, cases_lt}
use Rattle.std.proofs.lemmas.Bool.Decides.{nat_tests}
use Rattle.std.proofs.lemmas.List.{get_or_past}
use Rattle.std.proofs.lemmas.Nat.Bits.{bit_at-zero, bit_at_lowest, bit_at_above, bit_at_cat_high, bit_at_clear_same, bit_at_clear_other}
use Rattle.bench_types.specs.declared.kernel_data.CoreLook.{CoreLook}
use Rattle.bench_types.specs.declared.kernel_data.TaskControl.{TaskControl}
use Rattle.index_lists.specs.Listed.{Listed, ListsView, items_of, first_of}
use Rattle.bench_model.specs.Cores.{CoresView}
use Rattle.ready_core.specs.Fields.{control_from, tasks_of, ready_below, ready_list, seen_of, is_set}
use Rattle.ready_core.specs.Shape.{IsShape}
use Rattle.ready_core.proofs.ReadyLists.{AreAtHome, ready_of}

-- ---- along one list

abbrev pub head_of : List ℕ → Option ℕ
head_of [] = None
head_of (x ∷ xs) = Some x

pub head_first : (row : List Listed) → first_of row ≡ head_of (items_of row)
head_first [] = refl
head_first (entry ∷ row) = refl

-- ---- list by list

find_front : (p : ℕ → Bool) (x : ℕ) (xs ys : List ℕ) → find p xs ≡ Some x → find p (xs ++ ys) ≡ Some x
find_front p x [] ys found = absurd (cc (found))
find_front p x (y ∷ xs) ys found = at (p y) found (find_front p x xs ys)
  where
    at : (b : Bool) → cond b (Some y) (find p xs) ≡ Some x → (find p xs ≡ Some x → find p (xs ++ ys) ≡ Some x) → cond b (Some y) (find p (xs ++ ys)) ≡ Some x
    at true is rest = is
    at false is rest = rest is

find_past : (p : ℕ → Bool) (xs ys : List ℕ) → find p xs ≡ None → find p (xs ++ ys) ≡ find p ys
find_past p [] ys none = refl
find_past p (y ∷ xs) ys none = at (p y) none (find_past p xs ys)
  where
    at : (b : Bool) → cond b (Some y) (find p xs) ≡ None → (find p xs ≡ None → find p (xs ++ ys) ≡ find p ys) → cond b (Some y) (find p (xs ++ ys)) ≡ find p ys
    at true is rest = absurd (cc (is))
    at false is rest = rest is

empty : (xs : List ℕ) → ltb 0 (length xs) ≡ false → xs ≡ []
empty [] none = refl
empty (x ∷ xs) none = absurd (grind (arith, nat_tests, none))

-- lists without tasks add none
gap : (lists : List (List Listed)) (lo hi : ℕ) → lo ≤ hi → ((p : ℕ) → lo ≤ p → p < hi → tasks_of lists p ≡ []) → ready_below lists hi ≡ ready_below lists lo
gap lists lo zero order none = let same : 0 ≡ lo = omega (arith, order) in ap (ready_below lists) same
gap lists lo (suc hi) order none = elim (cases_lt hi lo) [
  | inl over ↦ let same : suc hi ≡ lo = omega (arith, order, over) in ap (ready_below lists) same
  | inr under ↦ ap (λ xs. xs ++ ready_below lists hi) (none hi under (omega arith)) ∙ gap lists lo hi under (λ p low high. none p low (omega (arith, high)))
]

-- no list from `top` on has a task that passes, and the bits are those of the lists below it
pub record IsLeft (view : CoresView) (passes : ℕ → Bool) (seen rest : ℕ) : Type 0 where
  pub lists : List (List Listed)
  pub shows : ready_below lists view.priorities ≡ view.ready
  pub home : AreAtHome view.control lists view.priorities
  pub few : view.priorities ≤ 32
  pub top : ℕ
  pub low : top + seen ≤ view.priorities
  pub first : find passes (ready_below lists top) ≡ find passes view.ready
  pub bits : (p : ℕ) → p < 32 → is_set rest p ≡ (ltb p top && ltb 0 (length (tasks_of lists p)))

pub left_first : (n : ℕ) (slicing : Bool) (cores : List CoreLook) (tasks : List TaskControl) (of : ListsView) (listed : ℕ) (seats : List ℕ) → IsShape n cores
    tasks of listed seats → (passes : ℕ → Bool) → IsLeft (seen_of n slicing (control_from cores tasks) of) passes 0 listed
left_first n slicing cores tasks of listed seats shape passes = record {
  lists = of.lists;
  shows = refl;
  home = shape.at_home;
  few = shape.few_priorities;
  top = n;
  low = omega arith;
  first = refl;
  bits = λ p under. shape.bits p under ∙ elim (cases_lt p n) [
    | inl low ↦ grind (arith, nat_tests, low)
    | inr past ↦
        let none : tasks_of of.lists p ≡ [] = ap items_of (get_or_past of.lists p [] (omega (arith, past, shape.each))) in
        ap (λ (xs : List ℕ). ltb 0 (length xs)) none ∙ grind (arith, nat_tests, past)
  ];
}

module _ (view : CoresView) (passes : ℕ → Bool) (seen rest : ℕ) (left : IsLeft view passes seen rest) where
  unset : (p : ℕ) → p < left.top → is_set rest p ≡ false → tasks_of left.lists p ≡ []
  unset p low off = empty (tasks_of left.lists p) (grind (arith, nat_tests, low, off, left.bits p (omega (arith, low, left.low, left.few))))

  -- no bit is left
  pub none_left : rest ≡ 0 → None ≡ find passes view.ready
  none_left is =
      ap (find passes) (sym (gap left.lists 0 left.top (omega arith) (λ p low high. unset p high
      (ap (λ n. is_set n p) is ∙ ap (λ b. eqb b 1) (bit_at-zero p) ∙ grind (arith, nat_tests)))))
      ∙ left.first

  -- no list is left
  pub none_after : view.priorities ≤ seen → None ≡ find passes view.ready
  none_after all =
      let none : 0 ≡ left.top = omega (arith, all, left.low) in
      ap (λ n. find passes (ready_below left.lists n)) none ∙ left.first

  -- the greatest bit
  module _ (j : ℕ) (power : 2 ^ j ≤ rest) (next : rest < 2 * 2 ^ j) (word : j < 32) where
    on : is_set rest j ≡ true
    on =
        let parts : rest ≡ 1 * 2 ^ j + (rest - 2 ^ j) = omega (arith, power) in
        let none : j - j ≡ 0 = omega arith in
        ap (λ b. eqb b 1) (ap (λ n. bit_at n j) parts ∙ bit_at_cat_high 1 j (rest - 2 ^ j) j (omega (arith, power, next)) (omega arith) ∙ ap (bit_at 1) none ∙
        bit_at_lowest 1)

    off : (p : ℕ) → j < p → is_set rest p ≡ false
    off p over = ap (λ b. eqb b 1) (bit_at_above rest (suc j) p (omega (arith, next, pow-suc 2 j)) (omega (arith, over)))

    pub below_top : j < left.top
    below_top = grind (arith, nat_tests, on, left.bits j word)

    pub in_range : j < view.priorities
    in_range = omega (arith, below_top, left.low)

    upto : find passes (tasks_of left.lists j ++ ready_below left.lists j) ≡ find passes view.ready
    upto = ap (find passes) (sym (gap left.lists (suc j) left.top (omega (arith, below_top)) (λ p low high. unset p high (off p (omega (arith, low)))))) ∙
        left.first

    shown : ready_list j view ≡ tasks_of left.lists j
    shown = ap (λ (ready : List ℕ). ready_list j (record view { ready = ready })) (sym left.shows) ∙ ready_of view.control left.lists j view.priorities
        left.home in_range

    -- its list has a task that passes
    pub found_here : (o : Option ℕ) → o ≡ find passes (ready_list j view) → is_some o ≡ true → o ≡ find passes view.ready
    found_here None is some = absurd (cc (some))
    found_here (Some x) is some = sym (find_front passes x (tasks_of left.lists j) (ready_below left.lists j) (ap (find passes) (sym shown) ∙ sym is)) ∙ upto

    -- its list has none
    pub less_left : (o : Option ℕ) → o ≡ find passes (ready_list j view) → is_some o ≡ false → IsLeft view passes (seen + 1)
        (bit_and rest (bit_not w32 (1 * 2 ^ j % 4294967296)))
    less_left (Some x) is none = absurd (cc (none))
    less_left None is none = record {
      lists = left.lists;
      shows = left.shows;
      home = left.home;
      few = left.few;
      top = j;
      low = omega (arith, below_top, left.low);
      first = sym (find_past passes (tasks_of left.lists j) (ready_below left.lists j) (ap (find passes) (sym shown) ∙ sym is)) ∙ upto;
      bits = λ p under. elim (cases_eq p j) [
        | inl same ↦ rw same (ap (λ b. eqb b 1) (bit_at_clear_same w32 rest j word) ∙ grind (arith, nat_tests))
        | inr away ↦ ap (λ b. eqb b 1) (bit_at_clear_other w32 rest j word p under away) ∙ elim (cases_lt p j) [
          | inl low ↦ left.bits p under ∙ grind (arith, nat_tests, low, below_top)
          | inr over ↦ off p (omega (arith, over, away)) ∙ grind (arith, nat_tests, over)
        ]
      ];
    }
