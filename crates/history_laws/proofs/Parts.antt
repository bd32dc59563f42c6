-- The parts of a history: entries of one core, beginnings, and growth by one core.
use Rattle.std.proofs.Common.{◌≡◌, ℕ, zero, suc, ◌+◌, ◌<◌, ◌≤◌, Bool, true, false, cond, eqb, List, [], ◌∷◌, ◌++◌, length, drop, refl, sym, ap, subst, ◌∙◌}
use Rattle.std.proofs.Common.{arith, append_assoc}
use Rattle.std.specs.Prelude.{All, ◌≢◌, sum_by}
use Rattle.std.specs.List.{range_with_len}
use Rattle.std.proofs.lemmas.Bool.Decides.{nat_tests}
use Rattle.std.proofs.lemmas.List.{append-nil, take-append-drop}
use Rattle.std.proofs.lemmas.List.Elements.{All-nil, All-cons, All-head, All-tail, All-append, filter-append, recursion_from_All}
use Rattle.std.proofs.lemmas.List.Sums.{sum_by-cons}
use Rattle.std.proofs.Math.Nat.{add-suc, suc-add}
use Rattle.std.proofs.Math.Path.{fun_ext}
use Rattle.std.proofs.Math.Seq.{take-append_seam, take-length}
use Rattle.bench_types.specs.declared.entry.Entry.{Entry}
use Rattle.bench_types.specs.declared.header.Header.{Header}
use Rattle.list_orders.specs.Search.{numbers}
use Rattle.list_orders.proofs.Filters.{filter_none, All-weaker}
use Rattle.bench_model.specs.History.{made_by, IsLegal, StartsWith, IsGrowthBy}
use Rattle.history_laws.proofs.Legal.{legal_parts}

-- beginnings of lists
module _ {X : Type 0} where
  pub begins_with_all : (items : List X) → StartsWith items items
  begins_with_all items = take-length items

  pub begins_with_first : (first second : List X) → StartsWith (first ++ second) first
  begins_with_first first second = take-append_seam first second

  -- what comes after a beginning
  pub split_at : (items first : List X) → StartsWith items first → items ≡ first ++ drop (length first) items
  split_at items first begins = sym (take-append-drop (length first) items) ∙ ap (λ front. front ++ drop (length first) items) begins

  pub begins_longer : (first second front : List X) → StartsWith first front → StartsWith (first ++ second) front
  begins_longer first second front begins =
      let rest = drop (length front) first in
      let whole : first ++ second ≡ front ++ (rest ++ second) = ap (λ items. items ++ second) (split_at first front begins) ∙ append_assoc front rest second in
      subst (λ items. StartsWith items front) (sym whole) (begins_with_first front (rest ++ second))

  pub begins_through : (items longer shorter : List X) → StartsWith items longer → StartsWith longer shorter → StartsWith items shorter
  begins_through items longer shorter one two = subst (λ items. StartsWith items shorter) (sym (split_at items longer one))
      (begins_longer longer (drop (length longer) items) shorter two)

legal_front : (header : Header) (first rest : List Entry) → IsLegal header (first ++ rest) → IsLegal header first
legal_front header first [] legal = subst (IsLegal header) (append-nil first) legal
legal_front header first (entry ∷ rest) legal = (legal_parts header first entry
    (legal_front header (first ++ entry ∷ []) rest (subst (IsLegal header) (sym (append_assoc first (entry ∷ []) rest)) legal))).0

pub beginning_legal : (header : Header) (entries first : List Entry) → IsLegal header entries → StartsWith entries first → IsLegal header first
beginning_legal header entries first legal begins = legal_front header first (drop (length first) entries)
    (subst (IsLegal header) (split_at entries first begins) legal)

pub made-append : (core : ℕ) (first second : List Entry) → made_by core (first ++ second) ≡ made_by core first ++ made_by core second
made-append core first second = filter-append (λ (entry : Entry). eqb entry.core core) first second

pub made-push : (core : ℕ) (entries : List Entry) (entry : Entry) → made_by core (entries ++ entry ∷ []) ≡ cond (eqb entry.core core)
    (made_by core entries ++ entry ∷ []) (made_by core entries)
made-push core entries entry = made-append core entries (entry ∷ []) ∙ at (eqb entry.core core)
  where
    at : (b : Bool) → made_by core entries ++ cond b (entry ∷ []) [] ≡ cond b (made_by core entries ++ entry ∷ []) (made_by core entries)
    at true = refl
    at false = append-nil (made_by core entries)

pub none_made : (core other : ℕ) (entries : List Entry) → core ≢ other → All (λ entry. entry.core ≡ core) entries → made_by other entries ≡ []
none_made core other entries apart all =
    filter_none (λ (entry : Entry). eqb entry.core other) entries
    (All-weaker (λ (entry : Entry). entry.core ≡ core) (λ (entry : Entry). eqb entry.core other ≡ false) (λ entry is. is_other entry.core is) entries
    (recursion_from_All (λ (entry : Entry). entry.core ≡ core) entries all))
  where
    is_other : (n : ℕ) → n ≡ core → eqb n other ≡ false
    is_other n is = grind (arith, nat_tests, is, apart)

pub no_growth : (core : ℕ) (entries : List Entry) → IsGrowthBy core entries entries
no_growth core entries = ([], (sym (append-nil entries), All-nil (λ (entry : Entry). entry.core ≡ core)))

pub one_growth : (entries : List Entry) (entry : Entry) → IsGrowthBy entry.core entries (entries ++ entry ∷ [])
one_growth entries entry = (
  entry ∷ [],
  (
    refl,
    All-cons (λ (other : Entry). other.core ≡ entry.core) entry [] refl
        (All-nil (λ (other : Entry). other.core ≡ entry.core)),
  ),
)

pub growth_through : (core : ℕ) (old middle new : List Entry) → IsGrowthBy core old middle → IsGrowthBy core middle new → IsGrowthBy core old new
growth_through core old middle new one two = (
  one.0 ++ two.0,
  (
    two.1.0 ∙ ap (λ front. front ++ two.0) one.1.0 ∙ append_assoc old one.0 two.0,
    All-append (λ (entry : Entry). entry.core ≡ core) one.0 two.0 one.1.1
        two.1.1,
  ),
)

pub others_stay : (core other : ℕ) (old new : List Entry) → IsGrowthBy core old new → core ≢ other → made_by other new ≡ made_by other old
others_stay core other old new growth apart =
    ap (made_by other) growth.1.0 ∙ made-append other old growth.0
    ∙ ap (λ rest. made_by other old ++ rest) (none_made core other growth.0 apart growth.1.1)
    ∙ append-nil (made_by other old)

pub growth_begins : (core : ℕ) (old new first : List Entry) → IsGrowthBy core old new → StartsWith old first → StartsWith new first
growth_begins core old new first growth begins = subst (λ entries. StartsWith entries first) (sym growth.1.0) (begins_longer old growth.0 first begins)

-- the number of one core is one more
abbrev one_more_of : ℕ → (ℕ → ℕ) → ℕ → ℕ
one_more_of core f k = cond (eqb core k) (suc (f k)) (f k)

-- a sum over other cores stays
sum_of_others : (f : ℕ → ℕ) (core a n : ℕ) → core < a → sum_by (one_more_of core f) (range_with_len a n) ≡ sum_by f (range_with_len a n)
sum_of_others f core a zero low = refl
sum_of_others f core a (suc n) low =
    let rest = range_with_len (a + 1) n in
    let miss : eqb core a ≡ false = grind (arith, nat_tests, low) in
    sum_by-cons (one_more_of core f) a rest
    ∙ ap (λ b. cond b (suc (f a)) (f a) + sum_by (one_more_of core f) rest) miss
    ∙ ap (λ sum. f a + sum) (sum_of_others f core (a + 1) n (omega arith))
    ∙ sym (sum_by-cons f a rest)

-- a sum over cores with this one among them is one more
sum_one_more : (f : ℕ → ℕ) (core a n : ℕ) → a ≤ core → core < a + n → sum_by (one_more_of core f) (range_with_len a n) ≡ suc (sum_by f (range_with_len a n))
sum_one_more f core a zero low below = absurd (omega arith)
sum_one_more f core a (suc n) low below =
    sum_by-cons (one_more_of core f) a (range_with_len (a + 1) n) ∙ at (eqb core a) refl (sum_one_more f core (a + 1) n) ∙ ap suc
    (sym (sum_by-cons f a (range_with_len (a + 1) n)))
  where
    at : (b : Bool) → eqb core a ≡ b → (a + 1 ≤ core → core < a + 1 + n → sum_by (one_more_of core f) (range_with_len (a + 1) n) ≡ suc
        (sum_by f (range_with_len (a + 1) n))) → cond b (suc (f a)) (f a) + sum_by (one_more_of core f) (range_with_len (a + 1) n) ≡ suc
        (f a + sum_by f (range_with_len (a + 1) n))
    at true is rest = ap (λ sum. suc (f a) + sum) (sum_of_others f core (a + 1) n (grind (arith, nat_tests, is))) ∙ suc-add (f a) _
    at false other rest = ap (λ sum. f a + sum) (rest (grind (arith, nat_tests, other, low)) (omega arith)) ∙ add-suc (f a) _

no_sum : (a n : ℕ) → sum_by (λ (k : ℕ). 0) (range_with_len a n) ≡ 0
no_sum a zero = refl
no_sum a (suc n) = no_sum (a + 1) n

length_made : (core : ℕ) (entry : Entry) (entries : List Entry) → length (made_by core (entry ∷ entries)) ≡ one_more_of entry.core
    (λ core. length (made_by core entries)) core
length_made core entry entries = at (eqb entry.core core)
  where
    at : (b : Bool) → length (cond b (entry ∷ made_by core entries) (made_by core entries)) ≡ cond b (suc (length (made_by core entries)))
        (length (made_by core entries))
    at true = refl
    at false = refl

pub cores_add : (cores : ℕ) (entries : List Entry) → All (λ entry. entry.core < cores) entries → sum_by (λ core. length (made_by core entries)) (numbers cores)
    ≡ length entries
cores_add cores [] below = no_sum 0 cores
cores_add cores (entry ∷ entries) below =
    let first : entry.core < cores = All-head (λ (entry : Entry). entry.core < cores) entry entries below in
    ap (λ f. sum_by f (numbers cores)) (fun_ext (λ core. length_made core entry entries))
    ∙ sum_one_more (λ core. length (made_by core entries)) entry.core 0 cores (omega arith) (omega arith)
    ∙ ap suc (cores_add cores entries (All-tail (λ (entry : Entry). entry.core < cores) entry entries below))
