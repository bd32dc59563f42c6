-- What the fields stand for after an item came to a list, and after one left it.
use Rattle.std.proofs.Common.{◌≡◌, ◌≢◌, ℕ, ◌+◌, ◌-◌, ◌<◌, Bool, true, false, not, eqb, ◌||◌, List, [], ◌∷◌, ◌++◌, length, map, set, get_or, Option, Some, None}
use Rattle.std.proofs.Common.{refl, sym, ap, subst, ◌∙◌, arith, get_or-set_other, get_or-set_same, length-set, length-append, inl, inr}
use Rattle.std.specs.List.{IsDistinct, AllByRecursion}
use Rattle.std.proofs.lemmas.Bool.{cases_eq, eqb-true}
use Rattle.std.proofs.lemmas.Bool.Decides.{nat_tests}
use Rattle.std.proofs.lemmas.List.{ext_get_or, get_or-map, length-map, map-append, map-set}
use Rattle.std.proofs.lemmas.List.Elements.{filter-append}
use Rattle.list_orders.specs.Search.{has}
use Rattle.list_orders.proofs.Filters.{list_any-append, All-append, All-both, All-weaker}
use Rattle.index_lists.specs.declared.links.Home.{Home}
use Rattle.index_lists.specs.Listed.{Listed, items_of, has_item, without_item}
use Rattle.index_lists.specs.Rings.{IsRing, first_or, last_or}
use Rattle.index_lists.specs.Shape.{home_at, is_home, StandFor}
use Rattle.index_lists.proofs.Paths.{ring_apart, ring_before, ring_next, ring_inserted, ring_spliced, has_last, has_first, distinct_inserted, distinct_spliced}
use Rattle.index_lists.proofs.Paths.{distinct_middle}
use Rattle.index_lists.proofs.Fields.{row_at, has-items_of, is_on, item_low, lens_at, on_low, on_one, ring_once, free_apart}

-- what holds of each list after one was exchanged
each_row : (P : ℕ → List Listed → Type 0) (lists : List (List Listed)) (l : ℕ) (row : List Listed) → l < length lists → P l row →
    ((k : ℕ) → k < length lists → k ≢ l → P k (row_at lists k)) → (k : ℕ) → k < length (set lists l row) → P k (row_at (set lists l row) k)
each_row P lists l row low here others k within = elim (cases_eq k l) [
  | inl same ↦ rw same (subst (P l) (sym (get_or-set_same lists l row [] low)) here)
  | inr apart ↦ subst (P k) (sym (get_or-set_other lists l k row [] apart)) (others k (omega (arith, within, length-set lists l row)) apart)
]

All_left : {X : Type 0} (P : X → Type 0) (xs ys : List X) → AllByRecursion P (xs ++ ys) → AllByRecursion P xs
All_left P [] ys all = tt
All_left P (x ∷ xs) ys all = (all.0, All_left P xs ys all.1)

All_right : {X : Type 0} (P : X → Type 0) (xs ys : List X) → AllByRecursion P (xs ++ ys) → AllByRecursion P ys
All_right P [] ys all = all
All_right P (x ∷ xs) ys all = All_right P xs ys all.1

on_left : (p end : ℕ) (xs ys : List ℕ) → has p (end ∷ xs) ≡ true → has p (end ∷ (xs ++ ys)) ≡ true
on_left p end xs ys there = grind (arith, there, list_any-append (λ m. eqb m p) xs ys)

on_right : (p end : ℕ) (xs ys : List ℕ) → has p (end ∷ ys) ≡ true → has p (end ∷ (xs ++ ys)) ≡ true
on_right p end xs ys there = grind (arith, there, list_any-append (λ m. eqb m p) xs ys)

pub items_of-append : (xs ys : List Listed) → items_of (xs ++ ys) ≡ items_of xs ++ items_of ys
items_of-append xs ys = map-append (λ (entry : Listed). entry.item) xs ys

-- ---- an item comes
module _ (items : ℕ) (named named_back : List ℕ) (homes : List (Option Home)) (lens : List ℕ) (lists : List (List Listed))
    (stand : StandFor items named named_back homes lens lists)
    (l item key : ℕ) (xs ys : List Listed) (low : l < length lists) (less : item < items) (free : home_at homes item ≡ None) (parts : row_at lists l ≡ xs ++ ys)
  where
    abbrev entry : Listed
    entry = record { item = item; key = key }

    abbrev home : Home
    home = record { list = l; key = key }

    abbrev end : ℕ
    end = items + l

    abbrev prev : ℕ
    prev = last_or (items + l) (items_of xs)

    abbrev next : ℕ
    next = first_or (items + l) (items_of ys)

    split : items_of (row_at lists l) ≡ items_of xs ++ items_of ys
    split = ap items_of parts ∙ items_of-append xs ys

    prev_on : is_on items named named_back homes lens lists stand l prev ≡ true
    prev_on = subst (λ zs. has prev (end ∷ zs) ≡ true) (sym split) (on_left prev end (items_of xs) (items_of ys) (has_last end (items_of xs)))

    next_on : is_on items named named_back homes lens lists stand l next ≡ true
    next_on = subst (λ zs. has next (end ∷ zs) ≡ true) (sym split) (on_right next end (items_of xs) (items_of ys) (has_first end (items_of ys)))

    pub prev_low : prev < items + length lists
    prev_low = on_low items named named_back homes lens lists stand l prev low prev_on

    pub next_low : next < items + length lists
    next_low = on_low items named named_back homes lens lists stand l next low next_on

    ring_here : IsRing (set (set named prev item) item next) (set (set named_back item prev) next item) end (items_of (xs ++ entry ∷ ys))
    ring_here = subst (IsRing (set (set named prev item) item next) (set (set named_back item prev) next item) end) (sym (items_of-append xs (entry ∷ ys)))
        (ring_inserted named named_back end (items_of xs) item (items_of ys)
        (subst (λ zs. IsDistinct eqb (end ∷ zs)) split (ring_once items named named_back homes lens lists stand l low))
        (subst (λ zs. has item (end ∷ zs) ≡ false) split (free_apart items named named_back homes lens lists stand l item low less free))
        (omega (arith, prev_low, stand.nodes)) (omega (arith, less, stand.nodes)) (omega (arith, next_low, stand.nodes_back))
        (omega (arith, less, stand.nodes_back))
        (subst (IsRing named named_back end) split (stand.rings l low)))

    ring_there : (k : ℕ) → k < length lists → k ≢ l → IsRing (set (set named prev item) item next) (set (set named_back item prev) next item) (items + k)
        (items_of (row_at lists k))
    ring_there k within apart =
        let mine = free_apart items named named_back homes lens lists stand k item within less free in
        let before = on_one items named named_back homes lens lists stand l k prev low within apart prev_on in
        let after = on_one items named named_back homes lens lists stand l k next low within apart next_on in
        ring_apart (set named prev item) (set named_back item prev) (items + k) item next next item (items_of (row_at lists k)) mine after
        (ring_apart named named_back (items + k) prev item item prev (items_of (row_at lists k)) before mine (stand.rings k within))

    stays : (i : ℕ) → i ≢ item → home_at (set homes item (Some home)) i ≡ home_at homes i
    stays i apart = get_or-set_other homes item i (Some home) None apart

    settled : home_at (set homes item (Some home)) item ≡ Some home
    settled = get_or-set_same homes item (Some home) None (omega (arith, less, stand.room))

    home_here : (i : ℕ) → has_item i (xs ++ entry ∷ ys) ≡ is_home (home_at (set homes item (Some home)) i) l
    home_here i = elim (cases_eq i item) [
      | inl same ↦ rw same (grind (arith, nat_tests, list_any-append (λ (e : Listed). eqb e.item item) xs (entry ∷ ys), ap (λ home. is_home home l) settled))
      | inr apart ↦ grind (
        arith,
        nat_tests,
        apart,
        list_any-append (λ (e : Listed). eqb e.item i) xs (entry ∷ ys),
        list_any-append (λ (e : Listed). eqb e.item i)
            xs ys,
        ap (has_item i) parts,
        stand.at_home i l low,
        ap (λ home. is_home home l) (stays i apart),
      )
    ]

    home_there : (k : ℕ) → k < length lists → k ≢ l → (i : ℕ) → has_item i (row_at lists k) ≡ is_home (home_at (set homes item (Some home)) i) k
    home_there k within apart i = elim (cases_eq i item) [
      | inl same ↦ rw same (grind (arith, nat_tests, apart, stand.at_home item k within, ap (λ home. is_home home k) free, ap (λ home. is_home home k) settled))
      | inr other ↦ stand.at_home i k within ∙ ap (λ home. is_home home k) (sym (stays i other))
    ]

    known : (k : ℕ) (e : Listed) → home_at homes e.item ≡ Some (record { list = k; key = e.key }) → home_at (set homes item (Some home)) e.item ≡ Some
        (record { list = k; key = e.key })
    known k e is = stays e.item (λ same. absurd (cc (ap (home_at homes) same, is, free))) ∙ is

    keys_here : AllByRecursion (λ e. home_at (set homes item (Some home)) e.item ≡ Some (record { list = l; key = e.key })) (xs ++ entry ∷ ys)
    keys_here =
        let P = λ (e : Listed). home_at homes e.item ≡ Some (record { list = l; key = e.key }) in
        let Q = λ (e : Listed). home_at (set homes item (Some home)) e.item ≡ Some (record { list = l; key = e.key }) in
        let all : AllByRecursion P (xs ++ ys) = subst (AllByRecursion P) parts (stand.keys l low) in
        All-append Q xs (entry ∷ ys) (All-weaker P Q (known l) xs (All_left P xs ys all)) (settled, All-weaker P Q (known l) ys (All_right P xs ys all))

    keys_there : (k : ℕ) → k < length lists → k ≢ l → AllByRecursion (λ e. home_at (set homes item (Some home)) e.item ≡ Some
        (record { list = k; key = e.key }))
        (row_at lists k)
    keys_there k within apart = All-weaker (λ e. home_at homes e.item ≡ Some (record { list = k; key = e.key }))
        (λ e. home_at (set homes item (Some home)) e.item ≡ Some (record { list = k; key = e.key })) (known k) (row_at lists k) (stand.keys k within)

    once_here : IsDistinct eqb (items_of (xs ++ entry ∷ ys))
    once_here =
        let away = free_apart items named named_back homes lens lists stand l item low less free in
        subst (IsDistinct eqb) (sym (items_of-append xs (entry ∷ ys)))
        (distinct_inserted (items_of xs) item (items_of ys) (subst (IsDistinct eqb) split (stand.once l low))
        (subst (λ zs. has item zs ≡ false) split (grind (arith, away))))

    within_lists : (i : ℕ) (h : Home) → home_at (set homes item (Some home)) i ≡ Some h → h.list < length (set lists l (xs ++ entry ∷ ys))
    within_lists i h is = elim (cases_eq i item) [
      | inl same ↦ let this : Some home ≡ Some h = sym settled ∙ ap (home_at (set homes item (Some home))) (sym same) ∙ is in let list : l ≡ h.list = cc (this)
          in
          omega (arith, list, low, length-set lists l (xs ++ entry ∷ ys))
      | inr apart ↦ omega (arith, stand.within i h (sym (stays i apart) ∙ is), length-set lists l (xs ++ entry ∷ ys))
    ]

    one_more : get_or lens l 0 + 1 ≡ length (xs ++ entry ∷ ys)
    one_more = omega (arith, lens_at items named named_back homes lens lists stand l low, ap length parts, length-append xs ys, length-append xs (entry ∷ ys))

    pub stand_inserted : StandFor items (set (set named prev item) item next) (set (set named_back item prev) next item) (set homes item (Some home))
        (set lens l (get_or lens l 0 + 1)) (set lists l (xs ++ entry ∷ ys))
    stand_inserted = record {
      rings = each_row (λ k row. IsRing (set (set named prev item) item next) (set (set named_back item prev) next item) (items + k) (items_of row)) lists l
          (xs ++ entry ∷ ys) low ring_here ring_there;
      at_home = λ i k within. each_row (λ k row. (i : ℕ) → has_item i row ≡ is_home (home_at (set homes item (Some home)) i) k) lists l (xs ++ entry ∷ ys) low
          home_here home_there k within i;
      keys = each_row (λ k row. AllByRecursion (λ e. home_at (set homes item (Some home)) e.item ≡ Some (record { list = k; key = e.key })) row) lists l
          (xs ++ entry ∷ ys) low keys_here keys_there;
      once = each_row (λ k row. IsDistinct eqb (items_of row)) lists l (xs ++ entry ∷ ys) low once_here (λ k within apart. stand.once k within);
      within = within_lists;
      counted = ap (λ n. set lens l n) one_more ∙ ap (λ ns. set ns l (length (xs ++ entry ∷ ys))) stand.counted ∙ sym
          (map-set length lists l (xs ++ entry ∷ ys));
      few = omega (arith, stand.few, length-set lists l (xs ++ entry ∷ ys));
      nodes = length-set (set named prev item) item next ∙ length-set named prev item ∙ stand.nodes ∙ ap (λ n. items + n)
          (sym (length-set lists l (xs ++ entry ∷ ys)));
      nodes_back = length-set (set named_back item prev) next item ∙ length-set named_back item prev ∙ stand.nodes_back ∙ ap (λ n. items + n)
          (sym (length-set lists l (xs ++ entry ∷ ys)));
      room = length-set homes item (Some home) ∙ stand.room;
    }

-- ---- an item goes
none_apart : (item : ℕ) (row : List Listed) → has_item item row ≡ false → AllByRecursion (λ e. e.item ≢ item) row
none_apart item [] away = tt
none_apart item (e ∷ row) away = (λ same. absurd (grind (arith, nat_tests, away, same)), none_apart item row (grind (arith, away)))

pub none_gone : (item : ℕ) (row : List Listed) → has_item item row ≡ false → without_item item row ≡ row
none_gone item [] away = refl
none_gone item (e ∷ row) away = grind (arith, away, none_gone item row)

pub has-parts : (item : ℕ) (xs ys : List Listed) → has_item item (xs ++ ys) ≡ (has_item item xs || has_item item ys)
has-parts item xs ys = list_any-append (λ (e : Listed). eqb e.item item) xs ys

-- an item of a list stands between some and some others
pub split_there : (item : ℕ) (row : List Listed) → has_item item row ≡ true → (xs ys : List Listed) × (key : ℕ) ×
    (row ≡ xs ++ record { item = item; key = key } ∷ ys)
split_there item [] there = absurd (cc)
split_there item (e ∷ row) there = at (eqb e.item item) refl (split_there item row)
  where
    at : (b : Bool) → eqb e.item item ≡ b → (has_item item row ≡ true → (xs ys : List Listed) × (key : ℕ) ×
        (row ≡ xs ++ record { item = item; key = key } ∷ ys)) → (xs ys : List Listed) × (key : ℕ) × (e ∷ row ≡ xs ++ record { item = item; key = key } ∷ ys)
    at true same rest = ([], row, e.key, ap (λ i. record { item = i; key = e.key } ∷ row) (eqb-true e.item item same))
    at false other rest = let later = rest (grind (arith, there, other)) in (e ∷ later.0, later.1, later.2, ap (λ es. e ∷ es) later.3)

module _ (items : ℕ) (named named_back : List ℕ) (homes : List (Option Home)) (lens : List ℕ) (lists : List (List Listed))
    (stand : StandFor items named named_back homes lens lists)
    (l item key : ℕ) (xs ys : List Listed) (low : l < length lists) (parts : row_at lists l ≡ xs ++ record { item = item; key = key } ∷ ys) where
  abbrev gone : Listed
  gone = record { item = item; key = key }

  abbrev tail_end : ℕ
  tail_end = items + l

  abbrev before : ℕ
  before = last_or (items + l) (items_of xs)

  abbrev after : ℕ
  after = first_or (items + l) (items_of ys)

  cut : items_of (row_at lists l) ≡ items_of xs ++ item ∷ items_of ys
  cut = ap items_of parts ∙ items_of-append xs (gone ∷ ys)

  ring : IsRing named named_back tail_end (items_of xs ++ item ∷ items_of ys)
  ring = subst (IsRing named named_back tail_end) cut (stand.rings l low)

  pub stands_before : get_or named_back item 0 ≡ before
  stands_before = ring_before named named_back tail_end (items_of xs) (item ∷ items_of ys) ring

  pub stands_after : get_or named item 0 ≡ after
  stands_after = ring_next named named_back tail_end (items_of xs) item (items_of ys) ring

  distinct : IsDistinct eqb (tail_end ∷ (items_of xs ++ item ∷ items_of ys))
  distinct = subst (λ zs. IsDistinct eqb (tail_end ∷ zs)) cut (ring_once items named named_back homes lens lists stand l low)

  before_on : is_on items named named_back homes lens lists stand l before ≡ true
  before_on = subst (λ zs. has before (tail_end ∷ zs) ≡ true) (sym cut) (on_left before tail_end (items_of xs) (item ∷ items_of ys)
      (has_last tail_end (items_of xs)))

  after_on : is_on items named named_back homes lens lists stand l after ≡ true
  after_on = subst (λ zs. has after (tail_end ∷ zs) ≡ true) (sym cut) (on_right after tail_end (items_of xs) (item ∷ items_of ys)
      (later after tail_end (items_of ys) (has_first tail_end (items_of ys))))
    where
      later : (p end : ℕ) (zs : List ℕ) → has p (end ∷ zs) ≡ true → has p (end ∷ item ∷ zs) ≡ true
      later p end zs there = grind (arith, there)

  pub before_low : before < items + length lists
  before_low = on_low items named named_back homes lens lists stand l before low before_on

  pub after_low : after < items + length lists
  after_low = on_low items named named_back homes lens lists stand l after low after_on

  cut_here : IsRing (set named before after) (set named_back after before) tail_end (items_of (xs ++ ys))
  cut_here = subst (IsRing (set named before after) (set named_back after before) tail_end) (sym (items_of-append xs ys))
      (ring_spliced named named_back tail_end (items_of xs) item (items_of ys) (distinct_spliced (tail_end ∷ items_of xs) item (items_of ys) distinct)
      (omega (arith, before_low, stand.nodes)) (omega (arith, after_low, stand.nodes_back)) ring)

  cut_there : (k : ℕ) → k < length lists → k ≢ l → IsRing (set named before after) (set named_back after before) (items + k) (items_of (row_at lists k))
  cut_there k within apart =
      ring_apart named named_back (items + k) before after after before (items_of (row_at lists k))
      (on_one items named named_back homes lens lists stand l k before low within apart before_on)
      (on_one items named named_back homes lens lists stand l k after low within apart after_on) (stand.rings k within)

  lone : IsDistinct eqb (items_of xs ++ item ∷ items_of ys)
  lone = subst (IsDistinct eqb) cut (stand.once l low)

  not_left : has_item item (xs ++ ys) ≡ false
  not_left = sym (has-items_of item (xs ++ ys)) ∙ ap (has item) (items_of-append xs ys) ∙ distinct_middle (items_of xs) item (items_of ys) lone

  pub left_apart : has_item item xs ≡ false
  left_apart = grind (arith, not_left, has-parts item xs ys)

  lives : has_item item (row_at lists l) ≡ true
  lives = ap (has_item item) parts ∙ grind (arith, nat_tests, has-parts item xs (gone ∷ ys))

  not_there : (k : ℕ) → k < length lists → k ≢ l → has_item item (row_at lists k) ≡ false
  not_there k within apart =
      let on = on_one items named named_back homes lens lists stand l k item low within apart (grind (arith, lives, has-items_of item (row_at lists l))) in
      grind (arith, on, has-items_of item (row_at lists k))

  item_less : item < items
  item_less = item_low items named named_back homes lens lists stand l item low lives

  left_alone : (i : ℕ) → i ≢ item → home_at (set homes item None) i ≡ home_at homes i
  left_alone i apart = get_or-set_other homes item i None None apart

  left : home_at (set homes item None) item ≡ None
  left = get_or-set_same homes item None None (omega (arith, item_less, stand.room))

  left_here : (i : ℕ) → has_item i (xs ++ ys) ≡ is_home (home_at (set homes item None) i) l
  left_here i = elim (cases_eq i item) [
    | inl same ↦ rw same (not_left ∙ ap (λ home. is_home home l) (sym left))
    | inr apart ↦ grind (
      arith,
      nat_tests,
      apart,
      has-parts i xs ys,
      has-parts i xs (gone ∷ ys),
      ap (has_item i) parts,
      stand.at_home i l low,
      ap
          (λ home. is_home home l) (left_alone i apart),
    )
  ]

  left_there : (k : ℕ) → k < length lists → k ≢ l → (i : ℕ) → has_item i (row_at lists k) ≡ is_home (home_at (set homes item None) i) k
  left_there k within apart i = elim (cases_eq i item) [
    | inl same ↦ rw same (not_there k within apart ∙ ap (λ home. is_home home k) (sym left))
    | inr other ↦ stand.at_home i k within ∙ ap (λ home. is_home home k) (sym (left_alone i other))
  ]

  still_known : (k : ℕ) (row : List Listed) → has_item item row ≡ false → AllByRecursion (λ e. home_at homes e.item ≡ Some (record { list = k; key = e.key }))
      row → AllByRecursion (λ e. home_at (set homes item None) e.item ≡ Some (record { list = k; key = e.key })) row
  still_known k row away all =
      All-weaker (λ e. (e.item ≢ item) × (home_at homes e.item ≡ Some (record { list = k; key = e.key })))
      (λ e. home_at (set homes item None) e.item ≡ Some (record { list = k; key = e.key })) (λ e h. left_alone e.item h.0 ∙ h.1) row
      (All-both (λ e. e.item ≢ item) (λ e. home_at homes e.item ≡ Some (record { list = k; key = e.key })) row (none_apart item row away) all)

  keys_left : AllByRecursion (λ e. home_at (set homes item None) e.item ≡ Some (record { list = l; key = e.key })) (xs ++ ys)
  keys_left =
      let P = λ (e : Listed). home_at homes e.item ≡ Some (record { list = l; key = e.key }) in
      let all : AllByRecursion P (xs ++ gone ∷ ys) = subst (AllByRecursion P) parts (stand.keys l low) in
      still_known l (xs ++ ys) not_left (All-append P xs ys (All_left P xs (gone ∷ ys) all) (All_right P xs (gone ∷ ys) all).1)

  homes_within : (i : ℕ) (h : Home) → home_at (set homes item None) i ≡ Some h → h.list < length (set lists l (xs ++ ys))
  homes_within i h is = elim (cases_eq i item) [
    | inl same ↦ absurd (cc (left, ap (home_at (set homes item None)) same, is))
    | inr apart ↦ omega (arith, stand.within i h (sym (left_alone i apart) ∙ is), length-set lists l (xs ++ ys))
  ]

  pub one_there : get_or lens l 0 ≡ length (xs ++ ys) + 1
  one_there = omega (arith, lens_at items named named_back homes lens lists stand l low, ap length parts, length-append xs ys, length-append xs (gone ∷ ys))

  one_less : get_or lens l 0 - 1 ≡ length (xs ++ ys)
  one_less = omega (arith, one_there)

  stand_without : StandFor items (set named before after) (set named_back after before) (set homes item None) (set lens l (get_or lens l 0 - 1))
      (set lists l (xs ++ ys))
  stand_without = record {
    rings = each_row (λ k row. IsRing (set named before after) (set named_back after before) (items + k) (items_of row)) lists l (xs ++ ys) low cut_here
        cut_there;
    at_home = λ i k within. each_row (λ k row. (i : ℕ) → has_item i row ≡ is_home (home_at (set homes item None) i) k) lists l (xs ++ ys) low left_here
        left_there k within i;
    keys = each_row (λ k row. AllByRecursion (λ e. home_at (set homes item None) e.item ≡ Some (record { list = k; key = e.key })) row) lists l (xs ++ ys) low
        keys_left (λ k within apart. still_known k (row_at lists k) (not_there k within apart) (stand.keys k within));
    once = each_row (λ k row. IsDistinct eqb (items_of row)) lists l (xs ++ ys) low
        (subst (IsDistinct eqb) (sym (items_of-append xs ys)) (distinct_spliced (items_of xs) item (items_of ys) lone)) (λ k within apart. stand.once k within);
    within = homes_within;
    counted = ap (λ n. set lens l n) one_less ∙ ap (λ ns. set ns l (length (xs ++ ys))) stand.counted ∙ sym (map-set length lists l (xs ++ ys));
    few = omega (arith, stand.few, length-set lists l (xs ++ ys));
    nodes = length-set named before after ∙ stand.nodes ∙ ap (λ n. items + n) (sym (length-set lists l (xs ++ ys)));
    nodes_back = length-set named_back after before ∙ stand.nodes_back ∙ ap (λ n. items + n) (sym (length-set lists l (xs ++ ys)));
    room = length-set homes item None ∙ stand.room;
  }

  -- the list that it left is the one that changed
  pub gone_from : set lists l (xs ++ ys) ≡ map (without_item item) lists
  gone_from = ext_get_or [] (set lists l (xs ++ ys)) (map (without_item item) lists)
      (length-set lists l (xs ++ ys) ∙ sym (length-map lists (without_item item)))
      (λ k within. each_row (λ k row. row ≡ row_at (map (without_item item) lists) k) lists l (xs ++ ys) low
      (here ∙ sym (get_or-map (without_item item) lists l [] [] low))
      (λ k inside apart. sym (none_gone item (row_at lists k) (not_there k inside apart)) ∙ sym (get_or-map (without_item item) lists k [] [] inside)) k within)
    where
      here : xs ++ ys ≡ without_item item (row_at lists l)
      here =
          let others = has-parts item xs ys in
          sym (ap (without_item item) parts ∙ filter-append (λ (e : Listed). not (eqb e.item item)) xs (gone ∷ ys)
          ∙ grind (arith, nat_tests, not_left, others, none_gone item xs, none_gone item ys))

  pub stand_removed : StandFor items (set named before after) (set named_back after before) (set homes item None) (set lens l (get_or lens l 0 - 1))
      (map (without_item item) lists)
  stand_removed = subst (StandFor items (set named before after) (set named_back after before) (set homes item None) (set lens l (get_or lens l 0 - 1)))
      gone_from stand_without
