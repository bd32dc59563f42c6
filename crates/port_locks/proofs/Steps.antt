-- Each step of a lock pair keeps its rule.
use Rattle.std.proofs.Common.{◌≡◌, ◌≢◌, ℕ, ◌+◌, ◌==◌, eqb, List, [], ◌∷◌, length, get_or, set, Bool, true, false, true≢false, Option, Some, None, option_map}
use Rattle.std.proofs.Common.{unwrap_or, refl, sym, ap, ◌∙◌, subst, ⊎_elim, arith, eq-eqb, ne_eqb}
use Rattle.std.proofs.lemmas.Bool.Decides.{nat_tests}
use Rattle.atomic_table.proofs.Lists.{set_again}
use Rattle.std.specs.List.{All}
use mathlib.Core.Logic.{dite}
use mathlib.Core.Option as maybe
use native.Mathlib.Decide.{ℕ_discrete}
use lib.ListN.{get_elem?}
use lib.Seq.{set-get_or}
use prog.Atomic.{either}
use Rattle.atomic_table.specs.Table.{State, Me, Act, step, keeps, takes, gives, stepped, Allows, rest}
use Rattle.bench_types.specs.declared.header.Header.{Header}
use Rattle.bench_types.specs.declared.kernel_data.Hold.{Hold}
use Rattle.bench_types.specs.declared.entry.Entry.{Entry}
use Rattle.port_locks.specs.declared.view.About.{About}
use Rattle.port_locks.specs.declared.view.Terms.{Terms}
use Rattle.port_locks.specs.declared.view.View.{View}
use Rattle.bench_model.specs.History.{StartsWith, IsLegal, IsGrowthBy}
use Rattle.port_locks.specs.Holds.{hold_after, holder_after, own_hold}
use Rattle.port_locks.specs.Locks.{PairState, IsHeard, Fits, FitsIfKept, AllFit, AllPlaced, IsHome, Locked}
use Rattle.port_locks.specs.Steps.{entered, noted, Finds, MayHold, MayFollow, took_interrupt, published, freed_interrupt, took_task, freed_task}
use Rattle.port_locks.proofs.Alike.{Alike, all_alike, fits_alike, views_stay}
use Rattle.port_locks.proofs.Placed.{stay_placed, names_interrupt, names_task}
use Rattle.history_laws.proofs.Parts.{begins_with_all, growth_begins, others_stay}

-- a number that lies elsewhere is another
pub elsewhere : (p : PairState) (id seat n m : ℕ) (b c : Bool) → p.place n ≡ (id, b)
    → p.place m ≡ (seat, c) → seat ≢ id → m ≢ n
elsewhere p id seat n m b c here there apart same =
    apart (ap (λ (x : ℕ × Bool). x.0) (sym there ∙ (ap p.place same ∙ here)))

-- the number of a seat is none that it was told of
pub not_heard : (p : PairState) (id n m : ℕ) → p.place n ≡ (id, true) → p.place m ≡ (id, false)
    → m ≢ n
not_heard p id n m here there same =
    true≢false (ap (λ (x : ℕ × Bool). x.1) (sym here ∙ (sym (ap p.place same) ∙ there)))

apart_succ : (m n : ℕ) → m ≢ n → (n + 1 == m + 1) ≡ false
apart_succ m n other = ne_eqb (n + 1) (m + 1) (λ e. other (omega arith))

zero_succ : (n : ℕ) → (0 == n + 1) ≡ false
zero_succ n = ne_eqb 0 (n + 1) (λ e. omega arith)

not_true : (b : Bool) → (b ≡ true → ⊥) → b ≡ false
not_true true never = absurd (never refl)
not_true false never = refl

-- a pair whose interrupt word or whose value moved in the hands of the owner number
owner_moves : (p : PairState) (number next : ℕ) (out : Bool)
    → ((n : ℕ) → n ≢ number → (p.interrupt == n + 1) ≡ false)
    → ((n : ℕ) → n ≢ number → (next == n + 1) ≡ false)
    → Alike p (record p { interrupt = next; out = out }) (λ n. n ≢ number)
owner_moves p number next out before after = record {
  terms = refl;
  place = λ n _. refl;
  given = omega arith;
  first = λ _. refl;
  interrupt = λ n other. after n other ∙ sym (before n other);
  task = λ n _. refl;
  owner = λ n other own. absurd (true≢false (sym own ∙ before n other));
  history = begins_with_all p.history;
  made = λ n _. refl;
  hold = λ n _. refl;
}

-- the same of the task word
task_moves : (p : PairState) (number next : ℕ)
    → ((n : ℕ) → n ≢ number → (p.task == n + 1) ≡ false)
    → ((n : ℕ) → n ≢ number → (next == n + 1) ≡ false)
    → Alike p (record p { task = next }) (λ n. n ≢ number)
task_moves p number next before after = record {
  terms = refl;
  place = λ n _. refl;
  given = omega arith;
  first = λ _. refl;
  interrupt = λ n _. refl;
  task = λ n other. after n other ∙ sym (before n other);
  owner = λ n _ _. (refl, refl);
  history = begins_with_all p.history;
  made = λ n _. refl;
  hold = λ n _. refl;
}

may_hold : (task number : ℕ) (owns : Bool) (holder : Option ℕ) → (task == number + 1) ≡ owns
    → ((core : ℕ) → holder ≡ Some core → task ≡ core + 1) → MayHold owns number holder
may_hold task number true holder is all = λ core held.
    let one : task ≡ number + 1 = grind (arith, nat_tests) in
    let other : task ≡ core + 1 = all core held in
    omega arith
may_hold task number false holder is all =
    λ held. true≢false (sym (eq-eqb task (number + 1) (all number held)) ∙ is)

-- what a seat finds when it takes the interrupt word
finds : (p : PairState) (id : ℕ) (v : View) → Fits p id v → IsLegal p.terms.header p.history
    → ((core : ℕ) → holder_after p.terms.header p.history ≡ Some core → p.task ≡ core + 1)
    → Finds p.terms v.number v.owns_task v.seen v.made p.history
finds p id v f legal hold = record {
  legal = legal;
  begins = f.seen;
  entries = f.made;
  hold = f.hold;
  holder = may_hold p.task v.number v.owns_task (holder_after p.terms.header p.history) f.task hold;
}

-- the owner's number, where a word has an owner
owner_is : (word number : ℕ) → (word == number + 1) ≡ true → word ≡ number + 1
owner_is word number is = grind (arith, nat_tests)

pub own_hold_of_other : (n m : ℕ) (hold : Option Hold) → n ≢ m
    → ((core : ℕ) → option_map (λ (h : Hold). h.core) hold ≡ Some core → core ≡ m)
    → own_hold n hold ≡ None
own_hold_of_other n m None other all = refl
own_hold_of_other n m (Some h) other all =
    rw (ne_eqb h.core n (λ same. other (sym same ∙ all h.core refl))) refl

own_hold_open : (n : ℕ) (hold : Option Hold)
    → option_map (λ (h : Hold). h.core) hold ≡ Some n → own_hold n hold ≡ None → ⊥
own_hold_open n None is shut = cc is
own_hold_open n (Some h) is shut =
    let same : h.core ≡ n = cc is in
    let kept : own_hold n (Some h) ≡ Some h = rw (eq-eqb h.core n same) refl in
    cc (sym kept ∙ shut)

set_only : {A : Type 0} (l : List A) (a : A) → length l ≡ 1 → set l 0 a ≡ a ∷ []
set_only [] a one = absurd (omega arith)
set_only (x ∷ []) a one = refl
set_only (x ∷ y ∷ ys) a one = absurd (omega arith)

-- the value in hand
abbrev hand : {V : Type 0} → V → List (ℕ × Option V) → V
hand value [] = value
hand value (x ∷ xs) = unwrap_or x.1 value

-- what is put back leaves the holds of other cores
others_hold : (p : PairState) (id : ℕ) (v : View) (new : List Entry) → Fits p id v
    → v.seen ≡ p.history
    → MayFollow v.terms v.number v.owns_task v.seen new
    → ((core : ℕ) → holder_after p.terms.header p.history ≡ Some core → p.task ≡ core + 1)
    → ((core : ℕ) → holder_after p.terms.header new ≡ Some core → p.task ≡ core + 1)
    × ((n : ℕ) → n ≢ v.number
    → own_hold n (hold_after p.terms.header new)
    ≡ own_hold n (hold_after p.terms.header p.history))
others_hold p id v new f seen may hold =
    let header = p.terms.header in
    let same_header : v.terms.header ≡ header = ap (λ t. t.header) f.terms in
    ⊎_elim
    (λ (same : hold_after v.terms.header new ≡ hold_after v.terms.header v.seen).
    let kept : hold_after header new ≡ hold_after header p.history =
    subst
    (λ (x : Header × List Entry). hold_after x.0 new ≡ hold_after x.0 x.1)
    (λ i. (same_header i, seen i)) same in (
      (λ core held. hold core (sym (ap (option_map (λ h. h.core)) kept) ∙ held)),
      (λ n other. ap (own_hold n) kept),
    ))
    (λ (own : (v.owns_task ≡ true)
    × ((core : ℕ) → holder_after v.terms.header new ≡ Some core → core ≡ v.number)).
    let mine : p.task ≡ v.number + 1 = owner_is p.task v.number (f.task ∙ own.0) in
    let news : (core : ℕ) → holder_after header new ≡ Some core → core ≡ v.number =
    subst
    (λ (h : Header). (core : ℕ) → holder_after h new ≡ Some core → core ≡ v.number)
    same_header own.1 in
    let olds : (core : ℕ) → holder_after header p.history ≡ Some core → core ≡ v.number =
    λ core held. (let is : p.task ≡ core + 1 = hold core held in omega arith) in (
      (λ core held. let is : core ≡ v.number = news core held in omega arith),
      (λ n other.
          own_hold_of_other n v.number (hold_after header new) other news
          ∙ sym (own_hold_of_other n v.number (hold_after header p.history) other olds)),
    ))
    may.hold

module _ {V : Type 0} (terms_of : V → Terms) (list_of : V → List Entry) (key : About V) where
  abbrev Rule : State (Option V) View → Type 0
  Rule = Locked terms_of list_of key

  pub same_home : (p q : PairState) (slots : List (maybe.Option (Option V))) → q.terms ≡ p.terms
      → q.history ≡ p.history → IsHome terms_of list_of p slots
      → IsHome terms_of list_of q slots
  same_home p q slots terms history home = record {
    value = home.value;
    slot = home.slot;
    terms = home.terms ∙ sym terms;
    list = home.list ∙ sym history;
  }

  others : (s : State (Option V) View) (r : Rule s) (id : ℕ) (v : View) → Fits r.p id v
      → (q : PairState) → Alike r.p q (λ n. n ≢ v.number)
      → (seat : ℕ) (u : View) → seat ≢ id → get_elem? s.views seat ≡ maybe.some u
      → FitsIfKept q seat u
  others s r id v f q a seat u apart at kept =
      fits_alike r.p q (λ n. n ≢ v.number) a seat u
      (λ n b less there. elsewhere r.p id seat v.number n true b f.place there apart)
      (r.views seat u at kept)

  own_heard : (p q : PairState) (id : ℕ) (v : View) → Fits p id v
      → Alike p q (λ n. n ≢ v.number) → All (IsHeard q id) v.heard
  own_heard p q id v f a =
      all_alike p q (λ n. n ≢ v.number) a id v.heard
      (λ t is. not_heard p id v.number t.number f.place is.place) f.heard

  -- a step at which nothing changes
  unmoved : (s : State (Option V) View) → Rule s → (word id : ℕ) (v : View)
      → get_elem? s.views id ≡ maybe.some v
      → Rule (stepped s word (get_or s.words word 0) id [] v keeps)
  unmoved s r word id v at =
      subst Rule
      (λ i. record {
        words = sym (set-get_or s.words word 0) i;
        homes = s.homes;
        views = sym (set_again s.views id v at) i;
      })
      r

  pub takes_interrupt : (slots id : ℕ) (v : View) → v.spent ≡ false → v.owns_interrupt ≡ false
      → Allows Rule slots id (v, []) 1 (λ n. either (eqb n 0) (v.number + 1) n)
      (took_interrupt terms_of list_of (step slots 1 0 (v.number + 1) maybe.none) (v, []))
  takes_interrupt slots id v kept free s r wide at small =
      let fits = r.views id v at kept in
      let here : get_or s.words 1 0 ≡ r.p.interrupt = ap (λ ws. get_or ws 1 0) r.words in
      dite (ℕ_discrete (get_or s.words 1 0) 0)
      (λ zero.
      let was : r.p.interrupt ≡ 0 = sym here ∙ zero in
      let home = r.home (not_true r.p.out (λ out. r.owned out was)) in
      let value : V = home.value in
      let w = entered v (list_of value) in
      let act : Act (Option V) = takes 0 (Some value) in
      let q : PairState = record r.p { interrupt = v.number + 1; out = true } in
      let a : Alike r.p q (λ n. n ≢ v.number) =
      owner_moves r.p v.number (v.number + 1) true
      (λ n other. ap (λ i. i == n + 1) was ∙ zero_succ n)
      (λ n other. apart_succ n v.number other) in
      let mine : Fits q id w = record {
        place = fits.place;
        below = fits.below;
        terms = fits.terms;
        interrupt = eq-eqb (v.number + 1) (v.number + 1) refl;
        holds = λ free. absurd (true≢false free);
        owner = λ _. (home.list, refl);
        task = fits.task;
        seen =
            subst (λ (es : List Entry). StartsWith r.p.history es) (sym home.list)
            (begins_with_all r.p.history);
        made = fits.made;
        hold =
            ap (λ (es : List Entry). own_hold v.number (hold_after r.p.terms.header es)) home.list;
        first = fits.first;
        heard = own_heard r.p q id v fits a;
        heard_once = fits.heard_once;
      } in
      let views : AllFit q (set s.views id w) =
      views_stay (FitsIfKept q) s.views id w (λ _. mine) (others s r id v fits q a) in
      let placed : AllPlaced q (set s.views id w) =
      stay_placed q s.views id v w at kept refl refl r.placed in
      let rule : Rule (stepped s 1 (v.number + 1) id [] w act) = record {
        p = q;
        terms = r.terms;
        words = ap (λ ws. set ws 1 (v.number + 1)) r.words;
        home = λ out. absurd (true≢false out);
        away = λ _. ap (λ hs. set hs 0 maybe.none) home.slot;
        owned = λ _ e. absurd (omega arith);
        legal = r.legal;
        start = r.start;
        hold = r.hold;
        interrupt_given = let less = fits.below in omega arith;
        task_given = r.task_given;
        some_given = r.some_given;
        few_given = r.few_given;
        not_given = r.not_given;
        views = views;
        placed = placed;
        interrupt_owner = names_interrupt q (set s.views id w) views placed (let less = fits.below in omega arith);
        task_owner = names_task q (set s.views id w) views placed (r.task_given);
      } in
      let found : Finds v.terms v.number v.owns_task v.seen v.made (list_of value) =
      subst
      (λ (x : Terms × List Entry). Finds x.0 v.number v.owns_task v.seen v.made x.1)
      (λ i. (sym fits.terms i, sym home.list i)) (finds r.p id v fits r.legal r.hold) in (
        w,
        act,
        ap (λ hs. get_elem? hs 0) home.slot,
        subst
            (λ b. Rule (stepped s 1 (either b (v.number + 1) (get_or s.words 1 0)) id [] w act))
            (sym (eq-eqb (get_or s.words 1 0) 0 zero)) rule,
        ((λ _. (value, home.terms ∙ sym fits.terms, refl, found)), λ more. absurd (more zero)),
      ))
      (λ more. (
        v,
        keeps,
        tt,
        subst
            (λ b. Rule (stepped s 1 (either b (v.number + 1) (get_or s.words 1 0)) id [] v keeps))
            (sym (ne_eqb (get_or s.words 1 0) 0 more)) (unmoved s r 1 id v at),
        ((λ zero. absurd (more zero)), λ _. refl),
      ))

  -- the owner of the interrupt word puts the value back
  pub publishes : (slots id : ℕ) (v : View) (value : V) (n : ℕ) → slots ≡ 1 → v.spent ≡ false
      → v.owns_interrupt ≡ true → n ≡ length (list_of value) → terms_of value ≡ v.terms
      → IsLegal v.terms.header (list_of value)
      → MayFollow v.terms v.number v.owns_task v.seen (list_of value)
      → Allows Rule slots id (v, (0, Some value) ∷ []) 0 (λ _. n)
      (λ _. published terms_of list_of (step slots 0 n 0 maybe.none)
      (v, (0, Some value) ∷ []) n)
  publishes slots id v value n one kept own count terms legal may s r wide at small =
      let fits = r.views id v at kept in
      let mine_is : r.p.interrupt ≡ v.number + 1 =
      owner_is r.p.interrupt v.number (fits.interrupt ∙ own) in
      let seen : v.seen ≡ r.p.history = (fits.owner own).0 in
      let new : List Entry = list_of value in
      let growth : IsGrowthBy v.number r.p.history new =
      subst (λ es. IsGrowthBy v.number es new) seen may.growth in
      let holds = others_hold r.p id v new fits seen may r.hold in
      let q : PairState = record r.p { history = new; out = false } in
      let a : Alike r.p q (λ n. n ≢ v.number) = record {
        terms = refl;
        place = λ m _. refl;
        given = omega arith;
        first = λ _. refl;
        interrupt = λ m _. refl;
        task = λ m _. refl;
        owner = λ m other is.
            absurd (true≢false (sym is ∙ (ap (λ i. i == m + 1) mine_is ∙ apart_succ m v.number other)));
        history = growth_begins v.number r.p.history new r.p.history growth
            (begins_with_all r.p.history);
        made = λ m other. others_stay v.number m r.p.history new growth (λ same. other (sym same));
        hold = holds.1;
      } in
      let w = noted v new in
      let mine : Fits q id w = record {
        place = fits.place;
        below = fits.below;
        terms = fits.terms;
        interrupt = fits.interrupt;
        holds = λ _. refl;
        owner = λ _. (refl, refl);
        task = fits.task;
        seen = begins_with_all new;
        made = refl;
        hold = refl;
        first = fits.first;
        heard = own_heard r.p q id v fits a;
        heard_once = fits.heard_once;
      } in
      let views : AllFit q (set s.views id w) =
      views_stay (FitsIfKept q) s.views id w (λ _. mine) (others s r id v fits q a) in
      let placed : AllPlaced q (set s.views id w) =
      stay_placed q s.views id v w at kept refl refl r.placed in
      let rule : Rule (stepped s 0 n id ((0, Some value) ∷ []) w gives) = record {
        p = q;
        terms = r.terms;
        words =
            ap (λ ws. set ws 0 n) r.words
            ∙ ap (λ m. m ∷ r.p.interrupt ∷ r.p.task ∷ []) count;
        home = λ _. record {
          value = value;
          slot = set_only s.homes (maybe.some (Some value)) (wide ∙ one);
          terms = terms ∙ fits.terms;
          list = refl;
        };
        away = λ out. absurd (true≢false (sym out));
        owned = λ out. absurd (true≢false (sym out));
        legal = subst (λ (t : Terms). IsLegal t.header new) fits.terms legal;
        start = r.start;
        hold = holds.0;
        interrupt_given = r.interrupt_given;
        task_given = r.task_given;
        some_given = r.some_given;
        few_given = r.few_given;
        not_given = λ m over.
            others_stay v.number m r.p.history new growth
            (λ same. let less = fits.below in omega arith)
            ∙ r.not_given m over;
        views = views;
        placed = placed;
        interrupt_owner = names_interrupt q (set s.views id w) views placed (r.interrupt_given);
        task_owner = names_task q (set s.views id w) views placed (r.task_given);
      } in (
        w,
        gives,
        tt,
        rule,
        λ value' e.
            let same : value ≡ value' = ap (hand value) e in ap (λ x. (noted v (list_of x), [])) same,
      )

  pub frees_interrupt : (slots id : ℕ) (v : View) → v.spent ≡ false → v.owns_interrupt ≡ true
      → v.holds ≡ false
      → Allows Rule slots id (v, []) 1 (λ _. 0)
      (λ _. freed_interrupt (step slots 1 0 0 maybe.none) (v, []) 0)
  frees_interrupt slots id v kept own back s r wide at small =
      let fits = r.views id v at kept in
      let mine_is : r.p.interrupt ≡ v.number + 1 =
      owner_is r.p.interrupt v.number (fits.interrupt ∙ own) in
      let home : r.p.out ≡ false = sym (fits.owner own).1 ∙ back in
      let q : PairState = record r.p { interrupt = 0; out = r.p.out } in
      let a : Alike r.p q (λ n. n ≢ v.number) =
      owner_moves r.p v.number 0 r.p.out
      (λ n other. ap (λ i. i == n + 1) mine_is ∙ apart_succ n v.number other)
      (λ n _. zero_succ n) in
      let w = record v { owns_interrupt = false } in
      let mine : Fits q id w = record {
        place = fits.place;
        below = fits.below;
        terms = fits.terms;
        interrupt = zero_succ v.number;
        holds = λ _. back;
        owner = λ owns. absurd (true≢false (sym owns));
        task = fits.task;
        seen = fits.seen;
        made = fits.made;
        hold = fits.hold;
        first = fits.first;
        heard = own_heard r.p q id v fits a;
        heard_once = fits.heard_once;
      } in
      let views : AllFit q (set s.views id w) =
      views_stay (FitsIfKept q) s.views id w (λ _. mine) (others s r id v fits q a) in
      let placed : AllPlaced q (set s.views id w) =
      stay_placed q s.views id v w at kept refl refl r.placed in
      let rule : Rule (stepped s 1 0 id [] w keeps) = record {
        p = q;
        terms = r.terms;
        words = ap (λ ws. set ws 1 0) r.words;
        home = λ out. same_home r.p q s.homes refl refl (r.home out);
        away = r.away;
        owned = λ out. absurd (true≢false (sym out ∙ home));
        legal = r.legal;
        start = r.start;
        hold = r.hold;
        interrupt_given = omega arith;
        task_given = r.task_given;
        some_given = r.some_given;
        few_given = r.few_given;
        not_given = r.not_given;
        views = views;
        placed = placed;
        interrupt_owner = names_interrupt q (set s.views id w) views placed (omega arith);
        task_owner = names_task q (set s.views id w) views placed (r.task_given);
      } in
      (w, keeps, tt, rule, refl)

  pub takes_task : (slots id : ℕ) (v : View) → v.spent ≡ false → v.owns_task ≡ false
      → Allows Rule slots id (v, []) 2 (λ n. either (eqb n 0) (v.number + 1) n)
      (took_task (step slots 2 0 (v.number + 1) maybe.none) (v, []))
  takes_task slots id v kept free s r wide at small =
      let fits = r.views id v at kept in
      let here : get_or s.words 2 0 ≡ r.p.task = ap (λ ws. get_or ws 2 0) r.words in
      dite (ℕ_discrete (get_or s.words 2 0) 0)
      (λ zero.
      let was : r.p.task ≡ 0 = sym here ∙ zero in
      let w = record v { owns_task = true } in
      let q : PairState = record r.p { task = v.number + 1 } in
      let a : Alike r.p q (λ n. n ≢ v.number) =
      task_moves r.p v.number (v.number + 1)
      (λ n _. ap (λ i. i == n + 1) was ∙ zero_succ n)
      (λ n other. apart_succ n v.number other) in
      let mine : Fits q id w = record {
        place = fits.place;
        below = fits.below;
        terms = fits.terms;
        interrupt = fits.interrupt;
        holds = fits.holds;
        owner = fits.owner;
        task = eq-eqb (v.number + 1) (v.number + 1) refl;
        seen = fits.seen;
        made = fits.made;
        hold = fits.hold;
        first = fits.first;
        heard = own_heard r.p q id v fits a;
        heard_once = fits.heard_once;
      } in
      let views : AllFit q (set s.views id w) =
      views_stay (FitsIfKept q) s.views id w (λ _. mine) (others s r id v fits q a) in
      let placed : AllPlaced q (set s.views id w) =
      stay_placed q s.views id v w at kept refl refl r.placed in
      let rule : Rule (stepped s 2 (v.number + 1) id [] w keeps) = record {
        p = q;
        terms = r.terms;
        words = ap (λ ws. set ws 2 (v.number + 1)) r.words;
        home = λ out. same_home r.p q s.homes refl refl (r.home out);
        away = r.away;
        owned = r.owned;
        legal = r.legal;
        start = r.start;
        hold = λ core held. (let is : r.p.task ≡ core + 1 = r.hold core held in absurd (omega arith));
        interrupt_given = r.interrupt_given;
        task_given = let less = fits.below in omega arith;
        some_given = r.some_given;
        few_given = r.few_given;
        not_given = r.not_given;
        views = views;
        placed = placed;
        interrupt_owner = names_interrupt q (set s.views id w) views placed (r.interrupt_given);
        task_owner = names_task q (set s.views id w) views placed (let less = fits.below in omega arith);
      } in (
        w,
        keeps,
        tt,
        subst
            (λ b. Rule (stepped s 2 (either b (v.number + 1) (get_or s.words 2 0)) id [] w keeps))
            (sym (eq-eqb (get_or s.words 2 0) 0 zero)) rule,
        ((λ _. refl), λ more. absurd (more zero)),
      ))
      (λ more. (
        v,
        keeps,
        tt,
        subst
            (λ b. Rule (stepped s 2 (either b (v.number + 1) (get_or s.words 2 0)) id [] v keeps))
            (sym (ne_eqb (get_or s.words 2 0) 0 more)) (unmoved s r 2 id v at),
        ((λ zero. absurd (more zero)), λ _. refl),
      ))

  pub frees_task : (slots id : ℕ) (v : View) → v.spent ≡ false → v.owns_task ≡ true
      → own_hold v.number (hold_after v.terms.header v.seen) ≡ None
      → Allows Rule slots id (v, []) 2 (λ _. 0)
      (λ _. freed_task (step slots 2 0 0 maybe.none) (v, []) 0)
  frees_task slots id v kept own shut s r wide at small =
      let fits = r.views id v at kept in
      let mine_is : r.p.task ≡ v.number + 1 = owner_is r.p.task v.number (fits.task ∙ own) in
      let none : own_hold v.number (hold_after r.p.terms.header r.p.history) ≡ None =
      sym fits.hold
      ∙ (ap (λ (t : Terms). own_hold v.number (hold_after t.header v.seen)) (sym fits.terms)
      ∙ shut) in
      let q : PairState = record r.p { task = 0 } in
      let a : Alike r.p q (λ n. n ≢ v.number) =
      task_moves r.p v.number 0
      (λ n other. ap (λ i. i == n + 1) mine_is ∙ apart_succ n v.number other)
      (λ n _. zero_succ n) in
      let w = record v { owns_task = false } in
      let mine : Fits q id w = record {
        place = fits.place;
        below = fits.below;
        terms = fits.terms;
        interrupt = fits.interrupt;
        holds = fits.holds;
        owner = fits.owner;
        task = zero_succ v.number;
        seen = fits.seen;
        made = fits.made;
        hold = fits.hold;
        first = fits.first;
        heard = own_heard r.p q id v fits a;
        heard_once = fits.heard_once;
      } in
      let views : AllFit q (set s.views id w) =
      views_stay (FitsIfKept q) s.views id w (λ _. mine) (others s r id v fits q a) in
      let placed : AllPlaced q (set s.views id w) =
      stay_placed q s.views id v w at kept refl refl r.placed in
      let rule : Rule (stepped s 2 0 id [] w keeps) = record {
        p = q;
        terms = r.terms;
        words = ap (λ ws. set ws 2 0) r.words;
        home = λ out. same_home r.p q s.homes refl refl (r.home out);
        away = r.away;
        owned = r.owned;
        legal = r.legal;
        start = r.start;
        hold = λ core held.
            let is : r.p.task ≡ core + 1 = r.hold core held in
            let same : core ≡ v.number = omega arith in
            absurd
            (own_hold_open v.number (hold_after r.p.terms.header r.p.history)
            (held ∙ ap Some same) none);
        interrupt_given = r.interrupt_given;
        task_given = omega arith;
        some_given = r.some_given;
        few_given = r.few_given;
        not_given = r.not_given;
        views = views;
        placed = placed;
        interrupt_owner = names_interrupt q (set s.views id w) views placed (r.interrupt_given);
        task_owner = names_task q (set s.views id w) views placed (omega arith);
      } in
      (w, keeps, tt, rule, refl)

  -- the same of a seat whose hand is known
  pub takes_interrupt_as : (slots id mark : ℕ) (me : Me (Option V) View) → me.0.spent ≡ false
      → me.0.owns_interrupt ≡ false → me.1 ≡ [] → mark ≡ me.0.number + 1
      → Allows Rule slots id me 1 (λ n. either (eqb n 0) mark n)
      (took_interrupt terms_of list_of (step slots 1 0 mark maybe.none) me)
  takes_interrupt_as slots id mark me kept free empty is =
      subst
      (λ (x : Me (Option V) View × ℕ).
      Allows Rule slots id x.0 1 (λ n. either (eqb n 0) x.1 n)
      (took_interrupt terms_of list_of (step slots 1 0 x.1 maybe.none) x.0))
      (λ i. ((me.0, sym empty i), sym is i)) (takes_interrupt slots id me.0 kept free)

  -- after the value was put into the slot
  pub publishes_after : (slots id : ℕ) (was me : Me (Option V) View) (value : V) (n : ℕ)
      → me ≡ (was.0, (0, Some value) ∷ rest was.1) → was.1 ≡ (0, None) ∷ [] → slots ≡ 1
      → was.0.spent ≡ false → was.0.owns_interrupt ≡ true → n ≡ length (list_of value)
      → terms_of value ≡ was.0.terms → IsLegal (terms_of value).header (list_of value)
      → MayFollow was.0.terms was.0.number was.0.owns_task was.0.seen (list_of value)
      → Allows Rule slots id me 0 (λ _. n)
      (λ _. published terms_of list_of (step slots 0 n 0 maybe.none) me n)
  publishes_after slots id was me value n e full one kept own count terms legal may =
      subst
      (λ (x : Me (Option V) View).
      Allows Rule slots id x 0 (λ _. n)
      (λ _. published terms_of list_of (step slots 0 n 0 maybe.none) x n))
      (sym (e ∙ ap (λ held. (was.0, (0, Some value) ∷ rest held)) full))
      (publishes slots id was.0 value n one kept own count terms
      (subst (λ (t : Terms). IsLegal t.header (list_of value)) terms legal) may)

  -- after the value was published
  pub frees_interrupt_after : (slots id : ℕ) (was : View) (me : Me (Option V) View)
      (new : List Entry) → me ≡ (noted was new, []) → was.spent ≡ false
      → was.owns_interrupt ≡ true
      → Allows Rule slots id me 1 (λ _. 0)
      (λ _. freed_interrupt (step slots 1 0 0 maybe.none) me 0)
  frees_interrupt_after slots id was me new e kept own =
      subst
      (λ (x : Me (Option V) View).
      Allows Rule slots id x 1 (λ _. 0) (λ _. freed_interrupt (step slots 1 0 0 maybe.none) x 0))
      (sym e) (frees_interrupt slots id (noted was new) kept own refl)

  pub takes_task_as : (slots id mark : ℕ) (me : Me (Option V) View) → me.0.spent ≡ false
      → me.0.owns_task ≡ false → me.1 ≡ [] → mark ≡ me.0.number + 1
      → Allows Rule slots id me 2 (λ n. either (eqb n 0) mark n)
      (took_task (step slots 2 0 mark maybe.none) me)
  takes_task_as slots id mark me kept free empty is =
      subst
      (λ (x : Me (Option V) View × ℕ).
      Allows Rule slots id x.0 2 (λ n. either (eqb n 0) x.1 n)
      (took_task (step slots 2 0 x.1 maybe.none) x.0))
      (λ i. ((me.0, sym empty i), sym is i)) (takes_task slots id me.0 kept free)

  pub frees_task_as : (slots id : ℕ) (me : Me (Option V) View) → me.0.spent ≡ false
      → me.0.owns_task ≡ true → me.1 ≡ []
      → own_hold me.0.number (hold_after me.0.terms.header me.0.seen) ≡ None
      → Allows Rule slots id me 2 (λ _. 0) (λ _. freed_task (step slots 2 0 0 maybe.none) me 0)
  frees_task_as slots id me kept own empty shut =
      subst
      (λ (x : Me (Option V) View).
      Allows Rule slots id x 2 (λ _. 0) (λ _. freed_task (step slots 2 0 0 maybe.none) x 0))
      (λ i. (me.0, sym empty i)) (frees_task slots id me.0 kept own shut)
