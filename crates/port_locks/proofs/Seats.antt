-- Seats that are made and joined, and the pair at its start and its end, keep the rule.
use Rattle.std.proofs.Common.{◌≡◌, ◌≢◌, ◌⊎◌, ℕ, zero, suc, ◌+◌, ◌<◌, ◌≤◌, ◌==◌, cond, List, [], ◌∷◌, ◌++◌, length, get_or, set, Bool, true, false, true≢false}
use Rattle.std.proofs.Common.{Option, Some, None, option_map, refl, sym, ap, ◌∙◌, subst, ⊎_elim, inl, inr, arith, eq-eqb, ne_eqb}
use Rattle.std.specs.List.{All, AllPairs}
use Rattle.std.proofs.lemmas.List.Elements.{All-nil, All-cons, All-append}
use Rattle.std.proofs.lemmas.List.Kept.{AllPairs-cons}
use mathlib.Core.Logic.{dite}
use native.Mathlib.Decide.{ℕ_discrete}
use mathlib.Core.Option as maybe
use lib.ListN.{get_elem?}
use Rattle.atomic_table.specs.Table.{State, Splits, Joins, opening}
use Rattle.atomic_table.proofs.Lists.{at_set, set_else, at_last, at_longer}
use Rattle.bench_types.specs.declared.entry.Entry.{Entry}
use Rattle.bench_types.specs.declared.header.Header.{Header}
use Rattle.bench_types.specs.declared.kernel_data.Hold.{Hold}
use Rattle.port_locks.specs.declared.view.About.{About}
use Rattle.port_locks.specs.declared.view.Handover.{Handover}
use Rattle.port_locks.specs.declared.view.Terms.{Terms}
use Rattle.port_locks.specs.declared.view.View.{View}
use Rattle.port_locks.specs.Holds.{hold_after, own_hold}
use Rattle.port_locks.specs.Locks.{PairState, IsHeard, Fits, FitsIfKept, HasNumber, IsPlaced, AllFit, AllPlaced, Locked}
use Rattle.port_locks.specs.Steps.{seated, nobody, one_more, newcomer, handover, gathered}
use Rattle.port_locks.proofs.Alike.{Alike, all_alike, fits_alike, views_stay}
use Rattle.history_laws.proofs.KeptOut.{start_free}
use Rattle.history_laws.proofs.Legal.{end_empty, legal_empty}
use Rattle.history_laws.proofs.Parts.{begins_with_all}
use Rattle.port_locks.proofs.Placed.{set_there, same_there, pairs_append, still_placed, stay_placed, gathered_left, gathered_right, names_interrupt, names_task}
use Rattle.port_locks.proofs.Steps.{elsewhere, not_heard, same_home}

at_end : (views : List View) (w u : View) (seat : ℕ)
    → get_elem? (views ++ w ∷ []) seat ≡ maybe.some u
    → (get_elem? views seat ≡ maybe.some u) ⊎ ((seat ≡ length views) × (w ≡ u))
at_end [] w u zero e = inr (refl, maybe.some-injective w u e)
at_end [] w u (suc seat) e = absurd (maybe.some-ne-none u (sym e))
at_end (x ∷ xs) w u zero e = inl e
at_end (x ∷ xs) w u (suc seat) e =
    ⊎_elim inl (λ (t : (seat ≡ length xs) × (w ≡ u)). inr (ap suc t.0, t.1))
    (at_end xs w u seat e)

-- where the numbers are, with one more given out
abbrev placed : ℕ → ℕ → (ℕ → ℕ × Bool) → ℕ → ℕ × Bool
placed number seat place n = cond (n == number) (seat, true) (place n)

-- where they are, with a seat joined into another
abbrev joined : ℕ → ℕ → (ℕ → ℕ × Bool) → ℕ → ℕ × Bool
joined id other place n = cond ((place n).0 == other) (id, false) (place n)

-- a fact of the view that the one seat has
one : (K : ℕ → View → Type 0) (w : View) → K 0 w → (seat : ℕ) (u : View)
    → get_elem? (w ∷ []) seat ≡ maybe.some u → K seat u
one K w mine zero u e = subst (K 0) (maybe.some-injective w u e) mine
one K w mine (suc seat) u e = absurd (maybe.some-ne-none u (sym e))

-- a fact of a view after one has changed
keep : (seat : ℕ) (u : View) {X : Type 0} → X → (views : List View) (K : ℕ → View → Type 0)
    (id : ℕ) (w : View) → K id w
    → (seat ≢ id → get_elem? views seat ≡ maybe.some u → K seat u)
    → get_elem? (set views id w) seat ≡ maybe.some u → K seat u
keep seat u away views K id w mine others e =
    ⊎_elim
    (λ (t : (seat ≡ id) × (w ≡ u)).
    subst (λ (x : ℕ × View). K x.0 x.1) (λ i. (sym t.0 i, t.1 i)) mine)
    (λ (t : (seat ≢ id) × (get_elem? views seat ≡ maybe.some u)). others t.0 t.1)
    (at_set views id seat w u e)

-- no hold is open of a number that is not given out
own_hold_beyond : (task given number : ℕ) (hold : Option Hold) → task ≤ given → number ≡ given
    → ((core : ℕ) → option_map (λ (h : Hold). h.core) hold ≡ Some core → task ≡ core + 1)
    → own_hold number hold ≡ None
own_hold_beyond task given number None few is all = refl
own_hold_beyond task given number (Some h) few is all =
    let owner : task ≡ h.core + 1 = all h.core refl in
    rw (ne_eqb h.core number (λ e. omega arith)) refl

no_hold : (header : Header) → hold_after header [] ≡ None
no_hold header = ap (λ table. table.hold) (end_empty header) ∙ start_free header

-- with one more number given out, to a new seat, each number is where it is said to be
placed_more : (p : PairState) (views : List View) (id : ℕ) (v w new : View)
    → get_elem? views id ≡ maybe.some v → w.spent ≡ false → w.number ≡ v.number
    → w.heard ≡ v.heard → new.spent ≡ false → new.number ≡ p.given → AllPlaced p views
    → AllPlaced
    (record p {
      given = p.given + 1;
      place = placed p.given (length (set views id w)) p.place;
    })
    (set views id w ++ new ∷ [])
placed_more p views id v w new at kept numbers heard fresh given all number less =
    let seats : ℕ = length (set views id w) in
    let after : List View = set views id w ++ new ∷ [] in
    dite (ℕ_discrete number p.given)
    (λ same.
    let last : IsPlaced (seats, true) after number = record {
      view = new;
      there = at_last (set views id w) new seats refl;
      kept = fresh;
      has = given ∙ sym same;
    } in
    subst (λ (place : ℕ × Bool). IsPlaced place after number)
    (sym (ap (λ b. cond b (seats, true) (p.place number)) (eq-eqb number p.given same))) last)
    (λ other.
    let here = stay_placed p views id v w at kept numbers heard all number (omega arith) in
    let still : IsPlaced (p.place number) after number = record {
      view = here.view;
      there = at_longer (set views id w) (new ∷ []) (p.place number).0 here.view here.there;
      kept = here.kept;
      has = here.has;
    } in
    subst (λ (place : ℕ × Bool). IsPlaced place after number)
    (sym (ap (λ b. cond b (seats, true) (p.place number)) (ne_eqb number p.given other))) still)

-- the same of a seat that was joined into another
placed_joined : (p : PairState) (views : List View) (id other : ℕ) (v w : View)
    → get_elem? views id ≡ maybe.some v → get_elem? views other ≡ maybe.some w
    → v.spent ≡ false → id ≢ other → AllPlaced p views
    → AllPlaced (record p { place = joined id other p.place })
    (set (set views id (gathered v w)) other nobody)
placed_joined p views id other v w at at' kept off all number less =
    let after : List View = set (set views id (gathered v w)) other nobody in
    let here = all number less in
    dite (ℕ_discrete (p.place number).0 other)
    (λ same.
    let heard : IsPlaced (id, false) after number = record {
      view = gathered v w;
      there =
          set_else (set views id (gathered v w)) other id nobody off
          ∙ set_there views id v (gathered v w) at;
      kept = kept;
      has = gathered_right number (p.place number).1 v w
          (subst (HasNumber number (p.place number).1)
          (sym (same_there views other (p.place number).0 w here.view same at' here.there))
          here.has);
    } in
    subst (λ (place : ℕ × Bool). IsPlaced place after number)
    (sym (ap (λ b. cond b (id, false) (p.place number)) (eq-eqb (p.place number).0 other same)))
    heard)
    (λ away.
    let still = still_placed (p.place number) views id v (gathered v w) number at kept
    (gathered_left number (p.place number).1 v w) here in
    let there : IsPlaced (p.place number) after number = record {
      view = still.view;
      there =
          set_else (set views id (gathered v w)) other (p.place number).0 nobody away
          ∙ still.there;
      kept = still.kept;
      has = still.has;
    } in
    subst (λ (place : ℕ × Bool). IsPlaced place after number)
    (sym (ap (λ b. cond b (id, false) (p.place number)) (ne_eqb (p.place number).0 other away)))
    there)

abbrev IsOther : Handover → Handover → Type 0
IsOther t u = t.number ≢ u.number

-- no two that a seat was told of have one number, also once it takes in another seat
once_gathered : (p : PairState) (id other : ℕ) (v w : View) → Fits p id v → Fits p other w
    → id ≢ other → AllPairs (λ t u. t.number ≢ u.number) (v.heard ++ handover w ∷ w.heard)
once_gathered p id other v w f f' off =
    pairs_append IsOther v.heard (handover w ∷ w.heard) f.heard_once
    (AllPairs-cons IsOther (handover w) w.heard
    (λ k d l same. not_heard p other w.number (get_or w.heard k d).number f'.place
    (f'.heard k d l).place (sym same))
    f'.heard_once)
    (λ k d l.
    All-cons (IsOther (get_or v.heard k d)) (handover w) w.heard
    (elsewhere p other id w.number (get_or v.heard k d).number true false f'.place
    (f.heard k d l).place off)
    (λ k' d' l'.
    elsewhere p other id (get_or w.heard k' d').number (get_or v.heard k d).number false false
    (f'.heard k' d' l').place (f.heard k d l).place off))

module _ {V : Type 0} (terms_of : V → Terms) (list_of : V → List Entry) (key : About V) where
  abbrev Rule : State (Option V) View → Type 0
  Rule = Locked terms_of list_of key

  pub splits : (id : ℕ) (v : View) → v.spent ≡ false → v.number ≡ 0 → v.given < key.cores
      → Splits Rule id v (one_more v) (newcomer v)
  splits id v kept first room s r at =
      let fits = r.views id v at kept in
      let given : v.given ≡ r.p.given = fits.first first in
      let some = r.some_given in
      let seats : ℕ = length (set s.views id (one_more v)) in
      let q : PairState =
      record r.p {
        given = r.p.given + 1;
        place = placed r.p.given seats r.p.place;
      } in
      let N : ℕ → Type 0 = λ n. (n ≢ 0) × (n ≢ r.p.given) in
      let old : (n : ℕ) → n ≢ r.p.given → q.place n ≡ r.p.place n =
      λ n other. ap (λ b. cond b (seats, true) (r.p.place n)) (ne_eqb n r.p.given other) in
      let a : Alike r.p q N = record {
        terms = refl;
        place = λ n apart. old n apart.1;
        given = omega arith;
        first = λ apart. absurd (apart.0 refl);
        interrupt = λ n _. refl;
        task = λ n _. refl;
        owner = λ n _ _. (refl, refl);
        history = begins_with_all r.p.history;
        made = λ n _. refl;
        hold = λ n _. refl;
      } in
      let mine : Fits q id (one_more v) = record {
        place = old v.number (λ same. omega arith) ∙ fits.place;
        below = let less = fits.below in omega arith;
        terms = fits.terms;
        interrupt = fits.interrupt;
        holds = fits.holds;
        owner = fits.owner;
        task = fits.task;
        seen = fits.seen;
        made = fits.made;
        hold = fits.hold;
        first = λ _. ap (λ n. n + 1) given;
        heard =
            all_alike r.p q N a id v.heard
            (λ t is.
            let apart : t.number ≢ v.number =
            not_heard r.p id v.number t.number fits.place is.place in (
              (λ zero. apart (zero ∙ sym first)),
              λ same. (let less = is.below in omega arith),
            ))
            fits.heard;
        heard_once = fits.heard_once;
      } in
      let header = r.p.terms.header in
      let no_hold : own_hold v.given (hold_after header r.p.history) ≡ None =
      own_hold_beyond r.p.task r.p.given v.given (hold_after header r.p.history)
      r.task_given given r.hold in
      let new : Fits q seats (newcomer v) = record {
        place =
            ap (λ b. cond b (seats, true) (r.p.place v.given)) (eq-eqb v.given r.p.given given);
        below = omega arith;
        terms = fits.terms;
        interrupt = let few = r.interrupt_given in ne_eqb r.p.interrupt (v.given + 1) (λ e. omega arith);
        holds = λ _. refl;
        owner = λ own. absurd (true≢false (sym own));
        task = let few = r.task_given in ne_eqb r.p.task (v.given + 1) (λ e. omega arith);
        seen = refl;
        made = r.not_given v.given (omega arith);
        hold = ap (own_hold v.given) r.start ∙ sym no_hold;
        first = λ zero. omega arith;
        heard = All-nil (IsHeard q seats);
        heard_once = λ i j d before less. absurd (omega (arith, less));
      } in
      let all : AllFit q (set s.views id (one_more v) ++ newcomer v ∷ []) =
      λ seat u e.
      ⊎_elim
      (λ there.
      views_stay (FitsIfKept q) s.views id (one_more v) (λ _. mine)
      (λ seat u apart at kept.
      fits_alike r.p q N a seat u
      (λ n b less there. (
        (λ zero. elsewhere r.p id seat v.number n true b fits.place there apart
            (zero ∙ sym first)),
        λ same. omega arith,
      ))
      (r.views seat u at kept))
      seat u there)
      (λ (t : (seat ≡ seats) × (newcomer v ≡ u)).
      subst (λ (x : ℕ × View). FitsIfKept q x.0 x.1) (λ i. (sym t.0 i, t.1 i))
      (λ _. new))
      (at_end (set s.views id (one_more v)) (newcomer v) u seat e) in
      let placed : AllPlaced q (set s.views id (one_more v) ++ newcomer v ∷ []) =
      placed_more r.p s.views id v (one_more v) (newcomer v) at kept refl refl refl given r.placed in
      let few = r.interrupt_given in
      let few_tasks = r.task_given in
      record {
        p = q;
        terms = r.terms;
        words = r.words;
        home = λ out. same_home terms_of list_of key r.p q s.homes refl refl (r.home out);
        away = r.away;
        owned = r.owned;
        legal = r.legal;
        start = r.start;
        hold = r.hold;
        interrupt_given = omega arith;
        task_given = omega arith;
        some_given = omega arith;
        few_given = omega arith;
        not_given = λ n over. r.not_given n (omega arith);
        views = all;
        placed = placed;
        interrupt_owner = names_interrupt q
            (set s.views id (one_more v) ++ newcomer v ∷ []) all placed (omega arith);
        task_owner = names_task q (set s.views id (one_more v) ++ newcomer v ∷ []) all placed
            (omega arith);
      }

  pub joins : (id : ℕ) (v : View) (other : ℕ) (w : View) → v.spent ≡ false → w.spent ≡ false
      → w.owns_interrupt ≡ false → w.owns_task ≡ false
      → Joins Rule id v other w (gathered v w) nobody
  joins id v other w kept kept' free free_task s r at apart there =
      let fits = r.views id v at kept in
      let at' : get_elem? s.views other ≡ maybe.some w =
      sym (set_else s.views id other (gathered v w) apart) ∙ there in
      let fits' = r.views other w at' kept' in
      let q : PairState = record r.p { place = joined id other r.p.place } in
      let N : ℕ → Type 0 = λ n. (r.p.place n).0 ≢ other in
      let old : (n : ℕ) → N n → q.place n ≡ r.p.place n =
      λ n far. ap (λ b. cond b (id, false) (r.p.place n)) (ne_eqb (r.p.place n).0 other far) in
      let moved : (n : ℕ) (b : Bool) → r.p.place n ≡ (other, b) → q.place n ≡ (id, false) =
      λ n b is.
      ap (λ b. cond b (id, false) (r.p.place n))
      (eq-eqb (r.p.place n).0 other (ap (λ (x : ℕ × Bool). x.0) is)) in
      let a : Alike r.p q N = record {
        terms = refl;
        place = old;
        given = omega arith;
        first = λ _. refl;
        interrupt = λ n _. refl;
        task = λ n _. refl;
        owner = λ n _ _. (refl, refl);
        history = begins_with_all r.p.history;
        made = λ n _. refl;
        hold = λ n _. refl;
      } in
      let far : (seat n : ℕ) (b : Bool) → r.p.place n ≡ (seat, b) → seat ≢ other → N n =
      λ seat n b is off e. off (sym (ap (λ (x : ℕ × Bool). x.0) is) ∙ e) in
      let off : id ≢ other = λ e. apart (sym e) in
      let hands : IsHeard q id (handover w) = record {
        place = moved w.number true fits'.place;
        below = fits'.below;
        interrupt = fits'.interrupt ∙ free;
        task = fits'.task ∙ free_task;
        seen = fits'.seen;
        made = fits'.made;
      } in
      let theirs : All (IsHeard q id) w.heard =
      λ k d l. let t = fits'.heard k d l in record {
        place = moved _ false t.place;
        below = t.below;
        interrupt = t.interrupt;
        task = t.task;
        seen = t.seen;
        made = t.made;
      } in
      let mine : Fits q id (gathered v w) = record {
        place = old v.number (far id v.number true fits.place off) ∙ fits.place;
        below = fits.below;
        terms = fits.terms;
        interrupt = fits.interrupt;
        holds = fits.holds;
        owner = fits.owner;
        task = fits.task;
        seen = fits.seen;
        made = fits.made;
        hold = fits.hold;
        first = fits.first;
        heard =
            All-append (IsHeard q id) v.heard (handover w ∷ w.heard)
            (all_alike r.p q N a id v.heard
            (λ t is. far id t.number false is.place off) fits.heard)
            (All-cons (IsHeard q id) (handover w) w.heard hands theirs);
        heard_once = once_gathered r.p id other v w fits fits' off;
      } in
      let after : List View = set (set s.views id (gathered v w)) other nobody in
      let all : AllFit q after =
      views_stay (FitsIfKept q) (set s.views id (gathered v w)) other nobody
      (λ spent. absurd (true≢false spent))
      (λ seat u away.
      keep seat u away s.views (FitsIfKept q) id (gathered v w) (λ _. mine)
      (λ e was kept.
      fits_alike r.p q N a seat u (λ n b _ is. far seat n b is away)
      (r.views seat u was kept))) in
      let placed : AllPlaced q after =
      placed_joined r.p s.views id other v w at at' kept off r.placed in
      record {
        p = q;
        terms = r.terms;
        words = r.words;
        home = λ out. same_home terms_of list_of key r.p q s.homes refl refl (r.home out);
        away = r.away;
        owned = r.owned;
        legal = r.legal;
        start = r.start;
        hold = r.hold;
        interrupt_given = r.interrupt_given;
        task_given = r.task_given;
        some_given = r.some_given;
        few_given = r.few_given;
        not_given = r.not_given;
        views = all;
        placed = placed;
        interrupt_owner = names_interrupt q after all placed r.interrupt_given;
        task_owner = names_task q after all placed r.task_given;
      }

  -- the pair as it is made
  pub opens : (value : V) → key.first.value ≡ value → list_of value ≡ [] → 1 ≤ key.cores
      → Rule (opening (0 ∷ 0 ∷ 0 ∷ []) (Some value ∷ []) (seated (terms_of key.first.value) 0 1))
  opens value is empty room =
      let terms : Terms = terms_of value in
      let start = no_hold terms.header in
      let same : terms ≡ terms_of key.first.value = ap terms_of (sym is) in
      let q : PairState = record {
        terms = terms;
        history = [];
        given = 1;
        place = λ _. (0, true);
        interrupt = 0;
        task = 0;
        out = false;
      } in
      let mine : Fits q 0 (seated (terms_of key.first.value) 0 1) = record {
        place = refl;
        below = omega arith;
        terms = sym same;
        interrupt = ne_eqb 0 1 (λ e. omega arith);
        holds = λ _. refl;
        owner = λ own. absurd (true≢false (sym own));
        task = ne_eqb 0 1 (λ e. omega arith);
        seen = refl;
        made = refl;
        hold = refl;
        first = λ _. refl;
        heard = All-nil (IsHeard q 0);
        heard_once = λ i j d before less. absurd (omega (arith, less));
      } in
      let all : AllFit q (seated (terms_of key.first.value) 0 1 ∷ []) =
      λ seat u e. one (FitsIfKept q) (seated (terms_of key.first.value) 0 1) (λ _. mine) seat u e in
      let placed : AllPlaced q (seated (terms_of key.first.value) 0 1 ∷ []) =
      λ number less. record {
        view = seated (terms_of key.first.value) 0 1;
        there = refl;
        kept = refl;
        has = omega arith;
      } in
      record {
        p = q;
        terms = same;
        words = refl;
        home = λ _. record { value = value; slot = refl; terms = refl; list = empty };
        away = λ out. absurd (true≢false (sym out));
        owned = λ out. absurd (true≢false (sym out));
        legal = legal_empty terms.header;
        start = start;
        hold = λ core held. absurd (cc (sym (ap (option_map (λ h. h.core)) start) ∙ held));
        interrupt_given = omega arith;
        task_given = omega arith;
        some_given = omega arith;
        few_given = room;
        not_given = λ n _. refl;
        views = all;
        placed = placed;
        interrupt_owner = names_interrupt q (seated (terms_of key.first.value) 0 1 ∷ []) all
            placed (omega arith);
        task_owner = names_task q (seated (terms_of key.first.value) 0 1 ∷ []) all placed
            (omega arith);
      }

  pub opens_as : (value : V) (slots : List (Option V)) → slots ≡ Some value ∷ []
      → key.first.value ≡ value → list_of value ≡ [] → 1 ≤ key.cores
      → Rule (opening (0 ∷ 0 ∷ 0 ∷ []) slots (seated (terms_of key.first.value) 0 1))
  opens_as value slots one is empty room =
      subst
      (λ (xs : List (Option V)).
      Rule (opening (0 ∷ 0 ∷ 0 ∷ []) xs (seated (terms_of key.first.value) 0 1)))
      (sym one)
      (opens value is empty room)
