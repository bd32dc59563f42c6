-- One step more of the walks over a session, its run and its rows.
use Rattle.std.proofs.Common.{◌≡◌, ℕ, zero, suc, ◌+◌, ◌≤◌, ◌<◌, Bool, true, false, cond, List, [], ◌∷◌, ◌++◌, length, take, drop, get_or, filter, Option, Some}
use Rattle.std.proofs.Common.{refl, ap, sym, subst, ◌∙◌, append_assoc, add-one, drop-cons, arith}
use Rattle.std.specs.List.{cons_option, filter_map}
use Rattle.std.proofs.lemmas.List.{length-append, take_more}
use Rattle.std.proofs.lemmas.List.Elements.{filter_map-append, filter_more}
use Rattle.bench_types.specs.declared.step.Step.{Step}
use Rattle.run_comparisons.specs.declared.place_pair.PlacePair.{PlacePair}
use Rattle.run_comparisons.specs.declared.rows.Row.{Row}
use Rattle.run_comparisons.specs.Shared.{event_places, events_before}
use Rattle.run_comparisons.specs.SideBySide.{first_places, next_row, past, row_of, AreAligned, AreSideBySide}

-- the place of one event more, or none
pub event_on : (test : Step → Bool) (run : List Step) (place : ℕ) (d : Step) (places more : List ℕ) (outside : Bool) → place < length run → outside ≡ test
    (get_or run place d) → more ≡ places ++ cond outside (place ∷ []) []
    → places ++ event_places test place (drop place run) ≡ event_places test 0 run → more ++ event_places test (place + 1) (drop (place + 1) run) ≡ event_places test 0 run
event_on test run place d places more outside within is pushed so_far =
    let step = get_or run place d in
    let rest = event_places test (suc place) (drop (suc place) run) in
    let here : event_places test place (drop place run) ≡ cond outside (place ∷ rest) rest = ap (event_places test place) (drop-cons run place d within) ∙ ap
    (λ (b : Bool). cond b (place ∷ rest) rest) (sym is) in
    rw add-one (ap (λ (list : List ℕ). list ++ rest) pushed ∙ append_assoc places (cond outside (place ∷ []) []) rest ∙ ap (λ list. places ++ list)
    (split outside place rest) ∙ ap (λ list. places ++ list) (sym here) ∙ so_far)
  where
    split : (b : Bool) (n : ℕ) (ns : List ℕ) → cond b (n ∷ []) [] ++ ns ≡ cond b (n ∷ ns) ns
    split true n ns = refl
    split false n ns = refl

-- how many events came before the next place
pub come_on : (test : Step → Bool) (steps : List Step) (place : ℕ) (d : Step) → place < length steps → events_before test steps (place + 1) ≡ events_before test steps place + cond
    (test (get_or steps place d)) 1 0
come_on test steps place d within =
    ap (λ (list : List Step). length list) (filter_more test steps place d within)
    ∙ length-append (filter test (take place steps)) (cond (test (get_or steps place d)) (get_or steps place d ∷ []) [])
    ∙ ap (λ n. events_before test steps place + n) (size (test (get_or steps place d)))
  where
    size : (b : Bool) → length (cond b (get_or steps place d ∷ []) []) ≡ cond b 1 0
    size true = refl
    size false = refl

-- no more than there are places
pub few_come : (test : Step → Bool) (steps : List Step) (place : ℕ) → events_before test steps place ≤ place
few_come test [] zero = omega arith
few_come test [] (suc place) = omega arith
few_come test (step ∷ steps) zero = omega arith
few_come test (step ∷ steps) (suc place) = at (test step) (few_come test steps place)
  where
    at : (b : Bool) → events_before test steps place ≤ place → length (cond b (step ∷ filter test (take place steps))
        (filter test (take place steps))) ≤ suc place
    at true few = omega (arith, few)
    at false few = omega (arith, few)

-- what one item more gives
pub given_on : {X Y : Type 0} (h : X → Option Y) (xs : List X) (i : ℕ) (d : X) → i < length xs → filter_map h (take (i + 1) xs) ≡ filter_map h (take i xs) ++
    cons_option (h (get_or xs i d)) []
given_on h xs i d within = ap (filter_map h) (take_more xs i d within) ∙ filter_map-append h (take i xs) (get_or xs i d ∷ [])

-- ---- rows

-- the next row was added: whatever rows are still to come, those made and they are aligned
pub row_on : (before after : List Step) (from at later : PlacePair) (made : List Row) (row : Row) →
    ((rest : List Row) → AreAligned before after at rest → AreAligned before after from (made ++ rest)) → next_row before after at ≡ Some row → later ≡ past row
    at
    → (rest : List Row) → AreAligned before after later rest → AreAligned before after from (made ++ row ∷ [] ++ rest)
row_on before after from at later made row so_far next behind rest aligned =
    subst (λ (rows : List Row). AreAligned before after from rows) (sym (append_assoc made (row ∷ []) rest))
    (so_far (row ∷ rest) (next, subst (λ (place : PlacePair). AreAligned before after place rest) behind aligned))

-- the rows up to a shared event were added, and that of the event
pub event_row_on : (before after : List Step) (events : List PlacePair) (index : ℕ) (d at later : PlacePair) (rows more window : List Row) → index < length
    events
    → ((rest : List Row) → AreSideBySide before after (drop index events) at rest → AreSideBySide before after events first_places (rows ++ rest))
    → more ≡ rows ++ window ++ row_of (get_or events index d) ∷ []
    → AreAligned (take (get_or events index d).before before) (take (get_or events index d).after after) at window → later ≡ past
    (row_of (get_or events index d)) at
    → (rest : List Row) → AreSideBySide before after (drop (index + 1) events) later rest → AreSideBySide before after events first_places (more ++ rest)
event_row_on before after events index d at later rows more window within so_far pushed aligned behind rest others =
    let event = get_or events index d in
    let here : drop index events ≡ event ∷ drop (suc index) events = drop-cons events index d within in
    let next : drop (index + 1) events ≡ drop (suc index) events = ap (λ n. drop n events) (add-one index) in
    let left = subst (λ (list : List PlacePair). AreSideBySide before after list (past (row_of event) at) rest) next
    (subst (λ (place : PlacePair). AreSideBySide before after (drop (index + 1) events) place rest) behind others) in
    let all : AreSideBySide before after (event ∷ drop (suc index) events) at (window ++ row_of event ∷ rest) = (window, rest, refl, aligned, left) in
    let done = so_far (window ++ row_of event ∷ rest) (subst (λ (list : List PlacePair). AreSideBySide before after list at (window ++ row_of event ∷ rest))
    (sym here) all) in
    let same : more ++ rest ≡ rows ++ (window ++ row_of event ∷ rest) =
    ap (λ (list : List Row). list ++ rest) pushed ∙ append_assoc (rows ++ window) (row_of event ∷ []) rest ∙ append_assoc rows window (row_of event ∷ rest) in
    subst (λ (list : List Row). AreSideBySide before after events first_places list) (sym same) done
