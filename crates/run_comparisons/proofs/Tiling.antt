-- Each step of either run stands in one row, in its order.
use Rattle.std.proofs.Common.{◌≡◌, ℕ, zero, suc, ◌+◌, ◌-◌, ◌≤◌, List, [], ◌∷◌, ◌++◌, length, take, drop, map, flat_map, Some, None, Result, Ok, Err, refl, ap}
use Rattle.std.proofs.Common.{sym, subst, ◌∙◌, append_assoc, add-one, arith}
use Rattle.std.specs.List.{range_with_len}
use Rattle.std.proofs.lemmas.Grind.{flat_map-append}
use Rattle.list_orders.specs.Search.{numbers}
use Rattle.bench_types.specs.declared.edit.Edit.{Edit}
use Rattle.bench_types.specs.declared.edit.Edit.TheVariants.{Insert, Remove, Replace, ChangeTask}
use Rattle.bench_types.specs.declared.edit.EditFault.{EditFault}
use Rattle.bench_types.specs.Session.{Session}
use Rattle.bench_model.specs.Edits.{accepted, after_edit, after_edits}
use Rattle.run_comparisons.specs.declared.rows.Row.TheVariants.{Both, Removed}
use Rattle.session_edits.specs.Origins.{Origin, all_kept, origins_after, origins_made, origins_of}
use Rattle.run_comparisons.specs.Rows.{place_after, place_before, removed, rows_from, rows_of}
use Rattle.session_edits.proofs.Moving.{kept_many, made_is, made_not, origins_many}

-- ---- after the edits

none_after : (places : List ℕ) → flat_map place_after (map Removed places) ≡ []
none_after [] = refl
none_after (place ∷ places) = none_after places

rows_after : (count next place : ℕ) (origins : List Origin) → flat_map place_after (rows_from count next place origins) ≡ range_with_len place (length origins)
rows_after count next place [] = none_after (range_with_len next (count - next))
rows_after count next place (None ∷ origins) =
    ap (λ list. place ∷ list) (rows_after count next (suc place) origins ∙ ap (λ from. range_with_len from (length origins)) (sym (add-one place)))
rows_after count next place (Some before ∷ origins) =
    flat_map-append place_after (removed next before ++ Both before place ∷ []) (rows_from count (suc before) (suc place) origins)
    ∙ ap (λ list. list ++ flat_map place_after (rows_from count (suc before) (suc place) origins))
    (flat_map-append place_after (removed next before) (Both before place ∷ []) ∙ ap (λ list. list ++ place ∷ [])
    (none_after (range_with_len next (before - next))))
    ∙ ap (λ list. place ∷ list) (rows_after count (suc before) (suc place) origins ∙ ap (λ from. range_with_len from (length origins)) (sym (add-one place)))

pub each_after : (session : Session) (edits : List Edit) → flat_map place_after (rows_of session edits) ≡ numbers (length (after_edits session edits).steps)
each_after session edits =
    let count = length session.steps in
    rows_after count 0 0 (origins_of session edits (all_kept count))
    ∙ ap (λ n. range_with_len 0 n) (origins_many session edits (all_kept count) (kept_many count))

-- ---- before them

-- the origins ascend, from the next place on and below the count
abbrev Ascend : ℕ → ℕ → List Origin → Type 0
Ascend count next [] = next ≤ count
Ascend count next (None ∷ origins) = Ascend count next origins
Ascend count next (Some before ∷ origins) = (next ≤ before) × Ascend count (suc before) origins

earlier : (count next sooner : ℕ) (origins : List Origin) → sooner ≤ next → Ascend count next origins → Ascend count sooner origins
earlier count next sooner [] early up = omega (arith, early, up)
earlier count next sooner (None ∷ origins) early up = earlier count next sooner origins early up
earlier count next sooner (Some before ∷ origins) early up = (omega (arith, early, up.0), up.1)

kept_up : (count next n : ℕ) → next + n ≤ count → Ascend count next (map Some (range_with_len next n))
kept_up count next zero fits = omega (arith, fits)
kept_up count next (suc n) fits = (
  omega arith,
  earlier count (next + 1) (suc next) (map Some (range_with_len (next + 1) n)) (omega arith)
      (kept_up count (next + 1) n (omega (arith, fits))),
)

put_in : (count next : ℕ) (front rest : List Origin) → Ascend count next (front ++ rest) → Ascend count next (front ++ None ∷ rest)
put_in count next [] rest up = up
put_in count next (None ∷ front) rest up = put_in count next front rest up
put_in count next (Some before ∷ front) rest up = (up.0, put_in count (suc before) front rest up.1)

take_out : (count next : ℕ) (front : List Origin) (one : Origin) (rest : List Origin) → Ascend count next (front ++ one ∷ rest) → Ascend count next
    (front ++ rest)
take_out count next [] None rest up = up
take_out count next [] (Some before) rest up = earlier count (suc before) next rest (omega (arith, up.0)) up.1
take_out count next (None ∷ front) one rest up = take_out count next front one rest up
take_out count next (Some before ∷ front) one rest up = (up.0, take_out count (suc before) front one rest up.1)

parts : (i : ℕ) (origins : List Origin) → take i origins ++ drop i origins ≡ origins
parts zero origins = refl
parts (suc i) [] = refl
parts (suc i) (one ∷ origins) = ap (λ list. one ∷ list) (parts i origins)

out_at : (count next i : ℕ) (origins : List Origin) → Ascend count next origins → Ascend count next (take i origins ++ drop (suc i) origins)
out_at count next zero [] up = up
out_at count next zero (one ∷ origins) up = take_out count next [] one origins up
out_at count next (suc i) [] up = up
out_at count next (suc i) (None ∷ origins) up = out_at count next i origins up
out_at count next (suc i) (Some before ∷ origins) up = (up.0, out_at count (suc before) i origins up.1)

up_after : (count : ℕ) (edit : Edit) (origins : List Origin) → Ascend count 0 origins → Ascend count 0 (origins_after edit origins)
up_after count (Insert at step) origins up = put_in count 0 (take at origins) (drop at origins)
    (subst (λ (list : List Origin). Ascend count 0 list) (sym (parts at origins)) up)
up_after count (Remove at) origins up = out_at count 0 at origins up
up_after count (Replace at step) origins up = up
up_after count (ChangeTask task priority mask) origins up = up

up_made : (count : ℕ) (session : Session) (edit : Edit) (origins : List Origin) → Ascend count 0 origins → Ascend count 0 (origins_made session edit origins)
up_made count session edit origins up = at (accepted session edit) refl
  where
    at : (check : Result (Unit {0}) EditFault) → accepted session edit ≡ check → Ascend count 0 (origins_made session edit origins)
    at (Ok done) accepts = subst (λ (list : List Origin). Ascend count 0 list) (sym (made_is session edit origins accepts)) (up_after count edit origins up)
    at (Err why) refuses = subst (λ (list : List Origin). Ascend count 0 list) (sym (made_not session edit origins why refuses)) up

up_of : (count : ℕ) (session : Session) (edits : List Edit) (origins : List Origin) → Ascend count 0 origins → Ascend count 0 (origins_of session edits origins)
up_of count session [] origins up = up
up_of count session (edit ∷ edits) origins up = up_of count (after_edit session edit) edits (origins_made session edit origins)
    (up_made count session edit origins up)

below : (count next : ℕ) (origins : List Origin) → Ascend count next origins → next ≤ count
below count next [] up = up
below count next (None ∷ origins) up = below count next origins up
below count next (Some before ∷ origins) up = omega (arith, up.0, below count (suc before) origins up.1)

all_before : (places : List ℕ) → flat_map place_before (map Removed places) ≡ places
all_before [] = refl
all_before (place ∷ places) = ap (λ list. place ∷ list) (all_before places)

pub joined : (a m n b k : ℕ) → a + m ≡ b → m + n ≡ k → range_with_len a m ++ range_with_len b n ≡ range_with_len a k
joined a zero n b k to all =
    let begins : b ≡ a = omega (arith, to) in
    let many : n ≡ k = omega (arith, all) in
    ap (λ from. range_with_len from n) begins ∙ ap (range_with_len a) many
joined a (suc m) n b zero to all = absurd (omega (arith, all))
joined a (suc m) n b (suc k) to all = ap (λ list. a ∷ list) (joined (a + 1) m n b k (omega (arith, to)) (omega (arith, all)))

rows_before : (count next place : ℕ) (origins : List Origin) → Ascend count next origins → flat_map place_before (rows_from count next place origins) ≡
    range_with_len next (count - next)
rows_before count next place [] up = all_before (range_with_len next (count - next))
rows_before count next place (None ∷ origins) up = rows_before count next (suc place) origins up
rows_before count next place (Some before ∷ origins) up =
    let rest = rows_from count (suc before) (suc place) origins in
    let within : suc before ≤ count = below count (suc before) origins up.1 in
    let order : next ≤ before = up.0 in
    let early = range_with_len next (before - next) in
    flat_map-append place_before (removed next before ++ Both before place ∷ []) rest
    ∙ ap (λ list. list ++ flat_map place_before rest) (flat_map-append place_before (removed next before) (Both before place ∷ []) ∙ ap
    (λ list. list ++ before ∷ []) (all_before early))
    ∙ append_assoc early (before ∷ []) (flat_map place_before rest)
    ∙ ap (λ list. early ++ before ∷ list) (rows_before count (suc before) (suc place) origins up.1 ∙ ap (λ from. range_with_len from (count - suc before))
    (sym (add-one before)))
    ∙ joined next (before - next) (suc (count - suc before)) before (count - next) (omega (arith, order)) (omega (arith, order, within))

pub each_before : (session : Session) (edits : List Edit) → flat_map place_before (rows_of session edits) ≡ numbers (length session.steps)
each_before session edits =
    let count = length session.steps in
    let all : count - 0 ≡ count = omega arith in
    rows_before count 0 0 (origins_of session edits (all_kept count)) (up_of count session edits (all_kept count) (kept_up count 0 count (omega arith)))
    ∙ ap (range_with_len 0) all
