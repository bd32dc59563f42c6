-- Where places and steps lie after an edit.
use Rattle.std.proofs.Common.{◌≡◌, ℕ, suc, ◌+◌, ◌-◌, ◌<◌, ◌≤◌, Bool, true, false, cond, ltb, List, [], ◌∷◌, ◌++◌, length, take, drop, set, Ok, refl, sym, ap}
use Rattle.std.proofs.Common.{◌∙◌, arith, take-take, drop-drop, length-take-le, length-set, drop-set-lt}
use Rattle.std.specs.Prelude.{insert, remove, nat_lt}
use Rattle.std.proofs.lemmas.Bool.Decides.{nat_tests}
use Rattle.std.proofs.lemmas.List.{take-append-le, take-set}
use Rattle.bench_types.specs.declared.edit.Edit.{Edit}
use Rattle.bench_types.specs.declared.edit.Edit.TheVariants.{Insert, Remove, Replace, ChangeTask}
use Rattle.bench_types.specs.declared.step.Step.{Step}
use Rattle.bench_types.specs.Session.{Session}
use Rattle.bench_model.specs.Edits.{accepted, edited}
use Rattle.bench_model.specs.Meeting.{last_place, place_of, moved_place, is_compared}
use Rattle.session_laws.proofs.EditedSessions.{passed, length-insert, length-remove}

-- ---- places

-- an edit stands at a place of its session
insert_place : (session : Session) (at : ℕ) (step : Step) → accepted session (Insert at step) ≡ Ok tt → at ≤ length session.steps
insert_place session at step accepts =
    let passes = passed session (Insert at step) accepts in
    grind (arith, nat_tests, passes.place)

remove_place : (session : Session) (at : ℕ) → accepted session (Remove at) ≡ Ok tt → at < length session.steps
remove_place session at accepts =
    let passes = passed session (Remove at) accepts in
    grind (arith, nat_tests, passes.place)

replace_place : (session : Session) (at : ℕ) (step : Step) → accepted session (Replace at step) ≡ Ok tt → at < length session.steps
replace_place session at step accepts =
    let passes = passed session (Replace at step) accepts in
    grind (arith, nat_tests, passes.place)

pub last_after_insert : (session : Session) (at : ℕ) (step : Step) → accepted session (Insert at step) ≡ Ok tt → last_place (edited (Insert at step) session) ≡
    suc (last_place session)
last_after_insert session at step accepts = length-insert session.steps at step (insert_place session at step accepts)

pub last_after_remove : (session : Session) (at : ℕ) → accepted session (Remove at) ≡ Ok tt → last_place (edited (Remove at) session) + 1 ≡ last_place session
last_after_remove session at accepts = length-remove session.steps at (remove_place session at accepts)

-- a place after the edit moves with its step, and one that is not stays
if_after : (at place moved : ℕ) → at < place → cond (ltb at place) moved place ≡ moved
if_after at place moved past =
    let so : ltb at place ≡ true = grind (arith, nat_tests, past) in
    ap (λ b. cond b moved place) so

if_before : (at place moved : ℕ) → place ≤ at → cond (ltb at place) moved place ≡ place
if_before at place moved before =
    let so : ltb at place ≡ false = grind (arith, nat_tests, before) in
    ap (λ b. cond b moved place) so

pub is_after : (at place : ℕ) → nat_lt at place ≡ true → at < place
is_after at place compared = grind (arith, nat_tests, compared)

pub stays_before : (edit : Edit) (place : ℕ) → place ≤ place_of edit → moved_place edit place ≡ place
stays_before (Insert at step) place before = if_before at place (place + 1) before
stays_before (Remove at) place before = if_before at place (place - 1) before
stays_before (Replace at step) place before = refl
stays_before (ChangeTask task priority mask) place before = refl

pub inserted_after : (at place : ℕ) (step : Step) → at < place → moved_place (Insert at step) place ≡ place + 1
inserted_after at place step past = if_after at place (place + 1) past

pub removed_after : (at place : ℕ) → at < place → moved_place (Remove at) place ≡ place - 1
removed_after at place past = if_after at place (place - 1) past

-- an inserted step moves a place by one at most
pub insert_bounds : (at : ℕ) (step : Step) (place : ℕ) → (place ≤ moved_place (Insert at step) place) × (moved_place (Insert at step) place ≤ place + 1)
insert_bounds at step place = at_test (ltb at place)
  where
    at_test : (b : Bool) → (place ≤ cond b (place + 1) place) × (cond b (place + 1) place ≤ place + 1)
    at_test true = (omega arith, omega arith)
    at_test false = (omega arith, omega arith)

-- a removed step moves a place by one at most, and to before a place after the edit
pub remove_bounds : (at place later : ℕ) → place ≤ later → at < later → (moved_place (Remove at) place < later) × (place ≤ moved_place (Remove at) place + 1)
remove_bounds at place later within past = at_test (ltb at place) refl
  where
    at_test : (b : Bool) → ltb at place ≡ b → (cond b (place - 1) place < later) × (place ≤ cond b (place - 1) place + 1)
    at_test true is = (omega (arith, within, past), omega arith)
    at_test false is =
        let before : place ≤ at = grind (arith, nat_tests, is) in
        (omega (arith, before, past), omega arith)

-- later places stay as far after a compared one as they were
pub moved_later : (edit : Edit) (place later : ℕ) → is_compared edit place ≡ true → place ≤ later → moved_place edit later ≡ moved_place edit place +
    (later - place)
moved_later (Insert at step) place later compared within =
    let past = is_after at place compared in
    omega (arith, past, within, inserted_after at place step past, inserted_after at later step (omega (arith, past, within)))
moved_later (Remove at) place later compared within =
    let past = is_after at place compared in
    omega (arith, past, within, removed_after at place past, removed_after at later (omega (arith, past, within)))
moved_later (Replace at step) place later compared within = omega (arith, within)
moved_later (ChangeTask task priority mask) place later compared within = omega (arith, within)

pub moved_within : (session : Session) (edit : Edit) (place : ℕ) → accepted session edit ≡ Ok tt → place ≤ last_place session → moved_place edit place ≤
    last_place (edited edit session)
moved_within session (Insert at step) place accepts within = at_test (ltb at place)
  where
    at_test : (b : Bool) → cond b (place + 1) place ≤ last_place (edited (Insert at step) session)
    at_test true = omega (arith, last_after_insert session at step accepts, within)
    at_test false = omega (arith, last_after_insert session at step accepts, within)
moved_within session (Remove at) place accepts within = at_test (ltb at place) refl
  where
    at_test : (b : Bool) → ltb at place ≡ b → cond b (place - 1) place ≤ last_place (edited (Remove at) session)
    at_test true is = omega (arith, last_after_remove session at accepts, within)
    at_test false is =
        let before : place ≤ at = grind (arith, nat_tests, is) in
        omega (arith, last_after_remove session at accepts, remove_place session at accepts, before)
moved_within session (Replace at step) place accepts within = omega (arith, within, length-set session.steps at step)
moved_within session (ChangeTask task priority mask) place accepts within = within

-- a compared place is not before the edit
pub moved_from : (edit : Edit) (place : ℕ) → is_compared edit place ≡ true → place_of edit ≤ moved_place edit place
moved_from (Insert at step) place compared =
    let past = is_after at place compared in
    omega (arith, past, inserted_after at place step past)
moved_from (Remove at) place compared =
    let past = is_after at place compared in
    omega (arith, past, removed_after at place past)
moved_from (Replace at step) place compared =
    let past = is_after at place compared in
    omega (arith, past)
moved_from (ChangeTask task priority mask) place compared = omega arith

-- and the edit is not after the last place
pub edit_within : (session : Session) (edit : Edit) → accepted session edit ≡ Ok tt → place_of edit ≤ last_place (edited edit session)
edit_within session (Insert at step) accepts = omega (arith, last_after_insert session at step accepts, insert_place session at step accepts)
edit_within session (Remove at) accepts = omega (arith, last_after_remove session at accepts, remove_place session at accepts)
edit_within session (Replace at step) accepts = omega (arith, replace_place session at step accepts, length-set session.steps at step)
edit_within session (ChangeTask task priority mask) accepts = omega arith

-- nor after the last place of the session
pub edit_there : (session : Session) (edit : Edit) → accepted session edit ≡ Ok tt → place_of edit ≤ last_place session
edit_there session (Insert at step) accepts = insert_place session at step accepts
edit_there session (Remove at) accepts = omega (arith, remove_place session at accepts)
edit_there session (Replace at step) accepts = omega (arith, replace_place session at step accepts)
edit_there session (ChangeTask task priority mask) accepts = omega arith

-- ---- steps

module _ {X : Type 0} where
  take_fewer : (m n : ℕ) (xs ys : List X) → m ≤ n → take n xs ≡ take n ys → take m xs ≡ take m ys
  take_fewer m n xs ys few same = sym (take-take m n xs few) ∙ ap (take m) same ∙ take-take m n ys few

  take_front : (n : ℕ) (xs ys : List X) → n ≤ length xs → take n (take n xs ++ ys) ≡ take n xs
  take_front n xs ys within =
      take-append-le n (take n xs) ys (omega (arith, length-take-le n xs within))
      ∙ take-take n n xs (omega arith)

  drop_past : (front rest : List X) (n : ℕ) → drop (length front + n) (front ++ rest) ≡ drop n rest
  drop_past [] rest n =
      let same : 0 + n ≡ n = omega arith in
      ap (λ n. drop n rest) same
  drop_past (x ∷ front) rest n =
      let same : suc (length front) + n ≡ suc (length front + n) = omega arith in
      ap (λ n. drop n (x ∷ front ++ rest)) same ∙ drop_past front rest n

  drop_after : (at n : ℕ) (xs rest : List X) → at ≤ length xs → drop (at + n) (take at xs ++ rest) ≡ drop n rest
  drop_after at n xs rest within =
      let same : at + n ≡ length (take at xs) + n = omega (arith, length-take-le at xs within) in
      ap (λ n. drop n (take at xs ++ rest)) same ∙ drop_past (take at xs) rest n

pub steps_before_stay : (session : Session) (edit : Edit) (place : ℕ) → accepted session edit ≡ Ok tt → place ≤ place_of edit → take place
    (edited edit session).steps ≡ take place session.steps
steps_before_stay session (Insert at step) place accepts before =
    take_fewer place at (insert session.steps at step) session.steps before
    (take_front at session.steps (step ∷ drop at session.steps) (insert_place session at step accepts))
steps_before_stay session (Remove at) place accepts before =
    take_fewer place at (remove session.steps at) session.steps before (take_front at session.steps (drop (suc at) session.steps)
    (omega (arith, remove_place session at accepts)))
steps_before_stay session (Replace at step) place accepts before =
    take_fewer place at (set session.steps at step) session.steps before (take-set session.steps at step)
steps_before_stay session (ChangeTask task priority mask) place accepts before = refl

pub steps_after_move : (session : Session) (edit : Edit) (place : ℕ) → accepted session edit ≡ Ok tt → is_compared edit place ≡ true → drop
    (moved_place edit place) (edited edit session).steps ≡ drop place session.steps
steps_after_move session (Insert at step) place accepts compared =
    let steps = session.steps in
    let past = is_after at place compared in
    let there : moved_place (Insert at step) place ≡ at + suc (place - at) = omega (arith, past, inserted_after at place step past) in
    let back : at + (place - at) ≡ place = omega (arith, past) in
    ap (λ n. drop n (insert steps at step)) there
    ∙ drop_after at (suc (place - at)) steps (step ∷ drop at steps) (insert_place session at step accepts)
    ∙ drop-drop (place - at) at steps
    ∙ ap (λ n. drop n steps) back
steps_after_move session (Remove at) place accepts compared =
    let steps = session.steps in
    let past = is_after at place compared in
    let there : moved_place (Remove at) place ≡ at + (place - 1 - at) = omega (arith, past, removed_after at place past) in
    let back : suc at + (place - 1 - at) ≡ place = omega (arith, past) in
    ap (λ n. drop n (remove steps at)) there
    ∙ drop_after at (place - 1 - at) steps (drop (suc at) steps) (omega (arith, remove_place session at accepts))
    ∙ drop-drop (place - 1 - at) (suc at) steps
    ∙ ap (λ n. drop n steps) back
steps_after_move session (Replace at step) place accepts compared = drop-set-lt place session.steps at step (is_after at place compared)
steps_after_move session (ChangeTask task priority mask) place accepts compared = refl
