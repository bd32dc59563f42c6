-- Sessions that edits lead to, and the origins of their steps.
use Rattle.std.proofs.Common.{◌≡◌, ℕ, suc, ◌+◌, ◌<◌, Bool, true, false, List, [], ◌∷◌, Some, length, drop, get_or, Result, Ok, Err, refl, ap, sym, subst, ◌∙◌}
use Rattle.std.proofs.Common.{add-one, arith}
use Rattle.std.specs.Prelude.{All, is_ok, if◌then◌else◌}
use Rattle.std.specs.Result.{result_map_both}
use Rattle.std.proofs.Math.Seq.{drop-cons}
use Rattle.std.proofs.lemmas.Bool.Decides.{nat_tests}
use Rattle.std.proofs.lemmas.List.FromFn.{length-map-range_with_len}
use Rattle.std.proofs.lemmas.List.Edits.{length-insert, length-remove}
use Rattle.std.proofs.Math.ListN.{length-set}
use Rattle.bench_types.specs.declared.edit.Edit.{Edit}
use Rattle.bench_types.specs.declared.edit.Edit.TheVariants.{Insert, Remove, Replace, ChangeTask}
use Rattle.bench_types.specs.declared.edit.EditFault.{EditFault}
use Rattle.bench_types.specs.declared.edit.EditFault.TheVariants.{Bench, NoPlace, TooLong}
use Rattle.bench_types.specs.declared.fault.Fault.{Fault}
use Rattle.bench_types.specs.declared.header.Header.{Header}
use Rattle.bench_types.specs.declared.step.Step.{Step}
use Rattle.bench_types.specs.Edit.{edit_check, IsCheckedEdit}
use Rattle.bench_types.specs.Session.{Session}
use Rattle.bench_types.specs.Step.{◌>>◌}
use Rattle.bench_model.specs.Edits.{accepted, after_edit, after_edits, edited, has_place, has_room}
use Rattle.session_edits.specs.Origins.{all_kept, HasPlaceAmong, Origin, origins_after, origins_made, origins_of}
use Rattle.session_edits.proofs.Accepting.{still_checked}

-- an accepted edit has its place
place_there : (session : Session) (edit : Edit) → accepted session edit ≡ Ok tt → has_place session.steps edit ≡ true
place_there session edit accepts = at (edit_check session.header edit) (has_place session.steps edit) (has_room session.steps edit) refl accepts
  where
    at : (fits : Result (Unit {0}) Fault) (there room : Bool) → has_place session.steps edit ≡ there
        → (result_map_both (λ _. tt) Bench fits >> (if there then Ok tt else Err NoPlace) >> (if room then Ok tt else Err TooLong)) ≡ Ok tt → has_place
        session.steps edit ≡ true
    at fits true room is passes = is
    at (Err why) false room is passes = absurd (cc passes)
    at (Ok done) false room is passes = absurd (cc passes)

pub among : (session : Session) (edit : Edit) (count : ℕ) → accepted session edit ≡ Ok tt → count ≡ length session.steps → HasPlaceAmong count edit
among session (Insert at step) count accepts many = let there = place_there session (Insert at step) accepts in grind (arith, nat_tests, there, many)
among session (Remove at) count accepts many = let there = place_there session (Remove at) accepts in grind (arith, nat_tests, there, many)
among session (Replace at step) count accepts many = let there = place_there session (Replace at step) accepts in grind (arith, nat_tests, there, many)
among session (ChangeTask task priority mask) count accepts many = tt

-- there are as many origins as steps
pub kept_many : (count : ℕ) → length (all_kept count) ≡ count
kept_many count = length-map-range_with_len (λ (n : ℕ). Some n) 0 count

pub still_many : (session : Session) (edit : Edit) (origins : List Origin) → length origins ≡ length session.steps → HasPlaceAmong (length origins) edit →
    length (origins_after edit origins) ≡ length (edited edit session).steps
still_many session (Insert at step) origins many there =
    length-insert origins at _ there ∙ ap (λ n. n + 1) many ∙ sym (length-insert session.steps at step (omega (arith, many, there)))
still_many session (Remove at) origins many there =
    let one = length-remove origins at there in
    let other = length-remove session.steps at (omega (arith, many, there)) in
    omega (arith, one, other, many)
still_many session (Replace at step) origins many there = many ∙ sym (length-set session.steps at step)
still_many session (ChangeTask task priority mask) origins many there = many

pub made_is : (session : Session) (edit : Edit) (origins : List Origin) → accepted session edit ≡ Ok tt → origins_made session edit origins ≡ origins_after edit
    origins
made_is session edit origins accepts = ap (λ (check : Result (Unit {0}) EditFault). if is_ok check then origins_after edit origins else origins) accepts

pub made_not : (session : Session) (edit : Edit) (origins : List Origin) (why : EditFault) → accepted session edit ≡ Err why → origins_made session edit origins
    ≡ origins
made_not session edit origins why refuses = ap (λ (check : Result (Unit {0}) EditFault). if is_ok check then origins_after edit origins else origins) refuses

-- a session of the parts that an edit makes of the parts of a session
pub edited_whole : (session : Session) (edit : Edit) (header changed : Header) (before steps : List Step) → header ≡ session.header → before ≡ session.steps
    → changed ≡ (edited edit (record { header = header; steps = before })).header
    → steps ≡ (edited edit (record { header = header; steps = before })).steps → record { header = changed; steps = steps } ≡ edited edit session
edited_whole session edit header changed before steps header_is before_is changed_is steps_are =
    let from : Session = record { header = header; steps = before } in
    let is : from ≡ session =
    ap (λ (one : Header). record { header = one; steps = before }) header_is ∙ ap
    (λ (some : List Step). record { header = session.header; steps = some }) before_is in
    ap (λ (one : Header). record { header = one; steps = steps }) changed_is
    ∙ ap (λ (some : List Step). record { header = (edited edit from).header; steps = some }) steps_are
    ∙ ap (λ (one : Session). edited edit one) is

-- What is left of the edits leads to what all of them lead to.
pub record IsOnTheWay (first : Session) (initial : List Origin) (edits : List Edit) (session : Session) (origins : List Origin) (index : ℕ) : Type 0 where
  pub session_to : after_edits session (drop index edits) ≡ after_edits first edits
  pub origins_to : origins_of session (drop index edits) origins ≡ origins_of first edits initial
  pub many : length origins ≡ length session.steps
  pub checked : All (IsCheckedEdit session.header) edits

-- one edit more was made
pub way_on : {first : Session} {initial : List Origin} {edits : List Edit} {session : Session} {origins : List Origin} {index : ℕ} (later : Session)
    (moved : List Origin) (none : Edit) → IsOnTheWay first initial edits session origins index → index < length edits
    → later ≡ after_edit session (get_or edits index none) → moved ≡ origins_made session (get_or edits index none) origins → length moved ≡ length later.steps
    → IsOnTheWay first initial edits later moved (index + 1)
way_on {first} {initial} {edits} {session} {origins} {index} later moved none way within session_is origins_are many =
    let edit = get_or edits index none in
    let rest : drop index edits ≡ edit ∷ drop (suc index) edits = drop-cons edits index none within in
    record {
      session_to = rw add-one (ap (λ (one : Session). after_edits one (drop (suc index) edits)) session_is ∙ sym
          (ap (λ (list : List Edit). after_edits session list) rest) ∙ way.session_to);
      origins_to = rw add-one (ap (λ (one : Session). origins_of one (drop (suc index) edits) moved) session_is ∙ ap
          (λ (some : List Origin). origins_of (after_edit session edit) (drop (suc index) edits) some) origins_are ∙ sym
          (ap (λ (list : List Edit). origins_of session list origins) rest) ∙ way.origins_to);
      many = many;
      checked = subst (λ (one : Session). All (IsCheckedEdit one.header) edits) (sym session_is) (still_checked session edit edits way.checked);
    }

-- so it is after all edits
pub origins_many : (session : Session) (edits : List Edit) (origins : List Origin) → length origins ≡ length session.steps → length
    (origins_of session edits origins) ≡ length (after_edits session edits).steps
origins_many session [] origins many = many
origins_many session (edit ∷ edits) origins many = origins_many (after_edit session edit) edits (origins_made session edit origins)
    (at (accepted session edit) refl)
  where
    at : (check : Result (Unit {0}) EditFault) → accepted session edit ≡ check → length (if is_ok check then origins_after edit origins else origins) ≡ length
        (if is_ok check then edited edit session else session).steps
    at (Ok done) accepts = still_many session edit origins many (among session edit _ accepts many)
    at (Err why) refuses = many
