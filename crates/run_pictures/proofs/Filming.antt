-- What a loop over the steps has filmed so far.
use Rattle.std.proofs.Common.{◌≡◌, ℕ, suc, ◌+◌, ◌^◌, ◌<◌, ◌≤◌, List, [], ◌∷◌, ◌++◌, length, filter, drop, get_or, Bool, Option, Some, None, option_map, refl, subst, sym, ap, ◌∙◌, append_assoc}
use Rattle.std.proofs.Common.{add-one, arith}
use Rattle.std.specs.Prelude.{Ok, Result, unwrap_or}
use Rattle.std.proofs.lemmas.List.Sums.{count_by-le-length, length-filter}
use Rattle.std.proofs.Math.Seq.{drop-cons}
use Rattle.std.proofs.lemmas.List.{append-nil, drop_all, length-map}
use Rattle.bench_types.specs.declared.header.Header.{Header}
use Rattle.bench_types.specs.declared.header.QueueArgs.{QueueArgs}
use Rattle.bench_types.specs.declared.reply.Reply.{Reply}
use Rattle.bench_types.specs.declared.step.Step.{Step}
use Rattle.bench_types.specs.Header.{header_check}
use Rattle.bench_types.specs.Limits.{max_queues}
use Rattle.bench_types.proofs.Passes.{few_queues}
use Rattle.bench_model.specs.Equal.{StandsFor}
use Rattle.bench_model.specs.Lists.{View}
use Rattle.bench_model.specs.Session.{state_at, step_of}
use Rattle.bench_model.specs.Start.{start}
use Rattle.bench_model.specs.Table.{Table}
use Rattle.run_views.specs.declared.look.Look.{Look}
use Rattle.run_views.specs.declared.places.Places.{Places}
use Rattle.run_views.specs.Looks.{look_of}
use Rattle.run_views.specs.Trace.{shows}
use Rattle.run_views.proofs.States.{made_of, made_of_more, next_state, shown_few}
use Rattle.run_pictures.specs.declared.run_looks.Made.{Made}
use Rattle.run_pictures.specs.QueueLines.{queues_of}
use Rattle.run_pictures.specs.RunLooks.{IsSeenRun, looks_of, made_from, where_shown, shown_places}

-- what is seen at the shown ones of the first places
abbrev pub seen : Places → Header → List Step → ℕ → List Look
seen places header steps count = made_of (shows places) (λ place. look_of (state_at header steps place)) count

pub seen_more : (places : Places) (header : Header) (steps : List Step) (place : ℕ) → seen places header steps (place + 1) ≡ seen places header steps place ++
    where_shown places place (look_of (state_at header steps place))
seen_more places header steps place = made_of_more (shows places) (λ place. look_of (state_at header steps place)) place

pub record LooksSoFar (places : Places) (header : Header) (first : View) (steps : List Step) (looks_old looks : List Look) (made_old made : List Made)
    (kernel : View) (place : ℕ) : Type 0 where
  pub stands : StandsFor kernel (state_at header steps place)
  pub settings : kernel.settings ≡ first.settings
  pub seen_so : looks ≡ looks_old ++ seen places header steps place
  pub made_so : made ++ made_from places place (state_at header steps place) (drop place steps) ≡ made_old ++ made_from places 0 (start header) steps

pub none_seen : (places : Places) (header : Header) (first : View) (steps : List Step) (looks : List Look) (made : List Made) → StandsFor first (start header) →
    LooksSoFar places header first steps looks looks made made first 0
unfolding state_at
none_seen places header first steps looks made starts = record {
  stands = starts;
  settings = refl;
  seen_so = sym (append-nil looks);
  made_so = refl;
}

pub step_seen : {places : Places} {header : Header} {first : View} {steps : List Step} {looks_old looks : List Look} {made_old made : List Made} {kernel : View}
    {place : ℕ} (later : View) (looks_next : List Look) (made_next : List Made) (d : Step) (reply : Reply) → LooksSoFar places header first steps looks_old
    looks made_old made kernel place → place < length steps
    → ((table : Table) → StandsFor kernel table → looks_next ≡ looks ++ where_shown places place (look_of table))
    → ((table : Table) → StandsFor kernel table → reply ≡ (step_of (get_or steps place d) table).0)
    → made_next ≡ made ++ where_shown places place (record { step = get_or steps place d; reply = reply })
    → ((table : Table) → StandsFor kernel table → StandsFor later (step_of (get_or steps place d) table).1)
    → later.settings ≡ kernel.settings
    → LooksSoFar places header first steps looks_old looks_next made_old made_next later (place + 1)
step_seen {places} {header} {first} {steps} {looks_old} {looks} {made_old} {made} {kernel} {place} later looks_next made_next d reply were early looked replied
    pushed moves settings =
    let now = state_at header steps place in
    let step = get_or steps place d in
    let made_one : Made = record { step = step; reply = reply } in
    let one : Made = record { step = step; reply = (step_of step now).0 } in
    let same : made_one ≡ one = ap (λ (r : Reply). record { step = step; reply = r }) (replied now were.stands) in
    let next : state_at header steps (suc place) ≡ (step_of step now).1 = next_state header steps place d early in
    let rest : drop place steps ≡ step ∷ drop (suc place) steps = drop-cons steps place d early in
    record {
      stands = rw add-one (subst (λ (t : Table). StandsFor later t) (sym next) (moves now were.stands));
      settings = settings ∙ were.settings;
      seen_so = looked now were.stands ∙ ap (λ ls. ls ++ where_shown places place (look_of now)) were.seen_so
          ∙ append_assoc looks_old (seen places header steps place) (where_shown places place (look_of now))
          ∙ ap (λ ls. looks_old ++ ls) (sym (seen_more places header steps place));
      made_so = rw add-one (
          ap (λ (t : Table). made_next ++ made_from places (suc place) t (drop (suc place) steps)) next
          ∙ ap (λ ms. ms ++ made_from places (suc place) (step_of step now).1 (drop (suc place) steps))
          (pushed ∙ ap (λ (m : Made). made ++ where_shown places place m) same)
          ∙ append_assoc made (where_shown places place one) (made_from places (suc place) (step_of step now).1 (drop (suc place) steps))
          ∙ ap (λ ss. made ++ made_from places place now ss) (sym rest)
          ∙ were.made_so);
    }

pub all_seen : {places : Places} {header : Header} {first : View} {steps : List Step} {looks_old looks : List Look} {made_old made : List Made} {kernel : View}
    {place : ℕ} (looks_new : List Look) → LooksSoFar places header first steps looks_old looks made_old made kernel place → place ≡ length steps
    → ((table : Table) → StandsFor kernel table → looks_new ≡ looks ++ where_shown places (length steps) (look_of table))
    → IsSeenRun places header steps looks_old looks_new made_old made
unfolding looks_of
all_seen {places} {header} {first} {steps} {looks_old} {looks} {made_old} {made} {kernel} {place} looks_new were end looked =
    let now = state_at header steps place in
    let none : drop place steps ≡ [] = drop_all place steps (omega (arith, end)) in
    let last : looks_new ≡ looks ++ where_shown places place (look_of now) = looked now were.stands ∙ ap (λ n. looks ++ where_shown places n (look_of now))
    (sym end) in
    record {
      looks = last ∙ ap (λ ls. ls ++ where_shown places place (look_of now)) were.seen_so
          ∙ append_assoc looks_old (seen places header steps place) (where_shown places place (look_of now))
          ∙ ap (λ ls. looks_old ++ ls) (sym (seen_more places header steps place))
          ∙ ap (λ n. looks_old ++ seen places header steps n) (add-one place ∙ ap suc end);
      made = sym (append-nil made) ∙ ap (λ ss. made ++ made_from places place now ss) (sym none) ∙ were.made_so;
    }

pub looks_few : (places : Places) (header : Header) (steps : List Step) → places.from < 2 ^ 32 → length steps + 1 < 2 ^ 32 → places.from + length
    (looks_of places header steps) ≤ 2 ^ 32
unfolding looks_of
looks_few places header steps from few =
    let shown = shown_few places (suc (length steps)) in
    omega (arith, length-map (shown_places places steps) (λ place. look_of (state_at header steps place)))

pub looks_counted : (places : Places) (header : Header) (steps : List Step) → length steps + 1 < 2 ^ 32 → length (looks_of places header steps) < 2 ^ 32
unfolding looks_of
looks_counted places header steps few =
    let shown = shown_few places (suc (length steps)) in
    omega (arith, length-map (shown_places places steps) (λ place. look_of (state_at header steps place)))

-- some of some are no more than these
pub passed_few : {X : Type 0} (test : X → Bool) (xs : List X) → length (filter test xs) ≤ length xs
passed_few test xs = subst (λ (n : ℕ). n ≤ length xs) (sym (length-filter test xs)) (count_by-le-length test xs)

-- the queues of a checked header are not too many
pub queues_few : (header : Header) → header_check header ≡ Ok tt → queues_of header ≤ max_queues
queues_few header passes = at header.queues refl
  where
    at : (queues : Option (List QueueArgs)) → header.queues ≡ queues → unwrap_or (option_map length queues) 0 ≤ max_queues
    at None is = omega arith
    at (Some queues) is = few_queues header queues passes is
