-- What a loop over the steps has told so far.
use Rattle.std.proofs.Common.{◌≡◌, ℕ, suc, ◌+◌, ◌<◌, ◌≤◌, List, [], ◌∷◌, ◌++◌, length, drop, get_or, refl, subst, sym, ap, ◌∙◌, append_assoc, add-one}
use Rattle.std.proofs.Math.Seq.{drop-cons}
use Rattle.std.proofs.lemmas.List.{append-nil, drop_all}
use Rattle.bench_types.specs.declared.header.Header.{Header}
use Rattle.bench_types.specs.declared.reply.Reply.{Reply}
use Rattle.bench_types.specs.declared.step.Step.{Step}
use Rattle.bench_model.specs.Equal.{StandsFor}
use Rattle.bench_model.specs.Lists.{View}
use Rattle.bench_model.specs.Session.{state_after, step_of}
use Rattle.bench_model.specs.Start.{start}
use Rattle.bench_model.specs.Table.{Table}
use Rattle.run_views.specs.declared.change.Change.{Change}
use Rattle.run_views.specs.declared.interest.Interest.{Interest}
use Rattle.run_views.specs.declared.look.Look.{Look}
use Rattle.run_views.specs.declared.places.Places.{Places}
use Rattle.run_views.specs.Changes.{changes}
use Rattle.run_views.specs.Looks.{look_of}
use Rattle.run_views.specs.Trace.{IsPrinted, place_part, Shows, printed_at, printed_from, printed_part, trace_text}

-- from a table that the kernel stood for first: what it stands for now, and that what was told and
-- the rest make the whole
pub record Reaches (places : Places) (interest : Interest) (header : Header) (steps : List Step) (before : List ℕ) (kernel : View) (place : ℕ) (text : List ℕ)
    (table : Table) : Type 0 where
  pub now : Table
  pub stands : StandsFor kernel now
  pub printed : text ++ printed_from places interest header place now (drop place steps) ≡ before ++ printed_from places interest header 0 table steps
  pub state : state_after now (drop place steps) ≡ state_after table steps

pub record TellsSoFar (places : Places) (interest : Interest) (header : Header) (first : View) (steps : List Step) (before : List ℕ) (kernel : View)
    (look : Look) (place : ℕ) (text : List ℕ) : Type 0 where
  pub shows : Shows kernel look
  pub settings : kernel.settings ≡ first.settings
  pub reaches : (table : Table) → StandsFor first table → Reaches places interest header steps before kernel place text table

pub none_printed : (places : Places) (interest : Interest) (header : Header) (first : View) (steps : List Step) (before : List ℕ) (look : Look) → Shows first
    look → TellsSoFar places interest header first steps before first look 0 before
none_printed places interest header first steps before look shows = record {
  shows = shows;
  settings = refl;
  reaches = λ table stands. record { now = table; stands = stands; printed = refl; state = refl };
}

-- a place and its step are told
pub printed_here : (places : Places) (interest : Interest) (header : Header) (place : ℕ) (table : Table) (look : Look) (step : Step) (reply : Reply)
    (some : List Change) (text after : List ℕ) → look ≡ look_of table → reply ≡ (step_of step table).0 → some ≡ changes (look_of table)
    (look_of (step_of step table).1)
    → after ≡ text ++ printed_part places interest header place look step reply some → after ≡ text ++ printed_at places interest header place table step
printed_here places interest header place table look step reply some text after look_is reply_is some_is printed = cc (look_is, reply_is, some_is, printed)

pub step_printed : {places : Places} {interest : Interest} {header : Header} {first : View} {steps : List Step} {before : List ℕ} {kernel : View} {look : Look}
    {place : ℕ} {text : List ℕ} (later : View) (later_look : Look) (after : List ℕ) (d : Step) → TellsSoFar places interest header first steps before kernel
    look place text → place < length steps → Shows later later_look → later.settings ≡ kernel.settings
    → ((table : Table) → StandsFor kernel table → StandsFor later (step_of (get_or steps place d) table).1) →
    ((table : Table) → StandsFor kernel table → after ≡ text ++ printed_at places interest header place table (get_or steps place d)) → TellsSoFar places
    interest header first steps before later later_look (place + 1) after
step_printed {places} {interest} {header} {first} {steps} {before} {kernel} {look} {place} {text} later later_look after d were early shows settings moves
    printed = record {
      shows = shows;
      settings = settings ∙ were.settings;
      reaches = λ table stands.
          let were = were.reaches table stands in
          let step = get_or steps place d in
          let next = (step_of step were.now).1 in
          let rest : drop place steps ≡ step ∷ drop (suc place) steps = drop-cons steps place d early in
          let printed_rest : printed_from places interest header place were.now (drop place steps) ≡ printed_at places interest header place were.now step ++
          printed_from places interest header (suc place) next (drop (suc place) steps) = ap (printed_from places interest header place were.now) rest in
          let joined = append_assoc text (printed_at places interest header place were.now step)
          (printed_from places interest header (suc place) next (drop (suc place) steps)) in
          record {
            now = next;
            stands = moves were.now were.stands;
            printed = rw add-one (ap (λ some. some ++ printed_from places interest header (suc place) next (drop (suc place) steps))
                (printed were.now were.stands)
                ∙ joined ∙ ap (λ some. text ++ some) (sym printed_rest) ∙ were.printed);
            state = rw add-one (ap (state_after were.now) (sym rest) ∙ were.state);
          };
    }

-- all steps are told
pub all_printed : {places : Places} {interest : Interest} {header : Header} {first : View} {steps : List Step} {before : List ℕ} {kernel : View} {look : Look}
    (place : ℕ) {text : List ℕ} → TellsSoFar places interest header first steps before kernel look place text → length steps ≤ place → IsPrinted places interest
    header first kernel steps before text
all_printed {places} {interest} {header} {first} {steps} {before} {kernel} {look} place {text} were past = record {
  printed = λ table stands.
      let were = were.reaches table stands in
      sym (append-nil text) ∙ ap (λ rest. text ++ printed_from places interest header place were.now rest) (sym none) ∙ were.printed;
  stands = λ table stands.
      let were = were.reaches table stands in
      subst (λ (now : Table). StandsFor kernel now) (ap (state_after were.now) (sym none) ∙ were.state) were.stands;
}
  where
    none : drop place steps ≡ []
    none = drop_all place steps past

-- a trace: all steps, and then the last place
pub trace_printed : (places : Places) (interest : Interest) (header : Header) (old new : View) (steps : List Step) (before between after : List ℕ) (look : Look)
    → StandsFor old (start header) → IsPrinted places interest header old new steps before between → Shows new look → after ≡ between ++ place_part places
    header (length steps) look → after ≡ before ++ trace_text places interest header steps
unfolding trace_text
trace_printed places interest header old new steps before between after look starts printed shows last =
    let here = printed_from places interest header 0 (start header) steps in
    let there = place_part places header (length steps) (look_of (state_after (start header) steps)) in
    let all = printed.printed (start header) starts in
    let seen = shows.shown (state_after (start header) steps) (printed.stands (start header) starts) in
    let joined : (before ++ here) ++ there ≡ before ++ (here ++ there) = append_assoc before here there in
    cc (all, seen, last, joined)
