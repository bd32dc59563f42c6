-- What a trace tells of the places so far, and of all of them.
use Rattle.std.proofs.Common.{◌≡◌, ℕ, zero, suc, ◌+◌, ◌<◌, ◌≤◌, ◌^◌, List, [], ◌∷◌, ◌++◌, length, map, filter, flat_map, drop, get_or, Bool, true, false, refl}
use Rattle.std.proofs.Common.{subst, sym, ap, ◌∙◌, append_assoc, add-one, arith}
use Rattle.std.specs.Prelude.{◌&&◌, Option, if◌then◌else◌}
use Rattle.std.proofs.Math.Seq.{drop-cons}
use Rattle.std.proofs.lemmas.Grind.{flat_map-append}
use Rattle.std.proofs.lemmas.List.{append-nil, drop_all, length-map, take_all}
use Rattle.std.proofs.lemmas.List.Folds.{flat_map-map}
use Rattle.std.proofs.lemmas.Option.{slice_get-get_or, slice_get_past}
use Rattle.list_orders.specs.Search.{numbers}
use Rattle.bench_types.specs.declared.header.Header.{Header}
use Rattle.bench_types.specs.declared.reply.Reply.{Reply}
use Rattle.bench_types.specs.declared.step.Step.{Step}
use Rattle.bench_model.specs.Equal.{StandsFor}
use Rattle.bench_model.specs.Lists.{View}
use Rattle.bench_model.specs.Session.{state_after, state_at, step_of}
use Rattle.bench_model.specs.Start.{start}
use Rattle.bench_model.specs.Table.{Table}
use Rattle.run_views.specs.declared.change.Change.{Change}
use Rattle.run_views.specs.declared.look.Look.{Look}
use Rattle.run_views.specs.declared.places.Places.{Places}
use Rattle.run_views.specs.Changes.{changes}
use Rattle.run_views.specs.Looks.{look_of}
use Rattle.run_views.specs.PlaceTexts.{everything, lines_of_step, place_text, place_texts, shown_text, text_at}
use Rattle.run_views.specs.Trace.{place_line, place_part, shows, step_lines, step_part, printed_at, printed_from, printed_part, trace_text, Shows}
use Rattle.run_views.proofs.States.{made_of, made_of_more, next_state, shown_few}

-- ---- a loop over the steps

pub record TextsSoFar (places : Places) (header : Header) (first : View) (steps : List Step) (old texts : List (List ℕ)) (kernel : View)
    (place : ℕ) : Type 0 where
  pub settings : kernel.settings ≡ first.settings
  pub stands : StandsFor kernel (state_at header steps place)
  pub printed : texts ≡ old ++ made_of (shows places) (place_text places header steps) place

pub none_printed : (places : Places) (header : Header) (first : View) (steps : List Step) (texts : List (List ℕ)) → StandsFor first (start header)
    → TextsSoFar places header first steps texts texts first 0
unfolding state_at
none_printed places header first steps texts starts = record { settings = refl; stands = starts; printed = sym (append-nil texts) }

-- a place at which a step is made
text_here : (places : Places) (header : Header) (steps : List Step) (place : ℕ) (d : Step) → place < length steps
    → text_at places header place (state_at header steps place) (get_or steps place d) ≡ place_text places header steps place
unfolding place_text
text_here places header steps place d early =
    let state = state_at header steps place in
    ap (λ (one : Option Step). place_line header place (look_of state) ++ lines_of_step places header place state one)
    (sym (slice_get-get_or steps place d early))

-- the end, at which none is made
text_there : (places : Places) (header : Header) (steps : List Step) (place : ℕ) → length steps ≤ place
    → place_line header place (look_of (state_at header steps place)) ≡ place_text places header steps place
unfolding place_text
text_there places header steps place late =
    let state = state_at header steps place in
    sym (append-nil (place_line header place (look_of state)))
    ∙ ap (λ (one : Option Step). place_line header place (look_of state) ++ lines_of_step places header place state one) (sym (slice_get_past steps place late))

-- the text of one place more
one_more : (places : Places) (header : Header) (steps : List Step) (old texts next : List (List ℕ)) (place : ℕ) (text : List ℕ) → texts ≡ old ++ made_of
    (shows places) (place_text places header steps) place → next ≡ texts ++ shown_text places place text → text ≡ place_text places header steps place
    → next ≡ old ++ made_of (shows places) (place_text places header steps) (place + 1)
one_more places header steps old texts next place text were pushed is =
    let f = place_text places header steps in
    pushed ∙ ap (λ (t : List ℕ). texts ++ shown_text places place t) is ∙ ap (λ ts. ts ++ shown_text places place (f place)) were
    ∙ append_assoc old (made_of (shows places) f place) (shown_text places place (f place))
    ∙ ap (λ ts. old ++ ts) (sym (made_of_more (shows places) f place))

pub step_printed : {places : Places} {header : Header} {first : View} {steps : List Step} {old texts : List (List ℕ)} {kernel : View} {place : ℕ} (later : View)
    (next : List (List ℕ)) (d : Step) → TextsSoFar places header first steps old texts kernel place → place < length steps
    → ((table : Table) → StandsFor kernel table → next ≡ texts ++ shown_text places place (text_at places header place table (get_or steps place d)))
    → ((table : Table) → StandsFor kernel table → StandsFor later (step_of (get_or steps place d) table).1) → later.settings ≡ kernel.settings
    → TextsSoFar places header first steps old next later (place + 1)
step_printed {places} {header} {first} {steps} {old} {texts} {kernel} {place} later next d were early pushed moves settings =
    let now = state_at header steps place in
    record {
      settings = settings ∙ were.settings;
      stands = rw add-one (subst (λ (t : Table). StandsFor later t) (sym (next_state header steps place d early)) (moves now were.stands));
      printed = one_more places header steps old texts next place (text_at places header place now (get_or steps place d)) were.printed (pushed now were.stands)
          (text_here places header steps place d early);
    }

pub end_printed : {places : Places} {header : Header} {first : View} {steps : List Step} {old texts : List (List ℕ)} {kernel : View} {place : ℕ}
    (next : List (List ℕ)) → TextsSoFar places header first steps old texts kernel place → place ≡ length steps
    → ((table : Table) → StandsFor kernel table → next ≡ texts ++ shown_text places (length steps) (place_line header (length steps) (look_of table))) → next ≡
    old ++ place_texts places header steps
unfolding place_texts
end_printed {places} {header} {first} {steps} {old} {texts} {kernel} {place} next were end pushed =
    let f = place_text places header steps in
    let now = state_at header steps place in
    one_more places header steps old texts next place (place_line header place (look_of now)) were.printed
    (pushed now were.stands ∙ ap (λ n. texts ++ shown_text places n (place_line header n (look_of now))) (sym end))
    (text_there places header steps place (omega (arith, end)))
    ∙ ap (λ n. old ++ made_of (shows places) f n) (add-one place ∙ ap suc end)

-- ---- one after another they are the trace

-- what is told of the first places
abbrev printed_before : Places → Header → List Step → ℕ → List ℕ
printed_before places header steps place = flat_map (λ text. text) (made_of (shows places) (place_text places header steps) place)

flat_one : (b : Bool) (text : List ℕ) → flat_map (λ (t : List ℕ). t) (if b then text ∷ [] else []) ≡ (if b then text else [])
flat_one true text = append-nil text
flat_one false text = refl

printed_more : (places : Places) (header : Header) (steps : List Step) (place : ℕ) → printed_before places header steps (suc place) ≡ printed_before places
    header steps place ++ (if shows places place then place_text places header steps place else [])
printed_more places header steps place =
    let f = place_text places header steps in
    ap (λ n. printed_before places header steps n) (sym (add-one place))
    ∙ ap (flat_map (λ (t : List ℕ). t)) (made_of_more (shows places) f place)
    ∙ flat_map-append (λ (t : List ℕ). t) (made_of (shows places) f place) (if shows places place then f place ∷ [] else [])
    ∙ ap (λ ts. printed_before places header steps place ++ ts) (flat_one (shows places place) (f place))

shown_parts : (b c : Bool) (line lines : List ℕ) → (if b then line ++ (if b && c then lines else []) else []) ≡ (if b then line else []) ++
    (if b && c then lines else [])
shown_parts true c line lines = refl
shown_parts false c line lines = refl

-- what is told of a place and its step is what a trace of everything tells there
printed_here : (places : Places) (header : Header) (steps : List Step) (place : ℕ) (d : Step) → place < length steps →
    (if shows places place then place_text places header steps place else []) ≡ printed_at places everything header place (state_at header steps place)
    (get_or steps place d)
unfolding place_part step_part printed_part
printed_here places header steps place d early =
    let state = state_at header steps place in
    let step = get_or steps place d in
    let outcome = step_of step state in
    let some = changes (look_of state) (look_of outcome.1) in
    ap (λ (t : List ℕ). if shows places place then t else []) (sym (text_here places header steps place d early))
    ∙ shown_parts (shows places place) (shows places (suc place)) (place_line header place (look_of state)) (step_lines header place step outcome.0 some)

printed_so_far : (places : Places) (header : Header) (steps : List Step) (d : Step) (place : ℕ) → place ≤ length steps → printed_before places header steps
    place ++ printed_from places everything header place (state_at header steps place) (drop place steps) ≡ printed_from places everything header 0
    (start header) steps
unfolding state_at
printed_so_far places header steps d zero early = refl
printed_so_far places header steps d (suc place) early =
    let within : place < length steps = omega (arith, early) in
    let before = printed_before places header steps place in
    let step = get_or steps place d in
    let state = state_at header steps place in
    let rest = printed_from places everything header (suc place) (step_of step state).1 (drop (suc place) steps) in
    ap (λ (t : Table). printed_before places header steps (suc place) ++ printed_from places everything header (suc place) t (drop (suc place) steps))
    (next_state header steps place d within)
    ∙ ap (λ ts. ts ++ rest) (printed_more places header steps place ∙ ap (λ ts. before ++ ts) (printed_here places header steps place d within))
    ∙ append_assoc before (printed_at places everything header place state step) rest
    ∙ ap (λ ss. before ++ printed_from places everything header place state ss) (sym (drop-cons steps place d within))
    ∙ printed_so_far places header steps d place (omega (arith, early))

all_printed : (places : Places) (header : Header) (steps : List Step) → printed_before places header steps (length steps) ≡ printed_from places everything
    header 0 (start header) steps
all_printed places header [] = refl
all_printed places header (step ∷ rest) =
    let steps = step ∷ rest in
    let state = state_at header steps (length steps) in
    sym (append-nil (printed_before places header steps (length steps)))
    ∙ ap (λ ss. printed_before places header steps (length steps) ++ printed_from places everything header (length steps) state ss)
    (sym (drop_all (length steps) steps (omega arith)))
    ∙ printed_so_far places header steps step (length steps) (omega arith)

-- the end of a trace
printed_last : (places : Places) (header : Header) (steps : List Step) →
    (if shows places (length steps) then place_text places header steps (length steps) else []) ≡ place_part places header (length steps)
    (look_of (state_after (start header) steps))
unfolding place_part state_at
printed_last places header steps =
    let place = length steps in
    ap (λ (t : List ℕ). if shows places place then t else [])
    (sym (text_there places header steps place (omega arith))
    ∙ ap (λ ss. place_line header place (look_of (state_after (start header) ss))) (take_all place steps (omega arith)))

-- the whole trace
pub texts_are_trace : (places : Places) (header : Header) (steps : List Step) → flat_map (λ text. text) (place_texts places header steps) ≡ trace_text places
    everything header steps
unfolding place_texts trace_text
texts_are_trace places header steps =
    printed_more places header steps (length steps)
    ∙ ap (λ ts. printed_before places header steps (length steps) ++ ts) (printed_last places header steps)
    ∙ ap (λ ts. ts ++ place_part places header (length steps) (look_of (state_after (start header) steps))) (all_printed places header steps)

-- ---- all of them

flat_of : {X : Type 0} (bytes : X → List ℕ) (xs : List X) → flat_map bytes xs ≡ flat_map (λ (t : List ℕ). t) (map bytes xs)
flat_of bytes xs = sym (flat_map-map (λ (t : List ℕ). t) bytes xs)

pub whole_printed : {X : Type 0} (bytes : X → List ℕ) (places : Places) (header : Header) (steps : List Step) (items : List X) → map bytes items ≡ place_texts
    places header steps → flat_map bytes items ≡ trace_text places everything header steps
whole_printed bytes places header steps items are = flat_of bytes items ∙ ap (flat_map (λ (t : List ℕ). t)) are ∙ texts_are_trace places header steps

-- they have numbers of 32 bits
pub texts_numbered : (places : Places) (header : Header) (steps : List Step) (count : ℕ) → places.from < 2 ^ 32 → length steps + 1 < 2 ^ 32 → count ≡ length
    (place_texts places header steps) → places.from + count ≤ 2 ^ 32
unfolding place_texts
texts_numbered places header steps count from few many =
    let shown = shown_few places (suc (length steps)) in
    omega (arith, many, length-map (filter (shows places) (numbers (suc (length steps)))) (place_text places header steps))
