-- The lines of a replay, place by place.
use Rattle.std.proofs.Common.{◌≡◌, ℕ, suc, ◌+◌, ◌≤◌, Bool, true, false, List, [], ◌∷◌, ◌++◌, length, flat_map, nat_le, if◌then◌else◌, Option, Some, None, refl}
use Rattle.std.proofs.Common.{sym, ap, ◌∙◌, arith, append_assoc}
use Rattle.std.specs.Prelude.{option_map}
use Rattle.std.specs.Option.{option_map_or}
use Rattle.std.proofs.lemmas.Bool.Decides.{nat_tests}
use Rattle.std.proofs.lemmas.List.{append-nil}
use Rattle.std.proofs.lemmas.Option.{slice_get_past}
use Rattle.std.proofs.lemmas.Grind.{flat_map-append}
use Rattle.bench_types.specs.declared.header.Header.{Header}
use Rattle.bench_types.specs.declared.reply.Reply.{Reply}
use Rattle.bench_types.specs.declared.step.Step.{Step}
use Rattle.list_orders.specs.Search.{numbers}
use Rattle.bench_model.specs.Control.{running}
use Rattle.bench_model.specs.Start.{start}
use Rattle.bench_model.specs.Session.{step_of, state_at, reply_at, running_at}
use Rattle.list_orders.proofs.Stamped.{numbers_more}
use Rattle.bench_commands.specs.Lines.{step_line}
use Rattle.bench_commands.specs.Answer.{first_line, line_at, replay_text}

-- the line of a reply and a row, none where one of them is not there
abbrev pub line_with : Header → ℕ → Option Reply → Option (List ℕ) → List ℕ
line_with header place (Some reply) (Some row) = step_line header place reply row
line_with header place _ _ = []

-- a place past the last step has no reply
none_past : (header : Header) (steps : List Step) (place : ℕ) → length steps ≤ place → reply_at header steps place ≡ None
unfolding reply_at
none_past header steps place past = ap (λ (step : Option Step). option_map (λ (s : Step). (step_of s (state_at header steps place)).0) step)
    (slice_get_past steps place past)

abbrev some_row : Bool → List ℕ → Option (List ℕ)
some_row early row = if early then Some row else None

pub line_of : (header : Header) (steps : List Step) (place : ℕ) (reply : Option Reply) (row : Option (List ℕ)) → reply ≡ reply_at header steps place → row ≡
    running_at header steps (place + 1)
    → line_at header steps place ≡ line_with header place reply row
unfolding running_at
line_of header steps place reply row replied runs = go reply row replied (nat_le (place + 1) (length steps)) refl runs
  where
    after : List ℕ
    after = running (state_at header steps (suc place)).control

    line : Option Reply → List ℕ
    line found = option_map_or (λ (outcome : Reply × List ℕ). step_line header place outcome.0 outcome.1) (option_map (λ (r : Reply). (r, after)) found) []

    next : running (state_at header steps (place + 1)).control ≡ after
    next =
        let same : place + 1 ≡ suc place = omega arith in
        ap (λ n. running (state_at header steps n).control) same

    go : (reply : Option Reply) (row : Option (List ℕ)) → reply ≡ reply_at header steps place → (early : Bool) → nat_le (place + 1) (length steps) ≡ early
        → row ≡ some_row (nat_le (place + 1) (length steps)) (running (state_at header steps (place + 1)).control) → line_at header steps place ≡ line_with
        header place reply row
    go None row replied early is runs = ap line (sym replied)
    go (Some reply) None replied true is runs = absurd (cc (runs, is))
    go (Some reply) None replied false is runs =
        let past : length steps ≤ place = grind (arith, nat_tests, is) in
        absurd (cc (replied, none_past header steps place past))
    go (Some reply) (Some row) replied true is runs =
        let same : row ≡ running (state_at header steps (place + 1)).control = cc (runs, is) in
        ap line (sym replied) ∙ ap (λ r. step_line header place reply r) (sym (same ∙ next))
    go (Some reply) (Some row) replied false is runs = absurd (cc (runs, is))

-- some place is the start
start_is_there : (header : Header) (steps : List Step) → Some (running (start header).control) ≡ running_at header steps 0
unfolding running_at state_at
start_is_there header steps =
    let early : nat_le 0 (length steps) ≡ true = grind (arith, nat_tests) in
    ap (λ b. some_row b (running (start header).control)) (sym early)

lines_more : (header : Header) (steps : List Step) (place : ℕ) → flat_map (line_at header steps) (numbers (place + 1)) ≡ flat_map (line_at header steps)
    (numbers place) ++ line_at header steps place
lines_more header steps place =
    let line = line_at header steps in
    ap (flat_map line) (numbers_more place) ∙ flat_map-append line (numbers place) (place ∷ []) ∙ ap (λ last. flat_map line (numbers place) ++ last)
    (append-nil (line place))

-- the lines after a text: the start, then those of the steps before a place
abbrev pub lines_after : List ℕ → Header → List Step → ℕ → List ℕ
lines_after before header steps place = before ++ (first_line header ++ flat_map (line_at header steps) (numbers place))

pub lines_start : (before : List ℕ) (header : Header) (steps : List Step) → before ++ first_line header ≡ lines_after before header steps 0
lines_start before header steps = ap (λ first. before ++ first) (sym (append-nil (first_line header)))

pub lines_next : (before : List ℕ) (header : Header) (steps : List Step) (place : ℕ) → lines_after before header steps place ++ line_at header steps place ≡
    lines_after before header steps (place + 1)
lines_next before header steps place =
    let line = line_at header steps place in
    let lines = flat_map (line_at header steps) (numbers place) in
    append_assoc before (first_line header ++ lines) line
    ∙ ap (λ rest. before ++ rest) (append_assoc (first_line header) lines line ∙ ap (λ more. first_line header ++ more) (sym (lines_more header steps place)))

pub lines_end : (before : List ℕ) (header : Header) (steps : List Step) (place : ℕ) → place ≡ length steps → lines_after before header steps place ≡ before ++
    replay_text header steps
unfolding replay_text
lines_end before header steps place all = ap (λ n. lines_after before header steps n) all

-- what a store shows of the start
pub start_shown : (header : Header) (steps : List Step) (row : List ℕ) → Some row ≡ running_at header steps 0 → row ≡ running (start header).control
start_shown header steps row shown = cc (shown, start_is_there header steps)

pub start_not_none : (header : Header) (steps : List Step) → None ≡ running_at header steps 0 → ⊥
start_not_none header steps none = cc (none, start_is_there header steps)

pub row_some : (header : Header) (steps : List Step) (place : ℕ) (row : List ℕ) → Some row ≡ running_at header steps (suc place) → Some row ≡ running_at header
    steps (place + 1)
row_some header steps place row printed =
    let next : suc place ≡ place + 1 = omega arith in
    printed ∙ ap (running_at header steps) next
