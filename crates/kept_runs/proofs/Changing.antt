-- What edits change of works.
use Rattle.std.proofs.Common.{◌≡◌, ℕ, suc, Bool, true, false, cond, not, List, [], ◌∷◌, ◌++◌, length, map, take, drop, Option, Some, None, refl, ap, ◌∙◌}
use Rattle.std.specs.Prelude.{All, fold, is_ok, slice_get, slice_set}
use Rattle.std.specs.List.{cons_option}
use Rattle.std.specs.Option.{option_map_or}
use Rattle.std.proofs.lemmas.List.Elements.{All-append, All-cons, All-drop, All-nil, All-set, All-take}
use Rattle.std.proofs.lemmas.List.Sums.{fold-append}
use Rattle.bench_types.specs.declared.edit.Edit.{Edit}
use Rattle.bench_types.specs.declared.edit.Edit.TheVariants.{Insert, Remove, Replace, ChangeTask}
use Rattle.bench_types.specs.declared.step.Step.{Step}
use Rattle.bench_types.specs.declared.step.Step.TheVariants.{Tick, Switch, Interrupt, QueueInterrupt, ResumeInterrupt, Pass}
use Rattle.bench_types.specs.declared.step.Step.TheVariants as steps
use Rattle.bench_types.specs.Session.{Session}
use Rattle.bench_model.specs.Edits.{accepted, after_edit, after_edits}
use Rattle.kept_edits.specs.declared.edit.KeptEdit.TheVariants.{Plain}
use Rattle.kept_edits.specs.declared.edit.WorkChange.{WorkChange}
use Rattle.kept_edits.specs.Edits.{plain_edits}
use Rattle.settled_runs.specs.Settled.{is_finish}
use Rattle.kept_runs.specs.Clocks.{Clocks, elapsed, later_clock, zero_clock}
use Rattle.kept_runs.specs.Items.{Item, anchor_at, edited_items, inserted_at, is_call, items_after, items_along, items_edited, items_from, items_worked}
use Rattle.kept_runs.specs.WorkLaws.{PlainEditsChangeNoWork, WorkEditsChangeOneCall}
use Rattle.kept_runs.specs.declared.works.Unmade.{Unmade}
use Rattle.kept_runs.specs.Works.{Placed, anchor_clocks, changed_work, placed_call, placed_calls, placed_item, unmade_calls, user_tasks, with_clock, works_from}

-- ---- edits of the session alone

abbrev IsUnworked : Item → Type 0
IsUnworked item = item.changes ≡ []

unworked_from : (document : List Step) (index : ℕ) → All IsUnworked (items_from index document)
unworked_from [] index = All-nil IsUnworked
unworked_from (step ∷ document) index =
    All-cons IsUnworked (record { step = step; anchor = index; inserted = false; changes = [] }) (items_from (suc index) document) refl
    (unworked_from document (suc index))

unworked_edited : (count : ℕ) (edit : Edit) (items : List Item) → All IsUnworked items → All IsUnworked (items_edited count edit items)
unworked_edited count (Insert at step) items all =
    let new : Item = record { step = step; anchor = anchor_at count items at; inserted = true; changes = [] } in
    All-append IsUnworked (take at items) (new ∷ drop at items) (All-take IsUnworked at items all)
    (All-cons IsUnworked new (drop at items) refl (All-drop IsUnworked at items all))
unworked_edited count (Remove at) items all =
    All-append IsUnworked (take at items) (drop (suc at) items) (All-take IsUnworked at items all) (All-drop IsUnworked (suc at) items all)
unworked_edited count (Replace at step) items all =
    All-set IsUnworked items at (record { step = step; anchor = anchor_at count items at; inserted = inserted_at items at; changes = [] }) refl all
unworked_edited count (ChangeTask task priority mask) items all = all

unworked_after : (count : ℕ) (session : Session) (edit : Edit) (items : List Item) → All IsUnworked items → All IsUnworked (items_after count session edit items)
unworked_after count session edit items all = at (is_ok (accepted session edit))
  where
    at : (b : Bool) → All IsUnworked (cond b (items_edited count edit items) items)
    at true = unworked_edited count edit items all
    at false = all

unworked_along : (count : ℕ) (edits : List Edit) (session : Session) (items : List Item) → All IsUnworked items
    → All IsUnworked (items_along count session (map Plain edits) items)
unworked_along count [] session items all = all
unworked_along count (edit ∷ edits) session items all =
    unworked_along count edits (after_edit session edit) (items_after count session edit items) (unworked_after count session edit items all)

all_plain : (edits : List Edit) → plain_edits (map Plain edits) ≡ edits
all_plain [] = refl
all_plain (edit ∷ edits) = ap (λ edits. edit ∷ edits) (all_plain edits)

pub plain_edits_change_no_work : PlainEditsChangeNoWork
unfolding edited_items
plain_edits_change_no_work session edits = (
  unworked_along (length session.steps) edits session (items_from 0 session.steps) (unworked_from session.steps 0),
  ap (after_edits session) (all_plain edits),
)

-- ---- an edit of work

-- the item with one change more
abbrev worked : WorkChange → Item → Item
worked change item = record item { changes = item.changes ++ change ∷ [] }

item_there : (before behind : List Item) (item : Item) → slice_get (before ++ item ∷ behind) (length before) ≡ Some item
item_there [] behind item = refl
item_there (one ∷ before) behind item = item_there before behind item

item_set : (before behind : List Item) (item other : Item) → slice_set (before ++ item ∷ behind) (length before) other ≡ before ++ other ∷ behind
item_set [] behind item other = refl
item_set (one ∷ before) behind item other = ap (λ items. one ∷ items) (item_set before behind item other)

items_there : (before behind : List Item) (item : Item) (change : WorkChange) → is_call item.step ≡ true
    → items_worked (length before) change (before ++ item ∷ behind) ≡ before ++ worked change item ∷ behind
items_there before behind item change call =
    let items = before ++ item ∷ behind in
    ap (λ o. option_map_or (λ (item : Item). cond (is_call item.step) (slice_set items (length before) (worked change item)) items) o items)
    (item_there before behind item)
    ∙ ap (λ b. cond b (slice_set items (length before) (worked change item)) items) call
    ∙ item_set before behind item (worked change item)

-- the works of calls with one that is changed
record ChangesOne (change : WorkChange) (works other : List Unmade) : Type 0 where
  front : List Unmade
  back : List Unmade
  one : Unmade
  are : works ≡ front ++ one ∷ back
  others : other ≡ front ++ record one { work = changed_work one.work change } ∷ back

one_later : (change : WorkChange) (first : Unmade) (works other : List Unmade) → ChangesOne change works other → ChangesOne change (first ∷ works) (first ∷ other)
one_later change first works other changes = record {
  front = first ∷ changes.front;
  back = changes.back;
  one = changes.one;
  are = ap (λ works. first ∷ works) changes.are;
  others = ap (λ works. first ∷ works) changes.others;
}

module _ (clocks : ℕ → Clocks) (ends : Clocks) (tasks : List ℕ) (change : WorkChange) where
  works_there : (before behind : List Item) (item : Item) (last : Clocks) → is_call item.step ≡ true
      → ChangesOne change (works_from ends last tasks (placed_calls clocks (before ++ item ∷ behind)))
      (works_from ends last tasks (placed_calls clocks (before ++ worked change item ∷ behind)))
  works_there [] behind item last call = at item.step call
    where
      at : (step : Step) → is_call step ≡ true
          → ChangesOne change (works_from ends last tasks (cons_option (placed_call clocks item.anchor item.changes step) (placed_calls clocks behind)))
          (works_from ends last tasks
          (cons_option (placed_call clocks item.anchor (item.changes ++ change ∷ []) step) (placed_calls clocks behind)))
      at (steps.Call core task call) is = which (is_finish call) is
        where
          which : (f : Bool) → not f ≡ true
              → ChangesOne change
              (works_from ends last tasks
              (cons_option (cond f None (Some (record { task = task; call = call; clock = clocks item.anchor task; changes = item.changes })))
              (placed_calls clocks behind)))
              (works_from ends last tasks
              (cons_option
              (cond f None (Some (record { task = task; call = call; clock = clocks item.anchor task; changes = item.changes ++ change ∷ [] })))
              (placed_calls clocks behind)))
          which true is = absurd (cc is)
          which false is = record {
            front = [];
            back = works_from ends (with_clock last task (later_clock (last task) (clocks item.anchor task))) tasks (placed_calls clocks behind);
            one = record { task = task; call = Some call; work = fold changed_work (elapsed (last task) (clocks item.anchor task)) item.changes };
            are = refl;
            others = ap
                (λ work. record { task = task; call = Some call; work = work }
                ∷ works_from ends (with_clock last task (later_clock (last task) (clocks item.anchor task))) tasks (placed_calls clocks behind))
                (fold-append changed_work (elapsed (last task) (clocks item.anchor task)) item.changes (change ∷ []));
          }
      at Tick is = absurd (cc is)
      at (Switch core) is = absurd (cc is)
      at (Interrupt core note) is = absurd (cc is)
      at (QueueInterrupt core queue direction) is = absurd (cc is)
      at (ResumeInterrupt core other) is = absurd (cc is)
      at (Pass units) is = absurd (cc is)
  works_there (one ∷ before) behind item last call = at (placed_item clocks one) (λ last. works_there before behind item last call)
    where
      at : (o : Option Placed)
          → ((last : Clocks) → ChangesOne change (works_from ends last tasks (placed_calls clocks (before ++ item ∷ behind)))
          (works_from ends last tasks (placed_calls clocks (before ++ worked change item ∷ behind))))
          → ChangesOne change (works_from ends last tasks (cons_option o (placed_calls clocks (before ++ item ∷ behind))))
          (works_from ends last tasks (cons_option o (placed_calls clocks (before ++ worked change item ∷ behind))))
      at None rest = rest last
      at (Some placed) rest =
          let next = with_clock last placed.task (later_clock (last placed.task) placed.clock) in
          one_later change
          (record {
            task = placed.task;
            call = Some placed.call;
            work = fold changed_work (elapsed (last placed.task) placed.clock) placed.changes;
          })
          (works_from ends next tasks (placed_calls clocks (before ++ item ∷ behind)))
          (works_from ends next tasks (placed_calls clocks (before ++ worked change item ∷ behind)))
          (rest next)

pub work_edits_change_one_call : WorkEditsChangeOneCall
unfolding unmade_calls
work_edits_change_one_call session settled before behind item change call =
    let clocks = anchor_clocks session settled in
    let ends = clocks (length session.steps) in
    let changes = works_there clocks ends (user_tasks session.header) change before behind item (λ task. zero_clock) call in (
      changes.front,
      changes.back,
      changes.one,
      changes.are,
      ap (λ items. works_from ends (λ task. zero_clock) (user_tasks session.header) (placed_calls clocks items)) (items_there before behind item change call)
          ∙ changes.others,
    )
