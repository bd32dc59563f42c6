-- The edited list, one edit after another.
use Rattle.std.proofs.Common.{◌≡◌, ℕ, zero, suc, ◌+◌, ◌-◌, ◌<◌, ◌≤◌, Bool, true, false, cond, List, [], ◌∷◌, ◌++◌, length, take, drop, get_or, Option, Some, None, Result, Ok, Err, refl, sym, ap, subst, ◌∙◌, arith, add-one}
use Rattle.std.specs.Prelude.{All, is_ok, slice_get, slice_set, insert, remove}
use Rattle.std.specs.Option.{option_map_or}
use Rattle.std.proofs.Math.Seq.{drop-cons}
use Rattle.std.proofs.Math.ListN.{length-set}
use Rattle.std.proofs.lemmas.List.{map-append, map-set, take-map, drop-map, drop_all, length-append, length-map}
use Rattle.std.proofs.lemmas.List.Elements.{All-take, All-drop, All-set, All-append}
use Rattle.bench_types.specs.declared.edit.Edit.{Edit}
use Rattle.bench_types.specs.declared.edit.Edit.TheVariants.{Insert, Remove, Replace, ChangeTask}
use Rattle.bench_types.specs.declared.edit.EditFault.{EditFault}
use Rattle.bench_types.specs.declared.kernel_data.Settings.{Settings}
use Rattle.bench_types.specs.declared.step.Step.{Step}
use Rattle.bench_types.specs.Edit.{IsCheckedEdit}
use Rattle.bench_types.specs.Limits.{max_steps}
use Rattle.bench_types.specs.Session.{IsCheckedSession, Session}
use Rattle.bench_types.specs.Step.{settings_of, IsCheckedStep}
use Rattle.bench_model.specs.Edits.{accepted, after_edit, after_edits, args_of, edited}
use Rattle.kept_edits.specs.declared.edit.KeptEdit.{KeptEdit}
use Rattle.kept_edits.specs.declared.edit.KeptEdit.TheVariants.{Plain, Work}
use Rattle.kept_edits.specs.declared.edit.WorkChange.{WorkChange}
use Rattle.session_edits.proofs.Accepting.{edited_checked, still_checked}
use Rattle.kept_runs.specs.Items.{Item, anchor_at, inserted_at, edited_items, is_call, items_after, items_along, items_edited, items_from, items_worked}
use Rattle.kept_runs.proofs.Listed.{steps_of, steps_from}
use Rattle.kept_works.specs.Items.{items_after_kept, AreItems, IsItem}
use Rattle.kept_edits.specs.Edits.{IsKeptEdit}

-- ---- the list of a document

pub items_more : (first : ℕ) (steps : List Step) (step : Step)
    → items_from first (steps ++ step ∷ []) ≡ items_from first steps ++ record { step = step; anchor = first + length steps; inserted = false; changes = [] } ∷ []
items_more first [] step =
    let same : first ≡ first + 0 = omega arith in
    ap (λ (anchor : ℕ). record { step = step; anchor = anchor; inserted = false; changes = [] } ∷ []) same
items_more first (one ∷ steps) step =
    let same : suc first + length steps ≡ first + suc (length steps) = omega arith in
    ap (λ (items : List Item). record { step = one; anchor = first; inserted = false; changes = [] } ∷ items)
    (items_more (suc first) steps step
    ∙ ap (λ (anchor : ℕ). items_from (suc first) steps ++ record { step = step; anchor = anchor; inserted = false; changes = [] } ∷ []) same)

-- the anchor is none behind the end, and there are no more changes than edits
pub record IsPlaced (count edits : ℕ) (item : Item) : Type 0 where
  pub anchor : item.anchor ≤ count
  pub few : length item.changes ≤ edits

all_from : (first count : ℕ) (steps : List Step) → first + length steps ≤ count → All (IsPlaced count 0) (items_from first steps)
all_from first count [] few k d within = absurd (omega arith)
all_from first count (step ∷ steps) few zero d within = record { anchor = omega arith; few = omega arith }
all_from first count (step ∷ steps) few (suc k) d within = all_from (suc first) count steps (omega arith) k d (omega arith)

-- ---- an edit more

module _ {X : Type 0} where
  all_one : (P : X → Type 0) (x : X) → P x → All P (x ∷ [])
  all_one P x holds zero d within = holds
  all_one P x holds (suc k) d within = absurd (omega arith)

  all_insert : (P : X → Type 0) (xs : List X) (at : ℕ) (x : X) → P x → All P xs → All P (insert xs at x)
  all_insert P xs at x here all = All-append P (take at xs) (x ∷ drop at xs) (All-take P at xs all)
      (All-append P (x ∷ []) (drop at xs) (all_one P x here) (All-drop P at xs all))

  all_remove : (P : X → Type 0) (xs : List X) (at : ℕ) → All P xs → All P (remove xs at)
  all_remove P xs at all = All-append P (take at xs) (drop (suc at) xs) (All-take P at xs all) (All-drop P (suc at) xs all)

  all_got : (P : X → Type 0) (xs : List X) (at : ℕ) (x : X) → All P xs → slice_get xs at ≡ Some x → P x
  all_got P [] at x all is = absurd (cc is)
  all_got P (y ∷ ys) zero x all is =
      let same : y ≡ x = cc is in
      subst P same (all zero y (omega arith))
  all_got P (y ∷ ys) (suc at) x all is = all_got P ys at x (λ k d within. all (suc k) d (omega arith)) is

anchored : (count edits at : ℕ) (items : List Item) → All (IsPlaced count edits) items → anchor_at count items at ≤ count
anchored count edits at items all = there (slice_get items at) refl
  where
    there : (o : Option Item) → slice_get items at ≡ o → option_map_or (λ (item : Item). item.anchor) o count ≤ count
    there None is = omega arith
    there (Some item) is = (all_got (IsPlaced count edits) items at item all is).anchor

edited_placed : (count edits : ℕ) (edit : Edit) (items : List Item) → All (IsPlaced count edits) items → All (IsPlaced count edits) (items_edited count edit items)
edited_placed count edits (Insert at step) items all =
    all_insert (IsPlaced count edits) items at _ (record { anchor = anchored count edits at items all; few = omega arith }) all
edited_placed count edits (Remove at) items all = all_remove (IsPlaced count edits) items at all
edited_placed count edits (Replace at step) items all =
    All-set (IsPlaced count edits) items at _ (record { anchor = anchored count edits at items all; few = omega arith }) all
edited_placed count edits (ChangeTask task priority mask) items all = all

worked_placed : (count edits at : ℕ) (change : WorkChange) (items : List Item) → All (IsPlaced count edits) items
    → All (IsPlaced count (edits + 1)) (items_worked at change items)
worked_placed count edits at change items all = there (slice_get items at) refl
  where
    more : All (IsPlaced count (edits + 1)) items
    more k d within = let is = all k d within in record { anchor = is.anchor; few = let few = is.few in omega arith }

    there : (o : Option Item) → slice_get items at ≡ o
        → All (IsPlaced count (edits + 1))
        (option_map_or
        (λ (item : Item). cond (is_call item.step) (slice_set items at (record item { changes = item.changes ++ change ∷ [] })) items) o items)
    there None is = more
    there (Some item) is = with (is_call item.step)
      where
        with : (b : Bool) → All (IsPlaced count (edits + 1))
            (cond b (slice_set items at (record item { changes = item.changes ++ change ∷ [] })) items)
        with true =
            let own = all_got (IsPlaced count edits) items at item all is in
            let one : length (item.changes ++ change ∷ []) ≡ length item.changes + 1 = length-append item.changes (change ∷ []) in
            All-set (IsPlaced count (edits + 1)) items at _ (record { anchor = own.anchor; few = let few = own.few in omega (arith, one, few) }) more
        with false = more

-- ---- the steps of the list

edited_steps : (count : ℕ) (edit : Edit) (session : Session) (items : List Item) → steps_of items ≡ session.steps
    → steps_of (items_edited count edit items) ≡ (edited edit session).steps
edited_steps count (Insert at step) session items same =
    map-append (λ (item : Item). item.step) (take at items)
    (record { step = step; anchor = anchor_at count items at; inserted = true; changes = [] } ∷ drop at items)
    ∙ (λ i. sym (take-map (λ (item : Item). item.step) at items) i ++ step ∷ sym (drop-map (λ (item : Item). item.step) at items) i)
    ∙ ap (λ steps. take at steps ++ step ∷ drop at steps) same
edited_steps count (Remove at) session items same =
    map-append (λ (item : Item). item.step) (take at items) (drop (suc at) items)
    ∙ (λ i. sym (take-map (λ (item : Item). item.step) at items) i ++ sym (drop-map (λ (item : Item). item.step) (suc at) items) i)
    ∙ ap (λ steps. take at steps ++ drop (suc at) steps) same
edited_steps count (Replace at step) session items same =
    map-set (λ (item : Item). item.step) items at
    (record { step = step; anchor = anchor_at count items at; inserted = inserted_at items at; changes = [] })
    ∙ ap (λ steps. slice_set steps at step) same
edited_steps count (ChangeTask task priority mask) session items same = same

set_same : (items : List Item) (at : ℕ) (item : Item) → option_map_or (λ (item : Item). item.step) (slice_get items at) item.step ≡ item.step
    → steps_of (slice_set items at item) ≡ steps_of items
set_same [] at item same = refl
set_same (one ∷ items) zero item same = ap (λ step. step ∷ steps_of items) (sym same)
set_same (one ∷ items) (suc at) item same = ap (λ steps. one.step ∷ steps) (set_same items at item same)

worked_steps : (at : ℕ) (change : WorkChange) (items : List Item) → steps_of (items_worked at change items) ≡ steps_of items
worked_steps at change items = there (slice_get items at) refl
  where
    there : (o : Option Item) → slice_get items at ≡ o
        → steps_of
        (option_map_or
        (λ (item : Item). cond (is_call item.step) (slice_set items at (record item { changes = item.changes ++ change ∷ [] })) items) o items)
        ≡ steps_of items
    there None is = refl
    there (Some item) is = with (is_call item.step)
      where
        with : (b : Bool) → steps_of (cond b (slice_set items at (record item { changes = item.changes ++ change ∷ [] })) items) ≡ steps_of items
        with true =
            set_same items at (record item { changes = item.changes ++ change ∷ [] })
            (ap (λ (o : Option Item). option_map_or (λ (item : Item). item.step) o item.step) is)
        with false = refl

-- ---- the session after an edit

edited_settings : (edit : Edit) (session : Session) → settings_of (edited edit session).header ≡ settings_of session.header
edited_settings (Insert at step) session = refl
edited_settings (Remove at) session = refl
edited_settings (Replace at step) session = refl
edited_settings (ChangeTask task priority mask) session =
    let header = session.header in
    ap (λ (count : ℕ). record (settings_of header) { tasks = header.config.cores + count })
    (length-set header.tasks (task - header.config.cores) (record (args_of header task) { priority = priority; mask = mask }))

-- edits leave the settings
pub settings_kept : (session : Session) (edits : List Edit) → settings_of (after_edits session edits).header ≡ settings_of session.header
settings_kept session [] = refl
settings_kept session (edit ∷ edits) = settings_kept (after_edit session edit) edits ∙ at (is_ok (accepted session edit))
  where
    at : (b : Bool) → settings_of (cond b (edited edit session) session).header ≡ settings_of session.header
    at true = edited_settings edit session
    at false = refl

kept_still : (session : Session) (made : Edit) (edits : List KeptEdit) → All (IsKeptEdit session.header) edits
    → All (IsKeptEdit (after_edit session made).header) edits
kept_still session made edits all = λ k d within. one (get_or edits k d) (all k d within)
  where
    one : (edit : KeptEdit) → IsKeptEdit session.header edit → IsKeptEdit (after_edit session made).header edit
    one (Plain edit) checked = still_checked session made (edit ∷ []) (all_one (IsCheckedEdit session.header) edit checked) 0 edit (omega arith)
    one (Work at change) checked = tt

-- What is left of the edits makes of the list what all of them make of that of the document.
pub record IsOnTheWay (first : Session) (edits : List KeptEdit) (index : ℕ) (items : List Item) : Type 0 where
  pub now : Session
  pub items_to : items_along (length first.steps) now (drop index edits) items ≡ edited_items first edits
  pub same : steps_of items ≡ now.steps
  pub edits_still : All (IsKeptEdit now.header) edits
  pub checked : IsCheckedSession now
  pub settings : settings_of now.header ≡ settings_of first.header
  pub placed : All (IsPlaced (length first.steps) index) items

pub way_begins : (first : Session) (edits : List KeptEdit) (items : List Item) → IsCheckedSession first → All (IsKeptEdit first.header) edits
    → items ≡ items_from 0 first.steps → IsOnTheWay first edits 0 items
unfolding edited_items
way_begins first edits items checked kept is = record {
  now = first;
  items_to = ap (λ (items : List Item). items_along (length first.steps) first edits items) is;
  same = ap steps_of is ∙ steps_from 0 first.steps;
  edits_still = kept;
  checked = checked;
  settings = refl;
  placed = subst (λ items. All (IsPlaced (length first.steps) 0) items) (sym is) (all_from 0 (length first.steps) first.steps (omega arith));
}

module _ (first : Session) (edits : List KeptEdit) (index : ℕ) (items : List Item) (way : IsOnTheWay first edits index items) where
  more_placed : All (IsPlaced (length first.steps) (index + 1)) items
  more_placed k d within = let is = way.placed k d within in record { anchor = is.anchor; few = let few = is.few in omega arith }

  plain_on : (edit : Edit) (later : List Item) → IsCheckedEdit way.now.header edit → drop index edits ≡ Plain edit ∷ drop (suc index) edits
      → later ≡ items_after (length first.steps) way.now edit items → IsOnTheWay first edits (index + 1) later
  plain_on edit later fits rest is = record {
    now = after_edit way.now edit;
    items_to = rw add-one
        (ap (λ (items : List Item). items_along (length first.steps) (after_edit way.now edit) (drop (suc index) edits) items) is
        ∙ sym (ap (λ (list : List KeptEdit). items_along (length first.steps) way.now list items) rest) ∙ way.items_to);
    same = ap steps_of is ∙ (at (accepted way.now edit) refl).0;
    edits_still = kept_still way.now edit edits way.edits_still;
    checked = (at (accepted way.now edit) refl).1;
    settings = settled (is_ok (accepted way.now edit)) ∙ way.settings;
    placed = subst (λ items. All (IsPlaced (length first.steps) (index + 1)) items) (sym is) (put (is_ok (accepted way.now edit)));
  }
    where
      at : (check : Result (Unit {0}) EditFault) → accepted way.now edit ≡ check
          → (steps_of (cond (is_ok check) (items_edited (length first.steps) edit items) items)
          ≡ (cond (is_ok check) (edited edit way.now) way.now).steps)
          × IsCheckedSession (cond (is_ok check) (edited edit way.now) way.now)
      at (Ok done) accepts =
          (edited_steps (length first.steps) edit way.now items way.same, edited_checked way.now edit way.checked fits.words accepts)
      at (Err why) refuses = (way.same, way.checked)

      settled : (b : Bool) → settings_of (cond b (edited edit way.now) way.now).header ≡ settings_of way.now.header
      settled true = edited_settings edit way.now
      settled false = refl

      put : (b : Bool) → All (IsPlaced (length first.steps) (index + 1)) (cond b (items_edited (length first.steps) edit items) items)
      put true = edited_placed (length first.steps) (index + 1) edit items more_placed
      put false = more_placed

  work_on : (at : ℕ) (change : WorkChange) (later : List Item) → drop index edits ≡ Work at change ∷ drop (suc index) edits
      → later ≡ items_worked at change items → IsOnTheWay first edits (index + 1) later
  work_on at change later rest is = record {
    now = way.now;
    items_to = rw add-one
        (ap (λ (items : List Item). items_along (length first.steps) way.now (drop (suc index) edits) items) is
        ∙ sym (ap (λ (list : List KeptEdit). items_along (length first.steps) way.now list items) rest) ∙ way.items_to);
    same = ap steps_of is ∙ worked_steps at change items ∙ way.same;
    edits_still = way.edits_still;
    checked = way.checked;
    settings = way.settings;
    placed = subst (λ items. All (IsPlaced (length first.steps) (index + 1)) items) (sym is) (worked_placed (length first.steps) index at change items way.placed);
  }

  pub way_on : (later : List Item) (none : KeptEdit) → index < length edits
      → ((session : Session) → length session.steps ≡ length items → IsKeptEdit session.header (get_or edits index none)
      → later ≡ items_after_kept (length first.steps) session (get_or edits index none) items)
      → IsOnTheWay first edits (index + 1) later
  way_on later none within made = by (get_or edits index none) refl (way.edits_still index none within)
      (made way.now (sym (ap (λ (steps : List Step). length steps) way.same) ∙ length-map items (λ (item : Item). item.step)) (way.edits_still index none within))
    where
      by : (edit : KeptEdit) → get_or edits index none ≡ edit → IsKeptEdit way.now.header edit
          → later ≡ items_after_kept (length first.steps) way.now edit items → IsOnTheWay first edits (index + 1) later
      by (Plain edit) is fits made =
          plain_on edit later fits (drop-cons edits index none within ∙ ap (λ (edit : KeptEdit). edit ∷ drop (suc index) edits) is) made
      by (Work at change) is fits made =
          work_on at change later (drop-cons edits index none within ∙ ap (λ (edit : KeptEdit). edit ∷ drop (suc index) edits) is) made

  -- all edits were made
  pub way_ends : length edits ≤ index → items ≡ edited_items first edits
  way_ends past = sym (ap (λ (list : List KeptEdit). items_along (length first.steps) way.now list items) (drop_all index edits past)) ∙ way.items_to

unmapped : (P : Step → Type 0) (items : List Item) → All P (steps_of items) → All (λ (item : Item). P item.step) items
unmapped P [] all k d within = absurd (omega arith)
unmapped P (item ∷ items) all zero d within = all zero item.step (omega arith)
unmapped P (item ∷ items) all (suc k) d within = unmapped P items (λ j e within. all (suc j) e (omega arith)) k d (omega arith)

-- what the list is then
pub way_items : (first : Session) (edits : List KeptEdit) (index : ℕ) (items : List Item) → IsOnTheWay first edits index items → index ≤ length edits
    → AreItems (settings_of first.header) (length first.steps) (length edits) items
way_items first edits index items way made = record { each = each; room = room }
  where
    own : All (IsCheckedStep (settings_of way.now.header)) (steps_of items)
    own = subst (λ (steps : List Step). All (IsCheckedStep (settings_of way.now.header)) steps) (sym way.same) way.checked.checked.steps

    fits : All (λ (item : Item). IsCheckedStep (settings_of first.header) item.step) items
    fits = unmapped (IsCheckedStep (settings_of first.header)) items
        (subst (λ (settings : Settings). All (IsCheckedStep settings) (steps_of items)) way.settings own)

    each : All (IsItem (settings_of first.header) (length first.steps) (length edits)) items
    each k d within =
        let placed = way.placed k d within in
        let few = placed.few in
        record { checked = fits k d within; anchor = placed.anchor; few = omega arith }

    room : length items ≤ max_steps
    room =
        let few = way.checked.few in
        let same : length items ≡ length way.now.steps =
        sym (length-map items (λ (item : Item). item.step)) ∙ ap (λ (steps : List Step). length steps) way.same in
        omega (arith, few, same)
