-- What is shown of each core, task or mutex, one after another.
use Rattle.std.proofs.Common.{◌≡◌, ℕ, ◌+◌, ◌<◌, ◌^◌, List, [], ◌∷◌, ◌++◌, length, map, ap, sym, subst, ◌∙◌, length-append}
use Rattle.std.specs.Prelude.{All}
use Rattle.std.proofs.lemmas.List.{map-append}
use Rattle.std.proofs.lemmas.List.Elements.{All-from_recursion, All-push}
use Rattle.bench_types.specs.declared.note.NoteState.{NoteState}
use Rattle.bench_types.specs.declared.note.Notification.{Notification}
use Rattle.list_orders.specs.Search.{numbers}
use Rattle.list_orders.proofs.Stamped.{numbers_more}
use Rattle.bench_model.specs.Equal.{StandsFor}
use Rattle.bench_model.specs.Lists.{View}
use Rattle.bench_model.specs.Table.{Table}
use Rattle.run_views.specs.Looks.{notes_of}

-- so many items, which are what any table shows that the kernel stands for
pub record AreShown {X : Type 0} (kernel : View) (of_table : Table → ℕ → X) (items : List X) (count : ℕ) : Type 0 where
  pub many : length items ≡ count
  pub shown : (table : Table) → StandsFor kernel table → items ≡ map (of_table table) (numbers count)

pub none_shown : {X : Type 0} (kernel : View) (of_table : Table → ℕ → X) (items : List X) → items ≡ [] → AreShown kernel of_table items 0
none_shown kernel of_table items none = record { many = ap length none; shown = λ table stands. none }

pub more_shown : {X : Type 0} {kernel : View} {of_table : Table → ℕ → X} {items later : List X} {count : ℕ} (item : X) → AreShown kernel of_table items count →
    later ≡ items ++ item ∷ [] → ((table : Table) → StandsFor kernel table → item ≡ of_table table count) → AreShown kernel of_table later (count + 1)
more_shown {of_table = of_table} {items} {later} {count} item are pushed is = record {
  many = ap length pushed ∙ length-append items (item ∷ []) ∙ ap (λ n. n + 1) are.many;
  shown = λ table stands.
      let more : map (of_table table) (numbers count ++ count ∷ []) ≡ map (of_table table) (numbers count) ++ of_table table count ∷ [] = map-append
      (of_table table) (numbers count) (count ∷ []) in
      let next = ap (map (of_table table)) (numbers_more count) in
      let were = are.shown table stands in
      let here = is table stands in
      cc (pushed, more, next, were, here);
}

abbrev pub note_with : ℕ × NoteState → Notification
note_with parts = record { value = parts.0; state = parts.1 }

-- a notification is what its value and its state make
pub note_shown : (parts : ℕ × NoteState) (note : Notification) → parts ≡ (note.value, note.state) → note_with parts ≡ note
note_shown parts note is = ap note_with is

-- the notifications of so many indices above 0, each of all tasks
pub record AreFurther (kernel : View) (further : List (List Notification)) (count : ℕ) : Type 0 where
  pub shown : AreShown kernel (λ table k. notes_of table (k + 1)) further count
  pub notes : All (λ notes. length notes ≡ kernel.settings.tasks) further
  pub few : All (λ notes. length notes < 2 ^ 32) further

all_of_none : {X : Type 0} (P : X → Type 0) (xs : List X) → xs ≡ [] → All P xs
all_of_none P xs none = subst (λ xs. All P xs) (sym none) (All-from_recursion P [] tt)

pub none_further : (kernel : View) (further : List (List Notification)) → further ≡ [] → AreFurther kernel further 0
none_further kernel further none = record {
  shown = none_shown kernel (λ table k. notes_of table (k + 1)) further none;
  notes = all_of_none (λ notes. length notes ≡ kernel.settings.tasks) further none;
  few = all_of_none (λ notes. length notes < 2 ^ 32) further none;
}

pub more_further : {kernel : View} {further later : List (List Notification)} {count : ℕ} (notes : List Notification) → AreFurther kernel further count → later
    ≡ further ++ notes ∷ [] → ((table : Table) → StandsFor kernel table → notes ≡ notes_of table (count + 1)) → length notes ≡ kernel.settings.tasks → length
    notes < 2 ^ 32 → AreFurther kernel later (count + 1)
more_further {kernel} {further} notes are pushed is many few = record {
  shown = more_shown notes are.shown pushed is;
  notes = subst (λ (further : List (List Notification)). All (λ notes. length notes ≡ kernel.settings.tasks) further) (sym pushed)
      (All-push (λ notes. length notes ≡ kernel.settings.tasks) further notes are.notes many);
  few = subst (λ (further : List (List Notification)). All (λ notes. length notes < 2 ^ 32) further) (sym pushed)
      (All-push (λ notes. length notes < 2 ^ 32) further notes are.few few);
}
