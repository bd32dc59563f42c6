-- The laws of edits of work. Each is a clause of a public function.
use Rattle.std.specs.Prelude.{◌≡◌, true, List, [], ◌∷◌, ◌++◌, length, map, All}
use Rattle.bench_types.specs.declared.edit.Edit.{Edit}
use Rattle.bench_types.specs.declared.step.Step.{Step}
use Rattle.bench_types.specs.Session.{Session}
use Rattle.bench_model.specs.Edits.{after_edits}
use Rattle.kept_edits.specs.declared.edit.KeptEdit.TheVariants.{Plain}
use Rattle.kept_edits.specs.declared.edit.WorkChange.{WorkChange}
use Rattle.kept_runs.specs.Items.{Item, edited_items, edited_session, is_call, items_worked}
use Rattle.kept_runs.specs.declared.works.Unmade.{Unmade}
use Rattle.kept_runs.specs.Works.{changed_work, unmade_calls}

-- edits of the session alone change the work of no call, and leave the session that they say
abbrev pub PlainEditsChangeNoWork : Type 0
PlainEditsChangeNoWork =
    (session : Session) (edits : List Edit) →
    All (λ (item : Item). item.changes ≡ []) (edited_items session (map Plain edits))
    × (edited_session session (map Plain edits) ≡ after_edits session edits)

-- an edit of work changes that of the call at its place, and no other
abbrev pub WorkEditsChangeOneCall : Type 0
WorkEditsChangeOneCall =
    (session : Session) (settled : List Step) (before behind : List Item) (item : Item)
    (change : WorkChange) → is_call item.step ≡ true →
    let items = before ++ item ∷ behind in (front back : List Unmade) × (one : Unmade)
    × (unmade_calls session settled items ≡ front ++ one ∷ back)
    × (unmade_calls session settled (items_worked (length before) change items)
    ≡ front ++ record one { work = changed_work one.work change } ∷ back)
