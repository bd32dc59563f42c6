-- What edits of a session lead to.
use Rattle.std.specs.Prelude.{ℕ, ◌-◌, List, [], ◌∷◌, fold, nat_le, sum_by, if◌then◌else◌, Result, Ok, Err, is_ok}
use Rattle.std.specs.Result.{result_map_both}
use Rattle.std.specs.Global.{Vec}
use Rattle.bench_types.specs.declared.edit.Edit.{Edit}
use Rattle.bench_types.specs.declared.edit.EditFault.{EditFault}
use Rattle.bench_model.specs.Edits.{accepted}
use Rattle.bench_model.specs.Meeting.{CheckpointedSession, last_place, checkpoint_before, replayed_from, met, replayed, kept_after}
use Rattle.session_store.specs.declared.outcome.Outcome.{Outcome}

-- where the replay of an edited session begins and ends
abbrev pub outcome_of : CheckpointedSession → Edit → Outcome
outcome_of kept edit = record {
  from = replayed_from kept edit;
  met = met kept edit;
  replayed = replayed kept edit;
}

-- an accepted edit leads to such a replay
abbrev pub answer : CheckpointedSession → Edit → Result Outcome EditFault
answer kept edit =
    result_map_both (λ _. outcome_of kept edit) (λ why. why) (accepted kept.session edit)

-- an edit that is not accepted is passed over
abbrev pub after_edit : CheckpointedSession → Edit → CheckpointedSession
after_edit kept edit = if is_ok (accepted kept.session edit) then kept_after edit kept else kept

-- the session after edits in their order
abbrev pub after_edits : CheckpointedSession → List Edit → CheckpointedSession
after_edits kept edits = fold after_edit kept edits

-- the answers to edits in their order, each of the session after those before it
abbrev pub answers : CheckpointedSession → List Edit → List (Result Outcome EditFault)
answers kept [] = []
answers kept (edit ∷ edits) = answer kept edit ∷ answers (after_edit kept edit) edits

-- how many steps were replayed for an answer, and for all
abbrev pub replayed_for : Result Outcome EditFault → ℕ
replayed_for (Ok outcome) = outcome.replayed
replayed_for (Err why) = 0

abbrev pub all_replayed : CheckpointedSession → List Edit → ℕ
all_replayed kept edits = sum_by replayed_for (answers kept edits)

-- a row as a list
abbrev pub row_items : Vec ℕ → List ℕ
row_items row = row.items

-- how many steps lie between a place and the checkpoint before it; past the end none
abbrev pub distance : CheckpointedSession → ℕ → ℕ
distance kept place =
    if nat_le place (last_place kept.session) then place - checkpoint_before kept.checkpoints place
    else 0
