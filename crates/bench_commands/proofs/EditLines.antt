-- Edits that are made one after another, with a line for each.
use Rattle.std.proofs.Common.{◌≡◌, ℕ, List, ◌++◌, drop}
use Rattle.bench_types.specs.declared.edit.Edit.{Edit}
use Rattle.bench_model.specs.Edits.{after_edits}
use Rattle.bench_model.specs.Meeting.{CheckpointedSession}
use Rattle.session_store.specs.Outcomes.{answers}
use Rattle.bench_commands.specs.Lines.{edit_lines}

-- What is left of the edits gives the lines and the session that all of them give.
pub record AreMade (first kept : CheckpointedSession) (changes : List Edit) (index : ℕ) (begin text : List ℕ) : Type 0 where
  pub lines : text ++ edit_lines index (answers kept (drop index changes)) ≡ begin ++ edit_lines 0 (answers first changes)
  pub session : after_edits kept.session (drop index changes) ≡ after_edits first.session changes
