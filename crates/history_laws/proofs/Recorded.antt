-- Legal histories as sessions, and who makes their calls.
use Rattle.std.proofs.Common.{inl, inr, ◌≡◌, ℕ, List, [], ◌∷◌, ◌++◌, Ok, refl, sym, subst}
use Rattle.std.specs.Prelude.{All, ◌↔◌, ◌⊎◌, option_map, slice_get}
use Rattle.std.proofs.lemmas.List.Elements.{All-map}
use Rattle.bench_types.specs.declared.entry.Entry.{Entry}
use Rattle.bench_types.specs.declared.header.Header.{Header}
use Rattle.bench_types.specs.declared.step.Step.{Step}
use Rattle.bench_types.specs.Header.{header_check, IsCheckedHeader}
use Rattle.bench_types.specs.Session.{IsSession}
use Rattle.bench_types.specs.Step.{settings_of, IsCheckedStep}
use Rattle.bench_model.specs.History.{end_of, steps_of, AreByCurrent, IsByCurrent, IsLegal, StartsWith}
use Rattle.bench_model.specs.Session.{reply_at}
use Rattle.bench_model.specs.Start.{start}
use Rattle.step_laws.proofs.Along.{sound_along, start_settings}
use Rattle.step_laws.proofs.Starts.{start_sound}
use Rattle.history_laws.specs.SoundHistories.{IsSoundHistory}
use Rattle.history_laws.proofs.HoldsAlong.{begins_push}
use Rattle.history_laws.proofs.Parts.{beginning_legal, begins_longer, begins_with_all}

-- the steps of a legal history are checked
steps_checked : (header : Header) (entries : List Entry) → IsLegal header entries → All (IsCheckedStep (settings_of header)) (steps_of entries)
steps_checked header entries legal = All-map (IsCheckedStep (settings_of header)) (λ (entry : Entry). entry.step) entries legal.checked

pub legal_session : (header : Header) (entries : List Entry) → IsCheckedHeader header → IsLegal header entries → IsSession
    (record { header = header; steps = steps_of entries })
legal_session header entries checked legal = record { header = checked; steps = steps_checked header entries legal }

pub legal_sound : (header : Header) (entries : List Entry) → header_check header ≡ Ok tt → IsLegal header entries → IsSoundHistory header entries
unfolding end_of
legal_sound header entries passes legal first begins =
    let its = steps_checked header first (beginning_legal header entries first legal begins) in
    sound_along (steps_of first) (start header) (start_sound header passes)
    (subst (λ settings. All (IsCheckedStep settings) (steps_of first)) (sym (start_settings header)) its)

pub replies_kept : (header : Header) (entries : List Entry) (place : ℕ) → IsLegal header entries → reply_at header (steps_of entries) place ≡ option_map
    (λ (entry : Entry). entry.reply) (slice_get entries place)
replies_kept header entries place legal = sym (legal.replies place)

-- nothing ends in an item
nothing_ends : {X : Type 0} (first : List X) (x : X) → first ++ x ∷ [] ≡ [] → {Y : Type 0} → Y
nothing_ends [] x is = absurd (cc is)
nothing_ends (y ∷ first) x is = absurd (cc is)

-- lists that are equal with one item more are equal, and so are the items
same_push : {X : Type 0} (first items : List X) (x last : X) → first ++ x ∷ [] ≡ items ++ last ∷ [] → (first ≡ items) × (x ≡ last)
same_push [] [] x last is = (refl, cc is)
same_push [] (item ∷ items) x last is = nothing_ends items last (cc is)
same_push (y ∷ first) [] x last is = nothing_ends first x (cc is)
same_push (y ∷ first) (item ∷ items) x last is = let rest = same_push first items x last (cc is) in (cc (rest.0, is), rest.1)

pub none_by_current : (header : Header) → AreByCurrent header []
none_by_current header first entry begins = nothing_ends first entry (at first entry begins)
  where
    at : (first : List Entry) (entry : Entry) → StartsWith [] (first ++ entry ∷ []) → first ++ entry ∷ [] ≡ []
    at [] entry begins = sym begins
    at (x ∷ first) entry begins = sym begins

module _ (header : Header) (entries : List Entry) (entry : Entry) where
  pub by_current_push : AreByCurrent header entries → IsByCurrent (end_of header entries).control entry.step → AreByCurrent header (entries ++ entry ∷ [])
  by_current_push are is first last begins = at (begins_push entries entry (first ++ last ∷ []) begins)
    where
      at : StartsWith entries (first ++ last ∷ []) ⊎ (first ++ last ∷ [] ≡ entries ++ entry ∷ []) → IsByCurrent (end_of header first).control last.step
      at (inl front) = are first last front
      at (inr all) =
          let both = same_push first entries last entry all in
          subst (λ (es : List Entry). IsByCurrent (end_of header es).control last.step) (sym both.0)
          (subst (λ (e : Entry). IsByCurrent (end_of header entries).control e.step) (sym both.1) is)

  by_current_parts : AreByCurrent header (entries ++ entry ∷ []) → AreByCurrent header entries × IsByCurrent (end_of header entries).control entry.step
  by_current_parts are = (
    λ first last begins. are first last (begins_longer entries (entry ∷ []) (first ++ last ∷ []) begins),
    are entries entry (begins_with_all (entries ++ entry ∷ [])),
  )

  pub one_more_by_current : (AreByCurrent header (entries ++ entry ∷ []) ↔
      (AreByCurrent header entries × IsByCurrent (end_of header entries).control entry.step))
  one_more_by_current = (by_current_parts, λ both. by_current_push both.0 both.1)
