-- Which run the edits make of a session.
use Rattle.std.proofs.Common.{◌≡◌, zero, suc, List, [], ◌∷◌, sym, ap, ◌∙◌, arith}
use Rattle.std.specs.Prelude.{All}
use Rattle.std.proofs.lemmas.List.Elements.{All-cons, All-nil}
use Rattle.bench_types.specs.declared.header.Header.{Header}
use Rattle.bench_types.specs.declared.step.Step.{Step}
use Rattle.bench_types.specs.Edit.{IsCheckedEdit}
use Rattle.bench_types.specs.Session.{Session}
use Rattle.kept_edits.specs.declared.edit.KeptEdit.{KeptEdit}
use Rattle.kept_edits.specs.declared.edit.KeptEdit.TheVariants.{Plain, Work}
use Rattle.kept_edits.specs.Edits.{plain_edits, IsKeptEdit}
use Rattle.kept_runs.specs.declared.call_order.CallOrder.{CallOrder}
use Rattle.kept_runs.specs.declared.works.Outside.{Outside}
use Rattle.kept_runs.specs.declared.works.Unmade.{Unmade}
use Rattle.kept_runs.specs.Items.{edited_items, edited_session}
use Rattle.kept_runs.specs.Rule.{first_progress}
use Rattle.kept_runs.specs.Works.{outside_steps, unmade_calls}
use Rattle.keeping.specs.Ends.{first_end}
use Rattle.keeping.specs.Progress.{progress_at_start}
use Rattle.keeping.proofs.Running.{first_is}

-- the edits of the session were checked
pub plain_checked : (header : Header) (edits : List KeptEdit) → All (IsKeptEdit header) edits → All (IsCheckedEdit header) (plain_edits edits)
plain_checked header [] all = All-nil (IsCheckedEdit header)
plain_checked header (Plain edit ∷ edits) all =
    All-cons (IsCheckedEdit header) edit (plain_edits edits) (all zero (Plain edit) (omega arith))
    (plain_checked header edits (λ k d within. all (suc k) d (omega (arith, within))))
plain_checked header (Work at change ∷ edits) all = plain_checked header edits (λ k d within. all (suc k) d (omega (arith, within)))

-- the run begins as the rule says
pub end_is : (order : CallOrder) (session : Session) (edits : List KeptEdit) (settled run : List Step) (header : Header) (unmade : List Unmade)
    (outside : List Outside) → header ≡ (edited_session session edits).header → unmade ≡ unmade_calls session settled (edited_items session edits)
    → outside ≡ outside_steps session settled (edited_items session edits)
    → first_end (progress_at_start order header unmade outside) run ≡ first_end (first_progress order session edits settled) run
end_is order session edits settled run header unmade outside is_header is_unmade is_outside =
    ap (λ start. first_end start run)
    ((λ i. progress_at_start order (is_header i) (is_unmade i) (is_outside i)) ∙ sym (first_is order session edits settled))
