use Rattle.edited_workloads.proofs.document.+nth.Given as goal

abbrev pub decreases-nth : goal.decreases-nth
decreases-nth l = l.index
