use Rattle.std.proofs.Common.{◌≡◌, ◌∙◌, ◌<◌, ℕ, List, ap, drop, length, subst, sym, take}
use Rattle.std.specs.List.{AllByRecursion}
use Rattle.verdict.specs.Branches.{IsWithin}
use Rattle.verdict.specs.Numbers.{number_over}
use Rattle.verdict.specs.Queue.{branching, entry_at, IsTree}
use Rattle.verdict.specs.declared.branches.question.Question.{Question}
use Rattle.verdict.proofs.branches.run.Run.open.Goals as goal

pub set-requires-clause-tree : goal.set-requires-clause-tree
set-requires-clause-tree g c = subst (λ (n : ℕ). IsTree n c.args.entries.now) (sym c.requires.size) c.requires.tree

pub invariant_of-self : goal.invariant_of-self
invariant_of-self g c = record { same_size = c.args.self.now.same_size ∙ sym c.set.ensures.size }

pub recover-requires-clause-size : goal.recover-requires-clause-size
recover-requires-clause-size g c = ap length c.as_slice.ensures ∙ (c.set.ensures.size ∙ c.requires.size)

pub recover-requires-clause-within : goal.recover-requires-clause-within
recover-requires-clause-within g c =
    let low = g.R.Recovery.low c.args.recovery.now in
    let high = g.R.Recovery.high c.args.recovery.now in
    subst (λ (ns : List ℕ). IsWithin low high (number_over low ns)) (sym c.as_slice.ensures)
    (subst (λ (k : ℕ → ℕ). IsWithin low high k) (sym (c.in_ok-set.ensures.cut low c.requires.raised)) c.requires.within)

pub branch_off-requires : goal.branch_off-requires
branch_off-requires g c =
    let low = g.R.Recovery.low c.args.recovery.now in
    let high = g.R.Recovery.high c.args.recovery.now in
    let below = subst (λ (qs : List Question). AllByRecursion (λ q. q.line < g.R.Recovery.lines c.args.recovery.now) qs) (sym c.deref.ensures.value) c.in_ok-judged.ensures.below in
    let size = ap length c.as_slice-2.ensures ∙ (c.set.ensures.size ∙ c.requires.size) in
    let within = subst (λ (ns : List ℕ). IsWithin low high (number_over low ns)) (sym c.as_slice-2.ensures)
    (subst (λ (k : ℕ → ℕ). IsWithin low high k) (sym (c.in_ok-set.ensures.cut low c.requires.raised)) c.requires.within) in
    (c.type_bounds.send-R-Cause, (c.type_bounds.send-R-Workspace, (c.args.self.now.same_size ∙ c.requires.size, (size, (within, below)))))

pub invariant_of-self-2 : goal.invariant_of-self-2
invariant_of-self-2 g c = record { same_size = c.branch_off.ensures.size ∙ (c.args.self.now.same_size ∙ sym c.set.ensures.size) }

pub returns-clause-cut : goal.returns-clause-cut
returns-clause-cut g c = c.in_ok-set.ensures.cut (g.R.Recovery.low c.args.recovery.now) c.requires.raised

pub returns-clause-above : goal.returns-clause-above
returns-clause-above g c = c.in_ok-set.ensures.above (g.R.Recovery.low c.args.recovery.now) c.requires.raised

pub returns-clause-asked : goal.returns-clause-asked
returns-clause-asked g c =
    let low = g.R.Recovery.low c.args.recovery.now in
    subst (λ (k : ℕ → ℕ). g.R.Recovery.asks c.args.recovery.now k c.recover.new.asked.items)
    (ap (number_over low) c.as_slice.ensures ∙ c.in_ok-set.ensures.cut low c.requires.raised) c.in_ok-judged.ensures.asked

pub returns-clause-judged : goal.returns-clause-judged
returns-clause-judged g c =
    let low = g.R.Recovery.low c.args.recovery.now in
    subst (λ (k : ℕ → ℕ). g.R.Recovery.judged c.args.recovery.now k c.in_ok-judged.judged)
    (ap (number_over low) c.as_slice.ensures ∙ c.in_ok-set.ensures.cut low c.requires.raised) c.in_ok-judged.ensures.judged

pub returns-clause-found : goal.returns-clause-found
returns-clause-found g c =
    let low = g.R.Recovery.low c.args.recovery.now in
    let high = g.R.Recovery.high c.args.recovery.now in
    let alike = g.R.Recovery.alike c.args.recovery.now in
    let decided : ℕ = (entry_at c.args.entries.now c.args.at).decided in
    let cut = ap (number_over low) c.as_slice-2.ensures ∙ c.in_ok-set.ensures.cut low c.requires.raised in
    subst (λ (k : ℕ → ℕ). c.branch_off.new.found.items ≡ branching c.args.at alike low high k (take decided c.recover.new.asked.items) (drop decided c.recover.new.asked.items)) cut
    (subst (λ (qs : List Question). c.branch_off.new.found.items ≡ branching c.args.at alike low high (number_over low c.as_slice-2.result.now) (take decided qs) (drop decided qs)) c.deref.ensures.value
    c.in_ok-branch_off.ensures.found)
