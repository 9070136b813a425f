use Rattle.std.proofs.Common.{rules, ◌≡◌, ◌<◌, ◌+◌, ◌^◌, [], ◌∷◌, ◌++◌, ℕ}
use Rattle.std.proofs.lemmas.Result.{on_ok_weaker}
use Rattle.machine.specs.Grammar.{hart_steps}
use Rattle.machine.specs.Joined.{AreJoined}
use Rattle.machine.specs.declared.schedule.items.Item.TheVariants.{Steps}
use Rattle.machine.proofs.GrowingJoined.{after_eviction, after_steps, at_front, within_all}
use Rattle.machine.proofs.schedule.items.Schedule.push_steps.Goals as goal
use Rattle.machine.proofs.schedule.items.Schedule.push_steps.Goals.{in_default-via-in-Some-Steps+then-last-hart+else-more-count, in_default-via-in-Some-Steps+else-last-hart, in_default-via-in-Some+in_default, in_default-via-in_default}

pub returns-in_default-clause-joined : goal.returns-in_default-clause-joined
returns-in_default-clause-joined c =
    let whole : AreJoined c.args.self.now → hart_steps c.args.self.now + c.args.more < 2 ^ 32 → AreJoined (c.args.self.now ++ Steps c.args.hart c.args.more ∷ []) =
    elim c.in_default.branch [
      | in_default-via-in-Some-Steps+then-last-hart+else-more-count w ↦ λ all fits. absurd (search (rules, within_all))
      | in_default-via-in-Some-Steps+else-last-hart w ↦ λ all fits. search (rules, after_steps)
      | in_default-via-in-Some+in_default w ↦ λ all fits.
          let no : (hart count : ℕ) → w.in_default.field-0 ≡ Steps hart count → ⊥ = λ hart count is. search rules in
          search (rules, after_eviction)
      | in_default-via-in_default w ↦ λ all fits. search (rules, at_front)
    ] in
    on_ok_weaker c.push.result (λ is. rw is whole) c.push.ensures.ok
