-- What a machine leaves that has run with the one cache of its history.
use Rattle.std.proofs.Common.{◌≡◌, ℕ, List, ap, ◌∙◌}
use Rattle.machine.specs.declared.schedule.items.Step.{Step}
use Rattle.machine.specs.Cached.{medium_left}
use Rattle.machine.specs.SharedView.{IsExact, SharedView}
use Rattle.machine.proofs.Shown.{exact_medium}
use Rattle.machine.specs.Left.{IsLeftBy}
use Rattle.machine.specs.Represents.{MachineView, RepresentsExactly, RunsExactly}
use Rattle.machine.specs.Run.{Config, RunsTo}
use Rattle.machine.proofs.Determined.{runs_once}

pub left_at_end : (c : Config) (steps : List Step) (end : Config) (shared : SharedView) (capacity : ℕ) (lines : List (List ℕ))
    → RunsTo c steps end → IsExact shared end.common → shared.cache.cache.capacity ≡ capacity → lines ≡ shared.cache.lines
    → IsLeftBy c steps capacity lines
left_at_end c steps end shared capacity lines runs exact same left = record {
  left = λ other too.
      left ∙ exact_medium shared end.common exact
      ∙ ap (λ (n : ℕ). medium_left n end.common.start end.common.history) same
      ∙ ap (λ (d : Config). medium_left capacity d.common.start d.common.history) (runs_once c steps end other runs too);
}

pub left_by : (c : Config) (steps : List Step) (old new : MachineView) (capacity : ℕ) (lines : List (List ℕ)) → RepresentsExactly old c
    → RunsExactly old new steps → new.shared.cache.cache.capacity ≡ capacity → lines ≡ new.shared.cache.lines → IsLeftBy c steps capacity lines
left_by c steps old new capacity lines stands runs same left =
    let went = runs.represents c stands in
    left_at_end c steps went.0 new.shared capacity lines went.1 went.2.exact same left
