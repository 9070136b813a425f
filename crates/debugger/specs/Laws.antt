-- The laws of walks: no step changes nothing, and steps after steps are all of them.
use Rattle.std.proofs.Common.{◌≡◌, List, [], ◌∷◌, ◌++◌, refl, ◌∙◌}
use Rattle.machine.specs.declared.schedule.items.Step.{Step}
use Rattle.machine.specs.Run.{Config}
use Rattle.machine.specs.RunLaws.{runs_more, runs_none}
use Rattle.debugger.specs.Points.{DebuggerView}
use Rattle.debugger.specs.Walks.{Passes, Walks}
use Rattle.debugger.specs.declared.points.Point.{Point}

pub walks_none : (d : DebuggerView) → Walks d [] d
walks_none d = record { points = refl; runs = runs_none d.machine; passes = λ c s. (c, refl, s) }

passes_joined : (points : List Point) (c d e : Config) (xs ys : List Step) → Passes points c xs d → Passes points d ys e → Passes points c (xs ++ ys) e
passes_joined points c d e [] ys a b = rw (← a) b
passes_joined points c d e (x ∷ xs) ys a b = (a.0, a.1, a.2, passes_joined points a.0 d e xs ys a.3 b)

pub passes_by : (points other : List Point) (c d : Config) (steps : List Step) → points ≡ other → Passes points c steps d → Passes other c steps d
passes_by points other c d steps e p = rw (← e) p

pub walks_joined : (old middle new : DebuggerView) (xs ys : List Step) → Walks old xs middle → Walks middle ys new → Walks old (xs ++ ys) new
walks_joined old middle new xs ys a b = record {
  points = b.points ∙ a.points;
  runs = runs_more old.machine middle.machine new.machine xs ys a.runs b.runs;
  passes = λ c s.
      let first = a.passes c s in
      let then = b.passes first.0 first.2 in (
        then.0,
        passes_joined old.points c first.0 then.0 xs ys first.1 (passes_by middle.points old.points first.0 then.0 ys a.points then.1),
        then.2,
      );
}
