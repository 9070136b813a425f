-- Runs of no step, and of steps after steps.
use Rattle.std.proofs.Common.{◌≡◌, List, [], ◌∷◌, ◌++◌, length, All, refl, ◌∙◌}
use Rattle.std.proofs.lemmas.List.Elements.{All-append, All-nil}
use Rattle.machine.specs.declared.schedule.items.Step.{Step}
use Rattle.machine.specs.declared.schedule.items.Step.TheVariants.{Hart, Evict}
use Rattle.machine.specs.Run.{Config, RunsTo}
use Rattle.machine.specs.Represents.{IsThere, MachineView, Runs, RunsBoth, RunsExactly}

-- no step changes nothing
pub runs_none : (m : MachineView) → Runs m m []
runs_none m = record { there = All-nil (IsThere m); harts = refl; lines = refl; capacity = refl; represents = λ c s. (c, refl, s) }

joined : (xs ys : List Step) (c d e : Config) → RunsTo c xs d → RunsTo d ys e → RunsTo c (xs ++ ys) e
joined [] ys c d e a b = rw (← a) b
joined (x ∷ xs) ys c d e a b = (a.0, a.1, joined xs ys a.0 d e a.2 b)

-- what is there later was there before
there_before : (old middle : MachineView) (step : Step) → length middle.harts ≡ length old.harts
    → length middle.shared.cache.lines ≡ length old.shared.cache.lines → IsThere middle step → IsThere old step
there_before old middle (Hart h) harts lines there = rw harts at there
there_before old middle (Evict line) harts lines there = rw lines at there

all_before : (old middle : MachineView) (steps : List Step) → length middle.harts ≡ length old.harts
    → length middle.shared.cache.lines ≡ length old.shared.cache.lines → All (IsThere middle) steps → All (IsThere old) steps
all_before old middle steps harts lines there k d inside = there_before old middle _ harts lines (there k d inside)

-- steps after steps
pub runs_more : (old middle new : MachineView) (xs ys : List Step) → Runs old middle xs → Runs middle new ys → Runs old new (xs ++ ys)
runs_more old middle new xs ys a b = record {
  there = All-append (IsThere old) xs ys a.there (all_before old middle ys a.harts a.lines b.there);
  harts = b.harts ∙ a.harts;
  lines = b.lines ∙ a.lines;
  capacity = b.capacity ∙ a.capacity;
  represents = λ c s.
      let first = a.represents c s in
      let then = b.represents first.0 first.2 in
      (then.0, joined xs ys c first.0 then.0 first.1 then.1, then.2);
}

pub exactly_none : (m : MachineView) → RunsExactly m m []
exactly_none m = record { represents = λ c s. (c, refl, s) }

pub exactly_more : (old middle new : MachineView) (xs ys : List Step) → RunsExactly old middle xs → RunsExactly middle new ys
    → RunsExactly old new (xs ++ ys)
exactly_more old middle new xs ys a b = record {
  represents = λ c s.
      let first = a.represents c s in
      let then = b.represents first.0 first.2 in
      (then.0, joined xs ys c first.0 then.0 first.1 then.1, then.2);
}

pub both_none : (m : MachineView) → RunsBoth m m []
both_none m = record { runs = runs_none m; exact = exactly_none m }

pub both_more : (old middle new : MachineView) (xs ys : List Step) → RunsBoth old middle xs → RunsBoth middle new ys → RunsBoth old new (xs ++ ys)
both_more old middle new xs ys a b = record {
  runs = runs_more old middle new xs ys a.runs b.runs;
  exact = exactly_more old middle new xs ys a.exact b.exact;
}
