-- What a tracer makes of no step, and of steps after steps.
use Rattle.std.proofs.Common.{◌≡◌, ℕ, ◌+◌, List, [], ◌∷◌, ◌++◌, length, refl, sym, ap, ◌∙◌, arith, append_assoc, append-nil}
use Rattle.machine.specs.declared.schedule.items.Step.{Step}
use Rattle.machine.specs.declared.schedule.items.Step.TheVariants.{Hart, Evict}
use Rattle.machine.specs.Evicting.{hart_steps}
use Rattle.machine.specs.Run.{Config}
use Rattle.machine.specs.RunLaws.{exactly_more, exactly_none, runs_more, runs_none}
use Rattle.machine.specs.Represents.{Represents}
use Rattle.machine.specs.Traced.{TracedRun, passed, place_of, places_in}
use Rattle.machine.specs.Tracers.{Continues, Makes, Tells, TracerView, passed_all}
use Rattle.machine.specs.declared.run_trace.traced_event.EventPlace.{EventPlace}
use Rattle.machine.specs.declared.run_trace.traced_event.TracedEvent.{TracedEvent}
use Rattle.std.proofs.lemmas.List.{map-append}

-- hart steps are counted
pub passed_is : (n : ℕ) (steps : List Step) → passed_all n steps ≡ n + length (hart_steps steps)
passed_is n [] = omega arith
passed_is n (Hart h ∷ steps) = let rest = passed_is (n + 1) steps in rest ∙ omega arith
passed_is n (Evict line ∷ steps) = passed_is n steps

passed_more : (n : ℕ) (xs ys : List Step) → passed_all n (xs ++ ys) ≡ passed_all (passed_all n xs) ys
passed_more n [] ys = refl
passed_more n (x ∷ xs) ys = passed_more (passed n x) xs ys

-- a traced run after another
traced_joined : (n : ℕ) (c d e : Config) (xs ys : List Step) (first others : List TracedEvent) → TracedRun n c xs d first
    → TracedRun (passed_all n xs) d ys e others → TracedRun n c (xs ++ ys) e (first ++ others)
traced_joined n c d e [] ys first others a b = rw (a.1, ← a.0) b
traced_joined n c d e (x ∷ xs) ys first others a b = (
  a.0,
  a.1,
  a.2 ++ others,
  ap (λ (t : List TracedEvent). t ++ others) a.3 ∙ append_assoc a.1 a.2 others,
  a.4,
  traced_joined (passed n x) a.0 d e xs ys a.2 others a.5 b,
)

tells_more : (old middle new : TracerView) (xs ys : List Step) → Continues old middle xs → Continues middle new ys
    → (c : Config) → Represents old.machine c → Tells old new (xs ++ ys) c
tells_more old middle new xs ys a b c stands =
    let first = a.tells c stands in
    let then = b.tells first.end first.represents in
    let rest : TracedRun (passed_all old.made xs) first.end ys then.end then.more = rw a.made at then.run in
    record {
      end = then.end;
      more = first.more ++ then.more;
      run = traced_joined old.made c first.end then.end xs ys first.more then.more first.run rest;
      represents = then.represents;
      places = then.places ∙ ap (λ (t : List EventPlace). t ++ places_in then.more) first.places
          ∙ append_assoc old.places (places_in first.more) (places_in then.more)
          ∙ ap (λ (t : List EventPlace). old.places ++ t) (sym (map-append place_of first.more then.more));
    }

pub makes_none : (m : TracerView) → Makes m [] m
makes_none m few = record {
  runs = runs_none m.machine;
  exact = exactly_none m.machine;
  made = refl;
  tells = λ c s. record { end = c; more = []; run = (refl, refl); represents = s; places = sym (append-nil m.places) };
}

pub makes_more : (old middle new : TracerView) (xs ys : List Step) → Makes old xs middle → Makes middle ys new → Makes old (xs ++ ys) new
makes_more old middle new xs ys first others few =
    let all = passed_more old.made xs ys in
    let sum = passed_is (passed_all old.made xs) ys in
    let a : Continues old middle xs = first (omega arith) in
    let then : passed_all middle.made ys ≡ passed_all (passed_all old.made xs) ys = ap (λ (n : ℕ). passed_all n ys) a.made in
    let b : Continues middle new ys = others (omega arith) in
    record {
      runs = runs_more old.machine middle.machine new.machine xs ys a.runs b.runs;
      exact = exactly_more old.machine middle.machine new.machine xs ys a.exact b.exact;
      made = b.made ∙ then ∙ sym all;
      tells = tells_more old middle new xs ys a b;
    }
