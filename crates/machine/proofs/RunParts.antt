-- Parts of runs, and how traces grow.
use Rattle.std.proofs.Common.{◌≡◌, ℕ, ◌+◌, ◌≤◌, List, [], ◌∷◌, ◌++◌, length, Option, Some, None, Bool, true, false, if◌then◌else◌, slice_get, refl, sym, ap, ◌∙◌, arith, rules, append_assoc}
use Rattle.std.proofs.lemmas.List.{append-nil, length-append}
use Rattle.hart.specs.declared.state.HartState.{HartState}
use Rattle.hart.specs.declared.state.Status.{Status}
use Rattle.hart.specs.declared.state.Status.TheVariants.{Running, Exited, Trapped}
use Rattle.hart.specs.declared.need.Need.{Need}
use Rattle.hart.specs.declared.need.Need.TheVariants.{Local, Ask, Stop}
use Rattle.hart.specs.declared.need.Reply.{Reply}
use Rattle.hart.specs.declared.need.Reply.TheVariants.{Done}
use Rattle.hart.specs.declared.need.Request.{Request}
use Rattle.hart.specs.declared.need.Request.TheVariants as requests
use Rattle.machine.specs.declared.schedule.items.Step.{Step}
use Rattle.machine.specs.declared.schedule.items.Step.TheVariants.{Hart, Evict}
use Rattle.store_trace.specs.declared.event.Event.{Event}
use Rattle.machine.specs.Histories.{Write, written}
use Rattle.machine.specs.Run.{Config, HartSteps, HartStepsIfThere, Meets, RunsTo, StepsTo, fetched_by}
use Rattle.machine.specs.Replies.{events_of, events_of_write, reply_after, trace_in}

pub run_joined : (c d e : Config) (first others : List Step) → RunsTo c first d → RunsTo d others e → RunsTo c (first ++ others) e
run_joined c d e [] others a b = rw (← a) b
run_joined c d e (step ∷ first) others a b = (a.0, a.1, run_joined a.0 d e first others a.2 b)

pub run_parted : (c e : Config) (first others : List Step) → RunsTo c (first ++ others) e
    → (d : Config) × RunsTo c first d × RunsTo d others e
run_parted c e [] others a = (c, refl, a)
run_parted c e (step ∷ first) others a =
    let rest = run_parted a.0 e first others a.2 in (rest.0, (a.0, a.1, rest.1), rest.2)

-- a request makes one event at most
few_if : (address : ℕ) (event : Event) (persistent : Bool) → length (if persistent then event ∷ [] else []) ≤ 1
few_if address event true = search rules
few_if address event false = search rules

few_written : (h : ℕ) (write : Option Write) → length (events_of_write h write) ≤ 1
few_written h None = search rules
few_written h (Some write) = few_if write.address _ _

few_events : (h : ℕ) (request : Request) (reply : Reply) → length (events_of h request reply) ≤ 1
few_events h (requests.Cbo op address) Done = few_if address _ _
few_events h requests.Fence Done = search rules
few_events h (requests.Begin op) Done = search rules
few_events h (requests.End op) Done = search rules
few_events h request reply = few_written h (written request reply)

-- what a step adds to the trace
pub record Grows (c d : Config) : Type 0 where
  pub more : List Event
  pub trace : trace_in d.common ≡ trace_in c.common ++ more
  pub few : length more ≤ 1

grows_not : (c d : Config) → trace_in d.common ≡ trace_in c.common → Grows c d
grows_not c d e = record { more = []; trace = e ∙ sym (append-nil (trace_in c.common)); few = search rules }

meets_grows : (c d : Config) (h : ℕ) (s : HartState) (word : Option ℕ) (need : Need) → Meets c h s word need d → Grows c d
meets_grows c d h s word (Local after) m = grows_not c d (rw m refl)
meets_grows c d h s word (Stop trap) m = grows_not c d (rw m refl)
meets_grows c d h s word (Ask request) m = record {
  more = events_of h request (reply_after c.common h request);
  trace = rw m.2 refl;
  few = few_events h request (reply_after c.common h request);
}

hart_grows : (c d : Config) (h : ℕ) (s : HartState) (status : Status) → HartSteps c h s status d → Grows c d
hart_grows c d h s Running x = meets_grows c d h s (fetched_by c h s.pc) x.0 x.2
hart_grows c d h s (Exited code) x = grows_not c d (rw x refl)
hart_grows c d h s (Trapped trap) x = grows_not c d (rw x refl)

there_grows : (c d : Config) (h : ℕ) (o : Option HartState) → HartStepsIfThere c h o d → Grows c d
there_grows c d h None x = absurd x
there_grows c d h (Some s) x = hart_grows c d h s s.status x

pub grows : (c d : Config) (step : Step) → StepsTo c step d → Grows c d
grows c d (Hart h) x = there_grows c d h (slice_get c.harts h) x
grows c d (Evict line) x = grows_not c d (rw x refl)

pub step_grows : (c d : Config) (step : Step) → StepsTo c step d → length (trace_in d.common) ≤ length (trace_in c.common) + 1
step_grows c d step x =
    let g = grows c d step x in
    let all = ap (λ (t : List Event). length t) g.trace in
    let sum = length-append (trace_in c.common) g.more in
    let few = g.few in
    omega arith

appended : (a b c more rest : List Event) → b ≡ a ++ more → c ≡ b ++ rest → c ≡ a ++ (more ++ rest)
appended a b c more rest first second = second ∙ ap (λ (t : List Event). t ++ rest) first ∙ append_assoc a more rest

pub run_grows : (c d : Config) (steps : List Step) → RunsTo c steps d → (more : List Event) × (trace_in d.common ≡ trace_in c.common ++ more)
run_grows c d [] x = ([], rw x (sym (append-nil (trace_in c.common))))
run_grows c d (step ∷ steps) x =
    let first = grows c x.0 step x.1 in
    let rest = run_grows x.0 d steps x.2 in
    (first.more ++ rest.0, appended (trace_in c.common) (trace_in x.0.common) (trace_in d.common) first.more rest.0 first.trace rest.1)
