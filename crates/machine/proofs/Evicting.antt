-- Evictions change nothing but the history.
use Rattle.std.proofs.Common.{◌≡◌, ℕ, List, [], ◌∷◌, ◌++◌, Option, Some, None, Bool, true, false, if◌then◌else◌, slice_get, slice_set, flat_map, refl, sym, ap, ◌∙◌}
use Rattle.isa_table.specs.declared.instruction.Instr.{Instr}
use Rattle.hart.specs.Effect.{answered}
use Rattle.hart.specs.declared.state.HartState.{HartState}
use Rattle.hart.specs.declared.state.Status.{Status}
use Rattle.hart.specs.declared.state.Status.TheVariants.{Running, Exited, Trapped}
use Rattle.hart.specs.declared.need.Need.{Need}
use Rattle.hart.specs.declared.need.Need.TheVariants.{Local, Ask, Stop}
use Rattle.hart.specs.declared.need.Reply.{Reply}
use Rattle.hart.specs.declared.need.Request.{Request}
use Rattle.line_memory.specs.Memory.{Memory}
use Rattle.reservation.specs.Reserved.{Call, is_reserved}
use Rattle.machine.specs.declared.schedule.items.Step.{Step}
use Rattle.machine.specs.declared.schedule.items.Step.TheVariants.{Hart, Evict}
use Rattle.store_trace.specs.declared.event.Event.{Event}
use Rattle.machine.specs.declared.shared_memory.history.Entry.{Entry}
use Rattle.machine.specs.declared.shared_memory.history.Entry.TheVariants.{Asked, Evicted}
use Rattle.machine.specs.Evicting.{AreAlike, hart_steps, requests}
use Rattle.machine.specs.Histories.{calls_of, fetched_text, has_reserved, is_renewal, memory_after, replayed, text_of}
use Rattle.machine.specs.Run.{Config, HartSteps, HartStepsIfThere, Meets, RunsTo, StepsTo, after_request, fetched, fetched_by, with_hart}
use Rattle.machine.specs.Replies.{events_of, memory_in, replied, reply_after, trace_in, trace_of}

-- what is read off a history is read off its requests
calls_kept : (history : List Entry) → flat_map calls_of history ≡ flat_map calls_of (requests history)
calls_kept [] = refl
calls_kept (Asked h request reply ∷ before) = ap (λ (calls : List Call). calls_of (Asked h request reply) ++ calls) (calls_kept before)
calls_kept (Evicted line ∷ before) = calls_kept before

replay_kept : (memory : Memory) (history : List Entry) → replayed memory history ≡ replayed memory (requests history)
replay_kept memory [] = refl
replay_kept memory (Asked h request reply ∷ before) = ap (λ (m : Memory). memory_after m request reply) (replay_kept memory before)
replay_kept memory (Evicted line ∷ before) = replay_kept memory before

trace_kept : (history : List Entry) → trace_of history ≡ trace_of (requests history)
trace_kept [] = refl
trace_kept (Asked h request reply ∷ before) = ap (λ (t : List Event). t ++ events_of h request reply) (trace_kept before)
trace_kept (Evicted line ∷ before) = trace_kept before

chosen : (renews : Bool) (now other older oldest : Memory) → now ≡ other → older ≡ oldest
    → (if renews then now else older) ≡ (if renews then other else oldest)
chosen true now other older oldest a b = a
chosen false now other older oldest a b = b

copy_kept : (memory : Memory) (h : ℕ) (history : List Entry) → fetched_text memory h history ≡ fetched_text memory h (requests history)
copy_kept memory h [] = refl
copy_kept memory h (Asked hart request reply ∷ before) =
    chosen (is_renewal h (Asked hart request reply)) _ _ _ _
    (ap (λ (m : Memory). text_of m) (replay_kept memory (Asked hart request reply ∷ before))) (copy_kept memory h before)
copy_kept memory h (Evicted line ∷ before) = copy_kept memory h before

-- so configurations that are alike have one memory and one trace, fetch alike and are replied to alike
memory_alike : (c d : Config) → AreAlike c d → memory_in c.common ≡ memory_in d.common
memory_alike c d alike =
    replay_kept c.common.initial c.common.history
    ∙ ap (λ (history : List Entry). replayed c.common.initial history) alike.requests
    ∙ ap (λ (memory : Memory). replayed memory (requests d.common.history)) alike.initial
    ∙ sym (replay_kept d.common.initial d.common.history)

pub trace_alike : (c d : Config) → AreAlike c d → trace_in c.common ≡ trace_in d.common
trace_alike c d alike =
    trace_kept c.common.history
    ∙ ap (λ (history : List Entry). trace_of history) alike.requests
    ∙ sym (trace_kept d.common.history)

fetch_alike : (c d : Config) (h pc : ℕ) → AreAlike c d → fetched_by c h pc ≡ fetched_by d h pc
fetch_alike c d h pc alike =
    let same : fetched_text c.common.initial h c.common.history ≡ fetched_text d.common.initial h d.common.history =
    copy_kept c.common.initial h c.common.history
    ∙ ap (λ (history : List Entry). fetched_text c.common.initial h history) alike.requests
    ∙ ap (λ (memory : Memory). fetched_text memory h (requests d.common.history)) alike.initial
    ∙ sym (copy_kept d.common.initial h d.common.history) in
    ap (λ (text : Memory). fetched text pc) same

reply_alike : (c d : Config) (h : ℕ) (request : Request) → AreAlike c d
    → reply_after c.common h request ≡ reply_after d.common h request
reply_alike c d h request alike =
    let calls : flat_map calls_of c.common.history ≡ flat_map calls_of d.common.history =
    calls_kept c.common.history
    ∙ ap (λ (history : List Entry). flat_map calls_of history) alike.requests
    ∙ sym (calls_kept d.common.history) in
    let reserved : has_reserved c.common.history h ≡ has_reserved d.common.history h =
    ap (λ (calls : List Call). λ (l : ℕ). is_reserved h l calls) calls in
    ap (λ (memory : Memory). replied memory (has_reserved c.common.history h) request) (memory_alike c d alike)
    ∙ ap (λ (reserved : ℕ → Bool). replied (memory_in d.common) reserved request) reserved

-- a configuration that is alike after the step of a configuration that is alike
pub record StepsAlike (d : Config) (step : Step) (e : Config) : Type 0 where
  pub end : Config
  pub steps : StepsTo d step end
  pub alike : AreAlike e end

-- the same, of a hart with its state
pub record HartStepsAlike (d : Config) (h : ℕ) (s : HartState) (status : Status) (e : Config) : Type 0 where
  pub end : Config
  pub steps : HartSteps d h s status end
  pub alike : AreAlike e end

pub record MeetsAlike (d : Config) (h : ℕ) (s : HartState) (word : Option ℕ) (need : Need) (e : Config) : Type 0 where
  pub end : Config
  pub meets : Meets d h s word need end
  pub alike : AreAlike e end

with_hart_alike : (c d : Config) (h : ℕ) (s : HartState) → AreAlike c d → AreAlike (with_hart c h s) (with_hart d h s)
with_hart_alike c d h s alike = record {
  harts = ap (λ (harts : List HartState). slice_set harts h s) alike.harts;
  start = alike.start;
  initial = alike.initial;
  requests = alike.requests;
}

asked_alike : (c d : Config) (h : ℕ) (s : HartState) (i : Instr) (request : Request) → AreAlike c d
    → AreAlike (after_request c h s i request) (after_request d h s i request)
asked_alike c d h s i request alike =
    let reply = reply_alike c d h request alike in record {
      harts = ap (λ (harts : List HartState). slice_set harts h (answered s i (reply_after c.common h request))) alike.harts
          ∙ ap (λ (r : Reply). slice_set d.harts h (answered s i r)) reply;
      start = alike.start;
      initial = alike.initial;
      requests = ap (λ (p : List Entry). Asked h request (reply_after c.common h request) ∷ p) alike.requests
          ∙ ap (λ (r : Reply). Asked h request r ∷ requests d.common.history) reply;
    }

meets_alike : (c d e : Config) (h : ℕ) (s : HartState) (word : Option ℕ) (need : Need) → AreAlike c d
    → Meets c h s word need e → MeetsAlike d h s word need e
meets_alike c d e h s word (Local after) alike m = rw m (record {
  end = with_hart d h after;
  meets = refl;
  alike = with_hart_alike c d h after alike;
})
meets_alike c d e h s word (Stop trap) alike m = rw m (record {
  end = with_hart d h (record s { status = Trapped trap });
  meets = refl;
  alike = with_hart_alike c d h (record s { status = Trapped trap }) alike;
})
meets_alike c d e h s word (Ask request) alike m = rw m.2 (record {
  end = after_request d h s m.0 request;
  meets = (m.0, m.1, refl);
  alike = asked_alike c d h s m.0 request alike;
})

hart_alike : (c d e : Config) (h : ℕ) (s : HartState) (status : Status) → AreAlike c d
    → HartSteps c h s status e → HartStepsAlike d h s status e
hart_alike c d e h s Running alike x =
    let word : fetched_by c h s.pc ≡ fetched_by d h s.pc = fetch_alike c d h s.pc alike in
    let meets = meets_alike c d e h s (fetched_by d h s.pc) x.0 alike (rw word at x.2) in record {
      end = meets.end;
      steps = (x.0, rw word at x.1, meets.meets);
      alike = meets.alike;
    }
hart_alike c d e h s (Exited code) alike x = record { end = d; steps = refl; alike = rw x alike }
hart_alike c d e h s (Trapped trap) alike x = record { end = d; steps = refl; alike = rw x alike }

there_alike : (c d e : Config) (h : ℕ) (o : Option HartState) → slice_get d.harts h ≡ o → AreAlike c d
    → HartStepsIfThere c h o e → StepsAlike d (Hart h) e
there_alike c d e h None is alike x = absurd x
there_alike c d e h (Some s) is alike x =
    let steps = hart_alike c d e h s s.status alike x in record {
      end = steps.end;
      steps = rw is steps.steps;
      alike = steps.alike;
    }

same_hart : (c e : Config) (h : ℕ) (o p : Option HartState) → o ≡ p → HartStepsIfThere c h o e → HartStepsIfThere c h p e
same_hart c e h o p same x = rw same at x

hart_step_alike : (c d e : Config) (h : ℕ) → AreAlike c d → StepsTo c (Hart h) e → StepsAlike d (Hart h) e
hart_step_alike c d e h alike x =
    let same : slice_get c.harts h ≡ slice_get d.harts h = ap (λ (harts : List HartState). slice_get harts h) alike.harts in
    there_alike c d e h (slice_get d.harts h) refl alike (same_hart c e h (slice_get c.harts h) (slice_get d.harts h) same x)

-- an eviction leaves what is alike alike
evicted_alike : (c d e : Config) (line : ℕ) → AreAlike c d → StepsTo c (Evict line) e → AreAlike e d
evicted_alike c d e line alike x = rw x (record {
  harts = alike.harts;
  start = alike.start;
  initial = alike.initial;
  requests = alike.requests;
})

evicts_alike : (c d : Config) (line : ℕ) → AreAlike c d
    → AreAlike c (record d { common = record d.common { history = Evicted line ∷ d.common.history } })
evicts_alike c d line alike = record {
  harts = alike.harts;
  start = alike.start;
  initial = alike.initial;
  requests = alike.requests;
}

-- the hart steps of a run alone, and hart steps with evictions between them
without : (c d e : Config) (steps : List Step) → AreAlike c d → RunsTo c steps e → (f : Config) × RunsTo d (hart_steps steps) f × AreAlike e f
without c d e [] alike x = (d, refl, rw x alike)
without c d e (Hart h ∷ steps) alike x =
    let first = hart_step_alike c d x.0 h alike x.1 in
    let rest = without x.0 first.end e steps first.alike x.2 in
    (rest.0, (first.end, first.steps, rest.1), rest.2)
without c d e (Evict line ∷ steps) alike x = without x.0 d e steps (evicted_alike c d x.0 line alike x.1) x.2

between : (c d e : Config) (steps : List Step) → AreAlike c d → RunsTo c (hart_steps steps) e → (f : Config) × RunsTo d steps f × AreAlike e f
between c d e [] alike x = (d, refl, rw x alike)
between c d e (Hart h ∷ steps) alike x =
    let first = hart_step_alike c d x.0 h alike x.1 in
    let rest = between x.0 first.end e steps first.alike x.2 in
    (rest.0, (first.end, first.steps, rest.1), rest.2)
between c d e (Evict line ∷ steps) alike x =
    let after : Config = record d { common = record d.common { history = Evicted line ∷ d.common.history } } in
    let rest = between c after e steps (evicts_alike c d line alike) x in
    (rest.0, (after, refl, rest.1), rest.2)

alike_then : (c d e : Config) → AreAlike c d → AreAlike d e → AreAlike c e
alike_then c d e a b = record {
  harts = a.harts ∙ b.harts;
  start = a.start ∙ b.start;
  initial = a.initial ∙ b.initial;
  requests = a.requests ∙ b.requests;
}

pub alike_itself : (c : Config) → AreAlike c c
alike_itself c = record { harts = refl; start = refl; initial = refl; requests = refl }

pub runs_alike : (c d e : Config) (steps others : List Step) → AreAlike c d → hart_steps steps ≡ hart_steps others
    → RunsTo c steps e → (f : Config) × RunsTo d others f × AreAlike e f
runs_alike c d e steps others alike same x =
    let alone = without c d e steps alike x in
    let more = between d d alone.0 others (alike_itself d) (rw same at alone.1) in
    (more.0, more.1, alike_then e alone.0 more.0 alone.2 more.2)
