-- What a traced run says of its run.
use Rattle.std.proofs.Common.{◌≡◌, ℕ, suc, List, [], ◌∷◌, ◌++◌, All, Some, refl, sym, ap, ◌∙◌, arith, append_assoc, append-nil}
use Rattle.std.proofs.lemmas.List.{append_cancel_left, map-append}
use Rattle.hart.specs.declared.state.HartState.{HartState}
use Rattle.machine.specs.Replies.{trace_in}
use Rattle.machine.specs.Run.{Config, RunsTo}
use Rattle.machine.proofs.Determined.{steps_once}
use Rattle.machine.specs.Traced.{IsPcBefore, TracedRun, TracedStep, events_in, passed}
use Rattle.machine.specs.declared.run_trace.traced_event.TracedEvent.{TracedEvent}
use Rattle.machine.specs.declared.schedule.items.Step.{Step}
use Rattle.machine.specs.declared.schedule.items.Step.TheVariants.{Hart, Evict}
use Rattle.store_trace.specs.declared.event.Event.{Event}

pub is_run : (n : ℕ) (c d : Config) (steps : List Step) (traced : List TracedEvent) → TracedRun n c steps d traced → RunsTo c steps d
is_run n c d [] traced r = r.0
is_run n c d (step ∷ steps) traced r = (r.0, r.4.steps, is_run (passed n step) r.0 d steps r.2 r.5)

pub has_events : (n : ℕ) (c d : Config) (steps : List Step) (traced : List TracedEvent) → TracedRun n c steps d traced
    → trace_in d.common ≡ trace_in c.common ++ events_in traced
has_events n c d [] traced r = rw (r.0, r.1) (sym (append-nil (trace_in c.common)))
has_events n c d (step ∷ steps) traced r =
    let rest = has_events (passed n step) r.0 d steps r.2 r.5 in
    rest ∙ ap (λ (t : List Event). t ++ events_in r.2) r.4.events
    ∙ append_assoc (trace_in c.common) (events_in r.1) (events_in r.2)
    ∙ ap (λ (t : List Event). trace_in c.common ++ t) (sym (map-append (λ (t : TracedEvent). t.event) r.1 r.2))
    ∙ ap (λ (t : List TracedEvent). trace_in c.common ++ events_in t) (sym r.3)

-- two lists of events of one step are one
pc_once : (c : Config) (step : Step) (p q : ℕ) → IsPcBefore c step p → IsPcBefore c step q → p ≡ q
pc_once c (Hart h) p q a b =
    let both : Some a.0 ≡ Some b.0 = sym a.1 ∙ b.1 in
    let same : a.0 ≡ b.0 = cc in
    a.2 ∙ ap (λ (s : HartState). s.pc) same ∙ sym b.2
pc_once c (Evict line) p q a b = absurd a

-- events of one step are told in one way
told_once : (c : Config) (step : Step) (n : ℕ) (xs ys : List TracedEvent) → events_in xs ≡ events_in ys
    → All (λ (t : TracedEvent). t.step ≡ n) xs → All (λ (t : TracedEvent). t.step ≡ n) ys
    → All (λ (t : TracedEvent). IsPcBefore c step t.pc) xs → All (λ (t : TracedEvent). IsPcBefore c step t.pc) ys → xs ≡ ys
told_once c step n [] [] e nx ny px py = refl
told_once c step n [] (y ∷ ys) e nx ny px py = absurd (cc)
told_once c step n (x ∷ xs) [] e nx ny px py = absurd (cc)
told_once c step n (x ∷ xs) (y ∷ ys) e nx ny px py =
    let event : x.event ≡ y.event = cc in
    let events : events_in xs ≡ events_in ys = cc in
    let number : x.step ≡ y.step = nx 0 x (omega arith) ∙ sym (ny 0 y (omega arith)) in
    let pc : x.pc ≡ y.pc = pc_once c step x.pc y.pc (px 0 x (omega arith)) (py 0 y (omega arith)) in
    let first : x ≡ y = λ i. record { step = number i; pc = pc i; event = event i } in
    let others : xs ≡ ys = told_once c step n xs ys events (λ i d h. nx (suc i) d (omega arith)) (λ i d h. ny (suc i) d (omega arith))
    (λ i d h. px (suc i) d (omega arith)) (λ i d h. py (suc i) d (omega arith)) in
    ap (λ (t : TracedEvent). t ∷ xs) first ∙ ap (λ (ts : List TracedEvent). y ∷ ts) others

step_once : (n : ℕ) (c d e : Config) (step : Step) (xs ys : List TracedEvent) → TracedStep n c step d xs → TracedStep n c step e ys → xs ≡ ys
step_once n c d e step xs ys a b =
    let same : d ≡ e = steps_once c step d e a.steps b.steps in
    let both : trace_in c.common ++ events_in xs ≡ trace_in c.common ++ events_in ys =
    sym a.events ∙ ap (λ (x : Config). trace_in x.common) same ∙ b.events in
    told_once c step (passed n step) xs ys (append_cancel_left (trace_in c.common) (events_in xs) (events_in ys) both) a.numbers b.numbers a.pcs b.pcs

pub traced_once : (n : ℕ) (c d e : Config) (steps : List Step) (traced other : List TracedEvent)
    → TracedRun n c steps d traced → TracedRun n c steps e other → traced ≡ other
traced_once n c d e [] traced other a b = a.1 ∙ sym b.1
traced_once n c d e (step ∷ steps) traced other a b =
    let same : b.0 ≡ a.0 = steps_once c step b.0 a.0 b.4.steps a.4.steps in
    let here : a.1 ≡ b.1 = step_once n c a.0 b.0 step a.1 b.1 a.4 b.4 in
    let others : a.2 ≡ b.2 = traced_once (passed n step) a.0 d e steps a.2 b.2 a.5 (rw same at b.5) in
    a.3 ∙ ap (λ (t : List TracedEvent). t ++ a.2) here ∙ ap (λ (t : List TracedEvent). b.1 ++ t) others ∙ sym b.3
