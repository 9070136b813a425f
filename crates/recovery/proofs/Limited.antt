-- The same of a run that ends before the event that is one too many.
use Rattle.std.proofs.Common.{◌≡◌, ℕ, zero, suc, ◌+◌, ◌≤◌, List, [], ◌++◌, Bool, false, Option, Some, slice_get, length, take, refl, sym, ap, ◌∙◌, inl, inr, arith}
use Rattle.std.specs.List.{AllByRecursion}
use Rattle.std.proofs.lemmas.List.{append-nil}
use Rattle.line_memory.specs.Lines.{AreLines}
use Rattle.line_memory.specs.Memory.{Memory}
use Rattle.program.specs.Sections.{Sections}
use Rattle.machine.specs.declared.schedule.items.Step.TheVariants.{Hart}
use Rattle.machine.specs.declared.shared_memory.history.Entry.{Entry}
use Rattle.machine.specs.Replies.{starting_memory, trace_in}
use Rattle.hart.specs.declared.state.HartState.{HartState}
use Rattle.hart.specs.declared.state.Status.{Status}
use Rattle.hart.specs.declared.state.Status.TheVariants.{Running, Exited, Trapped}
use Rattle.machine.specs.Run.{Config, HartSteps, HartStepsIfThere, RunsTo, StepsTo, started}
use Rattle.machine.proofs.Determined.{steps_once}
use Rattle.recovery.specs.Answers.{answer}
use Rattle.recovery.specs.Asking.{AgreeOn, AreAsOne, asked}
use Rattle.recovery.specs.Recovery.{RunsFor, alone}
use Rattle.recovery.proofs.Answering.{answer_same}
use Rattle.recovery.proofs.Memories.{AgreeAt, Alike}
use Rattle.recovery.proofs.Following.{Twins, twin_steps}
use Rattle.recovery.proofs.Runs.{Grows, agree_self, alike_self, all_back, all_front, as_one, flat_agree, flat_alike, joined, next_step, other_twins, self_twins, start_twins}

grown_for : (m : Memory) (c d : Config) (steps : ℕ) (full : Bool) → Twins m m c c → RunsFor c steps d full → Grows c d
grown_for m c d zero full twins (e, f) = record { more = []; asks = rw e (sym (append-nil (asked c.common.history))) }
grown_for m c d (suc steps) full twins (middle, x, inr (over, e, f)) = record { more = []; asks = rw e (sym (append-nil (asked c.common.history))) }
grown_for m c d (suc steps) full twins (middle, x, inl (room, later)) =
    let t = twin_steps m m c c (Hart 0) middle (alike_self m) twins x in
    let now = t.follows.same (agree_self m t.follows.questions) in
    let rest = grown_for m middle d steps full (self_twins m m middle t.end now) later in record {
      more = t.follows.questions ++ rest.more;
      asks = joined (asked c.common.history) (asked middle.common.history) (asked d.common.history) t.follows.questions rest.more t.follows.here rest.asks;
    }

pub record TwinRunsFor (m o : Memory) (d : Config) (steps : ℕ) (c2 : Config) (full : Bool) : Type 0 where
  pub end : Config
  pub runs : RunsFor d steps end full
  pub twins : Twins m o c2 end

pub twin_runs_for : (m o : Memory) (c d : Config) (steps : ℕ) (c2 : Config) (full : Bool) → Alike m o → Twins m o c d → RunsFor c steps c2 full
    → AllByRecursion (AgreeAt m o) (asked c2.common.history) → TwinRunsFor m o d steps c2 full
twin_runs_for m o c d zero c2 full alike twins (e, f) agree = record { end = d; runs = (refl, f); twins = rw e twins }
twin_runs_for m o c d (suc steps) c2 full alike twins (middle, x, inr (over, e, f)) agree =
    let t = twin_steps m o c d (Hart 0) middle alike twins x in
    let same_number = t.follows.events in
    record { end = d; runs = (t.end, t.steps, inr (omega (arith, over), refl, f)); twins = rw e twins }
twin_runs_for m o c d (suc steps) c2 full alike twins (middle, x, inl (room, later)) agree =
    let t = twin_steps m o c d (Hart 0) middle alike twins x in
    let u = twin_steps m m c c (Hart 0) middle (alike_self m) (self_twins m o c d twins) x in
    let own = self_twins m m middle u.end (u.follows.same (agree_self m u.follows.questions)) in
    let rest = grown_for m middle c2 steps full own later in
    let all = rw rest.asks at agree in
    let seen = rw t.follows.here at (all_front (AgreeAt m o) (asked middle.common.history) rest.more all) in
    let here = all_back (AgreeAt m o) (asked c.common.history) t.follows.questions seen in
    let n = twin_runs_for m o middle t.end steps c2 full alike (t.follows.same here) later agree in
    let same_number = t.follows.events in
    record { end = n.end; runs = (t.end, t.steps, inl (omega (arith, room), n.runs)); twins = n.twins }

pub next_for : (m o : Memory) (c d : Config) (steps : ℕ) (c2 d2 : Config) (full other_full : Bool) (count : ℕ) → Alike m o → Twins m o c d
    → RunsFor c steps c2 full → RunsFor d steps d2 other_full → AllByRecursion (AgreeAt m o) (take count (asked c2.common.history))
    → take (count + 1) (asked d2.common.history) ≡ take (count + 1) (asked c2.common.history)
next_for m o c d zero c2 d2 full other_full count alike twins x y agree =
    rw (x.0, y.0) (ap (λ (history : List Entry). take (count + 1) (asked history)) twins.history)
next_for m o c d (suc steps) c2 d2 full other_full count alike twins (middle, x, inr (past, e, p)) (other, y, inr (over, f, q)) agree =
    rw (e, f) (ap (λ (history : List Entry). take (count + 1) (asked history)) twins.history)
next_for m o c d (suc steps) c2 d2 full other_full count alike twins (middle, x, inr (past, e, p)) (other, y, inl (room, later)) agree =
    let t = twin_steps m o c d (Hart 0) middle alike twins x in
    let one : other ≡ t.end = steps_once d (Hart 0) other t.end y t.steps in
    let lengths = t.follows.events in
    let there : length (trace_in other.common) ≡ length (trace_in t.end.common) = ap (λ (end : Config). length (trace_in end.common)) one in
    absurd (omega (arith, past, room))
next_for m o c d (suc steps) c2 d2 full other_full count alike twins (middle, x, inl (room, later)) (other, y, inr (over, f, q)) agree =
    let t = twin_steps m o c d (Hart 0) middle alike twins x in
    let one : other ≡ t.end = steps_once d (Hart 0) other t.end y t.steps in
    let lengths = t.follows.events in
    let there : length (trace_in other.common) ≡ length (trace_in t.end.common) = ap (λ (end : Config). length (trace_in end.common)) one in
    absurd (omega (arith, over, room))
next_for m o c d (suc steps) c2 d2 full other_full count alike twins (middle, x, inl (room, later)) (y0, y, inl (under, then_on)) agree =
    let t = twin_steps m o c d (Hart 0) middle alike twins x in
    let one : y0 ≡ t.end = steps_once d (Hart 0) y0 t.end y t.steps in
    let there : asked y0.common.history ≡ asked c.common.history ++ t.follows.questions =
    ap (λ (end : Config). asked end.common.history) one ∙ t.follows.there
    ∙ ap (λ (history : List Entry). asked history ++ t.follows.questions) twins.history in
    let same : AllByRecursion (AgreeAt m o) t.follows.questions → Twins m o middle y0 = λ h. rw one (t.follows.same h) in
    let u = twin_steps m m c c (Hart 0) middle (alike_self m) (self_twins m o c d twins) x in
    let more = grown_for m middle c2 steps full (self_twins m m middle u.end (u.follows.same (agree_self m u.follows.questions))) later in
    let v = twin_steps o o d d (Hart 0) y0 (alike_self o) (other_twins m o c d twins) y in
    let others = grown_for o y0 d2 steps other_full (self_twins o o y0 v.end (v.follows.same (agree_self o v.follows.questions))) then_on in
    next_step m o c middle y0 c2 d2 count agree t.follows.questions more.more others.more t.follows.here there t.follows.few same more.asks others.asks
    (λ next. next_for m o middle y0 steps c2 d2 full other_full count alike next later then_on agree)

pub next_asked : (program : Sections) (lines others : List (List ℕ)) (steps : ℕ) (d e : Config) (full other : Bool) (count : ℕ)
    → AreLines lines → AreLines others → length others ≡ length lines
    → RunsFor (started program lines 1) steps d full → RunsFor (started program others 1) steps e other
    → AgreeOn lines others (take count (asked d.common.history))
    → take (count + 1) (asked e.common.history) ≡ take (count + 1) (asked d.common.history)
next_asked program lines others steps d e full other count whole each same x y agree =
    next_for (starting_memory program lines) (starting_memory program others) (started program lines 1) (started program others 1) steps d e full other count
    (flat_alike _ lines others whole each same) (start_twins program lines others 1) x y
    (flat_agree _ lines others (take count (asked d.common.history)) agree)

pub runs_alike : (program : Sections) (lines others : List (List ℕ)) (steps : ℕ) (d : Config) (full : Bool)
    → AreLines lines → AreLines others → length others ≡ length lines
    → RunsFor (started program lines 1) steps d full → AgreeOn lines others (asked d.common.history)
    → (e : Config) × RunsFor (started program others 1) steps e full × AreAsOne d e × (answer e full ≡ answer d full)
runs_alike program lines others steps d full whole each same x agree =
    let alike : Alike (starting_memory program lines) (starting_memory program others) = flat_alike _ lines others whole each same in
    let t = twin_runs_for (starting_memory program lines) (starting_memory program others) (started program lines 1) (started program others 1) steps d full
    alike (start_twins program lines others 1) x (flat_agree _ lines others (asked d.common.history) agree) in
    let one = as_one (starting_memory program lines) (starting_memory program others) d t.end alike t.twins in
    (t.end, t.runs, one, answer_same d t.end full one)

-- a recovery run is a run of the schedule of its steps
one_more : (c d : Config) (middle : Config) (steps : ℕ) → StepsTo c (Hart 0) middle → (made : ℕ) × (made ≤ steps) × RunsTo middle (alone made) d
    → (made : ℕ) × (made ≤ suc steps) × RunsTo c (alone made) d
one_more c d middle steps x (made, few, runs) = (suc made, omega arith, (middle, x, runs))

pub is_run : (c d : Config) (steps : ℕ) (full : Bool) → RunsFor c steps d full → (made : ℕ) × (made ≤ steps) × RunsTo c (alone made) d
is_run c d zero full (e, f) = (0, omega arith, e)
is_run c d (suc steps) full (middle, x, inr (over, e, f)) = (0, omega arith, e)
is_run c d (suc steps) full (middle, x, inl (room, later)) = one_more c d middle steps x (is_run middle d steps full later)

pub is_whole_run : (c d : Config) (steps : ℕ) → RunsFor c steps d false → RunsTo c (alone steps) d
is_whole_run c d zero (e, f) = e
is_whole_run c d (suc steps) (middle, x, inr (over, e, f)) = cc
is_whole_run c d (suc steps) (middle, x, inl (room, later)) = (middle, x, is_whole_run middle d steps later)

pub few_events : (c d : Config) (steps : ℕ) (full : Bool) → length (trace_in c.common) ≤ 65536 → RunsFor c steps d full → length (trace_in d.common) ≤ 65536
few_events c d zero full few (e, f) = rw e few
few_events c d (suc steps) full few (middle, x, inr (over, e, f)) = rw e few
few_events c d (suc steps) full few (middle, x, inl (room, later)) = few_events middle d steps full room later

pub ends_once : (c d e : Config) (steps : ℕ) (full other : Bool) → RunsFor c steps d full → RunsFor c steps e other → (e ≡ d) × (other ≡ full)
ends_once c d e zero full other (p, q) (r, s) = (cc, cc)
ends_once c d e (suc steps) full other (middle, x, inr (over, p, q)) (middle2, y, inr (over2, r, s)) = (cc, cc)
ends_once c d e (suc steps) full other (middle, x, inr (over, p, q)) (middle2, y, inl (room, later)) =
    let same = ap (λ (end : Config). length (trace_in end.common)) (steps_once c (Hart 0) middle middle2 x y) in
    absurd (omega (arith, over, room))
ends_once c d e (suc steps) full other (middle, x, inl (room, later)) (middle2, y, inr (over, p, q)) =
    let same = ap (λ (end : Config). length (trace_in end.common)) (steps_once c (Hart 0) middle middle2 x y) in
    absurd (omega (arith, over, room))
ends_once c d e (suc steps) full other (middle, x, inl (room, later)) (middle2, y, inl (under, then_on)) =
    ends_once middle d e steps full other later (rw (steps_once c (Hart 0) middle middle2 x y) then_on)

-- a run goes on where an earlier one ended, and a stopped hart changes nothing
pub goes_on : (c d e : Config) (steps more : ℕ) (full : Bool) → RunsFor c steps d false → RunsFor d more e full → RunsFor c (steps + more) e full
goes_on c d e zero more full (same, f) later = let none : zero + more ≡ more = omega arith in rw (none, ← same) later
goes_on c d e (suc steps) more full (middle, x, inr (over, same, f)) later = cc
goes_on c d e (suc steps) more full (middle, x, inl (room, rest)) later =
    let one : suc steps + more ≡ suc (steps + more) = omega arith in
    rw one (middle, x, inl (room, goes_on middle d e steps more full rest later))

still : (c : Config) (s : HartState) (status : Status) → (status ≡ Running → ⊥) → HartSteps c 0 s status c
still c s Running stopped = absurd (stopped refl)
still c s (Exited code) stopped = refl
still c s (Trapped trap) stopped = refl

still_there : (c : Config) (s : HartState) (state : Option HartState) → state ≡ Some s → (s.status ≡ Running → ⊥) → HartStepsIfThere c 0 state c
still_there c s state there stopped = rw there (still c s s.status stopped)

pub stays : (c : Config) (s : HartState) (steps : ℕ) → slice_get c.harts 0 ≡ Some s → (s.status ≡ Running → ⊥) → length (trace_in c.common) ≤ 65536
    → RunsFor c steps c false
stays c s zero there stopped few = (refl, refl)
stays c s (suc steps) there stopped few = (c, still_there c s (slice_get c.harts 0) there stopped, inl (few, stays c s steps there stopped few))
