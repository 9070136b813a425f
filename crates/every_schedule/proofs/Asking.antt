-- Requests that harts of a machine make, one behind the other.
use Rattle.std.proofs.Common.{◌≡◌, ℕ, zero, suc, List, [], ◌∷◌, ◌++◌, Option, Some, None, IfSome, slice_get, refl, sym, ap, ◌∙◌, subst}
use Rattle.std.proofs.lemmas.Option.{slice_get_within}
use Rattle.crash_test.specs.Runs.{IsRunBy}
use Rattle.hart.specs.Needs.{Needs}
use Rattle.hart.specs.declared.need.Need.{Need}
use Rattle.hart.specs.declared.need.Need.TheVariants.{Ask, Local, Stop}
use Rattle.hart.specs.declared.need.Request.{Request}
use Rattle.hart.specs.declared.state.HartState.{HartState}
use Rattle.hart.specs.declared.state.Status.{Status}
use Rattle.hart.specs.declared.state.Status.TheVariants.{Exited, Running, Trapped}
use Rattle.line_memory.specs.Memory.{Memory}
use Rattle.machine.proofs.Determined.{needs_once, runs_once}
use Rattle.machine.proofs.RunParts.{run_joined}
use Rattle.machine.specs.Represents.{IsRunning, MachineView, NeedsAt, Represents, Runs}
use Rattle.machine.specs.Run.{Config, HartSteps, HartStepsIfThere, Meets, RunsTo, StepsTo, fetched, fetched_by}
use Rattle.machine.specs.RunValues.{RunView, start_of}
use Rattle.machine.specs.Steps.{all_steps}
use Rattle.machine.specs.declared.recording.setup.Setup.{Setup}
use Rattle.machine.specs.declared.schedule.items.Item.{Item}
use Rattle.machine.specs.declared.schedule.items.Step.{Step}
use Rattle.machine.specs.declared.schedule.items.Step.TheVariants.{Hart}
use Rattle.schedule_states.specs.Ending.{GoesAsking, GoesBy, GoesQuietly, HasNoWayOut, IsQuiet, IsStuckBehind}
use Rattle.schedule_states.specs.States.{AsksTo, text_for}
use Rattle.every_schedule.specs.EverySchedule.{IsStuck}
use Rattle.every_schedule.specs.Following.{Follows, HasCome}
use Rattle.every_schedule.specs.declared.follower.Follower.{Follower}

-- steps that are no requests, and one request more
quiet_then : (count : ℕ) (c d e : Config) → IsQuiet c d → GoesQuietly count d e → IsQuiet c e
quiet_then zero c d e quiet goes = subst (λ (k : Config). IsQuiet c k) (sym goes) quiet
quiet_then (suc count) c d e quiet goes =
    let on : IsQuiet c goes.0 = quiet_then count c d goes.0 quiet goes.2 in
    (suc on.0, (goes.0, goes.1, on.1, goes.3, goes.4))

goes_by_quiet : (harts : List ℕ) (c d e : Config) → GoesBy harts c d → IsQuiet d e → GoesBy harts c e
goes_by_quiet [] c d e goes quiet = quiet_then quiet.0 c d e goes quiet.1
goes_by_quiet (first ∷ harts) c d e goes quiet = (goes.0, goes.1, goes_by_quiet harts goes.0 d e goes.2 quiet)

goes_by_more : (harts : List ℕ) (h : ℕ) (c d e : Config) → GoesBy harts c d → GoesAsking h d e → GoesBy (harts ++ h ∷ []) c e
goes_by_more [] h c d e goes asking =
    (e, record { ready = asking.ready; quiet = quiet_then asking.quiet.0 c d asking.ready goes asking.quiet.1; asks = asking.asks }, (zero, refl))
goes_by_more (first ∷ harts) h c d e goes asking = (goes.0, goes.1, goes_by_more harts h goes.0 d e goes.2 asking)

-- what a hart of a machine needs, its hart needs of what the machine represents
need_of : (machine : MachineView) (c : Config) (h : ℕ) (own : HartState) (need : Need) → Represents machine c → slice_get c.harts h ≡ Some own →
    NeedsAt machine h (slice_get machine.harts h) need → Needs own (fetched (text_for c.common h) own.pc) need
need_of machine c h own need stands here needs =
    let mine : slice_get machine.harts h ≡ Some own = ap (λ (harts : List HartState). slice_get harts h) stands.harts ∙ here in
    let at : NeedsAt machine h (Some own) need = subst (λ (s : Option HartState). NeedsAt machine h s need) mine needs in
    subst (λ (text : Memory). Needs own (fetched text own.pc) need) (stands.copies h (slice_get_within machine.harts h own mine)) at

-- a need that isn't a request
abbrev pub IsNoRequest : Need → Type 0
IsNoRequest (Ask request) = ⊥
IsNoRequest (Local after) = Unit {0}
IsNoRequest (Stop trap) = Unit {0}

pub alone_asks_not : (machine : MachineView) (c d : Config) (h : ℕ) (need : Need) → NeedsAt machine h (slice_get machine.harts h) need → IsNoRequest need → Represents machine c →
    AsksTo c h d → ⊥
alone_asks_not machine c d h need needs other stands asks =
    let same : need ≡ Ask asks.request = needs_once asks.own (fetched (text_for c.common h) asks.own.pc) need (Ask asks.request)
    (need_of machine c h asks.own need stands asks.here needs) asks.asks.needs in
    subst (λ (n : Need). IsNoRequest n) same other

asking_meets : (c d : Config) (h : ℕ) (own : HartState) (request : Request) (need : Need) → slice_get c.harts h ≡ Some own → own.status ≡ Running →
    Needs own (fetched (text_for c.common h) own.pc) (Ask request) → need ≡ Ask request → Meets c h own (fetched_by c h own.pc) need d → AsksTo c h d
asking_meets c d h own request need here running needs same meets =
    let met : Meets c h own (fetched_by c h own.pc) (Ask request) d = subst (λ (n : Need). Meets c h own (fetched_by c h own.pc) n d) same meets in record {
      own = own;
      instr = met.0;
      request = request;
      here = here;
      asks = record { running = running; needs = needs };
      spelled = met.1;
      is = met.2;
    }

asking_steps : (machine : MachineView) (c d : Config) (h : ℕ) (own : HartState) (request : Request) (status : Status) → NeedsAt machine h (slice_get machine.harts h) (Ask request) →
    own.status ≡ Running → own.status ≡ status → Represents machine c → slice_get c.harts h ≡ Some own → HartSteps c h own status d → AsksTo c h d
asking_steps machine c d h own request Running needs running is stands here steps =
    let own_needs : Needs own (fetched (text_for c.common h) own.pc) (Ask request) = need_of machine c h own (Ask request) stands here needs in
    asking_meets c d h own request steps.0 here running own_needs (needs_once own (fetched (text_for c.common h) own.pc) steps.0 (Ask request) steps.1 own_needs) steps.2
asking_steps machine c d h own request (Exited code) needs running is stands here steps = let wrong : Running ≡ Exited code = sym running ∙ is in absurd cc
asking_steps machine c d h own request (Trapped trap) needs running is stands here steps = let wrong : Running ≡ Trapped trap = sym running ∙ is in absurd cc

asking_there : (machine : MachineView) (c d : Config) (h : ℕ) (there : Option HartState) (request : Request) → NeedsAt machine h (slice_get machine.harts h) (Ask request) →
    ((own : HartState) → slice_get machine.harts h ≡ Some own → own.status ≡ Running) → Represents machine c → slice_get c.harts h ≡ there → HartStepsIfThere c h there d → AsksTo c h d
asking_there machine c d h None request needs running stands here steps = absurd steps
asking_there machine c d h (Some own) request needs running stands here steps =
    asking_steps machine c d h own request own.status needs
    (running own (ap (λ (harts : List HartState). slice_get harts h) stands.harts ∙ here)) refl stands here steps

pub asking_asks : (machine : MachineView) (c d : Config) (h : ℕ) (request : Request) → NeedsAt machine h (slice_get machine.harts h) (Ask request) →
    ((own : HartState) → slice_get machine.harts h ≡ Some own → own.status ≡ Running) → Represents machine c → StepsTo c (Hart h) d → AsksTo c h d
asking_asks machine c d h request needs running stands steps = asking_there machine c d h (slice_get c.harts h) request needs running stands refl steps

-- how a machine goes on that makes requests
pub stepped : (s : Setup) (old new : Follower) (h : ℕ) (c : Config) → HasCome s old c → Runs old.machine new.machine (Hart h ∷ []) →
    all_steps new.schedule ≡ all_steps old.schedule ++ Hart h ∷ [] → (d : Config) × StepsTo c (Hart h) d × HasCome s new d
stepped s old new h c come runs grown =
    let ran : (d : Config) × RunsTo c (Hart h ∷ []) d × Represents new.machine d = runs.represents c come.represents in (
      ran.0,
      subst (λ (k : Config). StepsTo c (Hart h) k) (sym ran.1.2) ran.1.1,
      record {
        runs = subst (λ (steps : List Step). RunsTo (start_of s) steps ran.0) (sym grown)
            (run_joined (start_of s) c ran.0 (all_steps old.schedule) (Hart h ∷ []) come.runs ran.1);
        represents = ran.2;
      },
    )

abbrev pub Steps : ℕ → Config → Config → Type 0
Steps h c d = StepsTo c (Hart h) d

pub quiet_begun : (f : Follower) → Follows IsQuiet f f
quiet_begun f s c come = (c, (zero, refl), come)

pub quiet_more : (old middle new : Follower) (h : ℕ) → Follows IsQuiet old middle → Follows (Steps h) middle new →
    ((c d : Config) → Represents middle.machine c → AsksTo c h d → ⊥) → Follows IsQuiet old new
quiet_more old middle new h quiet steps alone s c come =
    let at : (d : Config) × IsQuiet c d × HasCome s middle d = quiet s c come in
    let next : (d : Config) × Steps h at.0 d × HasCome s new d = steps s at.0 at.2 in
    (next.0, (suc at.1.0, (at.0, h, at.1.1, next.1, λ asks. alone at.0 next.0 at.2.represents asks)), next.2)

pub quiet_twice : (old middle new : Follower) → Follows IsQuiet old middle → Follows IsQuiet middle new → Follows IsQuiet old new
quiet_twice old middle new one two s c come =
    let at : (d : Config) × IsQuiet c d × HasCome s middle d = one s c come in
    let next : (d : Config) × IsQuiet at.0 d × HasCome s new d = two s at.0 at.2 in
    (next.0, quiet_then next.1.0 c at.0 next.0 at.1 next.1.1, next.2)

pub asks_behind : (old middle new : Follower) (h : ℕ) → Follows IsQuiet old middle → Follows (Steps h) middle new →
    ((c d : Config) → Represents middle.machine c → StepsTo c (Hart h) d → AsksTo c h d) → Follows (GoesAsking h) old new
asks_behind old middle new h quiet steps asks s c come =
    let ready : (d : Config) × IsQuiet c d × HasCome s middle d = quiet s c come in
    let next : (d : Config) × Steps h ready.0 d × HasCome s new d = steps s ready.0 ready.2 in
    (next.0, record { ready = ready.0; quiet = ready.1; asks = asks ready.0 next.0 ready.2.represents next.1 }, next.2)

pub requests_more : (old middle asked new : Follower) (harts : List ℕ) (h : ℕ) → Follows (GoesBy harts) old middle → Follows (GoesAsking h) middle asked →
    Follows IsQuiet asked new → Follows (GoesBy (harts ++ h ∷ [])) old new
requests_more old middle asked new harts h goes asking quiet s c come =
    let at : (d : Config) × GoesBy harts c d × HasCome s middle d = goes s c come in
    let next : (d : Config) × GoesAsking h at.0 d × HasCome s asked d = asking s at.0 at.2 in
    let last : (d : Config) × IsQuiet next.0 d × HasCome s new d = quiet s next.0 next.2 in
    (last.0, goes_by_quiet (harts ++ h ∷ []) c next.0 last.0 (goes_by_more harts h c at.0 next.0 at.1 next.1) last.1, last.2)

-- a run behind whose requests none leads to an end
pub stuck_by : (s : Setup) (schedule : List Item) (run : RunView) (requests : List ℕ) (there : Config) → IsRunBy s schedule run → RunsTo (start_of s) (all_steps schedule) there →
    GoesBy requests (start_of s) there → IsStuckBehind requests (start_of s) → IsStuck run
stuck_by s schedule run requests there by runs goes stuck end ends =
    let by_schedule : RunsTo (start_of run.setup) (all_steps schedule) end = subst (λ (items : List Item). RunsTo (start_of run.setup) (all_steps items) end) by.schedule_is ends in
    let by_setup : RunsTo (start_of s) (all_steps schedule) end = subst (λ (x : Setup). RunsTo (start_of x) (all_steps schedule) end) by.setup_is by_schedule in
    subst (λ (k : Config). HasNoWayOut k) (runs_once (start_of s) (all_steps schedule) there end runs by_setup) (stuck there goes)

pub running_of : (harts : List HartState) (h : ℕ) (own : HartState) → IsRunning (slice_get harts h) → slice_get harts h ≡ Some own → own.status ≡ Running
running_of harts h own runs got = subst (λ (there : Option HartState). IsRunning there) got runs

pub some_so : {X : Type 0} (found : Option X) (P Q : X → Type 0) → ((x : X) → P x → Q x) → IfSome found P → IfSome found Q
some_so None P Q so is = is
some_so (Some x) P Q so is = so x is
