-- One step of a machine is one step of what it represents.
use Rattle.std.proofs.Common.{◌≡◌, ℕ, List, [], ◌∷◌, length, All, Some, slice_get, slice_set, ◌<◌, get_or, get_or-set_same, refl, ap, ◌∙◌}
use Rattle.std.proofs.Math.ListN.{length-set}
use Rattle.std.proofs.lemmas.List.Elements.{All-nil, All-push}
use Rattle.std.proofs.lemmas.Option.{slice_get-get_or, slice_get_within}
use Rattle.line_memory.specs.Lines.{line_bytes}
use Rattle.isa_table.specs.declared.instruction.Instr.{Instr}
use Rattle.hart.specs.Effect.{answered}
use Rattle.hart.specs.Needs.{IsSpelledBy, Needs}
use Rattle.hart.specs.declared.state.HartState.{HartState}
use Rattle.hart.specs.declared.state.Status.{Status}
use Rattle.hart.specs.declared.state.Status.TheVariants.{Running, Trapped}
use Rattle.hart.specs.declared.state.Trap.{Trap}
use Rattle.hart.specs.declared.need.Need.TheVariants.{Local, Ask, Stop}
use Rattle.hart.specs.declared.need.Reply.{Reply}
use Rattle.hart.specs.declared.need.Request.{Request}
use Rattle.line_memory.specs.Memory.{Memory}
use Rattle.machine.specs.declared.schedule.items.Step.{Step}
use Rattle.machine.specs.declared.schedule.items.Step.TheVariants.{Hart, Evict}
use Rattle.machine.specs.declared.shared_memory.history.Entry.TheVariants.{Asked, Evicted}
use Rattle.machine.specs.Histories.{fetched_text, replayed, text_of}
use Rattle.machine.specs.Outcomes.{hart_outcome, outcome_of}
use Rattle.machine.specs.Replies.{reply_after, shared_after}
use Rattle.machine.specs.Run.{Config, Executes, HartSteps, RunsTo, StepsTo, after_request, fetched, fetched_by, with_hart}
use Rattle.machine.specs.Represents.{Answers, IsThere, MachineView, Represents, RunsBoth, copies_after, copy_of, text_bytes}
use Rattle.machine.specs.SharedView.{Evicts, IsExact, RepresentsShared, SharedView, lines_shown}
use Rattle.clean_fence.specs.Rules.{PmView, SameSizes}
use Rattle.machine.proofs.Shown.{evicted_exact, evicted_shows, reply_stands, served_exact, served_shows}
use Rattle.machine.proofs.Copying.{copied_more, text_there}

-- one step as a run
one_step : (c d : Config) (step : Step) → StepsTo c step d → RunsTo c (step ∷ []) d
one_step c d step h = (d, h, refl)

one_there : (m : MachineView) (step : Step) → IsThere m step → All (IsThere m) (step ∷ [])
one_there m step there = All-push (IsThere m) [] step (All-nil (IsThere m)) there

-- what a step makes of a configuration that the machine represents; exact stays exact
pub record Makes (old new : MachineView) (step : Step) (c : Config) : Type 0 where
  pub made : Config
  pub steps : StepsTo c step made
  pub represents : Represents new made
  pub exact : IsExact old.shared c.common → IsExact new.shared made.common

runs_by : (old new : MachineView) (step : Step) → IsThere old step → length new.harts ≡ length old.harts → SameSizes old.shared.cache new.shared.cache
    → ((c : Config) → Represents old c → Makes old new step c) → RunsBoth old new (step ∷ [])
runs_by old new step there harts sizes makes = record {
  runs = record {
    there = one_there old step there;
    harts = harts;
    lines = sizes.lines;
    capacity = sizes.capacity;
    represents = λ c stands. let m = makes c stands in (m.made, one_step c m.made step m.steps, m.represents);
  };
  exact = record {
    represents = λ c stands.
        let m = makes c stands.represents in
        (m.made, one_step c m.made step m.steps, record { represents = m.represents; exact = m.exact stands.exact });
  };
}

pub evicts : (old new : MachineView) (shared : SharedView) (line : ℕ) → line < length old.shared.cache.lines → Evicts old.shared shared line
    → new ≡ record old { shared = shared } → RunsBoth old new (Evict line ∷ [])
evicts old new shared line there evicted e = runs_by old new (Evict line) there (rw e refl) (rw e evicted.steps.sizes) (λ c s. record {
  made = record c { common = record c.common { history = Evicted line ∷ c.common.history } };
  steps = refl;
  represents = rw e (record {
    harts = s.harts;
    shared = evicted_shows old.shared shared line c.common evicted s.shared;
    copies = s.copies;
  });
  exact = λ exact. rw e (evicted_exact old.shared shared line c.common evicted exact);
})

-- a machine whose cache is as it was
same_sizes : (cache : PmView) → SameSizes cache cache
same_sizes cache = record { harts = refl; capacity = refl; lines = refl }

-- the step of a running hart
running_steps : (c d : Config) (h : ℕ) (s : HartState) (status : Status) → status ≡ Running
    → Executes c h s (fetched_by c h s.pc) d → HartSteps c h s status d
running_steps c d h s status e x = rw e x

pub hart_steps : (c d : Config) (h : ℕ) (s : HartState) → slice_get c.harts h ≡ Some s → s.status ≡ Running
    → Executes c h s (fetched_by c h s.pc) d → StepsTo c (Hart h) d
hart_steps c d h s there running x = rw there (running_steps c d h s s.status running x)

-- a hart fetches from its copy
pub word_stands : (m : MachineView) (c : Config) (h pc : ℕ) → Represents m c → h < length m.harts
    → fetched (copy_of m h) pc ≡ fetched_by c h pc
word_stands m c h pc stands inside = ap (λ (text : Memory). fetched text pc) (stands.copies h inside)

-- the machine with another state of hart h
abbrev pub with_state : MachineView → ℕ → HartState → MachineView
with_state m h s = record m { harts = slice_set m.harts h s }

executes : (old new : MachineView) (h : ℕ) (s after : HartState) → slice_get old.harts h ≡ Some s → s.status ≡ Running
    → new.harts ≡ slice_set old.harts h after → SameSizes old.shared.cache new.shared.cache
    → ((c : Config) → Represents old c → (d : Config) × Executes c h s (fetched (copy_of old h) s.pc) d × Represents new d
    × (IsExact old.shared c.common → IsExact new.shared d.common))
    → RunsBoth old new (Hart h ∷ [])
executes old new h s after there running harts sizes makes =
    let inside : h < length old.harts = slice_get_within old.harts h s there in
    runs_by old new (Hart h) inside (ap (λ (l : List HartState). length l) harts ∙ simp length-set) sizes (λ c stands.
    let made = makes c stands in
    let there_too : slice_get c.harts h ≡ Some s = rw (← stands.harts) there in record {
      made = made.0;
      steps = hart_steps c made.0 h s there_too running (rw (word_stands old c h s.pc stands inside) at made.1);
      represents = made.2;
      exact = made.3;
    })

-- the copies of a machine with another state of a hart
copies_kept : (m : MachineView) (c : Config) (h k : ℕ) (after : HartState) → Represents m c → k < length (slice_set m.harts h after)
    → copy_of m k ≡ fetched_text c.common.initial k c.common.history
copies_kept m c h k after stands inside = stands.copies k (simp length-set at inside)

-- what stands in the place of a hart that is there is its state
pub put_there : (harts : List HartState) (h : ℕ) (s t : HartState) → slice_get harts h ≡ Some s → t ≡ get_or harts h t → slice_get harts h ≡ Some t
put_there harts h s t there e = rw (← e) at (slice_get-get_or harts h t (slice_get_within harts h s there))

-- the three ways of a step
pub goes_on_alone : (old new : MachineView) (h : ℕ) (s after : HartState) → slice_get old.harts h ≡ Some s → s.status ≡ Running
    → Needs s (fetched (copy_of old h) s.pc) (Local after) → new ≡ with_state old h after → RunsBoth old new (Hart h ∷ [])
goes_on_alone old new h s after there running needs e = executes old new h s after there running (rw e refl) (rw e (same_sizes old.shared.cache)) (λ c stands. (
  with_hart c h after,
  (Local after, needs, refl),
  record {
    harts = rw e (ap (λ (harts : List HartState). slice_set harts h after) stands.harts);
    shared = rw e stands.shared;
    copies = rw e (λ k inside. copies_kept old c h k after stands inside);
  },
  λ exact. rw e exact,
))

pub traps : (old new : MachineView) (h : ℕ) (s after : HartState) (trap : Trap) → slice_get old.harts h ≡ Some s → s.status ≡ Running
    → Needs s (fetched (copy_of old h) s.pc) (Stop trap) → after ≡ record s { status = Trapped trap } → new ≡ with_state old h after
    → RunsBoth old new (Hart h ∷ [])
traps old new h s after trap there running needs stopped e = executes old new h s after there running (rw e refl) (rw e (same_sizes old.shared.cache)) (λ c stands. (
  with_hart c h (record s { status = Trapped trap }),
  (Stop trap, needs, refl),
  record {
    harts = rw (e, stopped) (ap (λ (harts : List HartState). slice_set harts h (record s { status = Trapped trap })) stands.harts);
    shared = rw e stands.shared;
    copies = rw e (λ k inside. copies_kept old c h k after stands inside);
  },
  λ exact. rw e exact,
))

pub goes_on_answered : (old new : MachineView) (shared : SharedView) (h : ℕ) (s after : HartState) (i : Instr) (request : Request)
    → h < 8 → length old.copies ≡ length old.harts → slice_get old.harts h ≡ Some s → s.status ≡ Running
    → Needs s (fetched (copy_of old h) s.pc) (Ask request) → IsSpelledBy (fetched (copy_of old h) s.pc) i → Answers old.shared shared h s i request after
    → new ≡ record { harts = slice_set old.harts h after; copies = copies_after old.copies h request shared.ram.text; shared = shared }
    → RunsBoth old new (Hart h ∷ [])
goes_on_answered old new shared h s after i request few each there running needs spelled a e =
    executes old new h s after there running (rw e refl) (rw e a.serves.steps.1.sizes) (λ c stands.
    let reply : Reply = reply_after c.common h request in
    let told : after ≡ answered s i reply =
    a.answered ∙ ap (λ (r : Reply). answered s i r) (a.serves.reply ∙ reply_stands old.shared h request c.common few stands.shared) in
    let shows : RepresentsShared shared (shared_after c.common h request) = served_shows old.shared shared h request a.reply c.common few a.serves stands.shared in
    let inside : h < length old.copies = rw each (slice_get_within old.harts h s there) in
    let now : text_bytes shared.ram.text ≡ text_of (replayed c.common.initial (Asked h request reply ∷ c.common.history)) =
    text_there shared.ram (line_bytes (lines_shown shared)) ∙ ap (λ (memory : Memory). text_of memory) shows.memory in (
      after_request c h s i request,
      (Ask request, needs, (i, spelled, refl)),
      record {
        harts = rw (e, told) (ap (λ (harts : List HartState). slice_set harts h (answered s i reply)) stands.harts);
        shared = rw e shows;
        copies = rw e (λ k less.
            copied_more old.copies shared.ram.text c.common.initial c.common.history h k request reply inside now
            (copies_kept old c h k after stands less));
      },
      λ exact. rw e (served_exact old.shared shared h request a.reply c.common few a.serves stands.shared exact),
    ))

-- what the step of a running hart answers
pub outcome_made : (harts : List HartState) (h : ℕ) (s after : HartState) → slice_get harts h ≡ Some s → s.status ≡ Running
    → hart_outcome (slice_get harts h) (slice_get (slice_set harts h after) h) ≡ outcome_of after.status
outcome_made harts h s after there running =
    let inside : h < length harts = slice_get_within harts h s there in
    let still : h < length (slice_set harts h after) = rw length-set inside in
    let got : slice_get (slice_set harts h after) h ≡ Some after =
    slice_get-get_or (slice_set harts h after) h after still ∙ ap (λ (x : HartState). Some x) (rw get_or-set_same refl) in
    rw (there, got, running) refl
