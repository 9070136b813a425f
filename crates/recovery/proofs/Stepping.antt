-- One step of a routine is one step of what it represents.
use Rattle.std.proofs.Common.{◌≡◌, ℕ, ◌+◌, ◌-◌, ◌<◌, List, ◌∷◌, ◌++◌, length, Some, Result, Ok, Err, IfOk, Bool, true, false, nat_le, nat_lt, slice_get, flat_map, refl, sym, ap, ◌∙◌, inl, inr, arith}
use Rattle.std.proofs.lemmas.Bool.{cases_lt, cases_Bool, and_right, le-ltb, lt-leb}
use Rattle.std.proofs.lemmas.List.{length-append}
use Rattle.isa_table.specs.declared.instruction.Instr.{Instr}
use Rattle.hart.specs.Effect.{answered}
use Rattle.hart.specs.Needs.{IsSpelledBy, Needs}
use Rattle.hart.specs.declared.state.HartState.{HartState}
use Rattle.hart.specs.declared.state.Status.TheVariants.{Running, Trapped}
use Rattle.hart.specs.declared.state.Trap.{Trap}
use Rattle.hart.specs.declared.need.Need.{Need}
use Rattle.hart.specs.declared.need.Need.TheVariants.{Local, Ask, Stop}
use Rattle.hart.specs.declared.need.Reply.{Reply}
use Rattle.hart.specs.declared.need.Request.{Request}
use Rattle.line_memory.specs.Memory.{Memory}
use Rattle.store_trace.specs.declared.event.Event.{Event}
use Rattle.line_memory.specs.Regions.{region}
use Rattle.line_memory.specs.declared.TheConstants.{TEXT_BASE, TEXT_SIZE}
use Rattle.machine.specs.declared.schedule.items.Step.TheVariants.{Hart}
use Rattle.machine.specs.declared.shared_memory.history.Entry.{Entry}
use Rattle.machine.specs.declared.shared_memory.history.Entry.TheVariants.{Asked}
use Rattle.machine.specs.Histories.{calls_of, fetched_text, has_reserved, is_renewing, memory_after, replayed, text_of, written}
use Rattle.machine.specs.Replies.{events_of, memory_in, reply_after, trace_in}
use Rattle.machine.specs.Run.{Config, Executes, StepsTo, after_request, fetched, with_hart}
use Rattle.machine.specs.Represents.{text_bytes}
use Rattle.machine.proofs.Stepping.{hart_steps}
use Rattle.recovery.specs.Memory.{HeldView, memory_of}
use Rattle.recovery.specs.Regions.{bytes_of}
use Rattle.recovery.proofs.Placing.{text_byte}
use Rattle.recovery.specs.Asking.{asked_by, own_bytes, with_written}
use Rattle.std.proofs.Math.Path.{fun_ext}
use Rattle.verdict.specs.declared.branches.question.Question.{Question}
use Rattle.recovery.specs.Engine.{Answers, Goes, IsAsked, Represents}
use Rattle.recovery.specs.Fetched.{FetchedView, Refetches}
use Rattle.recovery.specs.World.{IsTooMany, Serves, is_line, reply_to}
use Rattle.recovery.specs.declared.engine.Engine.{Engine}

-- the reply is the one that the definition gives
pub reply_stands : (engine : Engine) (image : List (List ℕ)) (request : Request) (c : Config) → Represents engine image c
    → reply_to engine.world image request ≡ reply_after c.common 0 request
reply_stands engine image request c stands =
    let same : is_line engine.world.reserved ≡ has_reserved c.common.history 0 = λ i l. stands.reserved l i in
    rw (stands.memory, same) refl

-- the text, right after a FENCE.I
pub text_now : (bytes : List ℕ) (held : HeldView) (image : List (List ℕ))
    → ((offset : ℕ) → offset < TEXT_SIZE → slice_get bytes offset ≡ bytes_of held.text offset) → text_bytes bytes ≡ text_of (memory_of held image)
unfolding region
text_now bytes held image read =
    let same : (a : ℕ) → text_bytes bytes a ≡ text_of (memory_of held image) a = λ a.
    elim (cases_lt a (TEXT_BASE + TEXT_SIZE)) [
      | inr high ↦ rw (and_right (nat_le TEXT_BASE a) (nat_lt a (TEXT_BASE + TEXT_SIZE)) (le-ltb a (TEXT_BASE + TEXT_SIZE) high)) refl
      | inl low ↦ elim (cases_lt a TEXT_BASE) [
        | inl below ↦ rw (lt-leb TEXT_BASE a below) refl
        | inr from ↦
            let place : a ≡ TEXT_BASE + (a - TEXT_BASE) = omega arith in
            let there : a - TEXT_BASE < TEXT_SIZE = omega arith in
            let byte : slice_get bytes (a - TEXT_BASE) ≡ memory_of held image a =
            read (a - TEXT_BASE) there ∙ sym (text_byte held image (a - TEXT_BASE) there)
            ∙ ap (λ (at : ℕ). memory_of held image at) (sym place) in
            rw byte refl
      ]
    ] in
    λ i a. same a i

text_after : (old new : FetchedView) (held : HeldView) (image : List (List ℕ)) (initial : Memory) (history : List Entry) (request : Request) (reply : Reply)
    → Refetches old new held request → memory_of held image ≡ replayed initial (Asked 0 request reply ∷ history)
    → text_bytes old.bytes ≡ fetched_text initial 0 history → text_bytes new.bytes ≡ fetched_text initial 0 (Asked 0 request reply ∷ history)
text_after old new held image initial history request reply text now was = elim (cases_Bool (is_renewing request)) [
  | inl renews ↦
      rw renews (text_now new.bytes held image (text.renewed renews) ∙ ap (λ (memory : Memory). text_of memory) now)
  | inr other ↦ rw (other, text.kept other) was
]

-- a step of the running hart is one of what it represents
steps : (engine : Engine) (image : List (List ℕ)) (c d : Config) (need : Need) → Represents engine image c → engine.hart.status ≡ Running
    → Executes c 0 engine.hart (fetched (text_bytes engine.text.bytes) engine.hart.pc) d → StepsTo c (Hart 0) d
steps engine image c d need stands running x =
    let there : slice_get c.harts 0 ≡ Some engine.hart = rw stands.harts refl in
    hart_steps c d 0 engine.hart there running (rw stands.text at x)

pub goes_alone : (old new : Engine) (image : List (List ℕ)) (after : HartState) → old.hart.status ≡ Running
    → Needs old.hart (fetched (text_bytes old.text.bytes) old.hart.pc) (Local after) → new ≡ record old { hart = after } → Goes old new image true
goes_alone old new image after running needs e = (
  ap (λ (engine : Engine). engine.world.keeps) e,
  λ c stands. (
    with_hart c 0 after,
    steps old image c (with_hart c 0 after) (Local after) stands running (Local after, needs, refl),
    rw e (record {
      harts = rw stands.harts refl;
      memory = stands.memory;
      text = stands.text;
      reserved = stands.reserved;
      events = stands.events;
      few = stands.few;
      trace = stands.trace;
      own = stands.own;
      asked = stands.asked;
    }),
  ),
)

pub goes_trapped : (old new : Engine) (image : List (List ℕ)) (trap : Trap) → old.hart.status ≡ Running
    → Needs old.hart (fetched (text_bytes old.text.bytes) old.hart.pc) (Stop trap) → new ≡ record old { hart = record old.hart { status = Trapped trap } }
    → Goes old new image true
goes_trapped old new image trap running needs e = (
  ap (λ (engine : Engine). engine.world.keeps) e,
  λ c stands. (
    with_hart c 0 (record old.hart { status = Trapped trap }),
    steps old image c (with_hart c 0 (record old.hart { status = Trapped trap })) (Stop trap) stands running (Stop trap, needs, refl),
    rw e (record {
      harts = rw stands.harts refl;
      memory = stands.memory;
      text = stands.text;
      reserved = stands.reserved;
      events = stands.events;
      few = stands.few;
      trace = stands.trace;
      own = stands.own;
      asked = stands.asked;
    }),
  ),
)

-- what it represents after a request
answered_stands : (old new : Engine) (image : List (List ℕ)) (i : Instr) (request : Request) (reply : Reply) (c : Config)
    → reply ≡ reply_after c.common 0 request → Serves old.world new.world image request reply → new.hart ≡ answered old.hart i reply
    → Refetches old.text new.text new.world.held request → Represents old image c → Represents new image (after_request c 0 old.hart i request)
answered_stands old new image i request reply c told serves hart text stands =
    let s = rw told at serves in
    let h = rw told at hart in
    let memory : memory_of new.world.held image ≡ memory_after (memory_in c.common) request (reply_after c.common 0 request) =
    s.memory ∙ ap (λ (m : Memory). memory_after m request (reply_after c.common 0 request)) stands.memory in
    let all : length (trace_in c.common ++ events_of 0 request (reply_after c.common 0 request))
    ≡ length (trace_in c.common) + length (events_of 0 request (reply_after c.common 0 request)) =
    length-append (trace_in c.common) (events_of 0 request (reply_after c.common 0 request)) in
    let events : new.world.events ≡ length (trace_in c.common ++ events_of 0 request (reply_after c.common 0 request)) =
    s.events ∙ ap (λ (n : ℕ). n + length (events_of 0 request (reply_after c.common 0 request))) stands.events ∙ sym all in
    record {
      harts = rw (stands.harts, h) refl;
      memory = memory;
      text = text_after old.text new.text new.world.held image c.common.initial c.common.history request (reply_after c.common 0 request) text
          memory stands.text;
      reserved = s.reserved (flat_map calls_of c.common.history) stands.reserved;
      events = events;
      few = let few = s.few in omega arith;
      trace = λ kept.
          let before = sym s.kept.keeps ∙ kept in
          s.kept.trace before
          ∙ ap (λ (t : List Event). t ++ events_of 0 request (reply_after c.common 0 request)) (stands.trace before);
      own = λ l. s.own l ∙ ap (λ (bytes : ℕ). with_written l (written request (reply_after c.common 0 request)) bytes) (stands.own l);
      asked = s.asked ∙ ap (λ (own : ℕ → ℕ). old.world.asked ++ asked_by own request (reply_after c.common 0 request)) (fun_ext stands.own)
          ∙ ap (λ (questions : List Question). questions ++ asked_by (own_bytes c.common.history) request (reply_after c.common 0 request)) stands.asked;
    }

pub goes_answered : (old new : Engine) (image : List (List ℕ)) (i : Instr) (request : Request) → old.hart.status ≡ Running
    → Needs old.hart (fetched (text_bytes old.text.bytes) old.hart.pc) (Ask request) → IsSpelledBy (fetched (text_bytes old.text.bytes) old.hart.pc) i
    → Answers old new image i request → Goes old new image true
goes_answered old new image i request running needs spelled a = (
  a.serves.kept.keeps,
  λ c stands.
      let told : a.reply ≡ reply_after c.common 0 request = a.serves.reply ∙ reply_stands old image request c stands in (
        after_request c 0 old.hart i request,
        steps old image c (after_request c 0 old.hart i request) (Ask request) stands running (Ask request, needs, (i, spelled, refl)),
        answered_stands old new image i request a.reply c told a.serves a.hart a.text stands,
      ),
)

pub goes_full : (old new : Engine) (image : List (List ℕ)) (i : Instr) (request : Request) → old.hart.status ≡ Running
    → Needs old.hart (fetched (text_bytes old.text.bytes) old.hart.pc) (Ask request) → IsSpelledBy (fetched (text_bytes old.text.bytes) old.hart.pc) i
    → new ≡ old → IsTooMany old.world image request → Goes old new image false
goes_full old new image i request running needs spelled e too_many = (
  e,
  λ c stands.
      let told : reply_to old.world image request ≡ reply_after c.common 0 request = reply_stands old image request c stands in
      let more = rw told at too_many.more in
      let all : length (trace_in c.common ++ events_of 0 request (reply_after c.common 0 request))
      ≡ length (trace_in c.common) + length (events_of 0 request (reply_after c.common 0 request)) =
      length-append (trace_in c.common) (events_of 0 request (reply_after c.common 0 request)) in
      let count = stands.events in (
        after_request c 0 old.hart i request,
        steps old image c (after_request c 0 old.hart i request) (Ask request) stands running (Ask request, needs, (i, spelled, refl)),
        omega arith,
      ),
)

pub goes_asked : (old new : Engine) (image : List (List ℕ)) (i : Instr) (request : Request) (made : Bool) → old.hart.status ≡ Running
    → Needs old.hart (fetched (text_bytes old.text.bytes) old.hart.pc) (Ask request) → IsSpelledBy (fetched (text_bytes old.text.bytes) old.hart.pc) i
    → IsAsked old new image i request made → Goes old new image made
goes_asked old new image i request true running needs spelled a = goes_answered old new image i request running needs spelled a
goes_asked old new image i request false running needs spelled (e, too_many) = goes_full old new image i request running needs spelled e too_many

pub asked_goes : {E : Type 0} (old new : Engine) (image : List (List ℕ)) (i : Instr) (request : Request) (result : Result Bool E) → old.hart.status ≡ Running
    → Needs old.hart (fetched (text_bytes old.text.bytes) old.hart.pc) (Ask request) → IsSpelledBy (fetched (text_bytes old.text.bytes) old.hart.pc) i
    → IfOk result (λ made. IsAsked old new image i request made) → IfOk result (λ made. Goes old new image made)
asked_goes old new image i request (Ok made) running needs spelled a = goes_asked old new image i request made running needs spelled a
asked_goes old new image i request (Err refused) running needs spelled a = tt
