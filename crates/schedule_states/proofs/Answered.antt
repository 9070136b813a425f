-- A request leads to what the successor of a state stands for.
use Rattle.std.proofs.Common.{◌≡◌, ◌≢◌, ◌⊎◌, inl, inr, ℕ, ◌≤◌, Bool, true, false, List, [], ◌∷◌, ◌++◌, Option, Some, reverse, slice_get, slice_set, slice_index_or, refl, sym, ap, ◌∙◌, subst, arith}
use Rattle.std.specs.List.{flat_map}
use Rattle.std.proofs.lemmas.Bool.{cases_Bool}
use Rattle.std.proofs.lemmas.Bool.Decides.{nat_tests}
use Rattle.std.proofs.lemmas.List.{length-set, reverse-append}
use Rattle.std.proofs.lemmas.List.Concat.{flat_map-append}
use Rattle.std.proofs.lemmas.Option.{get_or_from_slice_get, same_Some, slice_get_within}
use Rattle.bus.proofs.Places.{got_else, got_set}
use Rattle.bus.specs.Alone.{Asks}
use Rattle.hart.specs.Effect.{answered}
use Rattle.hart.specs.Needs.{IsSpelledBy}
use Rattle.hart.specs.declared.need.Need.TheVariants.{Ask}
use Rattle.hart.specs.declared.need.Request.{Request}
use Rattle.hart.specs.declared.need.Reply.{Reply}
use Rattle.hart.specs.declared.state.HartState.{HartState}
use Rattle.hart.specs.declared.state.Status.{Status}
use Rattle.hart.specs.declared.state.Status.TheVariants.{Running}
use Rattle.isa_table.specs.declared.instruction.Instr.{Instr}
use Rattle.line_memory.specs.Memory.{Memory}
use Rattle.machine.proofs.Determined.{steps_once}
use Rattle.machine.specs.Histories.{calls_of, has_reserved, is_renewal, is_renewing, memory_after, text_of}
use Rattle.machine.specs.Replies.{events_of, memory_in, replied, reply_after, shared_after, trace_in}
use Rattle.machine.specs.Run.{Config, HartSteps, HartStepsIfThere, StepsTo, after_request, fetched}
use Rattle.machine.specs.declared.schedule.items.Step.TheVariants.{Hart}
use Rattle.machine.specs.declared.shared_memory.history.Entry.TheVariants.{Asked}
use Rattle.store_trace.specs.History.{history, steps_of}
use Rattle.store_trace.specs.declared.event.Event.{Event}
use Rattle.store_trace.specs.declared.crash_model.step.PersistenceStep.{PersistenceStep}
use Rattle.schedule_states.proofs.Putting.{below_grows, memory_kept}
use Rattle.schedule_states.proofs.Standing.{asks_itself}
use Rattle.schedule_states.specs.Ahead.{ComesAlone}
use Rattle.schedule_states.specs.Marks.{IsMarkedBy}
use Rattle.schedule_states.specs.Memories.{IsMemoryOf, memory_over}
use Rattle.schedule_states.specs.Requests.{is_reserved}
use Rattle.schedule_states.specs.StartLines.{StartView, memory_at}
use Rattle.schedule_states.specs.States.{AreGrown, AsksTo, IsHartOf, IsReady, IsText, PartsView, StandsFor, text_for}
use Rattle.schedule_states.specs.Successors.{IsOtherAfter, IsServedFor, memory_held}
use Rattle.schedule_states.specs.declared.held_lines.HeldLine.{HeldLine}
use Rattle.schedule_states.specs.declared.program_state.HartPart.{HartPart}
use Rattle.schedule_states.specs.declared.program_state.ProgramState.{ProgramState}

-- a request is one step of its hart
asked_step : (c d : Config) (h : ℕ) (asks : AsksTo c h d) → StepsTo c (Hart h) d
asked_step c d h asks =
    subst (λ (there : Option HartState). HartStepsIfThere c h there d) (sym asks.here)
    (subst (λ (status : Status). HartSteps c h asks.own status d) (sym asks.asks.running)
    (Ask asks.request, asks.asks.needs, (asks.instr, asks.spelled, asks.is)))

-- so it is the one that the hart's next instruction makes
same_request : (c d : Config) (h : ℕ) (own : HartState) (instr : Instr) (request : Request) → slice_get c.harts h ≡ Some own →
    Asks (text_for c.common h) own request → IsSpelledBy (fetched (text_for c.common h) own.pc) instr → AsksTo c h d → d ≡ after_request c h own instr request
same_request c d h own instr request here asks spelled to =
    let mine : AsksTo c h (after_request c h own instr request) =
    record { own = own; instr = instr; request = request; here = here; asks = asks; spelled = spelled; is = refl } in
    steps_once c (Hart h) d (after_request c h own instr request) (asked_step c d h to) (asked_step c (after_request c h own instr request) h mine)

history_appended : (before after : List Event) → history (before ++ after) ≡ history after ++ history before
history_appended before after = ap (λ (es : List Event). flat_map steps_of es) (reverse-append before after) ∙ flat_map-append steps_of (reverse after) (reverse before)

-- a text stays as the parts grow
pub text_grown : (old new : PartsView) (n : ℕ) (text : Memory) → AreGrown old new → IsText old n text → IsText new n text
text_grown old new n text grown is = record {
  held = is.held;
  found = grown.lists n is.held is.found;
  below = below_grows old.table.states new.table.states is.held grown.table.grows is.below;
  is = is.is ∙ sym (ap (λ (m : Memory). text_of m) (memory_kept old.table.states new.table.states is.held (memory_at new.table.start) grown.table.grows is.below
      ∙ ap (λ (s : StartView). memory_over old.table.states is.held (memory_at s)) grown.table.start));
}

text_read : (parts : PartsView) (n : ℕ) (text : Memory) → IsText parts n text → text ≡ text_of (memory_held parts (slice_index_or parts.lists n []))
text_read parts n text is = is.is ∙ ap (λ (held : List HeldLine). text_of (memory_held parts held)) (sym (get_or_from_slice_get parts.lists n is.held [] is.found))

-- the reply to the request
same_reply : (old new : PartsView) (s next : ProgramState) (c : Config) (h : ℕ) (part own : HartPart) (of : HartState) (instr : Instr) (request : Request) (reply : Reply)
    (lines : List HeldLine) → StandsFor old s c → IsHartOf old c.common h part of → IsServedFor old new s next h part own instr request reply lines →
    reply ≡ reply_after c.common h request
same_reply old new s next c h part own of instr request reply lines stands is served =
    let held : slice_index_or old.lists s.memory [] ≡ stands.held = get_or_from_slice_get old.lists s.memory stands.held [] stands.found in
    let memory : memory_held old (slice_index_or old.lists s.memory []) ≡ memory_in c.common =
    ap (λ (xs : List HeldLine). memory_held old xs) held ∙ sym stands.memory.flat in
    let lines_reserved : is_reserved part.reserved ≡ has_reserved c.common.history h = λ i l. is.reserved l i in
    served.reply_is ∙ ap (λ (m : Memory). replied m (is_reserved part.reserved) request) memory
    ∙ ap (λ (r : ℕ → Bool). replied (memory_in c.common) r request) lines_reserved

-- memory after it
memory_served : (old new : PartsView) (s next : ProgramState) (c : Config) (h : ℕ) (part own : HartPart) (instr : Instr) (request : Request) (reply : Reply)
    (lines : List HeldLine) → StandsFor old s c → IsServedFor old new s next h part own instr request reply lines → reply ≡ reply_after c.common h request →
    IsMemoryOf new.table.start new.table.states lines (memory_in (shared_after c.common h request)) (history (trace_in (shared_after c.common h request)))
memory_served old new s next c h part own instr request reply lines stands served same =
    let held : slice_index_or old.lists s.memory [] ≡ stands.held = get_or_from_slice_get old.lists s.memory stands.held [] stands.found in
    let before : IsMemoryOf old.table.start old.table.states (slice_index_or old.lists s.memory []) (memory_in c.common) (history (trace_in c.common)) =
    subst (λ (xs : List HeldLine). IsMemoryOf old.table.start old.table.states xs (memory_in c.common) (history (trace_in c.common))) (sym held) stands.memory in
    let after : IsMemoryOf new.table.start new.table.states lines (memory_after (memory_in c.common) request reply)
    (history (events_of h request reply) ++ history (trace_in c.common)) = served.served.served (memory_in c.common) (history (trace_in c.common)) before in
    let steps : history (events_of h request reply) ++ history (trace_in c.common) ≡ history (trace_in c.common ++ events_of h request reply) =
    sym (history_appended (trace_in c.common) (events_of h request reply)) in
    subst (λ (r : Reply). IsMemoryOf new.table.start new.table.states lines (memory_after (memory_in c.common) request r) (history (trace_in c.common ++ events_of h request r)))
    same (subst (λ (p : List PersistenceStep). IsMemoryOf new.table.start new.table.states lines (memory_after (memory_in c.common) request reply) p) steps after)

-- the text that a hart fetches after it
renewed_text : (c : Config) (h : ℕ) (request : Request) → is_renewing request ≡ true → text_for (shared_after c.common h request) h ≡ text_of (memory_in (shared_after c.common h request))
renewed_text c h request renews =
    let test : is_renewal h (Asked h request (reply_after c.common h request)) ≡ true = grind (arith, nat_tests, renews) in
    rw test refl

pub kept_text : (c : Config) (h g : ℕ) (request : Request) → (is_renewing request ≡ false) ⊎ (h ≢ g) → text_for (shared_after c.common h request) g ≡ text_for c.common g
kept_text c h g request (inl not_renewing) =
    let test : is_renewal g (Asked h request (reply_after c.common h request)) ≡ false = grind (arith, nat_tests, not_renewing) in
    rw test refl
kept_text c h g request (inr other) =
    let test : is_renewal g (Asked h request (reply_after c.common h request)) ≡ false = grind (arith, nat_tests, other) in
    rw test refl

own_text : (old new : PartsView) (s next : ProgramState) (c : Config) (h : ℕ) (part own : HartPart) (of : HartState) (instr : Instr) (request : Request) (reply : Reply)
    (lines : List HeldLine) → StandsFor old s c → IsHartOf old c.common h part of → IsServedFor old new s next h part own instr request reply lines →
    reply ≡ reply_after c.common h request → IsText new own.text (text_for (shared_after c.common h request) h)
own_text old new s next c h part own of instr request reply lines stands is served same = elim (cases_Bool (is_renewing request)) [
  | inl renews ↦
      let list : (held : List HeldLine) × (slice_get new.lists own.text ≡ Some held) × (text_of (memory_held new held) ≡ text_of (memory_held new lines)) =
      served.text.renewed renews in
      let memory = memory_served old new s next c h part own instr request reply lines stands served same in
      record {
        held = list.0;
        found = list.1;
        below = served.lists.below own.text list.0 list.1;
        is = renewed_text c h request renews ∙ ap (λ (m : Memory). text_of m) memory.flat ∙ sym list.2;
      }
  | inr kept ↦
      let number : own.text ≡ part.text = served.text.kept kept in
      let before : IsText new part.text (text_for c.common h) = text_grown old new part.text (text_for c.common h) served.grown is.text in
      subst (λ (n : ℕ). IsText new n (text_for (shared_after c.common h request) h)) (sym number)
      (subst (λ (m : Memory). IsText new part.text m) (sym (kept_text c h h request (inl kept))) before)
]

-- the hart's own part after it
own_hart : (old new : PartsView) (s next : ProgramState) (c : Config) (h : ℕ) (part own : HartPart) (of : HartState) (instr : Instr) (request : Request) (reply : Reply)
    (lines : List HeldLine) → StandsFor old s c → IsHartOf old c.common h part of → IsServedFor old new s next h part own instr request reply lines →
    reply ≡ reply_after c.common h request → IsHartOf new (shared_after c.common h request) h own (answered part.state instr (reply_after c.common h request))
own_hart old new s next c h part own of instr request reply lines stands is served same =
    let text : IsText new own.text (text_for (shared_after c.common h request) h) =
    own_text old new s next c h part own of instr request reply lines stands is served same in
    let read : text_of (memory_held new (slice_index_or new.lists own.text [])) ≡ text_for (shared_after c.common h request) h =
    sym (text_read new own.text (text_for (shared_after c.common h request) h) text) in record {
      text = text;
      ahead = subst (λ (r : Reply). ComesAlone (text_for (shared_after c.common h request) h) (answered part.state instr r) own.state) same
          (subst (λ (m : Memory). ComesAlone m (answered part.state instr reply) own.state) read served.ahead);
      ready = subst (λ (m : Memory). IsReady m own.state) read served.ready;
      reserved = λ l. subst (λ (r : Reply). is_reserved own.reserved l ≡ has_reserved (Asked h request r ∷ c.common.history) h l) same
          (served.reserved (flat_map calls_of c.common.history) is.reserved l);
    }

-- another hart's
other_hart : (old new : PartsView) (c : Config) (h g : ℕ) (request : Request) (reply : Reply) (was part : HartPart) (of : HartState) → AreGrown old new → h ≢ g →
    reply ≡ reply_after c.common h request → IsHartOf old c.common g was of → IsOtherAfter request reply was part → IsHartOf new (shared_after c.common h request) g part of
other_hart old new c h g request reply was part of grown apart same is after =
    let text : text_for (shared_after c.common h request) g ≡ text_for c.common g = kept_text c h g request (inr apart) in record {
      text = subst (λ (n : ℕ). IsText new n (text_for (shared_after c.common h request) g)) (sym after.text)
          (subst (λ (m : Memory). IsText new was.text m) (sym text) (text_grown old new was.text (text_for c.common g) grown is.text));
      ahead = subst (λ (m : Memory). ComesAlone m of part.state) (sym text) (subst (λ (t : HartState). ComesAlone (text_for c.common g) of t) (sym after.state) is.ahead);
      ready = subst (λ (m : Memory). IsReady m part.state) (sym text) (subst (λ (t : HartState). IsReady (text_for c.common g) t) (sym after.state) is.ready);
      reserved = λ l. subst (λ (r : Reply). is_reserved part.reserved l ≡ has_reserved (Asked h request r ∷ c.common.history) g l) same
          (after.reserved h g (flat_map calls_of c.common.history) apart is.reserved l);
    }

harts_served : (old new : PartsView) (s next : ProgramState) (c : Config) (h : ℕ) (part own : HartPart) (of : HartState) (instr : Instr) (request : Request) (reply : Reply)
    (lines : List HeldLine) → StandsFor old s c → slice_get c.harts h ≡ Some of → IsHartOf old c.common h part of →
    IsServedFor old new s next h part own instr request reply lines → reply ≡ reply_after c.common h request →
    (g : ℕ) (p : HartPart) (o : HartState) → slice_get next.harts.items g ≡ Some p →
    slice_get (slice_set c.harts h (answered part.state instr (reply_after c.common h request))) g ≡ Some o → IsHartOf new (shared_after c.common h request) g p o
harts_served old new s next c h part own of instr request reply lines stands here is served same g p o mine there =
    let after : HartState = answered part.state instr (reply_after c.common h request) in
    elim (served.harts.each g p mine) [
      | inl own_part ↦
          let at : slice_get (slice_set c.harts h after) h ≡ Some o = subst (λ (n : ℕ). slice_get (slice_set c.harts h after) n ≡ Some o) own_part.0 there in
          let is_after : after ≡ o = same_Some after o (sym (got_set c.harts h after (slice_get_within c.harts h of here)) ∙ at) in
          let made : IsHartOf new (shared_after c.common h request) h own after = own_hart old new s next c h part own of instr request reply lines stands is served same in
          subst (λ (n : ℕ). IsHartOf new (shared_after c.common h request) n p o) (sym own_part.0)
          (subst (λ (q : HartPart). IsHartOf new (shared_after c.common h request) h q o) (sym own_part.1)
          (subst (λ (t : HartState). IsHartOf new (shared_after c.common h request) h own t) is_after made))
      | inr other ↦
          let apart : h ≢ g = λ e. other.0 (sym e) in
          let before : slice_get c.harts g ≡ Some o = sym (got_else c.harts h g after other.0) ∙ there in
          let was : IsHartOf old c.common g other.1.0 o = stands.harts g other.1.0 o other.1.1 before in
          other_hart old new c h g request reply other.1.0 p o served.grown apart same was other.1.2
    ]

-- the successor stands for what the request leads to
served_stands : (old new : PartsView) (s next : ProgramState) (c : Config) (h : ℕ) (part own : HartPart) (of : HartState) (instr : Instr) (request : Request) (reply : Reply)
    (lines : List HeldLine) → StandsFor old s c → slice_get c.harts h ≡ Some of → IsHartOf old c.common h part of →
    IsServedFor old new s next h part own instr request reply lines → StandsFor new next (after_request c h part.state instr request)
served_stands old new s next c h part own of instr request reply lines stands here is served =
    let same : reply ≡ reply_after c.common h request = same_reply old new s next c h part own of instr request reply lines stands is served in
    let after : HartState = answered part.state instr (reply_after c.common h request) in record {
      count = served.harts.count ∙ stands.count ∙ sym (length-set c.harts h after);
      few = subst (λ (n : ℕ). n ≤ 8) (sym (length-set c.harts h after)) stands.few;
      harts = harts_served old new s next c h part own of instr request reply lines stands here is served same;
      held = lines;
      found = served.memory;
      memory = memory_served old new s next c h part own instr request reply lines stands served same;
    }

-- the next state stands for what comes by the request, and its mark is that of the request
pub stands_served : (old new : PartsView) (s next : ProgramState) (mark : Option Event) (c d : Config) (h : ℕ) (part own : HartPart) (instr : Instr) (request : Request)
    (reply : Reply) (lines : List HeldLine) → IsServedFor old new s next h part own instr request reply lines →
    ((memory : Memory) (lines_reserved : ℕ → Bool) (before : List Event) → IsMarkedBy mark before (before ++ events_of h request (replied memory lines_reserved request))) →
    Asks (text_of (memory_held old (slice_index_or old.lists part.text []))) part.state request →
    IsSpelledBy (fetched (text_of (memory_held old (slice_index_or old.lists part.text []))) part.state.pc) instr → StandsFor old s c → AsksTo c h d →
    StandsFor new next d × IsMarkedBy mark (trace_in c.common) (trace_in d.common)
stands_served old new s next mark c d h part own instr request reply lines served marked asks spelled stands to =
    let is : IsHartOf old c.common h part to.own = stands.harts h part to.own served.part_is to.here in
    let read : text_of (memory_held old (slice_index_or old.lists part.text [])) ≡ text_for c.common h = sym (text_read old part.text (text_for c.common h) is.text) in
    let mine : part.state ≡ to.own = asks_itself old c.common h part to.own to.request is to.asks in
    let here : slice_get c.harts h ≡ Some part.state = to.here ∙ ap (λ (t : HartState). Some t) (sym mine) in
    let asks_here : Asks (text_for c.common h) part.state request = subst (λ (m : Memory). Asks m part.state request) read asks in
    let spelled_here : IsSpelledBy (fetched (text_for c.common h) part.state.pc) instr =
    subst (λ (m : Memory). IsSpelledBy (fetched m part.state.pc) instr) read spelled in
    let one : d ≡ after_request c h part.state instr request = same_request c d h part.state instr request here asks_here spelled_here to in
    subst (λ (e : Config). StandsFor new next e × IsMarkedBy mark (trace_in c.common) (trace_in e.common)) (sym one) (
      served_stands old new s next c h part own to.own instr request reply lines stands to.here is served,
      marked (memory_in c.common) (has_reserved c.common.history h) (trace_in c.common),
    )

-- a hart that has stopped asks nothing
pub stopped_asks_not : (old : PartsView) (s : ProgramState) (c d : Config) (h : ℕ) (part : HartPart) → slice_get s.harts.items h ≡ Some part →
    part.state.status ≢ Running → StandsFor old s c → ¬ AsksTo c h d
stopped_asks_not old s c d h part mine stopped stands to =
    let is : IsHartOf old c.common h part to.own = stands.harts h part to.own mine to.here in
    let same : part.state ≡ to.own = asks_itself old c.common h part to.own to.request is to.asks in
    stopped (ap (λ (t : HartState). t.status) same ∙ to.asks.running)
