-- What keeps a seat in agreement with a core.
use Rattle.std.proofs.Common.{◌≡◌, ◌≢◌, ℕ, suc, ◌+◌, List, ◌∷◌, true, false, eqb, refl, sym, ap, subst, ◌∙◌, inl, inr, arith}
use Rattle.std.proofs.lemmas.Bool.{cases_Bool, eq-eqb, ne_eqb}
use Rattle.hart.specs.declared.state.HartState.{HartState}
use Rattle.hart.specs.declared.need.Request.{Request}
use Rattle.hart.specs.declared.need.Reply.{Reply}
use Rattle.line_memory.specs.Memory.{Memory}
use Rattle.machine.specs.Represents.{text_bytes}
use Rattle.machine.specs.declared.shared_memory.history.Entry.{Entry}
use Rattle.machine.specs.declared.shared_memory.history.Entry.TheVariants.{Asked}
use Rattle.machine.specs.Histories.{fetched_text, is_renewing, replayed, text_of}
use Rattle.machine.specs.Replies.{starting_memory}
use Rattle.hart.specs.Effect.{answered}
use Rattle.bus.specs.declared.exchange.Exchange.{Exchange}
use Rattle.bus.specs.declared.outcome.Outcome.{Outcome}
use Rattle.bus.specs.Agreeing.{Agrees, Exchanges, IsPart}
use Rattle.bus.specs.Alone.{GoesAlone, StepsAlone}
use Rattle.bus.specs.Replays.{CoreView}
use Rattle.bus.specs.Seating.{IsLocalStep, StepsLocally}
use Rattle.bus.specs.Seats.{SeatView}
use Rattle.bus.specs.Serving.{EvictsLine, IsServed}

-- one more step alone
pub goes_more : (text : Memory) (n : ℕ) (s middle t : HartState) → GoesAlone text n s middle → StepsAlone text middle t → GoesAlone text (n + 1) s t
goes_more text n s middle t goes step =
    let count : suc n ≡ n + 1 = omega arith in
    subst (λ (k : ℕ). GoesAlone text k s t) count (middle, goes, step)

-- a step of the seat's own
pub steps_agree : (core : CoreView) (old new : SeatView) (outcome : Outcome) → StepsLocally old new outcome → Agrees core old → Agrees core new
steps_agree core old new outcome step a = rw step.counted (record {
  text = a.text;
  copy = a.copy;
  from = a.from;
  part = a.part;
  alone = goes_more (text_bytes old.copy) old.since a.from old.state step.after a.alone step.steps;
})

pub local_agrees : (core : CoreView) (old new : SeatView) (outcome : Outcome) → IsLocalStep old new outcome → Agrees core old → Agrees core new
local_agrees core old new outcome step a = elim step [
  | inl stopped ↦ rw stopped.same a
  | inr other ↦ elim other [
    | inl spent ↦ rw spent.same a
    | inr steps ↦ steps_agree core old new outcome steps a
  ]
]

-- of another hart, or an eviction: nothing of a seat's part changes
pub passes : (initial : Memory) (h g : ℕ) (request : Request) (reply : Reply) (history : List Entry) (xs : List Exchange) (t : HartState)
    → eqb g h ≡ false → IsPart initial h history xs t → IsPart initial h (Asked g request reply ∷ history) xs t
passes initial h g request reply history xs t other part = rw other part

pub copy_passes : (initial : Memory) (h g : ℕ) (request : Request) (reply : Reply) (history : List Entry)
    → eqb g h ≡ false → fetched_text initial h (Asked g request reply ∷ history) ≡ fetched_text initial h history
copy_passes initial h g request reply history other = elim (cases_Bool (is_renewing request)) [
  | inl renews ↦ rw (renews, other) refl
  | inr not ↦ rw not refl
]

pub served_others : (old new : CoreView) (before after other : SeatView) (outcome : Outcome) → IsServed old new before after outcome
    → other.hart ≢ before.hart → Agrees old other → Agrees new other
served_others old new before after other outcome v apart a =
    let differs : eqb before.hart other.hart ≡ false = ne_eqb before.hart other.hart (λ e. apart (sym e)) in
    let initial : Memory = starting_memory old.program old.start in
    rw v.tells.core (record {
      text = a.text;
      copy = a.copy ∙ sym (copy_passes initial other.hart before.hart v.request v.reply old.history differs);
      from = a.from;
      part = passes initial other.hart before.hart v.request v.reply old.history other.exchanges a.from differs a.part;
      alone = a.alone;
    })

pub evicted_agrees : (old new : CoreView) (line : ℕ) (seat : SeatView) → EvictsLine old new line → Agrees old seat → Agrees new seat
evicted_agrees old new line seat v a =
    rw v.core (record { text = a.text; copy = a.copy; from = a.from; part = a.part; alone = a.alone })

-- of the seat's own hart: one exchange more
own_copy : (initial : Memory) (h : ℕ) (request : Request) (reply : Reply) (history : List Entry) (old new text : List ℕ)
    → text_bytes old ≡ fetched_text initial h history → (is_renewing request ≡ true → new ≡ text) → (is_renewing request ≡ false → new ≡ old)
    → text_bytes text ≡ text_of (replayed initial (Asked h request reply ∷ history))
    → text_bytes new ≡ fetched_text initial h (Asked h request reply ∷ history)
own_copy initial h request reply history old new text was renewed kept now = elim (cases_Bool (is_renewing request)) [
  | inl renews ↦ rw (renews, eq-eqb h h refl, renewed renews) now
  | inr not ↦ rw (not, kept not) was
]

pub own_part : (initial : Memory) (h : ℕ) (history : List Entry) (x : Exchange) (xs : List Exchange) (s t : HartState)
    → IsPart initial h history xs s → Exchanges (fetched_text initial h history) s x t
    → IsPart initial h (Asked h x.request x.reply ∷ history) (x ∷ xs) t
own_part initial h history x xs s t part exchanges = rw (eq-eqb h h refl) (refl, refl, (s, part, exchanges))

pub served_agrees : (old new : CoreView) (before after : SeatView) (outcome : Outcome) → IsServed old new before after outcome
    → Agrees old before → Agrees new after
served_agrees old new before after outcome v a =
    let initial : Memory = starting_memory old.program old.start in
    let x : Exchange = record { steps = before.since; request = v.request; reply = v.reply } in
    let t : HartState = answered before.state v.instr v.reply in
    let renews : text_bytes new.shared.ram.text ≡ text_of (replayed initial (Asked before.hart v.request v.reply ∷ old.history)) =
    v.renews ∙ ap (λ (core : CoreView). text_of (replayed initial core.history)) v.tells.core in
    let copy = own_copy initial before.hart v.request v.reply old.history before.copy after.copy new.shared.ram.text
    a.copy v.told.renewed v.told.kept renews in
    let exchanges : Exchanges (fetched_text initial before.hart old.history) a.from x t = record {
      at = before.state;
      alone = rw a.copy at a.alone;
      asks = rw a.copy at v.told.asks;
      instr = v.instr;
      spelled = rw a.copy at v.told.spelled;
      answered = refl;
    } in
    let part = own_part initial before.hart old.history x before.exchanges a.from t a.part exchanges in
    rw (v.tells.core, v.told.seat) (record { text = a.text; copy = copy; from = t; part = part; alone = refl })
