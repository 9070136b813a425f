-- What decides what may come goes on by itself.
use Rattle.std.proofs.Common.{◌≡◌, ℕ, ◌++◌, List, [], ◌∷◌, Bool, reverse, refl, ap, ◌∙◌}
use Rattle.std.specs.List.{flat_map}
use Rattle.std.proofs.lemmas.List.{reverse-append}
use Rattle.std.proofs.lemmas.List.Concat.{flat_map-append}
use Rattle.hart.specs.declared.need.Request.{Request}
use Rattle.hart.specs.declared.need.Reply.{Reply}
use Rattle.reservation.specs.Reserved.{Call, Reserved, Stored, Taken, is_reserved}
use Rattle.store_trace.specs.History.{history, steps_of}
use Rattle.store_trace.specs.declared.event.Event.{Event}
use Rattle.store_trace.specs.declared.crash_model.step.PersistenceStep.{PersistenceStep}
use Rattle.machine.specs.Histories.{calls_of}
use Rattle.machine.specs.declared.shared_memory.history.Entry.{Entry}
use Rattle.machine.specs.declared.shared_memory.history.Entry.TheVariants.{Asked}
use Rattle.machine.specs.Replies.{SharedState, events_of, reply_after, shared_after, trace_in}
use Rattle.schedule_states.specs.Persisting.{persisted}
use Rattle.schedule_states.specs.Seen.{Seen, reserved_by, reserved_with, seen, seen_after}
use Rattle.schedule_states.proofs.Persisting.{persisted_append}

history_appended : (before after : List Event) → history (before ++ after) ≡ history after ++ history before
history_appended before after = ap (λ (es : List Event). flat_map steps_of es) (reverse-append before after) ∙ flat_map-append steps_of (reverse after) (reverse before)

reserved_more : (call : Call) (calls : List Call) (h l : ℕ) → is_reserved h l (call ∷ calls) ≡ reserved_with (λ g m. is_reserved g m calls) call h l
reserved_more (Reserved hart line) calls h l = refl
reserved_more (Stored hart line) calls h l = refl
reserved_more (Taken hart) calls h l = refl

reserved_append : (calls before : List Call) (h l : ℕ) → is_reserved h l (calls ++ before) ≡ reserved_by (λ g m. is_reserved g m before) calls h l
reserved_append [] before h l = refl
reserved_append (call ∷ calls) before h l =
    let rest : (λ g m. is_reserved g m (calls ++ before)) ≡ reserved_by (λ g m. is_reserved g m before) calls = λ i g m. reserved_append calls before g m i in
    reserved_more call (calls ++ before) h l ∙ ap (λ (reserved : ℕ → ℕ → Bool). reserved_with reserved call h l) rest

pub same_seen : (v w : Seen) → ((a : ℕ) → v.memory a ≡ w.memory a) → ((h : ℕ) → v.texts h ≡ w.texts h) → ((h l : ℕ) → v.reserved h l ≡ w.reserved h l) →
    v.persisted ≡ w.persisted → v ≡ w
same_seen v w memory texts reserved persisted = λ i. record {
  memory = λ a. memory a i;
  texts = λ h. texts h i;
  reserved = λ h l. reserved h l i;
  persisted = persisted i;
}

pub seen_shared : (c : SharedState) (h : ℕ) (request : Request) → seen (shared_after c h request) ≡ seen_after (seen c) h request
seen_shared c h request =
    let reply : Reply = reply_after c h request in
    let entry : Entry = Asked h request reply in
    same_seen (seen (shared_after c h request)) (seen_after (seen c) h request) (λ a. refl) (λ g. refl)
    (λ g l. reserved_append (calls_of entry) (flat_map calls_of c.history) g l)
    (ap (λ (p : List PersistenceStep). persisted p) (history_appended (trace_in c) (events_of h request reply))
    ∙ persisted_append (history (events_of h request reply)) (history (trace_in c)))
