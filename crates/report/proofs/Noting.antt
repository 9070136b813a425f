-- Which harts have cleaned a line since their last fence, and what one more event adds to the notes.
use Rattle.std.proofs.Common.{◌≡◌, ◌≢◌, ◌∙◌, ℕ, ◌+◌, ◌-◌, ◌<◌, ◌⊎◌, inl, inr, Bool, true, false, List, ◌∷◌, ◌++◌, Option, Some, length, get_or, set, ap, arith, sym, subst}
use Rattle.std.proofs.lemmas.Bool.Decides.{nat_tests}
use Rattle.std.proofs.lemmas.List.{get_or-map, get_or-set_other, get_or-set_same, length-map}
use Rattle.std.proofs.lemmas.Option.{slice_get-get_or}
use Rattle.std.specs.Prelude.{All}
use Rattle.machine.specs.Traced.{events_in}
use Rattle.machine.specs.declared.run_trace.traced_event.TracedEvent.{TracedEvent}
use Rattle.store_trace.specs.History.{at_moment, steps_of}
use Rattle.store_trace.specs.TraceView.{IsEvent, NamesLine}
use Rattle.store_trace.specs.declared.crash_model.step.PersistenceStep.{PersistenceStep}
use Rattle.store_trace.specs.declared.crash_model.step.PersistenceStep.TheVariants as step
use Rattle.store_trace.specs.declared.event.Event.{Event}
use Rattle.durability.proofs.Moments.{at_moment_more}
use Rattle.report.proofs.Lines.{lines_below, lines_more}
use Rattle.report.specs.Events.{place_of}
use Rattle.report.specs.Notes.{AreCleaned, IsThere, has_cleaned, instr_at, note_line, noted, told_note}
use Rattle.report.specs.Places.{KnownOrigin, KnownPlace}
use Rattle.report.specs.declared.disassembly.words.TextWord.{TextWord}
use Rattle.report.specs.declared.notes.Note.{Note}

same_or_not : (a b : ℕ) → (a ≡ b) ⊎ (a ≢ b)
same_or_not a b = grind (arith, nat_tests)

clean_here : (h line : ℕ) (p : List PersistenceStep) → has_cleaned h (step.Clean h line ∷ p) ≡ true
clean_here h line p = grind (arith, nat_tests)

clean_other : (by h line : ℕ) (p : List PersistenceStep) → by ≢ h → has_cleaned h (step.Clean by line ∷ p) ≡ has_cleaned h p
clean_other by h line p other = grind (arith, nat_tests, other)

fence_here : (h : ℕ) (p : List PersistenceStep) → has_cleaned h (step.Fence h ∷ p) ≡ false
fence_here h p = grind (arith, nat_tests)

fence_other : (by h : ℕ) (p : List PersistenceStep) → by ≢ h → has_cleaned h (step.Fence by ∷ p) ≡ has_cleaned h p
fence_other by h p other = grind (arith, nat_tests, other)

-- a clean by a hart
pub cleaned_now : (by line : ℕ) (p : List PersistenceStep) (cleaned : List Bool) → length cleaned ≡ 8 → AreCleaned p cleaned →
    AreCleaned (step.Clean by line ∷ p) (set cleaned by true)
cleaned_now by line p cleaned size are = λ h d low. elim (same_or_not by h) [
  | inl e ↦ rw e (get_or-set_same cleaned h true d (omega (arith, size, low)) ∙ sym (clean_here h line p))
  | inr other ↦ get_or-set_other cleaned by h true d (λ e. other (sym e)) ∙ are h d low ∙ sym (clean_other by h line p other)
]

-- a fence of one
pub cleaned_none : (by : ℕ) (p : List PersistenceStep) (cleaned : List Bool) → length cleaned ≡ 8 → AreCleaned p cleaned →
    AreCleaned (step.Fence by ∷ p) (set cleaned by false)
cleaned_none by p cleaned size are = λ h d low. elim (same_or_not by h) [
  | inl e ↦ rw e (get_or-set_same cleaned h false d (omega (arith, size, low)) ∙ sym (fence_here h p))
  | inr other ↦ get_or-set_other cleaned by h false d (λ e. other (sym e)) ∙ are h d low ∙ sym (fence_other by h p other)
]

-- the event at a place
get_event : (traced : List TracedEvent) (k : ℕ) (d : TracedEvent) → k < length traced → get_or (events_in traced) k d.event ≡ (get_or traced k d).event
get_event traced k d within = get_or-map (λ (t : TracedEvent). t.event) traced k d d.event within

size_same : (traced : List TracedEvent) (k : ℕ) → k < length traced → k < length (events_in traced)
size_same traced k within = omega (arith, within, length-map traced (λ (t : TracedEvent). t.event))

event_of : (P : Event → Type 0) (traced : List TracedEvent) (events : List Event) → events_in traced ≡ events → All P events →
    (k : ℕ) (d : TracedEvent) → k < length traced → P (get_or traced k d).event
event_of P traced events is all k d within =
    let here : All P (events_in traced) = subst (λ (es : List Event). All P es) (sym is) all in
    subst P (get_event traced k d within) (here k d.event (size_same traced k within))

-- each event of a run is one whose hart and line are there
pub each_there : (lines : ℕ) (traced : List TracedEvent) (events : List Event) → events_in traced ≡ events → All IsEvent events → All (NamesLine lines) events →
    All (IsThere lines) traced
each_there lines traced events is are named = λ k d within. (event_of IsEvent traced events is are k d within, event_of (NamesLine lines) traced events is named k d within)

-- the steps through the next event
pub moment_more : (traced : List TracedEvent) (k : ℕ) (d : TracedEvent) → k < length traced →
    at_moment (events_in traced) (k + 1) ≡ steps_of (get_or traced k d).event ++ at_moment (events_in traced) k
moment_more traced k d within =
    at_moment_more (events_in traced) k (get_or traced k d).event
    (slice_get-get_or (events_in traced) k d.event (size_same traced k within) ∙ ap (λ (e : Event). Some e) (get_event traced k d within))

pub cleaned_more : (traced : List TracedEvent) (k : ℕ) (d : TracedEvent) (cleaned : List Bool) → k < length traced →
    AreCleaned (steps_of (get_or traced k d).event ++ at_moment (events_in traced) k) cleaned → AreCleaned (at_moment (events_in traced) (k + 1)) cleaned
cleaned_more traced k d cleaned within are = subst (λ (p : List PersistenceStep). AreCleaned p cleaned) (sym (moment_more traced k d within)) are

back_one : (k : ℕ) → k + 1 - 1 ≡ k
back_one k = omega arith

-- the line of the event at place k
line_at : (origins : ℕ → KnownOrigin) (words : List TextWord) (traced : List TracedEvent) (k : ℕ) (one : TracedEvent) →
    note_line origins words traced (k + 1, one)
    ≡ told_note (k + 1) (place_of origins one) (noted (instr_at words one.pc) (at_moment (events_in traced) k) one.event)
line_at origins words traced k one =
    ap (λ (n : ℕ). told_note (k + 1) (place_of origins one) (noted (instr_at words one.pc) (at_moment (events_in traced) n) one.event)) (back_one k)

pub notes_more : (origins : ℕ → KnownOrigin) (words : List TextWord) (traced : List TracedEvent) (k : ℕ) (d : TracedEvent) (place : KnownPlace) (note : Option Note)
    (before after : List ℕ) → k < length traced → before ≡ lines_below (note_line origins words traced) traced k →
    place ≡ place_of origins (get_or traced k d) →
    note ≡ noted (instr_at words (get_or traced k d).pc) (at_moment (events_in traced) k) (get_or traced k d).event →
    after ≡ before ++ told_note (k + 1) place note → after ≡ lines_below (note_line origins words traced) traced (k + 1)
notes_more origins words traced k d place note before after within was there says is =
    is ∙ ap (λ (l : List ℕ). l ++ told_note (k + 1) place note) was
    ∙ ap (λ (p : KnownPlace). lines_below (note_line origins words traced) traced k ++ told_note (k + 1) p note) there
    ∙ ap (λ (n : Option Note). lines_below (note_line origins words traced) traced k ++ told_note (k + 1) (place_of origins (get_or traced k d)) n) says
    ∙ ap (λ (l : List ℕ). lines_below (note_line origins words traced) traced k ++ l) (sym (line_at origins words traced k (get_or traced k d)))
    ∙ sym (lines_more (note_line origins words traced) traced k d within)

-- before the first event no hart has cleaned a line
pub cleaned_start : (events : List Event) (cleaned : List Bool) → ((h : ℕ) (d : Bool) → h < 8 → get_or cleaned h d ≡ false) →
    AreCleaned (at_moment events 0) cleaned
cleaned_start events cleaned none = none
