-- A round of a thread, and where the thread ends.
use Rattle.std.proofs.Common.{◌≡◌, ◌≢◌, ◌≤◌, ◌++◌, ◌∷◌, [], Bool, Some, None, true, false, refl, sym, ap, ◌∙◌, inl, inr, arith, subst}
use Rattle.std.proofs.lemmas.List.Elements.{Contains-push, Contains-push_cases}
use Rattle.std.specs.List.{Contains}
use Rattle.hart.specs.declared.state.Status.{Status}
use Rattle.hart.specs.declared.state.Status.TheVariants as statuses
use Rattle.machine.specs.declared.shared_memory.fault.StepFault.{StepFault}
use Rattle.workers.specs.Stops.{HasSeen, Sitting}
use Rattle.bus.specs.declared.driving.Round.TheVariants as rounds
use Rattle.bus.specs.declared.outcome.Outcome.{Outcome}
use Rattle.bus.specs.Driving.{HasEnded, IsAtEnd, IsDriven, IsRound, badge, is_last, round_of, round_after}
use Rattle.bus.specs.Seats.{SeatView, outcome_of}
use Rattle.bus.specs.Seating.{IsLocalStep}
use Rattle.bus.specs.Stepping.{IsAnswered, IsStepOf, IsStepRefusal}

-- a seat keeps its number and its budget
pub step_badge : (old new : SeatView) (o : Outcome) → IsStepOf old new o → badge new ≡ badge old
step_badge old new o step = elim step [
  | inl local ↦ elim local [
    | inl stopped ↦ ap badge stopped.same
    | inr other ↦ elim other [
      | inl spent ↦ ap badge spent.same
      | inr goes ↦ ap badge goes.counted
    ]
  ]
  | inr asked ↦ ap badge asked.told.seat
]

pub local_badge : (old new : SeatView) (o : Outcome) → IsLocalStep old new o → badge new ≡ badge old
local_badge old new o step = step_badge old new o (inl step)

pub answered_badge : (old new : SeatView) (o : Outcome) → IsAnswered old new o → badge new ≡ badge old
answered_badge old new o answered = step_badge old new o (inr answered)

-- a hart whose outcome is the last doesn't run
not_running : (s : Status) → is_last (outcome_of s) ≡ true → s ≢ statuses.Running
not_running statuses.Running last = cc
not_running (statuses.Exited code) last = λ e. cc
not_running (statuses.Trapped trap) last = λ e. cc

ended_by : (seat : SeatView) (o : Outcome) → o ≡ outcome_of seat.state.status → is_last o ≡ true → IsAtEnd seat
ended_by seat o e last = inl (not_running seat.state.status (rw e at last))

step_ends : (old new : SeatView) (o : Outcome) → IsStepOf old new o → is_last o ≡ true → IsAtEnd new
step_ends old new o step last = elim step [
  | inl local ↦ elim local [
    | inl stopped ↦ inl (rw stopped.same stopped.stopped)
    | inr other ↦ elim other [
      | inl spent ↦ inr (rw spent.same spent.spent)
      | inr goes ↦ ended_by new o (goes.answer ∙ ap (λ (s : SeatView). outcome_of s.state.status) (sym goes.counted)) last
    ]
  ]
  | inr asked ↦ ended_by new o asked.answer last
]

pub local_ends : (old new : SeatView) (o : Outcome) → IsLocalStep old new o → is_last o ≡ true → IsAtEnd new
local_ends old new o step last = step_ends old new o (inl step) last

-- the round of a step that wasn't refused, after which the stop word is as it was but for the look
pub round_ends : (old new : SeatView) (o : Outcome) (place seen : Sitting) → IsStepOf old new o → seen.raised ≡ place.raised
    → (HasSeen seen → ⊥) → IsRound new place seen (round_after o)
round_ends old new o place seen step same unseen = at_last (is_last o) refl
  where
    at_last : (b : Bool) → is_last o ≡ b → IsRound new place seen (round_of b)
    at_last true last = (same, inl (step_ends old new o step last))
    at_last false last = (same, unseen)

-- a look that finds the word down is that of a place that has never seen it raised
pub look_unseen : (place seen : Sitting) (found : Bool) → seen ≡ record place { found = place.found ++ found ∷ [] } → (HasSeen place → found ≡ true)
    → found ≡ false → HasSeen seen → ⊥
look_unseen place seen found is stays low has =
    let before : HasSeen place → ⊥ = λ h. let no : true ≡ false = sym (stays h) ∙ low in cc in
    elim (subst HasSeen is has) [
      | inl raised ↦ before (inl raised)
      | inr looked ↦ elim (Contains-push_cases place.found found true looked) [
        | inl earlier ↦ before (inr earlier)
        | inr now ↦ let no : true ≡ false = sym now ∙ low in cc
      ]
    ]

-- the word was seen raised
pub round_seen : (seat : SeatView) (place seen : Sitting) (found : Bool) → seen ≡ record place { found = place.found ++ found ∷ [] } → found ≡ true
    → IsRound seat place seen rounds.Ends
round_seen seat place seen found is up = (
  ap (λ (s : Sitting). s.raised) is,
  inr (inr (subst (λ (l : Sitting). Contains l.found true) (sym is) (subst (λ (b : Bool). Contains (place.found ++ b ∷ []) true) (sym up) (Contains-push place.found true)))),
)

-- no seat has made more steps than its budget
full : (seat : SeatView) → seat.made ≤ seat.budget → IsAtEnd seat → HasEnded seat
full seat within ended = elim ended [
  | inl stopped ↦ inl stopped
  | inr spent ↦ let all : seat.made ≡ seat.budget = omega arith in inr all
]

-- what a thread hands back after its last round
pub driven_to_end : (began : SeatView) (place stop : Sitting) (seat loose : SeatView) (before : Sitting) → loose.made ≤ loose.budget → badge seat ≡ badge began → stop.table ≡ place.table
    → loose ≡ record seat { text = [] } → before.raised ≡ false → IsRound seat before stop rounds.Ends → IsDriven (badge began) place loose stop None
driven_to_end began place stop seat loose before within same table is quiet round = record {
  same = ap badge is ∙ same;
  word = table;
  cause = λ fault e. absurd (cc);
  raises = λ fault e. absurd (cc);
  quiet = λ e. round.0 ∙ quiet;
  ended = λ e. elim round.1 [
    | inl ended ↦ inl (full loose within (subst IsAtEnd (sym is) ended))
    | inr seen ↦ inr seen
  ];
}

pub driven_to_refusal : (began : SeatView) (place stop : Sitting) (seat loose : SeatView) (before : Sitting) (fault : StepFault) → badge seat ≡ badge began → stop.table ≡ place.table
    → loose ≡ record seat { text = [] } → IsRound seat before stop (rounds.Refused fault) → IsDriven (badge began) place loose stop (Some fault)
driven_to_refusal began place stop seat loose before fault same table is round = record {
  same = ap badge is ∙ same;
  word = table;
  cause = λ other e. let it : fault ≡ other = cc in subst IsStepRefusal it round.0;
  raises = λ other e. round.1;
  quiet = λ e. absurd (cc);
  ended = λ e. absurd (cc);
}
