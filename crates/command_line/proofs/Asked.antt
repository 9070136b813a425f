-- Lines that are read byte by byte, and the images that were asked for.
use Rattle.std.proofs.Common.{◌≡◌, ◌≢◌, ◌∙◌, ◌<◌, ◌≤◌, ◌+◌, ℕ, zero, suc, List, [], ◌∷◌, ◌++◌, Option, Some, None, Result, Ok, Err, refl, sym, ap, subst, inl, inr, arith, length, get_or, take, rules}
use Rattle.std.specs.Prelude.{All}
use Rattle.std.specs.Io.KnownBytes.{Consumes, Keeps}
use Rattle.std.proofs.KnownBytes.{Consumes-kept, Consumes-nil, Consumes-trans}
use Rattle.std.proofs.lemmas.List.{append-nil}
use Rattle.std.proofs.lemmas.List.Elements.{All-append, All-cons, All-nil}
use Rattle.debugger.specs.Dialogue.{IsLine}
use Rattle.routine_judge.specs.MarkFaults.{AreSound}
use Rattle.routine_judge.specs.Outside.{HasAsked, HasNoReply, IsOutsideVerdict}
use Rattle.routine_judge.specs.OutsideLoops.{IsMissing}
use Rattle.routine_judge.specs.OutsideViews.{KnownView, ReplyView, WantedView}
use Rattle.routine_judge.specs.Verdicts.{IsRefusal}
use Rattle.routine_judge.specs.declared.fault.JudgeFault.{JudgeFault}
use Rattle.routine_judge.specs.declared.fault.JudgeFault.TheVariants as faults
use Rattle.routine_judge.specs.declared.history.overlap.Overlap.{Overlap}
use Rattle.routine_judge.specs.declared.history.overlap.Overlap.TheVariants.{Never}
use Rattle.routine_judge.specs.declared.outside.cause.OutsideCause.{OutsideCause}
use Rattle.routine_judge.specs.declared.outside.fault.OutsideFault.TheVariants.{Judge}
use Rattle.store_trace.specs.Marks.{begun}
use Rattle.store_trace.specs.declared.event.Event.{Event}
use Rattle.verdict.specs.declared.moment_verdict.verdict.Verdict.{Verdict}
use Rattle.verdict.specs.declared.moment_verdict.verdict.Verdict.TheVariants as verdicts
use Rattle.command_line.specs.Asking.{FailsReply, GivesReply, IsAskedVerdict, IsUnjudged, ReadsLine, ReadsPart, Streams, named_verdict}
use Rattle.command_line.specs.Failures.{failure_of_judge}
use Rattle.command_line.specs.Traces.{events_of, medium_of}
use Rattle.command_line.specs.Verdicts.{first_of, last_of, verdict_status}
use Rattle.command_line.specs.declared.events.OpenEvents.{OpenEvents}
use Rattle.command_line.specs.declared.failure.Failure.{Failure}
use Rattle.command_line.specs.declared.opened.OpenAsk.{OpenAsk}

pub line_begun : (input : Option (List ℕ)) → Consumes input input []
line_begun input = Consumes-nil input

pub no_ends : IsLine []
no_ends = All-nil (λ (b : ℕ). b ≢ 10)

pub more_of_line : (line : List ℕ) (byte : ℕ) → IsLine line → byte ≢ 10 → IsLine (line ++ byte ∷ [])
more_of_line line byte is other =
    let P : ℕ → Type 0 = λ b. b ≢ 10 in All-append P line (byte ∷ []) is (All-cons P byte [] other (All-nil P))

-- a buffer of one byte that was filled
nothing_taken : (n : ℕ) → ◌≡◌ {A = List ℕ} (take n []) []
nothing_taken zero = refl
nothing_taken (suc n) = refl

one_byte : (buffer : List ℕ) (count : ℕ) → length buffer ≡ 1 → count ≢ 0 → take count buffer ≡ get_or buffer 0 0 ∷ []
one_byte [] count one some = absurd (omega (arith, one))
one_byte (b ∷ []) zero one some = absurd (some refl)
one_byte (b ∷ []) (suc n) one some = ap (λ (l : List ℕ). b ∷ l) (nothing_taken n)
one_byte (b ∷ c ∷ bs) count one some = absurd (omega (arith, one))

pub byte_taken : (first second : Option (List ℕ)) (buffer : List ℕ) (count : ℕ) → length buffer ≡ 1 → count ≢ 0 → Consumes first second (take count buffer)
    → Consumes first second (get_or buffer 0 0 ∷ [])
byte_taken first second buffer count one some taken = rw (one_byte buffer count one some) at taken

pub none_taken : (first second : Option (List ℕ)) (buffer : List ℕ) → Consumes first second (take 0 buffer) → Consumes first second []
none_taken first second buffer taken = taken

pub kept_none : (first second : Option (List ℕ)) → Keeps first second → Consumes first second []
kept_none first second kept = Consumes-kept first first second [] (Consumes-nil first) kept

-- one more byte was read, or none
pub line_more : (first second third : Option (List ℕ)) (line : List ℕ) (byte : ℕ) → Consumes first second line → Consumes second third (byte ∷ [])
    → Consumes first third (line ++ byte ∷ [])
line_more first second third line byte before more = Consumes-trans first second third line (byte ∷ []) before more

pub nothing_more : (first second third : Option (List ℕ)) (line : List ℕ) → Consumes first second line → Consumes second third [] → Consumes first third line
nothing_more first second third line before more = rw append-nil at (Consumes-trans first second third line [] before more)

pub part_read : (first second : Option (List ℕ)) (line : List ℕ) → IsLine line → Consumes first second line → ReadsPart first second
part_read first second line is reads = record { part = line; is_line = is; reads = reads }

pub part_more : (first second third : Option (List ℕ)) (line : List ℕ) (byte : ℕ) → IsLine line → byte ≢ 10 → Consumes first second line
    → Consumes second third (byte ∷ []) → ReadsPart first third
part_more first second third line byte is other before more =
    part_read first third (line ++ byte ∷ []) (more_of_line line byte is other) (line_more first second third line byte before more)

-- what becomes of the one who replies, by the names of its streams, the events and what is known of the streams
abbrev pub Gives : {A : Type 0} → (A → ℕ) → (A → ℕ) → (A → OpenEvents) → (A → Option (List ℕ)) → (A → Option (List ℕ)) → A → WantedView → ReplyView → A → Type 0
Gives one other opened input output old wanted reply new = (one new ≡ one old) × (other new ≡ other old) × (opened new ≡ opened old)
    × GivesReply (opened old) (input old, output old) wanted reply (input new, output new)

abbrev pub Fails : {A : Type 0} → (A → ℕ) → (A → ℕ) → (A → OpenEvents) → (A → Option (List ℕ)) → (A → Option (List ℕ)) → A → WantedView → Failure → A → Type 0
Fails one other opened input output old wanted failure new = (one new ≡ one old) × (other new ≡ other old) × (opened new ≡ opened old)
    × FailsReply (opened old) (input old, output old) wanted failure (input new, output new)

-- its streams stay the same ones, and the events
abbrev pub Stays : {A : Type 0} → (A → ℕ) → (A → ℕ) → (A → OpenEvents) → A → A → Type 0
Stays one other opened old new = (one new ≡ one old) × (other new ≡ other old) × (opened new ≡ opened old)

pub stays : {A : Type 0} (one other : A → ℕ) (opened : A → OpenEvents) (input output : A → Option (List ℕ)) (start : List (List ℕ)) (events : List Event)
    (old : A) (replies : List KnownView) (new : A) → HasAsked (Gives one other opened input output) start events old replies new → Stays one other opened old new
stays one other opened input output start events old _ _ HasAsked.nothing = (refl, refl, refl)
stays one other opened input output start events old _ _ (HasAsked.more replies moment numbers reply before after asked wanted given) =
    let kept = stays one other opened input output start events old replies before asked in
    (given.0 ∙ kept.0, given.1 ∙ kept.1, given.2 ∙ kept.2)

-- what was asked for, by what is known of the streams
pub asked_seen : {A : Type 0} (one other : A → ℕ) (opened : A → OpenEvents) (input output : A → Option (List ℕ)) (start : List (List ℕ)) (events : List Event)
    (old : A) (replies : List KnownView) (new : A) → HasAsked (Gives one other opened input output) start events old replies new
    → HasAsked (GivesReply (opened old)) start events (input old, output old) replies (input new, output new)
asked_seen one other opened input output start events old _ _ HasAsked.nothing = HasAsked.nothing
asked_seen one other opened input output start events old _ _ (HasAsked.more replies moment numbers reply before after asked wanted given) =
    let kept = stays one other opened input output start events old replies before asked in
    let image : WantedView = record { start = start; events = events; moment = moment; numbers = numbers } in
    HasAsked.more replies moment numbers reply (input before, output before) (input after, output after)
    (asked_seen one other opened input output start events old replies before asked) wanted
    (subst (λ (o : OpenEvents). GivesReply o (input before, output before) image reply (input after, output after)) kept.2 given.3)

pub verdict_stays : {A : Type 0} (one other : A → ℕ) (opened : A → OpenEvents) (input output : A → Option (List ℕ)) (start : List (List ℕ))
    (events : List Event) (first : ℕ) (last : Option ℕ) (old new : A) (verdict : Verdict OutsideCause)
    → IsOutsideVerdict (Gives one other opened input output) start events first last old new verdict → Stays one other opened old new
verdict_stays one other opened input output start events first last old new verdict is =
    stays one other opened input output start events old is.replies new is.asked

-- the verdict by the streams
pub found_verdict : {A : Type 0} (one other : A → ℕ) (opened : A → OpenEvents) (input output : A → Option (List ℕ)) (ask : OpenAsk) (old new : A)
    (verdict : Verdict OutsideCause) → opened old ≡ ask.events
    → AreSound Never (events_of ask.events) (length (events_of ask.events)) → begun (events_of ask.events) ≢ []
    → IsOutsideVerdict (Gives one other opened input output) (medium_of ask.events) (events_of ask.events) (first_of ask.command.moments)
    (last_of ask.command.moments) old new verdict
    → IsAskedVerdict ask (input old, output old) (input new, output new) verdict
found_verdict one other opened input output ask old new verdict told sound begins is = record {
  sound = sound;
  begins = begins;
  verdict_is = record {
    replies = is.replies;
    asked = subst (λ (o : OpenEvents). HasAsked (GivesReply o) (medium_of ask.events) (events_of ask.events) (input old, output old) is.replies (input new, output new)) told
        (asked_seen one other opened input output (medium_of ask.events) (events_of ask.events) old is.replies new is.asked);
    verdict_is = is.verdict_is;
  };
}

-- no verdict, since there is no reply
no_reply_seen : {A : Type 0} (one other : A → ℕ) (opened : A → OpenEvents) (input output : A → Option (List ℕ)) (start : List (List ℕ)) (events : List Event)
    (old new : A) (failure : Failure) → HasNoReply (Gives one other opened input output) (Fails one other opened input output) start events old new failure
    → HasNoReply (GivesReply (opened old)) (FailsReply (opened old)) start events (input old, output old) (input new, output new) failure
no_reply_seen one other opened input output start events old new failure is =
    let kept = stays one other opened input output start events old is.replies is.before is.asked in
    let image : WantedView = record { start = start; events = events; moment = is.moment; numbers = is.numbers } in
    record {
      replies = is.replies;
      before = (input is.before, output is.before);
      asked = asked_seen one other opened input output start events old is.replies is.before is.asked;
      moment = is.moment;
      numbers = is.numbers;
      wanted = is.wanted;
      failed = subst (λ (o : OpenEvents). FailsReply o (input is.before, output is.before) image failure (input new, output new)) kept.2 is.failed.3;
    }

pub failure_stays : {A : Type 0} (one other : A → ℕ) (opened : A → OpenEvents) (input output : A → Option (List ℕ)) (start : List (List ℕ))
    (events : List Event) (old new : A) (failure : Failure)
    → HasNoReply (Gives one other opened input output) (Fails one other opened input output) start events old new failure → Stays one other opened old new
failure_stays one other opened input output start events old new failure is =
    let kept = stays one other opened input output start events old is.replies is.before is.asked in
    (is.failed.0 ∙ kept.0, is.failed.1 ∙ kept.1, is.failed.2 ∙ kept.2)

pub found_failure : {A : Type 0} (one other : A → ℕ) (opened : A → OpenEvents) (input output : A → Option (List ℕ)) (ask : OpenAsk) (old new : A)
    (failure : Failure) → opened old ≡ ask.events
    → HasNoReply (Gives one other opened input output) (Fails one other opened input output) (medium_of ask.events) (events_of ask.events) old new failure
    → IsUnjudged ask (input old, output old) (input new, output new) failure
found_failure one other opened input output ask old new failure told is = inr (inr (
    subst (λ (o : OpenEvents). HasNoReply (GivesReply o) (FailsReply o) (medium_of ask.events) (events_of ask.events) (input old, output old) (input new, output new) failure)
    told (no_reply_seen one other opened input output (medium_of ask.events) (events_of ask.events) old new failure is)
    ))

-- or since nothing is judged, or memory is refused
pub fault_stays : {A : Type 0} (one other : A → ℕ) (opened : A → OpenEvents) (input output : A → Option (List ℕ)) (start : List (List ℕ))
    (events : List Event) (first : ℕ) (old new : A) (fault : JudgeFault)
    → IsMissing (Gives one other opened input output) (Fails one other opened input output) start events first old new (Judge fault) → Stays one other opened old new
fault_stays one other opened input output start events first old new (faults.Marks fault) is = absurd is
fault_stays one other opened input output start events first old new faults.NoSuchMoment is = (ap one is.1, ap other is.1, ap opened is.1)
fault_stays one other opened input output start events first old new faults.Memory is = stays one other opened input output start events old is.0 new is.1

pub found_fault : {A : Type 0} (one other : A → ℕ) (opened : A → OpenEvents) (input output : A → Option (List ℕ)) (ask : OpenAsk) (old new : A)
    (fault : JudgeFault) → opened old ≡ ask.events
    → AreSound Never (events_of ask.events) (length (events_of ask.events)) → begun (events_of ask.events) ≢ []
    → IsMissing (Gives one other opened input output) (Fails one other opened input output) (medium_of ask.events) (events_of ask.events)
    (first_of ask.command.moments) old new (Judge fault)
    → IsUnjudged ask (input old, output old) (input new, output new) (failure_of_judge fault)
found_fault one other opened input output ask old new (faults.Marks fault) told sound begins is = absurd is
found_fault one other opened input output ask old new faults.NoSuchMoment told sound begins is = inl (record {
  told = record { fault = faults.NoSuchMoment; told = refl; found = (sound, begins, is.0) };
  untouched = ap (λ (s : _). (input s, output s)) is.1;
})
found_fault one other opened input output ask old new faults.Memory told sound begins is = inr (inl (record {
  is_memory = refl;
  replies = is.0;
  asked = subst (λ (o : OpenEvents). HasAsked (GivesReply o) (medium_of ask.events) (events_of ask.events) (input old, output old) is.0 (input new, output new)) told
      (asked_seen one other opened input output (medium_of ask.events) (events_of ask.events) old is.0 new is.1);
}))

-- events that aren't judged from the first moment on aren't from another one on
pub refused_from : (overlap : Overlap) (events : List Event) (first : ℕ) (fault : JudgeFault) → IsRefusal overlap events 0 fault → IsRefusal overlap events first fault
refused_from overlap events first (faults.Marks fault) is = is
refused_from overlap events first faults.NoSuchMoment is = absurd (omega (arith, is.2))
refused_from overlap events first faults.Memory is = is

pub refused_ask : (ask : OpenAsk) (streams : Streams) (fault : JudgeFault) → IsRefusal Never (events_of ask.events) 0 fault
    → IsUnjudged ask streams streams (failure_of_judge fault)
refused_ask ask streams fault is = inl (record {
  told = record { fault = fault; told = refl; found = refused_from Never (events_of ask.events) (first_of ask.command.moments) fault is };
  untouched = refl;
})

-- the names of lines don't change a verdict's status
pub same_status : (name : ℕ → ℕ) (verdict : Verdict OutsideCause) → verdict_status (named_verdict name verdict) ≡ verdict_status verdict
same_status name (verdicts.Pass moments images) = refl
same_status name (verdicts.Open moments images open') = refl
same_status name (verdicts.Fail moment image cause of_too_many) = refl
same_status name (verdicts.TooMany moment lines) = refl
same_status name (verdicts.TooLong moment) = refl
