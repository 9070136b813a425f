-- How lines come out, and how they are answered.
use Rattle.std.proofs.Common.{◌≡◌, ◌≢◌, ◌∙◌, inl, inr, ℕ, List, [], Bool, true, Option, Some, None, Result, Ok, Err, IfErr, IfOk, MatchResult, OnOk, ap, refl}
use Rattle.std.specs.Io.KnownBytes.{Appends}
use Rattle.debugger.specs.declared.fault.DebugFault.{DebugFault}
use Rattle.debugger.specs.declared.fault.DebugFault.TheVariants as faults
use Rattle.debugger.specs.Answers.{fault_text, outcome_text}
use Rattle.debugger.specs.Code.{KnownCode}
use Rattle.debugger.specs.CommandEffects.{Does, SessionState}
use Rattle.debugger.specs.StreamFailures.{AppendsFront, FailsBy}
use Rattle.debugger.specs.Grammar.{OnAsked, Says, meant}
use Rattle.debugger.specs.Reading.{IsHeld}
use Rattle.debugger.specs.Dialogue.{CarriesOut, ComesOut, GoesOn, IsAnswered, LacksAnswer, LineOutcome}
use Rattle.text.specs.Words.{words}
use Rattle.debugger.specs.declared.sessions.effects.Answer.{Answer}
use Rattle.debugger.specs.declared.sessions.effects.Answer.TheVariants as answers
use Rattle.debugger.specs.declared.sessions.command.Command.{Command}
use Rattle.debugger.specs.declared.sessions.input.Fit.{Fit}
use Rattle.debugger.specs.declared.sessions.input.Fit.TheVariants as fits
use Rattle.debugger.proofs.Underway.{appends_none}

-- a line past its limit is no command
pub too_long : (code : KnownCode) (state : SessionState) (held whole : List ℕ) → IsHeld fits.TooLong held whole → ComesOut code state state whole (Err faults.Command)
too_long code state held whole (full, past) = inl (inl (past, refl), refl)

pub no_words : (code : KnownCode) (state : SessionState) (held whole : List ℕ) → words held ≡ [] → IsHeld fits.Whole held whole
    → ComesOut code state state whole (Ok None)
no_words code state held whole none (e, most) = (most, ap words e ∙ none, refl)

pub no_command : (code : KnownCode) (state : SessionState) (held whole : List ℕ) (fault : DebugFault) → words held ≢ [] → OnAsked (Says code held) fault
    → IsHeld fits.Whole held whole → ComesOut code state state whole (Err fault)
no_command code state held whole fault some asked (e, most) = inl (inr (most, rw e some, rw e asked), refl)

carried_out : (code : KnownCode) (old new : SessionState) (held whole : List ℕ) (command : Command) (outcome : Result Answer DebugFault) → Says code held (meant command)
    → Does old new command outcome → IsHeld fits.Whole held whole → CarriesOut code old new whole outcome
carried_out code old new held whole command outcome says does (e, most) = (command, record { fits = most; says = rw e says }, does)

pub done : (code : KnownCode) (old new : SessionState) (held whole : List ℕ) (command : Command) (answer : Answer) → Says code held (meant command)
    → Does old new command (Ok answer) → IsHeld fits.Whole held whole → ComesOut code old new whole (Ok (Some answer))
done code old new held whole command answer says does h = carried_out code old new held whole command (Ok answer) says does h

pub refused : (code : KnownCode) (old new : SessionState) (held whole : List ℕ) (command : Command) (fault : DebugFault) → Says code held (meant command)
    → Does old new command (Err fault) → IsHeld fits.Whole held whole → ComesOut code old new whole (Err fault)
refused code old new held whole command fault says does h = inr (carried_out code old new held whole command (Err fault) says does h)

-- a line without words is answered by nothing
pub answered_none : (code : KnownCode) (old new : SessionState) (line : List ℕ) (sink : Option (List ℕ)) → ComesOut code old new line (Ok None)
    → IsAnswered code old new line true sink sink
answered_none code old new line sink out =
    ([], record { outcome = Ok None; comes_out = out; goes_on = tt; answered = refl }, appends_none sink)

answered_by : (code : KnownCode) (old new : SessionState) (line text : List ℕ) (outcome : LineOutcome) (goes_on : Bool) (s t : Option (List ℕ)) → goes_on ≡ true
    → GoesOn outcome → text ≡ outcome_text code new outcome → Appends s t text → ComesOut code old new line outcome
    → IsAnswered code old new line goes_on s t
answered_by code old new line text outcome goes_on s t on goes said appends out =
    rw on (text, record { outcome = outcome; comes_out = out; goes_on = goes; answered = said }, appends)

goes_on_behind : (answer : Answer) → answer ≢ answers.Quit → GoesOn (Ok (Some answer))
goes_on_behind answers.Quit other = absurd (other refl)
goes_on_behind answer other = tt

goes_on_past : (fault : DebugFault) → fault ≢ faults.Memory → GoesOn (Err fault)
goes_on_past faults.Memory other = absurd (other refl)
goes_on_past fault other = tt

pub answered_done : (code : KnownCode) (old new : SessionState) (line text : List ℕ) (answer : Answer) (goes_on : Bool) (s t : Option (List ℕ)) → goes_on ≡ true
    → answer ≢ answers.Quit → text ≡ outcome_text code new (Ok (Some answer)) → Appends s t text
    → ComesOut code old new line (Ok (Some answer)) → IsAnswered code old new line goes_on s t
answered_done code old new line text answer goes_on s t on other said appends out =
    answered_by code old new line text (Ok (Some answer)) goes_on s t on (goes_on_behind answer other) said appends out

pub answered_refused : (code : KnownCode) (old new : SessionState) (line text : List ℕ) (fault : DebugFault) (goes_on : Bool) (s t : Option (List ℕ)) → goes_on ≡ true
    → fault ≢ faults.Memory → text ≡ outcome_text code new (Err fault) → Appends s t text
    → ComesOut code old new line (Err fault) → IsAnswered code old new line goes_on s t
answered_refused code old new line text fault goes_on s t on other said appends out =
    answered_by code old new line text (Err fault) goes_on s t on (goes_on_past fault other) said appends out

-- a fault is answered by what is said of it, where that is said
pub says_fault : {A E : Type 0} (code : KnownCode) (bytes : A → List ℕ) (old new : SessionState) (kind : Fit) (held : List ℕ) (fault : DebugFault) (text : Result A E)
    (result : Result Bool DebugFault) (s t : Option (List ℕ)) → fault ≢ faults.Memory → IfOk text (λ said. bytes said ≡ fault_text fault)
    → IfOk result (λ goes_on. goes_on ≡ true) → OnOk result (MatchResult text (λ said. Appends s t (bytes said)) (λ _. ⊥))
    → ((whole : List ℕ) → IsHeld kind held whole → ComesOut code old new whole (Err fault))
    → IfOk result (λ goes_on. (whole : List ℕ) → IsHeld kind held whole → IsAnswered code old new whole goes_on s t)
says_fault code bytes old new kind held fault text (Err why) s t other is on appends out = tt
says_fault code bytes old new kind held fault (Err why) (Ok goes_on) s t other is on appends out = absurd appends
says_fault code bytes old new kind held fault (Ok said) (Ok goes_on) s t other is on appends out =
    λ whole h. answered_refused code old new whole (bytes said) fault goes_on s t on other is appends (out whole h)

-- want of memory leaves nothing of an answer
pub lacks_all : (code : KnownCode) (old new : SessionState) (line : List ℕ) (outcome : LineOutcome) (s t : Option (List ℕ)) (fault : DebugFault) → t ≡ s
    → ComesOut code old new line outcome → LacksAnswer code old new line s t fault
lacks_all code old new line outcome s t fault same out = record {
  outcome = outcome;
  part = [];
  comes_out = out;
  begun = (outcome_text code new outcome, refl);
  writes = rw same (appends_none s);
  none = λ want. refl;
}

-- a failed write leaves a front of what was to be said
lacks_rest : (code : KnownCode) (old new : SessionState) (line text : List ℕ) (outcome : LineOutcome) (s t : Option (List ℕ)) → text ≡ outcome_text code new outcome
    → AppendsFront s t text → ComesOut code old new line outcome → LacksAnswer code old new line s t faults.InputOutput
lacks_rest code old new line text outcome s t is begins out = record {
  outcome = outcome;
  part = begins.front;
  comes_out = out;
  begun = rw is at begins.begins;
  writes = begins.writes;
  none = λ want. absurd (cc);
}

-- an answer that isn't written
pub says_part : {A E : Type 0} (code : KnownCode) (bytes : A → List ℕ) (old new : SessionState) (kind : Fit) (held : List ℕ) (outcome : LineOutcome) (text : Result A E)
    (result : Result Bool DebugFault) (s t : Option (List ℕ)) (a b : ℕ) → IfOk text (λ said. bytes said ≡ outcome_text code new outcome)
    → IfErr result (λ fault. fault ≡ faults.Memory → t ≡ s)
    → IfErr result (λ fault. fault ≡ faults.InputOutput → MatchResult text (λ said. AppendsFront s t (bytes said)) (λ _. ⊥))
    → IfErr result (FailsBy a b) → ((whole : List ℕ) → IsHeld kind held whole → ComesOut code old new whole outcome)
    → IfErr result (λ fault. (whole : List ℕ) → IsHeld kind held whole → LacksAnswer code old new whole s t fault)
says_part code bytes old new kind held outcome text (Ok goes_on) s t a b is unwritten front by out = tt
says_part code bytes old new kind held outcome text (Err faults.Memory) s t a b is unwritten front by out =
    λ whole h. lacks_all code old new whole outcome s t faults.Memory (unwritten refl) (out whole h)
says_part code bytes old new kind held outcome (Err why) (Err faults.InputOutput) s t a b is unwritten front by out = absurd (front refl)
says_part code bytes old new kind held outcome (Ok said) (Err faults.InputOutput) s t a b is unwritten front by out =
    λ whole h. lacks_rest code old new whole (bytes said) outcome s t is (front refl) (out whole h)
says_part code bytes old new kind held outcome text (Err fault) s t a b is unwritten front by out = absurd by
