-- The turns of the lines of an input: each line's command is carried out and answered before the next is asked for.
use Rattle.std.specs.Prelude.{◌≡◌, ◌≢◌, ◌<◌, ◌≤◌, ◌++◌, ◌∷◌, ◌⊎◌, ⊤, ℕ, All, Bool, true, false, List, [], Option, Some, None, Result, Ok, Err, length}
use Rattle.std.specs.Io.KnownBytes.{Appends}
use Rattle.debugger.specs.Points.{DebuggerView}
use Rattle.debugger.specs.declared.fault.DebugFault.{DebugFault}
use Rattle.debugger.specs.declared.fault.DebugFault.TheVariants as faults
use Rattle.debugger.specs.Answers.{outcome_text}
use Rattle.debugger.specs.Code.{KnownCode}
use Rattle.debugger.specs.CommandEffects.{Does, SessionState}
use Rattle.debugger.specs.StreamFailures.{BeginsWith}
use Rattle.debugger.specs.Grammar.{OnAsked, Says, meant}
use Rattle.text.specs.Words.{words}
use Rattle.debugger.specs.declared.sessions.effects.Answer.{Answer}
use Rattle.debugger.specs.declared.sessions.effects.Answer.TheVariants as answers
use Rattle.debugger.specs.declared.sessions.command.Command.{Command}

-- how a line comes out: with an answer, with none since it has no words, or with a fault
abbrev pub LineOutcome : Type 0
LineOutcome = Result (Option Answer) DebugFault

-- the most bytes of a line, its line end aside
abbrev pub most_line : ℕ
most_line = 65536

-- a line within its limit says the command
pub record IsCommand (code : KnownCode) (line : List ℕ) (command : Command) : Type 0 where
  pub fits : length line ≤ most_line
  pub says : Says code line (meant command)

-- why a line is no command: it is past its limit, or else by what its words say
abbrev pub IsNoCommand : KnownCode → List ℕ → DebugFault → Type 0
IsNoCommand code line fault = ((most_line < length line) × (fault ≡ faults.Command))
    ⊎ ((length line ≤ most_line) × (words line ≢ []) × OnAsked (Says code line) fault)

-- the command of a line is carried out, with this outcome
abbrev pub CarriesOut : KnownCode → SessionState → SessionState → List ℕ → Result Answer DebugFault → Type 0
CarriesOut code old new line outcome = (command : Command) × IsCommand code line command × Does old new command outcome

-- what a line does, and how it comes out
abbrev pub ComesOut : KnownCode → SessionState → SessionState → List ℕ → LineOutcome → Type 0
ComesOut code old new line (Ok None) = (length line ≤ most_line) × (words line ≡ []) × (new ≡ old)
ComesOut code old new line (Ok (Some answer)) = CarriesOut code old new line (Ok answer)
ComesOut code old new line (Err fault) = (IsNoCommand code line fault × (new ≡ old)) ⊎ CarriesOut code old new line (Err fault)

-- a further line is read, but for `quit` and for want of memory
abbrev pub GoesOn : LineOutcome → Type 0
GoesOn (Ok (Some answers.Quit)) = ⊥
GoesOn (Err faults.Memory) = ⊥
GoesOn outcome = ⊤

-- the turn of a line with its answer, after which the session goes on
pub record Turn (code : KnownCode) (old new : SessionState) (line answer : List ℕ) : Type 0 where
  pub outcome : LineOutcome
  pub comes_out : ComesOut code old new line outcome
  pub goes_on : GoesOn outcome
  pub answered : answer ≡ outcome_text code new outcome

-- the line says `quit`, and is answered by nothing
abbrev pub Quits : KnownCode → SessionState → SessionState → List ℕ → Type 0
Quits code old new line = ComesOut code old new line (Ok (Some answers.Quit))

-- the line is answered and the session goes on, or it quits
abbrev pub IsAnswered : KnownCode → SessionState → SessionState → List ℕ → Bool → Option (List ℕ) → Option (List ℕ) → Type 0
IsAnswered code old new line true sink sink_then = (answer : List ℕ) × Turn code old new line answer × Appends sink sink_then answer
IsAnswered code old new line false sink sink_then = Quits code old new line × (sink_then ≡ sink)

-- the line is carried out, and a front of its answer is written; nothing where memory was refused
pub record LacksAnswer (code : KnownCode) (old new : SessionState) (line : List ℕ) (sink sink_then : Option (List ℕ)) (fault : DebugFault) : Type 0 where
  pub outcome : LineOutcome
  pub part : List ℕ
  pub comes_out : ComesOut code old new line outcome
  pub begun : BeginsWith part (outcome_text code new outcome)
  pub writes : Appends sink sink_then part
  pub none : fault ≡ faults.Memory → part ≡ []

-- no byte of a line is a line end
abbrev pub IsLine : List ℕ → Type 0
IsLine line = All (λ byte. byte ≢ 10) line

-- the turns of lines that each have their line end: the bytes of the lines, and those of their answers
pub data Turns (code : KnownCode) : SessionState → SessionState → List ℕ → List ℕ → Type 0 where
  none : (state : SessionState) → Turns code state state [] []
  more : (old middle new : SessionState) (taken answered line answer : List ℕ) → Turns code old middle taken answered
      → IsLine line → Turn code middle new line answer → Turns code old new (taken ++ (line ++ 10 ∷ [])) (answered ++ answer)

-- a session begins without a schedule, and says no more than it is asked
abbrev pub beginning : DebuggerView → SessionState
beginning debugger = record { debugger = debugger; kept = record { last = None; verbose = false } }
