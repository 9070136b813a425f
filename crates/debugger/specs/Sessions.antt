-- What a whole session does: which bytes it reads and writes, and what becomes of the debugger.
use Rattle.std.specs.Prelude.{◌≡◌, ◌<◌, ◌≤◌, ◌++◌, ◌∷◌, ◌⊎◌, ℕ, List, [], Option, length}
use Rattle.std.specs.Io.KnownBytes.{Appends, Consumes, IsAtEnd}
use Rattle.debugger.specs.Points.{DebuggerView}
use Rattle.debugger.specs.declared.fault.DebugFault.{DebugFault}
use Rattle.debugger.specs.declared.fault.DebugFault.TheVariants.{Memory, InputOutput}
use Rattle.debugger.specs.Code.{KnownCode}
use Rattle.debugger.specs.CommandEffects.{SessionState}
use Rattle.debugger.specs.Answers.{outcome_text}
use Rattle.debugger.specs.StreamFailures.{BeginsWith, one_more}
use Rattle.debugger.specs.Dialogue.{ComesOut, IsLine, LineOutcome, Quits, Turn, Turns, beginning}

-- an input ends at this many bytes at the latest, and no more than this many are read ahead of a line
abbrev pub most_input : ℕ
most_input = 4294967295

abbrev pub most_ahead : ℕ
most_ahead = 1024

-- nothing is left behind what was taken: the source is at its end and gave no more, or the input is at its limit
abbrev pub IsInputEnd : List ℕ → List ℕ → Option (List ℕ) → Type 0
IsInputEnd taken ahead left = (length taken ≤ most_input) × (((ahead ≡ []) × IsAtEnd left) ⊎ (length taken ≡ most_input))

-- the bytes of the last line that is read: it lacks a line end only at the end of the input
abbrev pub IsLastLine : List ℕ → List ℕ → List ℕ → List ℕ → Option (List ℕ) → Type 0
IsLastLine read taken line ahead left = ((read ≡ taken ++ (line ++ 10 ∷ ahead)) × (length (taken ++ line) < most_input))
    ⊎ ((read ≡ taken ++ (line ++ ahead)) × IsInputEnd (taken ++ line) ahead left)

-- the session ends by a line that says `quit`; what was read ahead of it is no part of any turn
pub record EndsByQuit (code : KnownCode) (old new : DebuggerView) (read answered : List ℕ) (left : Option (List ℕ)) : Type 0 where
  pub taken : List ℕ
  pub line : List ℕ
  pub ahead : List ℕ
  pub before : SessionState
  pub after : SessionState
  pub turns : Turns code (beginning old) before taken answered
  pub line_of : IsLine line
  pub quits : Quits code before after line
  pub debugger : after.debugger ≡ new
  pub bytes : IsLastLine read taken line ahead left
  pub near : length ahead ≤ most_ahead

-- it ends at the end of the input: the last line lacks its line end, and may be empty
pub record EndsWithInput (code : KnownCode) (old new : DebuggerView) (read answered : List ℕ) (left : Option (List ℕ)) : Type 0 where
  pub taken : List ℕ
  pub answers : List ℕ
  pub line : List ℕ
  pub answer : List ℕ
  pub ahead : List ℕ
  pub before : SessionState
  pub after : SessionState
  pub turns : Turns code (beginning old) before taken answers
  pub line_of : IsLine line
  pub turn : Turn code before after line answer
  pub debugger : after.debugger ≡ new
  pub bytes : read ≡ taken ++ (line ++ ahead)
  pub written : answered ≡ answers ++ answer
  pub ended : IsInputEnd (taken ++ line) ahead left

-- a whole session, by what was known of the source and of the sink before and after it
pub record Session (code : KnownCode) (old new : DebuggerView) (source source_then sink sink_then : Option (List ℕ)) : Type 0 where
  pub read : List ℕ
  pub answered : List ℕ
  pub reads : Consumes source source_then read
  pub writes : Appends sink sink_then answered
  pub ends : EndsByQuit code old new read answered source_then ⊎ EndsWithInput code old new read answered source_then

-- the first line of the further bytes was carried out, but of its answer only this part was written
pub record IsUnanswered (code : KnownCode) (before : SessionState) (new : DebuggerView) (taken further part : List ℕ) (left : Option (List ℕ)) : Type 0 where
  pub line : List ℕ
  pub behind : List ℕ
  pub bytes : IsLastLine (taken ++ further) taken line behind left
  pub line_of : IsLine line
  pub outcome : LineOutcome
  pub after : SessionState
  pub comes_out : ComesOut code before after line outcome
  pub begun : BeginsWith part (outcome_text code after outcome)
  pub debugger : after.debugger ≡ new

-- a session that is broken off: lines were answered, and of the answer to the next one this part was written; the debugger stands as
-- after the last command that was carried out
pub record BreaksOff (code : KnownCode) (old new : DebuggerView) (source source_then : Option (List ℕ)) (answered part : List ℕ) : Type 0 where
  pub taken : List ℕ
  pub further : List ℕ
  pub state : SessionState
  pub reads : Consumes source source_then (taken ++ further)
  pub within : length taken ≤ most_input
  pub turns : Turns code (beginning old) state taken answered
  pub stands : ((state.debugger ≡ new) × (part ≡ [])) ⊎ IsUnanswered code state new taken further part source_then

-- nothing is written but the answers, and, where a write failed, a part of the next one
abbrev pub Fails : KnownCode → DebuggerView → DebuggerView → Option (List ℕ) → Option (List ℕ) → Option (List ℕ) → Option (List ℕ) → ℕ → ℕ → DebugFault → Type 0
Fails code old new source source_then sink sink_then failures failures_then Memory =
    (answered : List ℕ) × BreaksOff code old new source source_then answered [] × Appends sink sink_then answered
Fails code old new source source_then sink sink_then failures failures_then InputOutput =
    (answered part : List ℕ) × BreaksOff code old new source source_then answered part × Appends sink sink_then (answered ++ part)
    × ((part ≡ []) ⊎ (failures_then ≡ one_more failures))
Fails code old new source source_then sink sink_then failures failures_then fault = ⊥
