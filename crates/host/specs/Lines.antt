-- How a line of the program ends on a system.
use Rattle.std.specs.Prelude.{◌≡◌, ◌++◌, ℕ, List, Option, Result, Ok, Err, String, codes, string_bytes, ⊤}
use Rattle.std.specs.Iterator.{Drains}
use Rattle.std.specs.Vec.Iter.{into_iter_steps}
use Rattle.std.specs.declared.alloc.Global.{Global}
use Rattle.std_alloc.specs.declared.vec.into_iter.IntoIter.{IntoIter}
use Rattle.std_alloc.specs.declared.vec.Vec.{Vec}
use Rattle.std_io.specs.IoError.{error_kind}
use Rattle.std_io.specs.declared.io.error.Error.{Error}
use Rattle.std_io.specs.declared.io.kind.ErrorKind.{ErrorKind}
use Rattle.std_io.specs.declared.io.kind.ErrorKind.TheVariants.{OutOfMemory}
use Rattle.command_line.specs.Failures.{failure_status, failure_text}
use Rattle.command_line.specs.Outcomes.{EndsWith}
use Rattle.command_line.specs.Reports.{line_end}
use Rattle.command_line.specs.Steps.{Reads, Writes}
use Rattle.command_line.specs.Telling.{Words}
use Rattle.command_line.specs.declared.failure.Failure.{Failure}
use Rattle.command_line.specs.declared.failure.Failure.TheVariants.{File, Line, Memory, Refused, Unfinished}
use Rattle.debugger.specs.StreamFailures.{AppendsFront}

-- why the words of a line can't be had: memory was refused, or one of them is no text
abbrev pub IsLost : Failure → Type 0
IsLost (Line text) = string_bytes text ≡ codes "error: a word of the command line isn't UTF-8" ++ line_end
IsLost Memory = ⊤
IsLost (Refused refusal) = ⊥
IsLost (Unfinished text) = ⊥
IsLost File = ⊥

-- why the system lends no words, by its error
abbrev pub IsLostBy : ErrorKind → Failure → Type 0
IsLostBy OutOfMemory failure = failure ≡ Memory
IsLostBy kind failure = IsLost failure

-- what becomes of the words that the system lends: all of them are taken, in their order, or memory is refused; and why there are none
abbrev pub AreLent : Result (IntoIter (String Global) Global) Error → Result (Vec (String Global) Global) Failure → Type 0
AreLent (Ok lent) (Ok words) = Drains into_iter_steps lent words.items
AreLent (Ok lent) (Err failure) = failure ≡ Memory
AreLent (Err error) (Ok words) = ⊥
AreLent (Err error) (Err failure) = IsLostBy (error_kind error) failure

-- a line whose words were lost: nothing of it is carried out, and at most the failure's lines are told
pub record IsLeft {F S E : Type 0} (said : E → Option (List ℕ)) (failure : Failure) (before after : F × S) (errors errors' : E) (status : ℕ) : Type 0 where
  pub untouched : after ≡ before
  pub told : AppendsFront (said errors) (said errors') (failure_text failure)
  pub status_is : status ≡ failure_status failure

-- the status with which a line ends: that of its words, where they were found
abbrev pub EndsBy : {F R W E : Type 0} → Reads F → Writes F → (R → Option (List ℕ)) → (W → Option (List ℕ)) → (E → Option (List ℕ))
    → Result Words Failure → F → F → R × W → R × W → E → E → ℕ → Type 0
EndsBy reads writes remaining contents said (Ok words) files files' streams streams' errors errors' status =
    EndsWith reads writes remaining contents said words files files' streams streams' errors errors' status
EndsBy reads writes remaining contents said (Err failure) files files' streams streams' errors errors' status =
    IsLeft said failure (files, streams) (files', streams') errors errors' status
