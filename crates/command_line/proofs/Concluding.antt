-- What is concluded by a failure is so by what is known of that.
use Rattle.std.proofs.Common.{◌≡◌, List, ℕ, Result, Ok, Err, subst, sym}
use Rattle.command_line.specs.AllSchedules.{Concludes, IsRefused}
use Rattle.command_line.specs.declared.answer.Conclusion.{Conclusion}
use Rattle.command_line.specs.declared.answer.Conclusion.TheVariants.{Answered, Refused}
use Rattle.command_line.specs.declared.failure.Failure.{Failure}

pub concludes_by : (text : List ℕ) (failure : Failure) (fails : Failure → Type 0) (outcome : Result Conclusion Failure) → fails failure →
    Concludes (IsRefused text (λ given. given ≡ failure)) outcome → Concludes (IsRefused text fails) outcome
concludes_by text failure fails (Ok (Answered answer)) is concluded = absurd concluded.concludes
concludes_by text failure fails (Ok (Refused schedule given)) is concluded = record {
  concludes = (concluded.concludes.0, subst fails (sym concluded.concludes.1) is);
}
concludes_by text failure fails (Err given) is concluded = record { concludes = concluded.concludes }
