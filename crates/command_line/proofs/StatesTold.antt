-- What a reporter writes on the way through the states of a program, line by line.
use Rattle.std.proofs.Common.{◌≡◌, ◌∙◌, ℕ, List, [], Option, Bool, refl}
use Rattle.schedule_states.specs.Watching.{HasHeard}
use Rattle.command_line.specs.Progress.{IsToldIf, Progresses, WritesIf, gets_states_line, states_line}
use Rattle.command_line.proofs.OnTheWay.{IsWritten, told_if, written_more, written_nothing}

-- what becomes of a reporter, whose stream has a name, when it hears of states that were met
abbrev pub Reports : {Reporter E : Type 0} → (Reporter → ℕ) → (Reporter → Bool) → (Reporter → E) → (E → Option (List ℕ)) →
    Reporter → ℕ → ℕ → ℕ → Reporter → Type 0
Reports name wanted errors said before met waiting bytes after = (name after ≡ name before)
    × WritesIf said (states_line met waiting bytes) (wanted before) (errors before) (wanted after) (errors after)

written : {Reporter E : Type 0} (name : Reporter → ℕ) (wanted : Reporter → Bool) (errors : Reporter → E) (said : E → Option (List ℕ))
    (reporter reporter' : Reporter) → HasHeard (Reports name wanted errors said) reporter reporter' →
    IsWritten said (HasHeard gets_states_line []) (wanted reporter) (errors reporter) (wanted reporter') (errors reporter')
written name wanted errors said reporter _ HasHeard.nothing =
    written_nothing said (HasHeard gets_states_line []) (wanted reporter) (errors reporter) HasHeard.nothing
written name wanted errors said reporter _ (HasHeard.more before after met waiting bytes heard fewer room line) =
    written_more said (HasHeard gets_states_line []) (HasHeard gets_states_line []) (states_line met waiting bytes)
    (wanted reporter) (errors reporter) (wanted before) (errors before) (wanted after) (errors after)
    (written name wanted errors said reporter before heard) (λ text text' told gets. HasHeard.more text text' met waiting bytes told fewer room gets) line.1

pub same_stream : {Reporter E : Type 0} (name : Reporter → ℕ) (wanted : Reporter → Bool) (errors : Reporter → E) (said : E → Option (List ℕ))
    (reporter reporter' : Reporter) → HasHeard (Reports name wanted errors said) reporter reporter' → name reporter' ≡ name reporter
same_stream name wanted errors said reporter _ HasHeard.nothing = refl
same_stream name wanted errors said reporter _ (HasHeard.more before after met waiting bytes heard fewer room line) =
    line.0 ∙ same_stream name wanted errors said reporter before heard

pub told_lines : {Reporter E : Type 0} (name : Reporter → ℕ) (wanted : Reporter → Bool) (errors : Reporter → E) (said : E → Option (List ℕ))
    (reporter reporter' : Reporter) → HasHeard (Reports name wanted errors said) reporter reporter' →
    IsToldIf (wanted reporter) (Progresses (HasHeard gets_states_line []) (said (errors reporter)) (said (errors reporter')))
    (errors reporter) (errors reporter')
told_lines name wanted errors said reporter reporter' heard =
    told_if said (HasHeard gets_states_line []) (wanted reporter) (errors reporter) (wanted reporter') (errors reporter')
    (written name wanted errors said reporter reporter' heard)
