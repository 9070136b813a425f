use Rattle.debugger.proofs.Commands.{no_range_address}
use Rattle.text.specs.Words.{words}
use Rattle.debugger.proofs.sessions.command.range.Goals as goal

pub returns-in_default : goal.returns-in_default
returns-in_default c =
    let none = rw c.in_default.is at c.written_number.ensures.none in
    λ number count. no_range_address (words c.args.line.now) (words c.in_ok-word.rest.now) c.in_ok-word.word.now number count
    c.in_ok-word.ensures.words none
