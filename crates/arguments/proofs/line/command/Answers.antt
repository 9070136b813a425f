-- What a line without a fault asks for is what its subcommand asks for.
use Rattle.std.proofs.Common.{◌∙◌, map, string_bytes, sym}
use Rattle.arguments.proofs.Lines.{asks_none, is_command}
use Rattle.arguments.proofs.line.command.Goals as goal

pub returns-in-Some-clause-ok : goal.returns-in-Some-clause-ok
returns-in-Some-clause-ok c =
    is_command (map string_bytes c.args.words.now) _ _ c.asked_or_help.result c.in_ok-found.ensures.grammatical (sym c.in_ok-found.ensures.subcommand ∙ c.in-Some.ensures) c.asked_or_help.ensures.ok

pub returns-in-Some-clause-err : goal.returns-in-Some-clause-err
returns-in-Some-clause-err c =
    asks_none (map string_bytes c.args.words.now) _ _ c.asked_or_help.result c.in_ok-found.ensures.grammatical (sym c.in_ok-found.ensures.subcommand ∙ c.in-Some.ensures) c.asked_or_help.ensures.err
