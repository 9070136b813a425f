use Rattle.std.proofs.Common.{List, ◌++◌, map, take}
use Rattle.clap.specs.Words.{Shape}
use Rattle.arguments.specs.Grammar.{IsGrammar, line, shape}
use Rattle.arguments.proofs.grammar.with_all.Given as goal

abbrev pub invariant-loop-subcommand : goal.invariant-loop-subcommand
invariant-loop-subcommand l = (shapes : List Shape) → IsGrammar (line shapes) l.fn.command
    → IsGrammar (line (shapes ++ map shape (take l.subcommand-index l.subcommands))) l.command
