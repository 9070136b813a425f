use Rattle.std.proofs.Common.{rules}
use Rattle.arguments.proofs.Tables.{argument_more}
use Rattle.arguments.proofs.grammar.Subcommand.to_clap.Goals as goal

pub loop-argument-preserved : goal.loop-argument-preserved
loop-argument-preserved c =
    argument_more c.args.self.now.name.now c.args.self.now.arguments.now c.loop-argument.argument-index _ c.loop-argument.command
    c.in_ok-command.command c.to_clap.result (search rules) c.loop-argument.invariant c.to_clap.ensures.rule c.to_clap.ensures.local
    c.in_ok-command.ensures
