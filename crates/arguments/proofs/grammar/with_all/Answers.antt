use Rattle.std.proofs.Common.{rules}
use Rattle.arguments.proofs.Tables.{subcommand_more}
use Rattle.arguments.proofs.grammar.with_all.Goals as goal

pub loop-subcommand-preserved : goal.loop-subcommand-preserved
loop-subcommand-preserved c = λ shapes begins.
    subcommand_more shapes c.args.subcommands.now c.loop-subcommand.subcommand-index _ c.loop-subcommand.command
    c.in_ok-command.command c.in_ok-to_clap.field-0 (search rules) (c.loop-subcommand.invariant shapes begins) c.in_ok-to_clap.ensures
    c.in_ok-command.ensures
