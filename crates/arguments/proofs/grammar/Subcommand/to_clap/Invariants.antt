use Rattle.std.proofs.Common.{take}
use Rattle.arguments.specs.Grammar.{IsGrammar, leaf, shape_with}
use Rattle.arguments.proofs.grammar.Subcommand.to_clap.Given as goal

abbrev pub invariant-loop-argument : goal.invariant-loop-argument
invariant-loop-argument l = IsGrammar (leaf (shape_with l.self.name.now (take l.argument-index l.self.arguments.now))) l.command
