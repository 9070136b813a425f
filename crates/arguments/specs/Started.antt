-- What several commands have in common: a program and the machine that it runs on.
use Rattle.std.specs.Prelude.{List, codes}
use Rattle.clap.specs.Words.{Row}
use Rattle.arguments.specs.Line.{IsCachedMachine}
use Rattle.arguments.specs.Values.{IsWord}
use Rattle.arguments.specs.declared.commands.Started.{Started}

-- a program and the machine that it starts on
pub record IsStarted (rows : List Row) (started : Started) : Type 0 where
  pub program : IsWord (codes "PROGRAM") rows started.program
  pub machine : IsCachedMachine rows started.machine
