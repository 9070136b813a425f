-- The names of the files that a command reads, each by what it has.
use Rattle.std.specs.Prelude.{List, ℕ, Bool, false, Option, Some, None, String, option_map, string_bytes}
use Rattle.std.specs.declared.alloc.Global.{Global}
use Rattle.arguments.specs.declared.asked.Command.{Command}
use Rattle.arguments.specs.declared.asked.Command.TheVariants.{Answer, Ask, Assemble, Check, CheckAll, Code, Debug, Explain, Image, Images, Interleave, Judge, JudgeAll, Listing, MakeVolume, Picture, Program, Replay, Run, Show, Trace, Unpersisted, Upgrade, Waste}
use Rattle.arguments.specs.declared.asked.EventSource.{EventSource}
use Rattle.arguments.specs.declared.asked.EventSource.TheVariants as sources
use Rattle.arguments.specs.declared.asked.MachineOptions.{MachineOptions}
use Rattle.arguments.specs.declared.asked.ScheduledRun.{ScheduledRun}
use Rattle.command_line.specs.declared.file_names.FileNames.{FileNames}

-- the same names as texts
pub record Names : Type 0 where
  pub plan : Option (List ℕ)
  pub program : Option (List ℕ)
  pub schedule : Option (List ℕ)
  pub recovery : Option (List ℕ)
  pub medium : Option (List ℕ)
  pub trace : Option (List ℕ)

abbrev pub names_in : FileNames → Names
names_in names = record {
  plan = option_map (λ name. name.now) names.plan;
  program = option_map (λ name. name.now) names.program;
  schedule = option_map (λ name. name.now) names.schedule;
  recovery = option_map (λ name. name.now) names.recovery;
  medium = option_map (λ name. name.now) names.medium;
  trace = option_map (λ name. name.now) names.trace;
}

abbrev pub no_names : Names
no_names = record { plan = None; program = None; schedule = None; recovery = None; medium = None; trace = None }

-- of a program and its machine
abbrev pub names_of_machine : String Global → MachineOptions → Names
names_of_machine program machine =
    record no_names { program = Some (string_bytes program); medium = option_map string_bytes machine.medium }

-- of a run by a schedule
abbrev pub names_of_run : ScheduledRun → Names
names_of_run run = record (names_of_machine run.program run.machine) { schedule = Some (string_bytes run.schedule) }

-- of events
abbrev pub names_of_source : EventSource → Names
names_of_source (sources.Run run) = names_of_run run
names_of_source (sources.Trace events) =
    record no_names { trace = Some (string_bytes events.file); medium = option_map string_bytes events.medium }

-- of a command; a file that it writes isn't among them
abbrev pub names_of : Command → Names
names_of (Assemble command) = record no_names { program = Some (string_bytes command.source) }
names_of (MakeVolume command) = record no_names { plan = Some (string_bytes command.plan) }
names_of (Upgrade command) = record no_names { medium = Some (string_bytes command.medium) }
names_of (Run command) = names_of_machine command.program command.machine
names_of (Replay command) = names_of_run command.run
names_of (Debug command) = names_of_machine command.program command.machine
names_of (Trace command) = names_of_source command.source
names_of (Unpersisted command) = names_of_source command.source
names_of (Waste command) = names_of_source command.source
names_of (Images command) = names_of_source command.source
names_of (Image command) = names_of_source command.source
names_of (Explain command) = names_of_run command.run
names_of (Check command) = record (names_of_source command.judged.source) { plan = Some (string_bytes command.plan) }
names_of (Judge command) = record (names_of_source command.judged.source) { recovery = Some (string_bytes command.recovery) }
names_of (Ask command) = names_of_source (sources.Trace command.events)
names_of (CheckAll command) = record (names_of_machine command.judged.program command.judged.machine) { plan = Some (string_bytes command.plan) }
names_of (JudgeAll command) = record (names_of_machine command.judged.program command.judged.machine) { recovery = Some (string_bytes command.recovery) }
names_of (Answer command) = record no_names { recovery = Some (string_bytes command.recovery); medium = option_map string_bytes command.medium }
names_of (Picture command) = names_of_source command.source
names_of (Interleave command) = names_of_machine command.program command.machine
names_of (Show command) = record no_names { medium = Some (string_bytes command.medium) }
names_of (Listing command) = record no_names { program = Some (string_bytes command.program) }
names_of (Program command) = record no_names { program = Some (string_bytes command.program) }
names_of (Code command) = no_names

-- the answer of a command is JSON
abbrev pub is_json : Command → Bool
is_json (Trace command) = command.json
is_json (Unpersisted command) = command.json
is_json (Waste command) = command.json
is_json (Images command) = command.json
is_json (Check command) = command.judged.json
is_json (Judge command) = command.judged.json
is_json (Ask command) = command.json
is_json (CheckAll command) = command.judged.json
is_json (JudgeAll command) = command.judged.json
is_json command = false
