-- The grammar of the command line, as clap's specification takes a command.
use Rattle.std.specs.Prelude.{◌≡◌, ◌||◌, Bool, List, [], ◌∷◌, ◌++◌, Some, codes, map, nat_eq, true, false}
use Rattle.std.specs.List.{list_any, starts_with}
use Rattle.std.specs.Str.{bytes_eq}
use Rattle.clap.specs.Words.{App, Rule, Shape, Text, app_of, new_rule}
use Rattle.clap.specs.Simple.{new_shape}
use Rattle.clap.specs.declared.builder.action.ArgAction.TheVariants.{Help, SetTrue}
use Rattle.clap.specs.declared.builder.command.Command.{Command}
use Rattle.clap.specs.declared.builder.command.Command.TheViews.{out-Command}
use Rattle.arguments.specs.declared.grammar.Argument.{Argument}
use Rattle.arguments.specs.declared.grammar.Argument.TheVariants.{Word, Optional, Valued, Needed, Flag}
use Rattle.arguments.specs.declared.grammar.Subcommand.{Subcommand}

-- `--help`, or `-h`
abbrev pub help_option : Rule
help_option = record (new_rule (codes "help")) { long = Some (codes "help"); short = Some 104; action = Some Help }

-- a word that has to be given
abbrev pub needed_word : Text → Rule
needed_word name = record (new_rule name) { required = true }

-- a word that may be left out
abbrev pub optional_word : Text → Rule
optional_word name = new_rule name

-- `--name VALUE`, which may be left out
abbrev pub valued_option : Text → Rule
valued_option name = record (new_rule name) { long = Some name; value_names = 1 }

-- `--name VALUE`, which has to be given
abbrev pub needed_option : Text → Rule
needed_option name = record (valued_option name) { required = true }

-- `--name`, which may be left out
abbrev pub flag_option : Text → Rule
flag_option name = record (new_rule name) { long = Some name; action = Some SetTrue }

-- `asm SOURCE OBJECT`
unfoldable pub assemble_shape : Shape
assemble_shape = record (new_shape (codes "asm")) {
  rules = needed_word (codes "SOURCE") ∷ needed_word (codes "OBJECT") ∷ help_option ∷ [];
}

-- `mkfs PLAN LINES MEDIUM`
unfoldable pub make_volume_shape : Shape
make_volume_shape = record (new_shape (codes "mkfs")) {
  rules = needed_word (codes "PLAN") ∷ needed_word (codes "LINES") ∷ needed_word (codes "MEDIUM") ∷ help_option ∷ [];
}

-- `upgrade OLD PAGES LINES NEW`
unfoldable pub upgrade_shape : Shape
upgrade_shape = record (new_shape (codes "upgrade")) {
  rules = needed_word (codes "OLD") ∷ needed_word (codes "PAGES") ∷ needed_word (codes "LINES") ∷ needed_word (codes "NEW")
      ∷ help_option ∷ [];
}

-- `run PROGRAM [--medium FILE --harts N --capacity N --steps N --record FILE --out FILE --whole]`
unfoldable pub run_shape : Shape
run_shape = record (new_shape (codes "run")) {
  rules = needed_word (codes "PROGRAM") ∷ valued_option (codes "medium") ∷ valued_option (codes "harts")
      ∷ valued_option (codes "capacity") ∷ valued_option (codes "steps") ∷ valued_option (codes "record")
      ∷ valued_option (codes "out") ∷ flag_option (codes "whole") ∷ help_option ∷ [];
}

-- `replay PROGRAM SCHEDULE [--medium FILE --harts N --capacity N --out FILE --whole]`
unfoldable pub replay_shape : Shape
replay_shape = record (new_shape (codes "replay")) {
  rules = needed_word (codes "PROGRAM") ∷ needed_word (codes "SCHEDULE") ∷ valued_option (codes "medium")
      ∷ valued_option (codes "harts") ∷ valued_option (codes "capacity") ∷ valued_option (codes "out")
      ∷ flag_option (codes "whole") ∷ help_option ∷ [];
}

-- `debug PROGRAM [--medium FILE --harts N --capacity N]`
unfoldable pub debug_shape : Shape
debug_shape = record (new_shape (codes "debug")) {
  rules = needed_word (codes "PROGRAM") ∷ valued_option (codes "medium") ∷ valued_option (codes "harts")
      ∷ valued_option (codes "capacity") ∷ help_option ∷ [];
}

-- `trace PROGRAM SCHEDULE [--medium FILE --harts N --whole --json]`
unfoldable pub trace_shape : Shape
trace_shape = record (new_shape (codes "trace")) {
  rules = needed_word (codes "PROGRAM") ∷ needed_word (codes "SCHEDULE") ∷ valued_option (codes "medium")
      ∷ valued_option (codes "harts") ∷ flag_option (codes "whole") ∷ flag_option (codes "json") ∷ help_option ∷ [];
}

-- `unpersisted PROGRAM SCHEDULE [--medium FILE --harts N --whole --json --quiet]`
unfoldable pub unpersisted_shape : Shape
unpersisted_shape = record (new_shape (codes "unpersisted")) {
  rules = needed_word (codes "PROGRAM") ∷ needed_word (codes "SCHEDULE") ∷ valued_option (codes "medium")
      ∷ valued_option (codes "harts") ∷ flag_option (codes "whole") ∷ flag_option (codes "json") ∷ flag_option (codes "quiet")
      ∷ help_option ∷ [];
}

-- `waste PROGRAM SCHEDULE [--medium FILE --harts N --whole --json --quiet]`
unfoldable pub waste_shape : Shape
waste_shape = record (new_shape (codes "waste")) {
  rules = needed_word (codes "PROGRAM") ∷ needed_word (codes "SCHEDULE") ∷ valued_option (codes "medium")
      ∷ valued_option (codes "harts") ∷ flag_option (codes "whole") ∷ flag_option (codes "json") ∷ flag_option (codes "quiet")
      ∷ help_option ∷ [];
}

-- `images PROGRAM SCHEDULE MOMENT [--medium FILE --harts N --whole --json]`
unfoldable pub images_shape : Shape
images_shape = record (new_shape (codes "images")) {
  rules = needed_word (codes "PROGRAM") ∷ needed_word (codes "SCHEDULE") ∷ needed_word (codes "MOMENT")
      ∷ valued_option (codes "medium") ∷ valued_option (codes "harts") ∷ flag_option (codes "whole")
      ∷ flag_option (codes "json") ∷ help_option ∷ [];
}

-- `image PROGRAM SCHEDULE MOMENT IMAGE OUT [--medium FILE --harts N --whole]`
unfoldable pub image_shape : Shape
image_shape = record (new_shape (codes "image")) {
  rules = needed_word (codes "PROGRAM") ∷ needed_word (codes "SCHEDULE") ∷ needed_word (codes "MOMENT")
      ∷ needed_word (codes "IMAGE") ∷ needed_word (codes "OUT") ∷ valued_option (codes "medium") ∷ valued_option (codes "harts")
      ∷ flag_option (codes "whole") ∷ help_option ∷ [];
}

-- `trace --trace FILE [--whole]`
unfoldable pub trace_of_file_shape : Shape
trace_of_file_shape = record (new_shape (codes "trace")) {
  rules = needed_option (codes "trace") ∷ flag_option (codes "whole") ∷ help_option ∷ [];
}

-- `images --trace FILE MOMENT [--whole --json]`
unfoldable pub images_of_file_shape : Shape
images_of_file_shape = record (new_shape (codes "images")) {
  rules = needed_option (codes "trace") ∷ needed_word (codes "MOMENT") ∷ flag_option (codes "whole") ∷ flag_option (codes "json")
      ∷ help_option ∷ [];
}

-- `image --trace FILE MOMENT IMAGE OUT [--medium FILE --whole]`
unfoldable pub image_of_file_shape : Shape
image_of_file_shape = record (new_shape (codes "image")) {
  rules = needed_option (codes "trace") ∷ needed_word (codes "MOMENT") ∷ needed_word (codes "IMAGE") ∷ needed_word (codes "OUT")
      ∷ valued_option (codes "medium") ∷ flag_option (codes "whole") ∷ help_option ∷ [];
}

-- `unpersisted --trace FILE [--whole --json --quiet]`
unfoldable pub unpersisted_of_file_shape : Shape
unpersisted_of_file_shape = record (new_shape (codes "unpersisted")) {
  rules = needed_option (codes "trace") ∷ flag_option (codes "whole") ∷ flag_option (codes "json") ∷ flag_option (codes "quiet")
      ∷ help_option ∷ [];
}

-- `waste --trace FILE [--whole --json --quiet]`
unfoldable pub waste_of_file_shape : Shape
waste_of_file_shape = record (new_shape (codes "waste")) {
  rules = needed_option (codes "trace") ∷ flag_option (codes "whole") ∷ flag_option (codes "json") ∷ flag_option (codes "quiet")
      ∷ help_option ∷ [];
}

-- `explain PROGRAM SCHEDULE MOMENT IMAGE [--medium FILE --harts N --least --whole]`
unfoldable pub explain_shape : Shape
explain_shape = record (new_shape (codes "explain")) {
  rules = needed_word (codes "PROGRAM") ∷ needed_word (codes "SCHEDULE") ∷ needed_word (codes "MOMENT")
      ∷ needed_word (codes "IMAGE") ∷ valued_option (codes "medium") ∷ valued_option (codes "harts")
      ∷ flag_option (codes "least") ∷ flag_option (codes "whole") ∷ help_option ∷ [];
}

-- `check PLAN PROGRAM SCHEDULE [--medium FILE --harts N --workers N --moments A-B --go-on --whole --why --json --progress --quiet]`
unfoldable pub check_shape : Shape
check_shape = record (new_shape (codes "check")) {
  rules = needed_word (codes "PLAN") ∷ needed_word (codes "PROGRAM") ∷ needed_word (codes "SCHEDULE")
      ∷ valued_option (codes "medium") ∷ valued_option (codes "harts") ∷ valued_option (codes "workers")
      ∷ valued_option (codes "moments") ∷ flag_option (codes "go-on") ∷ flag_option (codes "whole") ∷ flag_option (codes "why")
      ∷ flag_option (codes "json") ∷ flag_option (codes "progress") ∷ flag_option (codes "quiet") ∷ help_option ∷ [];
}

-- `judge PROGRAM SCHEDULE RECOVERY [--medium FILE --harts N --steps N --workers N --atomic --states N --overlapping --recovery-cuts N --moments A-B --go-on --whole --why --answers --json --progress --quiet]`
unfoldable pub judge_shape : Shape
judge_shape = record (new_shape (codes "judge")) {
  rules = needed_word (codes "PROGRAM") ∷ needed_word (codes "SCHEDULE") ∷ needed_word (codes "RECOVERY")
      ∷ valued_option (codes "medium") ∷ valued_option (codes "harts") ∷ valued_option (codes "steps")
      ∷ valued_option (codes "workers") ∷ flag_option (codes "atomic") ∷ valued_option (codes "states")
      ∷ flag_option (codes "overlapping") ∷ valued_option (codes "recovery-cuts") ∷ valued_option (codes "moments") ∷ flag_option (codes "go-on") ∷ flag_option (codes "whole") ∷ flag_option (codes "why") ∷ flag_option (codes "answers") ∷ flag_option (codes "json")
      ∷ flag_option (codes "progress") ∷ flag_option (codes "quiet") ∷ help_option ∷ [];
}

-- `check PLAN --trace FILE [--medium FILE --workers N --moments A-B --go-on --whole --why --json --progress --quiet]`
unfoldable pub check_of_file_shape : Shape
check_of_file_shape = record (new_shape (codes "check")) {
  rules = needed_word (codes "PLAN") ∷ needed_option (codes "trace") ∷ valued_option (codes "medium") ∷ valued_option (codes "workers")
      ∷ valued_option (codes "moments") ∷ flag_option (codes "go-on") ∷ flag_option (codes "whole") ∷ flag_option (codes "why")
      ∷ flag_option (codes "json") ∷ flag_option (codes "progress") ∷ flag_option (codes "quiet") ∷ help_option ∷ [];
}

-- `judge --trace FILE RECOVERY [--medium FILE --steps N --workers N --overlapping --moments A-B --go-on --whole --why --answers --json --progress --quiet]`, or
-- `judge --trace FILE --ask [--medium FILE --moments A-B --whole --why --json]`
unfoldable pub judge_of_file_shape : Shape
judge_of_file_shape = record (new_shape (codes "judge")) {
  rules = needed_option (codes "trace") ∷ optional_word (codes "RECOVERY") ∷ flag_option (codes "ask") ∷ valued_option (codes "medium")
      ∷ valued_option (codes "steps") ∷ valued_option (codes "workers") ∷ flag_option (codes "overlapping") ∷ valued_option (codes "moments")
      ∷ flag_option (codes "go-on") ∷ flag_option (codes "whole") ∷ flag_option (codes "why") ∷ flag_option (codes "answers")
      ∷ flag_option (codes "json") ∷ flag_option (codes "progress") ∷ flag_option (codes "quiet") ∷ help_option ∷ [];
}

-- `check-all PLAN PROGRAM [--medium FILE --harts N --workers N --states N --any-end --why --json --progress]`
unfoldable pub check_all_shape : Shape
check_all_shape = record (new_shape (codes "check-all")) {
  rules = needed_word (codes "PLAN") ∷ needed_word (codes "PROGRAM") ∷ valued_option (codes "medium")
      ∷ valued_option (codes "harts") ∷ valued_option (codes "workers") ∷ valued_option (codes "states") ∷ flag_option (codes "any-end")
      ∷ flag_option (codes "why") ∷ flag_option (codes "json") ∷ flag_option (codes "progress") ∷ help_option ∷ [];
}

-- `judge-all PROGRAM RECOVERY [--medium FILE --harts N --steps N --workers N --states N --any-end --why --json --progress]`
unfoldable pub judge_all_shape : Shape
judge_all_shape = record (new_shape (codes "judge-all")) {
  rules = needed_word (codes "PROGRAM") ∷ needed_word (codes "RECOVERY") ∷ valued_option (codes "medium")
      ∷ valued_option (codes "harts") ∷ valued_option (codes "steps") ∷ valued_option (codes "workers") ∷ valued_option (codes "states")
      ∷ flag_option (codes "any-end") ∷ flag_option (codes "why") ∷ flag_option (codes "json") ∷ flag_option (codes "progress")
      ∷ help_option ∷ [];
}

-- `answer RECOVERY [--medium FILE --steps N]`
unfoldable pub answer_shape : Shape
answer_shape = record (new_shape (codes "answer")) {
  rules = needed_word (codes "RECOVERY") ∷ valued_option (codes "medium") ∷ valued_option (codes "steps") ∷ help_option ∷ [];
}

-- `picture PROGRAM SCHEDULE MOMENT FILE [--image IMAGE --medium FILE --harts N]`
unfoldable pub picture_shape : Shape
picture_shape = record (new_shape (codes "picture")) {
  rules = needed_word (codes "PROGRAM") ∷ needed_word (codes "SCHEDULE") ∷ needed_word (codes "MOMENT")
      ∷ needed_word (codes "FILE") ∷ valued_option (codes "image") ∷ valued_option (codes "medium")
      ∷ valued_option (codes "harts") ∷ help_option ∷ [];
}

-- `picture --trace FILE MOMENT FILE [--image IMAGE]`
unfoldable pub picture_of_file_shape : Shape
picture_of_file_shape = record (new_shape (codes "picture")) {
  rules = needed_option (codes "trace") ∷ needed_word (codes "MOMENT") ∷ needed_word (codes "FILE") ∷ valued_option (codes "image")
      ∷ help_option ∷ [];
}

-- `interleave PROGRAM --seed N [--medium FILE --harts N --steps N --evictions N]`
unfoldable pub interleave_shape : Shape
interleave_shape = record (new_shape (codes "interleave")) {
  rules = needed_word (codes "PROGRAM") ∷ needed_option (codes "seed") ∷ valued_option (codes "medium")
      ∷ valued_option (codes "harts") ∷ valued_option (codes "steps") ∷ valued_option (codes "evictions") ∷ help_option ∷ [];
}

-- `show MEDIUM [LINE]`
unfoldable pub show_shape : Shape
show_shape = record (new_shape (codes "show")) {
  rules = needed_word (codes "MEDIUM") ∷ optional_word (codes "LINE") ∷ help_option ∷ [];
}

-- `listing PROGRAM`
unfoldable pub listing_shape : Shape
listing_shape = record (new_shape (codes "listing")) { rules = needed_word (codes "PROGRAM") ∷ help_option ∷ [] }

-- `program PROGRAM`
unfoldable pub program_shape : Shape
program_shape = record (new_shape (codes "program")) { rules = needed_word (codes "PROGRAM") ∷ help_option ∷ [] }

-- `code [CODE]`
unfoldable pub code_shape : Shape
code_shape = record (new_shape (codes "code")) { rules = optional_word (codes "CODE") ∷ help_option ∷ [] }

-- `help`
unfoldable pub help_shape : Shape
help_shape = record (new_shape (codes "help")) { rules = help_option ∷ [] }

-- a command with no subcommand
abbrev pub leaf : Shape → App
leaf shape = record { top = shape; subs = [] }

-- the line before it has a subcommand: no `help` subcommand of clap's, `--version` or `-V`, and a subcommand has to be given
abbrev pub bare : Shape
bare = record (new_shape (codes "novacrash")) {
  rules = help_option ∷ [];
  disable_help_flag = true;
  disable_help_subcommand = true;
  has_version = true;
  subcommand_required = true;
}

-- the line has no subcommands
abbrev pub is_none : List Shape → Bool
is_none [] = true
is_none (s ∷ shapes) = false

-- a line with these subcommands
abbrev pub line : List Shape → App
line shapes = record { top = record bare { is_leaf = is_none shapes }; subs = shapes }

-- the subcommands that make files, those that run programs, those that tell of events, which a run makes or a file has, those that tell of a run
-- by a schedule alone, those that judge events, those that judge every run of a program, or say what a recovery routine answers, the one that draws
-- events, and those that show files, and tell of what is printed
unfoldable pub making : List Shape
making = assemble_shape ∷ make_volume_shape ∷ upgrade_shape ∷ []

unfoldable pub running : List Shape
running = run_shape ∷ replay_shape ∷ debug_shape ∷ []

unfoldable pub asking_of_runs : List Shape
asking_of_runs = trace_shape ∷ images_shape ∷ image_shape ∷ unpersisted_shape ∷ waste_shape ∷ []

unfoldable pub asking_of_files : List Shape
asking_of_files = trace_of_file_shape ∷ images_of_file_shape ∷ image_of_file_shape ∷ unpersisted_of_file_shape ∷ waste_of_file_shape ∷ []

abbrev pub asking : Bool → List Shape
asking false = asking_of_runs
asking true = asking_of_files

unfoldable pub telling : List Shape
telling = explain_shape ∷ []

unfoldable pub judging_of_runs : List Shape
judging_of_runs = check_shape ∷ judge_shape ∷ []

unfoldable pub judging_of_files : List Shape
judging_of_files = check_of_file_shape ∷ judge_of_file_shape ∷ []

abbrev pub judging : Bool → List Shape
judging false = judging_of_runs
judging true = judging_of_files

unfoldable pub judging_programs : List Shape
judging_programs = check_all_shape ∷ judge_all_shape ∷ answer_shape ∷ []

unfoldable pub drawing_of_runs : List Shape
drawing_of_runs = picture_shape ∷ []

unfoldable pub drawing_of_files : List Shape
drawing_of_files = picture_of_file_shape ∷ []

abbrev pub drawing : Bool → List Shape
drawing false = drawing_of_runs
drawing true = drawing_of_files

unfoldable pub showing : List Shape
showing = interleave_shape ∷ show_shape ∷ listing_shape ∷ program_shape ∷ code_shape ∷ help_shape ∷ []

-- the whole line, of a trace file or without one
unfoldable pub novacrash : Bool → App
novacrash of_file =
    line (((((((making ++ running) ++ asking of_file) ++ telling) ++ judging of_file) ++ judging_programs) ++ drawing of_file) ++ showing)

-- `--trace`, alone or with its value
abbrev pub is_trace_option : Text → Bool
is_trace_option word = bytes_eq word (codes "--trace") || starts_with nat_eq word (codes "--trace=")

-- the words have that option
abbrev pub is_of_file : List Text → Bool
is_of_file words = list_any is_trace_option words

-- the grammar of a line: with `--trace FILE` in place of PROGRAM and SCHEDULE, where it has that option
abbrev pub grammar_of : List Text → App
grammar_of words = novacrash (is_of_file words)

-- the rule of an argument of the table
abbrev pub rule : Argument → Rule
rule (Word name about) = needed_word name.now
rule (Optional name about) = optional_word name.now
rule (Valued name value about) = valued_option name.now
rule (Needed name value about) = needed_option name.now
rule (Flag name about) = flag_option name.now

-- the shape of a subcommand with these arguments alone
abbrev pub shape_with : Text → List Argument → Shape
shape_with name arguments = record (new_shape name) { rules = map rule arguments }

-- the shape of a subcommand of the table, with `--help` at the end
abbrev pub shape : Subcommand → Shape
shape s = record (new_shape s.name.now) { rules = map rule s.arguments.now ++ help_option ∷ [] }

-- no option of the command holds at every level
abbrev pub IsLocal : Command → Type 0
IsLocal c = (out-Command c).has_globals ≡ false

-- a command of clap that parses by this grammar, in which no option holds at every level
pub record IsGrammar (app : App) (c : Command) : Type 0 where
  pub shape : app_of c ≡ app
  pub local : IsLocal c
