-- What clap's errors and values say of a line.
use Rattle.std.proofs.Common.{◌≡◌, ◌∙◌, ap, arith, List, [], ◌∷◌, Option, Some, None, refl, subst, sym, Bool, true, false, inl, inr, option_map, codes}
use Rattle.std.specs.Prelude.{◌≢◌, ◌⊎◌, Box, MatchOption, Result, Ok, Err, IfOk, IfErr, String, slice_index}
use Rattle.std.specs.declared.alloc.Global.{Global}
use Rattle.std.specs.Borrow.{Bor}
use Rattle.std.specs.Box.{box_value}
use Rattle.clap.specs.Kinds.{HasKind, IsAmong, Kinds}
use Rattle.clap.specs.Words.{App, HasMatchesOf, Text, app_of, fault_of, first_of, first_value, is_simple}
use Rattle.clap.specs.Words.{is_simple_and_free, kind_of, rows_of, subcommand_of, subcommand_rows, subcommand_rows_of, found_of, Row}
use Rattle.clap.specs.declared.builder.command.Command.{Command as Clap}
use Rattle.clap.specs.declared.error.Error.{Error}
use Rattle.clap.specs.declared.error.ErrorKind.{ErrorKind}
use Rattle.clap.specs.declared.error.ErrorKind.TheVariants as kinds
use Rattle.clap.specs.declared.parser.matches.ArgMatches.{ArgMatches}
use Rattle.clap.specs.declared.parser.matches.Found.{Found}
use Rattle.clap.specs.declared.parser.matches.SubCommand.{SubCommand}
use Rattle.clap.specs.declared.parser.matches.ArgMatches.TheViews.{out-SubCommand}
use Rattle.clap.proofs.WalkLemmas.{first_value-rows}
use Rattle.arguments.specs.Codes.{IsMeaningOf}
use Rattle.arguments.specs.declared.codes.table.Meaning.{Meaning}
use Rattle.arguments.specs.Grammar.{IsGrammar, novacrash, grammar_of, is_of_file, making, running, asking_of_runs, asking_of_files, telling, judging_of_runs, judging_of_files, judging_programs, drawing_of_runs, drawing_of_files, showing, assemble_shape, make_volume_shape, upgrade_shape, run_shape, replay_shape, debug_shape, trace_shape, images_shape, image_shape, trace_of_file_shape, images_of_file_shape, image_of_file_shape, unpersisted_shape, waste_shape, unpersisted_of_file_shape, waste_of_file_shape, explain_shape, check_shape, judge_shape, check_of_file_shape, judge_of_file_shape, check_all_shape, judge_all_shape, answer_shape, picture_shape, picture_of_file_shape, interleave_shape, show_shape, listing_shape, program_shape, code_shape, help_shape}
use Rattle.arguments.specs.Line.{IsAsked, IsCommand, IsEventSource, IsFault, IsHelp, IsKindOf, IsNoCommand, IsOf, IsReport, IsTrace, OnFault, Refuses}
use Rattle.arguments.specs.Values.{IsCodeWord, IsOptional}
use Rattle.arguments.specs.declared.asked.Command.{Command}
use Rattle.arguments.specs.declared.asked.Command.TheVariants as commands
use Rattle.arguments.specs.declared.asked.EventSource.{EventSource}
use Rattle.arguments.specs.declared.asked.EventSource.TheVariants.{Run, Trace}
use Rattle.arguments.specs.declared.asked.LineFault.{LineFault}
use Rattle.arguments.specs.declared.asked.LineFault.TheVariants.{Help, Fault, Memory}
use Rattle.arguments.specs.declared.asked.ReportCommand.{ReportCommand}
use Rattle.arguments.specs.declared.asked.TraceCommand.{TraceCommand}

-- the getter of clap's matches, by the rows of the walk
pub value_found : (found : Found) (name : Text) (value : Option (Bor Text))
    → option_map (λ s. s.now) value ≡ first_value found name
    → MatchOption value (first_of name (rows_of found) ≡ None) (λ s. first_of name (rows_of found) ≡ Some s.now)
value_found found name None e = sym (e ∙ first_value-rows found name)
value_found found name (Some s) e = sym (e ∙ first_value-rows found name)

-- a list with another kind in it than this one isn't this one alone, nor empty
others : (this kind : ErrorKind) (faults : Kinds) → IsAmong kind faults → kind ≢ this → faults ≢ this ∷ []
others this kind faults among other e =
    let P : Kinds → Type 0 = λ all. IsAmong kind all in
    elim (subst P e among) [ inl is ↦ other is | inr never ↦ absurd never ]

some : (kind : ErrorKind) (faults : Kinds) → IsAmong kind faults → faults ≢ []
some kind faults among e = let P : Kinds → Type 0 = λ all. IsAmong kind all in subst P e among

-- what clap refuses by this kind, the line refuses by this fault
refused_by_kind : (words : List Text) (kind : ErrorKind) (fault : LineFault)
    → (kind ≡ kinds.OutOfMemory) ⊎ IsAmong kind (fault_of (grammar_of words) words) → IsKindOf kind fault → Refuses words fault
refused_by_kind words kind (Help text) (inl memory) (inl is) = absurd cc
refused_by_kind words kind (Help text) (inl memory) (inr is) = absurd cc
refused_by_kind words kind (Help text) (inr among) (inl is) =
    let P : ErrorKind → Type 0 = λ k. IsAmong k (fault_of (grammar_of words) words) in inl (subst P is among)
refused_by_kind words kind (Help text) (inr among) (inr is) =
    let P : ErrorKind → Type 0 = λ k. IsAmong k (fault_of (grammar_of words) words) in inr (inl (subst P is among))
refused_by_kind words kind (Fault text) (inl memory) is = absurd (is.2 memory)
refused_by_kind words kind (Fault text) (inr among) is =
    let faulty : fault_of (grammar_of words) words ≢ [] = some kind (fault_of (grammar_of words) words) among in (
      others kinds.DisplayHelp kind (fault_of (grammar_of words) words) among is.0,
      others kinds.DisplayVersion kind (fault_of (grammar_of words) words) among is.1,
      λ help. faulty help.grammatical,
      λ command line. faulty line.grammatical,
    )
refused_by_kind words kind Memory among is = tt

simple_and_free : (of_file : Bool) → is_simple_and_free (novacrash of_file) ≡ true
unfolding novacrash making running telling judging_of_runs judging_of_files judging_programs showing assemble_shape make_volume_shape upgrade_shape run_shape replay_shape debug_shape asking_of_runs asking_of_files drawing_of_runs drawing_of_files trace_shape images_shape image_shape trace_of_file_shape images_of_file_shape image_of_file_shape unpersisted_shape waste_shape unpersisted_of_file_shape waste_of_file_shape explain_shape check_shape judge_shape check_of_file_shape judge_of_file_shape check_all_shape judge_all_shape answer_shape picture_shape picture_of_file_shape interleave_shape show_shape listing_shape program_shape code_shape help_shape
simple_and_free false = refl
simple_and_free true = refl

simple : (of_file : Bool) → is_simple (novacrash of_file) ≡ true
unfolding novacrash making running telling judging_of_runs judging_of_files judging_programs showing assemble_shape make_volume_shape upgrade_shape run_shape replay_shape debug_shape asking_of_runs asking_of_files drawing_of_runs drawing_of_files trace_shape images_shape image_shape trace_of_file_shape images_of_file_shape image_of_file_shape unpersisted_shape waste_shape unpersisted_of_file_shape waste_of_file_shape explain_shape check_shape judge_shape check_of_file_shape judge_of_file_shape check_all_shape judge_all_shape answer_shape picture_shape picture_of_file_shape interleave_shape show_shape listing_shape program_shape code_shape help_shape
simple false = refl
simple true = refl

-- an error of the grammar's parse is refused by the fault for its kind
pub refused : (command : Clap) (words : List Text) (error : Error) (fault : LineFault) → IsGrammar (grammar_of words) command
    → (is_simple_and_free (app_of command) ≡ true → HasKind (fault_of (app_of command) words) error)
    → IsKindOf (kind_of error) fault → Refuses words fault
refused command words error fault by fails is =
    let P : App → Type 0 = λ app. is_simple_and_free app ≡ true → HasKind (fault_of app words) error in
    refused_by_kind words (kind_of error) fault (subst P by.shape fails (simple_and_free (is_of_file words))) is

-- where the grammar's parse has no error the line has no fault
pub grammatical : (command : Clap) (words : List Text) → IsGrammar (grammar_of words) command
    → (is_simple_and_free (app_of command) ≡ true → fault_of (app_of command) words ≡ []) → fault_of (grammar_of words) words ≡ []
grammatical command words by passes =
    let P : App → Type 0 = λ app. is_simple_and_free app ≡ true → fault_of app words ≡ [] in
    subst P by.shape passes (simple_and_free (is_of_file words))

-- the subcommand that a parse entered is that of the grammar's walk
pub entered : (command : Clap) (words : List Text) (found : ArgMatches) → IsGrammar (grammar_of words) command
    → HasMatchesOf (app_of command) words found → subcommand_rows_of found ≡ subcommand_of (grammar_of words) words
entered command words found by has =
    let P : App → Type 0 = λ app. HasMatchesOf app words found in
    (subst P by.shape has (simple (is_of_file words))).1

-- the subcommand that was used, by the row that clap's specification has for it
pub used : {Z : Type 0} (found : Option (Box SubCommand Z)) (given : Option (Bor Text × Bor ArgMatches))
    → option_map (λ p. p.0.now) given ≡ option_map (λ b. (out-SubCommand (box_value b)).name.now) found
    → option_map (λ p. rows_of (found_of p.1.now)) given ≡ option_map (λ p. p.1) (subcommand_rows found)
    → MatchOption given (subcommand_rows found ≡ None) (λ p. subcommand_rows found ≡ Some (p.0.now, rows_of (found_of p.1.now)))
used None None names rows = refl
used None (Some p) names rows = absurd cc
used (Some b) None names rows = absurd cc
used (Some b) (Some p) names rows = cc

-- a fault that says one thing says what follows from it
pub says_more : {P Q : Type 0} (fault : LineFault) → (P → Q) → OnFault P fault → OnFault Q fault
says_more (Help text) more says = says
says_more (Fault text) more says = more says
says_more Memory more says = tt

-- a command of the subcommand that a line without a fault has is the line's
pub is_command : (words : List Text) (name : Text) (rows : List Row) (result : Result Command LineFault) → fault_of (grammar_of words) words ≡ []
    → subcommand_of (grammar_of words) words ≡ Some (name, rows) → IfOk result (IsOf name rows) → IfOk result (IsCommand words)
is_command words name rows (Ok command) grammatical used is =
    let P : Option (Text × List Row) → Type 0 = λ sub. IsAsked sub command in
    record { grammatical = grammatical; asked = subst P (sym used) is }
is_command words name rows (Err fault) grammatical used is = tt

-- a subcommand with another name than `help` gives no command where none is asked for
pub other_than_help : (name : Text) (rows : List Row) (result : Result Command LineFault) → name ≢ codes "help"
    → IfErr result (OnFault ((command : Command) → ¬ (IsOf name rows command))) → IfErr result (IsNoCommand name rows)
other_than_help name rows (Ok command) other none = tt
other_than_help name rows (Err (Help text)) other none = absurd none
other_than_help name rows (Err (Fault text)) other none = (other, none)
other_than_help name rows (Err Memory) other none = tt

-- a line without a fault asks for no command, where its subcommand gives none
pub asks_none : (words : List Text) (name : Text) (rows : List Row) (result : Result Command LineFault) → fault_of (grammar_of words) words ≡ []
    → subcommand_of (grammar_of words) words ≡ Some (name, rows) → IfErr result (IsNoCommand name rows) → IfErr result (Refuses words)
asks_none words name rows (Ok command) grammatical used none = tt
asks_none words name rows (Err (Help text)) grammatical used is =
    let P : Option (Text × List Row) → Type 0 = λ sub. IsHelp sub in
    inr (inr (record { grammatical = grammatical; asked = subst P (sym used) is }))
asks_none words name rows (Err (Fault text)) grammatical used none =
    let P : (c : Command) → Option (Text × List Row) → Type 0 = λ c sub. IsAsked sub c in
    let Q : Option (Text × List Row) → Type 0 = λ sub. IsHelp sub in
    (λ e. absurd cc, λ e. absurd cc, λ help. none.0 (subst Q used help.asked), λ command line. none.1 command (subst (P command) used line.asked))
asks_none words name rows (Err Memory) grammatical used none = tt

-- nor where it has no subcommand
pub has_none : (words : List Text) (fault : LineFault) → fault_of (grammar_of words) words ≡ [] → subcommand_of (grammar_of words) words ≡ None
    → IsFault fault → Refuses words fault
has_none words (Help text) grammatical used is = absurd is
has_none words (Fault text) grammatical used is =
    let P : (c : Command) → Option (Text × List Row) → Type 0 = λ c sub. IsAsked sub c in
    let Q : Option (Text × List Row) → Type 0 = λ sub. IsHelp sub in
    (λ e. absurd cc, λ e. absurd cc, λ help. absurd (subst Q used help.asked), λ command line. absurd (subst (P command) used line.asked))
has_none words Memory grammatical used is = absurd is

-- a word that is none of the codes has no meaning
pub no_code : (text : Text) (word : Option Text) (meaning : Option Meaning) → word ≡ Some text
    → ((m : Meaning) → ¬ IsMeaningOf text m) → ¬ IsCodeWord word meaning
no_code text word meaning is none asked =
    let P : Option Text → Type 0 = λ w. IsCodeWord w meaning in
    let found : IsCodeWord (Some text) meaning = subst P is asked in
    none found.0 found.2

-- no file of events and no run, where no value of the option is right
no_source_of : (rows : List Row) → ((value : Option (String Global)) → ¬ IsOptional (codes "trace") rows value) → (source : EventSource) → ¬ IsEventSource rows source
no_source_of rows none (Run run) is = none None is.0
no_source_of rows none (Trace events) is = none (Some events.file) is.file

pub no_source : (rows : List Row) (fault : LineFault) → OnFault ((value : Option (String Global)) → ¬ IsOptional (codes "trace") rows value) fault
    → OnFault ((source : EventSource) → ¬ IsEventSource rows source) fault
no_source rows fault none = says_more fault (no_source_of rows) none

-- `trace` asks for no command where its values give none
no_trace_of : (name : Text) (rows : List Row) → name ≡ codes "trace" → ((command : TraceCommand) → ¬ IsTrace rows command) → (command : Command) → ¬ IsOf name rows command
no_trace_of name rows is none (commands.Trace command) asked = none command asked.1
no_trace_of name rows is none (commands.Assemble command) asked = let e : 97 ≡ 116 = ap (λ (t : Text). slice_index t 0) (sym asked.0 ∙ is) in absurd (omega (arith, e))
no_trace_of name rows is none (commands.MakeVolume command) asked = let e : 109 ≡ 116 = ap (λ (t : Text). slice_index t 0) (sym asked.0 ∙ is) in absurd (omega (arith, e))
no_trace_of name rows is none (commands.Upgrade command) asked = let e : 117 ≡ 116 = ap (λ (t : Text). slice_index t 0) (sym asked.0 ∙ is) in absurd (omega (arith, e))
no_trace_of name rows is none (commands.Run command) asked = let e : 114 ≡ 116 = ap (λ (t : Text). slice_index t 0) (sym asked.0 ∙ is) in absurd (omega (arith, e))
no_trace_of name rows is none (commands.Replay command) asked = let e : 114 ≡ 116 = ap (λ (t : Text). slice_index t 0) (sym asked.0 ∙ is) in absurd (omega (arith, e))
no_trace_of name rows is none (commands.Debug command) asked = let e : 100 ≡ 116 = ap (λ (t : Text). slice_index t 0) (sym asked.0 ∙ is) in absurd (omega (arith, e))
no_trace_of name rows is none (commands.Unpersisted command) asked = let e : 117 ≡ 116 = ap (λ (t : Text). slice_index t 0) (sym asked.0 ∙ is) in absurd (omega (arith, e))
no_trace_of name rows is none (commands.Waste command) asked = let e : 119 ≡ 116 = ap (λ (t : Text). slice_index t 0) (sym asked.0 ∙ is) in absurd (omega (arith, e))
no_trace_of name rows is none (commands.Images command) asked = let e : 105 ≡ 116 = ap (λ (t : Text). slice_index t 0) (sym asked.0 ∙ is) in absurd (omega (arith, e))
no_trace_of name rows is none (commands.Image command) asked = let e : 105 ≡ 116 = ap (λ (t : Text). slice_index t 0) (sym asked.0 ∙ is) in absurd (omega (arith, e))
no_trace_of name rows is none (commands.Explain command) asked = let e : 101 ≡ 116 = ap (λ (t : Text). slice_index t 0) (sym asked.0 ∙ is) in absurd (omega (arith, e))
no_trace_of name rows is none (commands.Check command) asked = let e : 99 ≡ 116 = ap (λ (t : Text). slice_index t 0) (sym asked.0 ∙ is) in absurd (omega (arith, e))
no_trace_of name rows is none (commands.Judge command) asked = let e : 106 ≡ 116 = ap (λ (t : Text). slice_index t 0) (sym asked.0 ∙ is) in absurd (omega (arith, e))
no_trace_of name rows is none (commands.Ask command) asked = let e : 106 ≡ 116 = ap (λ (t : Text). slice_index t 0) (sym asked.0 ∙ is) in absurd (omega (arith, e))
no_trace_of name rows is none (commands.CheckAll command) asked = let e : 99 ≡ 116 = ap (λ (t : Text). slice_index t 0) (sym asked.0 ∙ is) in absurd (omega (arith, e))
no_trace_of name rows is none (commands.JudgeAll command) asked = let e : 106 ≡ 116 = ap (λ (t : Text). slice_index t 0) (sym asked.0 ∙ is) in absurd (omega (arith, e))
no_trace_of name rows is none (commands.Answer command) asked = let e : 97 ≡ 116 = ap (λ (t : Text). slice_index t 0) (sym asked.0 ∙ is) in absurd (omega (arith, e))
no_trace_of name rows is none (commands.Picture command) asked = let e : 112 ≡ 116 = ap (λ (t : Text). slice_index t 0) (sym asked.0 ∙ is) in absurd (omega (arith, e))
no_trace_of name rows is none (commands.Interleave command) asked = let e : 105 ≡ 116 = ap (λ (t : Text). slice_index t 0) (sym asked.0 ∙ is) in absurd (omega (arith, e))
no_trace_of name rows is none (commands.Show command) asked = let e : 115 ≡ 116 = ap (λ (t : Text). slice_index t 0) (sym asked.0 ∙ is) in absurd (omega (arith, e))
no_trace_of name rows is none (commands.Listing command) asked = let e : 108 ≡ 116 = ap (λ (t : Text). slice_index t 0) (sym asked.0 ∙ is) in absurd (omega (arith, e))
no_trace_of name rows is none (commands.Program command) asked = let e : 112 ≡ 116 = ap (λ (t : Text). slice_index t 0) (sym asked.0 ∙ is) in absurd (omega (arith, e))
no_trace_of name rows is none (commands.Code command) asked = let e : 99 ≡ 116 = ap (λ (t : Text). slice_index t 0) (sym asked.0 ∙ is) in absurd (omega (arith, e))

pub no_trace : (name : Text) (rows : List Row) (result : Result Command LineFault) → name ≡ codes "trace"
    → IfErr result (OnFault ((command : TraceCommand) → ¬ (IsTrace rows command))) → IfErr result (OnFault ((command : Command) → ¬ (IsOf name rows command)))
no_trace name rows (Ok command) is none = tt
no_trace name rows (Err fault) is none = says_more fault (no_trace_of name rows is) none

-- `unpersisted` asks for no command where its values give none
no_unpersisted_of : (name : Text) (rows : List Row) → name ≡ codes "unpersisted" → ((command : ReportCommand) → ¬ IsReport rows command) → (command : Command) → ¬ IsOf name rows command
no_unpersisted_of name rows is none (commands.Unpersisted command) asked = none command asked.1
no_unpersisted_of name rows is none (commands.Trace command) asked = let e : 116 ≡ 117 = ap (λ (t : Text). slice_index t 0) (sym asked.0 ∙ is) in absurd (omega (arith, e))
no_unpersisted_of name rows is none (commands.Assemble command) asked = let e : 97 ≡ 117 = ap (λ (t : Text). slice_index t 0) (sym asked.0 ∙ is) in absurd (omega (arith, e))
no_unpersisted_of name rows is none (commands.MakeVolume command) asked = let e : 109 ≡ 117 = ap (λ (t : Text). slice_index t 0) (sym asked.0 ∙ is) in absurd (omega (arith, e))
no_unpersisted_of name rows is none (commands.Upgrade command) asked = let e : 112 ≡ 110 = ap (λ (t : Text). slice_index t 1) (sym asked.0 ∙ is) in absurd (omega (arith, e))
no_unpersisted_of name rows is none (commands.Run command) asked = let e : 114 ≡ 117 = ap (λ (t : Text). slice_index t 0) (sym asked.0 ∙ is) in absurd (omega (arith, e))
no_unpersisted_of name rows is none (commands.Replay command) asked = let e : 114 ≡ 117 = ap (λ (t : Text). slice_index t 0) (sym asked.0 ∙ is) in absurd (omega (arith, e))
no_unpersisted_of name rows is none (commands.Debug command) asked = let e : 100 ≡ 117 = ap (λ (t : Text). slice_index t 0) (sym asked.0 ∙ is) in absurd (omega (arith, e))
no_unpersisted_of name rows is none (commands.Waste command) asked = let e : 119 ≡ 117 = ap (λ (t : Text). slice_index t 0) (sym asked.0 ∙ is) in absurd (omega (arith, e))
no_unpersisted_of name rows is none (commands.Images command) asked = let e : 105 ≡ 117 = ap (λ (t : Text). slice_index t 0) (sym asked.0 ∙ is) in absurd (omega (arith, e))
no_unpersisted_of name rows is none (commands.Image command) asked = let e : 105 ≡ 117 = ap (λ (t : Text). slice_index t 0) (sym asked.0 ∙ is) in absurd (omega (arith, e))
no_unpersisted_of name rows is none (commands.Explain command) asked = let e : 101 ≡ 117 = ap (λ (t : Text). slice_index t 0) (sym asked.0 ∙ is) in absurd (omega (arith, e))
no_unpersisted_of name rows is none (commands.Check command) asked = let e : 99 ≡ 117 = ap (λ (t : Text). slice_index t 0) (sym asked.0 ∙ is) in absurd (omega (arith, e))
no_unpersisted_of name rows is none (commands.Judge command) asked = let e : 106 ≡ 117 = ap (λ (t : Text). slice_index t 0) (sym asked.0 ∙ is) in absurd (omega (arith, e))
no_unpersisted_of name rows is none (commands.Ask command) asked = let e : 106 ≡ 117 = ap (λ (t : Text). slice_index t 0) (sym asked.0 ∙ is) in absurd (omega (arith, e))
no_unpersisted_of name rows is none (commands.CheckAll command) asked = let e : 99 ≡ 117 = ap (λ (t : Text). slice_index t 0) (sym asked.0 ∙ is) in absurd (omega (arith, e))
no_unpersisted_of name rows is none (commands.JudgeAll command) asked = let e : 106 ≡ 117 = ap (λ (t : Text). slice_index t 0) (sym asked.0 ∙ is) in absurd (omega (arith, e))
no_unpersisted_of name rows is none (commands.Answer command) asked = let e : 97 ≡ 117 = ap (λ (t : Text). slice_index t 0) (sym asked.0 ∙ is) in absurd (omega (arith, e))
no_unpersisted_of name rows is none (commands.Picture command) asked = let e : 112 ≡ 117 = ap (λ (t : Text). slice_index t 0) (sym asked.0 ∙ is) in absurd (omega (arith, e))
no_unpersisted_of name rows is none (commands.Interleave command) asked = let e : 105 ≡ 117 = ap (λ (t : Text). slice_index t 0) (sym asked.0 ∙ is) in absurd (omega (arith, e))
no_unpersisted_of name rows is none (commands.Show command) asked = let e : 115 ≡ 117 = ap (λ (t : Text). slice_index t 0) (sym asked.0 ∙ is) in absurd (omega (arith, e))
no_unpersisted_of name rows is none (commands.Listing command) asked = let e : 108 ≡ 117 = ap (λ (t : Text). slice_index t 0) (sym asked.0 ∙ is) in absurd (omega (arith, e))
no_unpersisted_of name rows is none (commands.Program command) asked = let e : 112 ≡ 117 = ap (λ (t : Text). slice_index t 0) (sym asked.0 ∙ is) in absurd (omega (arith, e))
no_unpersisted_of name rows is none (commands.Code command) asked = let e : 99 ≡ 117 = ap (λ (t : Text). slice_index t 0) (sym asked.0 ∙ is) in absurd (omega (arith, e))

pub no_unpersisted : (name : Text) (rows : List Row) (result : Result Command LineFault) → name ≡ codes "unpersisted"
    → IfErr result (OnFault ((command : ReportCommand) → ¬ (IsReport rows command))) → IfErr result (OnFault ((command : Command) → ¬ (IsOf name rows command)))
no_unpersisted name rows (Ok command) is none = tt
no_unpersisted name rows (Err fault) is none = says_more fault (no_unpersisted_of name rows is) none

-- `waste` asks for no command where its values give none
no_waste_of : (name : Text) (rows : List Row) → name ≡ codes "waste" → ((command : ReportCommand) → ¬ IsReport rows command) → (command : Command) → ¬ IsOf name rows command
no_waste_of name rows is none (commands.Waste command) asked = none command asked.1
no_waste_of name rows is none (commands.Trace command) asked = let e : 116 ≡ 119 = ap (λ (t : Text). slice_index t 0) (sym asked.0 ∙ is) in absurd (omega (arith, e))
no_waste_of name rows is none (commands.Assemble command) asked = let e : 97 ≡ 119 = ap (λ (t : Text). slice_index t 0) (sym asked.0 ∙ is) in absurd (omega (arith, e))
no_waste_of name rows is none (commands.MakeVolume command) asked = let e : 109 ≡ 119 = ap (λ (t : Text). slice_index t 0) (sym asked.0 ∙ is) in absurd (omega (arith, e))
no_waste_of name rows is none (commands.Upgrade command) asked = let e : 117 ≡ 119 = ap (λ (t : Text). slice_index t 0) (sym asked.0 ∙ is) in absurd (omega (arith, e))
no_waste_of name rows is none (commands.Run command) asked = let e : 114 ≡ 119 = ap (λ (t : Text). slice_index t 0) (sym asked.0 ∙ is) in absurd (omega (arith, e))
no_waste_of name rows is none (commands.Replay command) asked = let e : 114 ≡ 119 = ap (λ (t : Text). slice_index t 0) (sym asked.0 ∙ is) in absurd (omega (arith, e))
no_waste_of name rows is none (commands.Debug command) asked = let e : 100 ≡ 119 = ap (λ (t : Text). slice_index t 0) (sym asked.0 ∙ is) in absurd (omega (arith, e))
no_waste_of name rows is none (commands.Unpersisted command) asked = let e : 117 ≡ 119 = ap (λ (t : Text). slice_index t 0) (sym asked.0 ∙ is) in absurd (omega (arith, e))
no_waste_of name rows is none (commands.Images command) asked = let e : 105 ≡ 119 = ap (λ (t : Text). slice_index t 0) (sym asked.0 ∙ is) in absurd (omega (arith, e))
no_waste_of name rows is none (commands.Image command) asked = let e : 105 ≡ 119 = ap (λ (t : Text). slice_index t 0) (sym asked.0 ∙ is) in absurd (omega (arith, e))
no_waste_of name rows is none (commands.Explain command) asked = let e : 101 ≡ 119 = ap (λ (t : Text). slice_index t 0) (sym asked.0 ∙ is) in absurd (omega (arith, e))
no_waste_of name rows is none (commands.Check command) asked = let e : 99 ≡ 119 = ap (λ (t : Text). slice_index t 0) (sym asked.0 ∙ is) in absurd (omega (arith, e))
no_waste_of name rows is none (commands.Judge command) asked = let e : 106 ≡ 119 = ap (λ (t : Text). slice_index t 0) (sym asked.0 ∙ is) in absurd (omega (arith, e))
no_waste_of name rows is none (commands.Ask command) asked = let e : 106 ≡ 119 = ap (λ (t : Text). slice_index t 0) (sym asked.0 ∙ is) in absurd (omega (arith, e))
no_waste_of name rows is none (commands.CheckAll command) asked = let e : 99 ≡ 119 = ap (λ (t : Text). slice_index t 0) (sym asked.0 ∙ is) in absurd (omega (arith, e))
no_waste_of name rows is none (commands.JudgeAll command) asked = let e : 106 ≡ 119 = ap (λ (t : Text). slice_index t 0) (sym asked.0 ∙ is) in absurd (omega (arith, e))
no_waste_of name rows is none (commands.Answer command) asked = let e : 97 ≡ 119 = ap (λ (t : Text). slice_index t 0) (sym asked.0 ∙ is) in absurd (omega (arith, e))
no_waste_of name rows is none (commands.Picture command) asked = let e : 112 ≡ 119 = ap (λ (t : Text). slice_index t 0) (sym asked.0 ∙ is) in absurd (omega (arith, e))
no_waste_of name rows is none (commands.Interleave command) asked = let e : 105 ≡ 119 = ap (λ (t : Text). slice_index t 0) (sym asked.0 ∙ is) in absurd (omega (arith, e))
no_waste_of name rows is none (commands.Show command) asked = let e : 115 ≡ 119 = ap (λ (t : Text). slice_index t 0) (sym asked.0 ∙ is) in absurd (omega (arith, e))
no_waste_of name rows is none (commands.Listing command) asked = let e : 108 ≡ 119 = ap (λ (t : Text). slice_index t 0) (sym asked.0 ∙ is) in absurd (omega (arith, e))
no_waste_of name rows is none (commands.Program command) asked = let e : 112 ≡ 119 = ap (λ (t : Text). slice_index t 0) (sym asked.0 ∙ is) in absurd (omega (arith, e))
no_waste_of name rows is none (commands.Code command) asked = let e : 99 ≡ 119 = ap (λ (t : Text). slice_index t 0) (sym asked.0 ∙ is) in absurd (omega (arith, e))

pub no_waste : (name : Text) (rows : List Row) (result : Result Command LineFault) → name ≡ codes "waste"
    → IfErr result (OnFault ((command : ReportCommand) → ¬ (IsReport rows command))) → IfErr result (OnFault ((command : Command) → ¬ (IsOf name rows command)))
no_waste name rows (Ok command) is none = tt
no_waste name rows (Err fault) is none = says_more fault (no_waste_of name rows is) none
