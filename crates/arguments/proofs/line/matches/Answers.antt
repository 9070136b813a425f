-- What the grammar's parse says of a line, for the grammar that the line has.
use Rattle.std.proofs.Common.{◌∙◌, map, string_bytes}
use Rattle.clap.proofs.WalkLemmas.{list_any-map}
use Rattle.arguments.specs.Grammar.{is_trace_option}
use Rattle.arguments.proofs.Lines.{entered, grammatical, refused}
use Rattle.arguments.proofs.line.matches.Goals as goal

pub returns-in-Ok-clause-grammatical : goal.returns-in-Ok-clause-grammatical
returns-in-Ok-clause-grammatical c =
    grammatical c.in_ok-grammar.field-0 (map string_bytes c.args.words.now) (rw (c.is_of_file-of_file.ensures ∙ list_any-map is_trace_option (λ word. string_bytes word) c.args.words.now) at c.in_ok-grammar.ensures) c.in-Ok.ensures.kinds

pub returns-in-Ok-clause-subcommand : goal.returns-in-Ok-clause-subcommand
returns-in-Ok-clause-subcommand c =
    entered c.in_ok-grammar.field-0 (map string_bytes c.args.words.now) c.in-Ok.found (rw (c.is_of_file-of_file.ensures ∙ list_any-map is_trace_option (λ word. string_bytes word) c.args.words.now) at c.in_ok-grammar.ensures) c.in-Ok.ensures.matches

pub returns-in_ok-refusal-in-Err-clause-err : goal.returns-in_ok-refusal-in-Err-clause-err
returns-in_ok-refusal-in-Err-clause-err c =
    refused c.in_ok-grammar.field-0 (map string_bytes c.args.words.now) c.in-Err.error c.in_ok-refusal-in-Err.field-0
    (rw (c.is_of_file-of_file.ensures ∙ list_any-map is_trace_option (λ word. string_bytes word) c.args.words.now) at c.in_ok-grammar.ensures) c.in-Err.ensures.kinds c.in_ok-refusal-in-Err.ensures
