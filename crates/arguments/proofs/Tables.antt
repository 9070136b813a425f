-- Grammars that grow by a row of a table.
use Rattle.std.proofs.Common.{◌≡◌, ◌∙◌, ◌<◌, ◌+◌, ℕ, List, [], ◌∷◌, ◌++◌, length, map, take, get_or, ap, refl, sym, false}
use Rattle.std.proofs.lemmas.List.{append_assoc, map_more}
use Rattle.clap.specs.Built.{AddsArg, AddsSubcommand}
use Rattle.clap.specs.Words.{App, Rule, Shape, Text, rule_of, shape_of, with_rule, with_subcommand}
use Rattle.clap.specs.Simple.{new_shape}
use Rattle.clap.specs.declared.builder.arg.Arg.{Arg}
use Rattle.clap.specs.declared.builder.command.Command.{Command as Clap}
use Rattle.arguments.specs.Grammar.{IsGrammar, leaf, line, rule, shape, shape_with}
use Rattle.arguments.specs.declared.grammar.Argument.{Argument}
use Rattle.arguments.specs.declared.grammar.Subcommand.{Subcommand}

-- an argument more of a subcommand
pub argument_more : (name : Text) (xs : List Argument) (k : ℕ) (d : Argument) (old new : Clap) (arg : Arg) → k < length xs
    → IsGrammar (leaf (shape_with name (take k xs))) old → rule_of arg ≡ rule (get_or xs k d) → arg.global ≡ false
    → AddsArg old arg new → IsGrammar (leaf (shape_with name (take (k + 1) xs))) new
argument_more name xs k d old new arg below by is local adds = record {
  shape = adds.shape local ∙ ap (λ (a : App). with_rule a (rule_of arg)) by.shape
      ∙ ap (with_rule (leaf (shape_with name (take k xs)))) is
      ∙ ap (λ (rules : List Rule). leaf (record (new_shape name) { rules = rules })) (sym (map_more rule xs k d below));
  local = adds.globals ∙ rw (by.local, local) refl;
}

line_more : (shapes : List Shape) (s : Shape) → with_subcommand (line shapes) s ≡ line (shapes ++ s ∷ [])
line_more [] s = refl
line_more (x ∷ xs) s = refl

-- a subcommand more of the line, behind those that it had
pub subcommand_more : (before : List Shape) (xs : List Subcommand) (k : ℕ) (d : Subcommand) (old new sub : Clap) → k < length xs
    → IsGrammar (line (before ++ map shape (take k xs))) old → IsGrammar (leaf (shape (get_or xs k d))) sub
    → AddsSubcommand old sub new → IsGrammar (line (before ++ map shape (take (k + 1) xs))) new
subcommand_more before xs k d old new sub below by is adds =
    let shapes : List Shape = before ++ map shape (take k xs) in
    let last : Shape = shape (get_or xs k d) in
    record {
      shape = adds.shape is.local ∙ ap (λ (a : App). with_subcommand a (shape_of sub)) by.shape
          ∙ ap (λ (a : App). with_subcommand (line shapes) a.top) is.shape
          ∙ line_more shapes last
          ∙ ap line (append_assoc before (map shape (take k xs)) (last ∷ []) ∙ ap (λ (l : List Shape). before ++ l) (sym (map_more shape xs k d below)));
      local = adds.globals ∙ rw (by.local, is.local) refl;
    }
