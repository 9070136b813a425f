use Rattle.std.proofs.Common.{◌≡◌, string_bytes}
use Rattle.command_line.specs.CutVerdicts.{further_link}
use Rattle.command_line.proofs.Texts.{texts_below}
use Rattle.command_line.proofs.cut_verdicts.push_links.Given as goal

abbrev pub invariant-loop-link : goal.invariant-loop-link
invariant-loop-link l = string_bytes l.text ≡ texts_below (string_bytes l.initial.text) (further_link l.json) l.links l.link-index
