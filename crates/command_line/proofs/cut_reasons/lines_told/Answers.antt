-- The lines of the text, all of them.
use Rattle.std.proofs.Common.{◌≡◌, ◌∙◌, ℕ, Bor, List, [], ap, arith, map}
use Rattle.std.specs.List.{flat_map}
use Rattle.std.specs.Str.Lines.{lines}
use Rattle.command_line.specs.CutReasons.{line_told}
use Rattle.command_line.proofs.CutLines.{flat_map_now}
use Rattle.command_line.proofs.Texts.{texts_all}
use Rattle.command_line.proofs.cut_reasons.lines_told.Goals as goal

pub returns : goal.returns
returns c =
    let told : List ℕ → List ℕ = line_told c.args.json c.args.number c.args.ended in
    let items : List (Bor (List ℕ)) = c.deref-line-items.result.now in
    let all : map (λ (line : Bor (List ℕ)). line.now) items ≡ lines c.args.text.now = rw c.deref-line-items.ensures.value c.in_ok-lines.ensures in
    c.loop-line.invariant
    ∙ texts_all [] (λ (line : Bor (List ℕ)). told line.now) items c.loop-line.line-index (omega (arith, c.loop-line-test.false))
    ∙ flat_map_now told items
    ∙ ap (flat_map told) all
