use Rattle.std.proofs.Common.{◌≡◌, ◌∷◌, ℕ, take}
use Rattle.std.specs.Fmt.{HasWritten, IsPlainFormatter}
use Rattle.text.specs.Texts.{cut_text}
use Rattle.text.proofs.image_name.writer.CutDisplay.fmt.Given as goal

abbrev pub invariant-loop-entry : goal.invariant-loop-entry
invariant-loop-entry g l = (first : ℕ × ℕ) × (l.self ≡ first ∷ l.rest)
    × (IsPlainFormatter l.fn.f → HasWritten g.W.Write.write_str_gives l.fn.f (cut_text (first ∷ take l.entry-index l.rest)) l.f)
