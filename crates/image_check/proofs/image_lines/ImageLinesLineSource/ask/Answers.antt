use Rattle.std.proofs.Common.{ℕ, ◌<◌, length, ap, sym, subst, List}
use Rattle.std.specs.List.{AllByRecursion}
use Rattle.std.specs.Result.{is_ok}
use Rattle.nova_log.specs.Sources.{Source}
use Rattle.image_check.proofs.Reading.{below_length, extend_below_or_not}
use Rattle.image_check.proofs.image_lines.ImageLinesLineSource.ask.Goals as goal

pub invariant_of-self : goal.invariant_of-self
invariant_of-self g c =
    let size = ap (λ (s : Source). length s.lines) c.self.view_is in
    subst (λ (xs : List ℕ). AllByRecursion (λ l. l < length c.self.inside.image) xs) (sym c.extend_from_slice.ensures.items)
    (extend_below_or_not (is_ok c.extend_from_slice.result) (length c.self.inside.image) c.self.inside.asked.items c.args.lines.now c.self.invariant
    (below_length _ _ c.args.lines.now (sym size) c.requires))
