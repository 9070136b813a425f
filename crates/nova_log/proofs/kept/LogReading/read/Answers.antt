use Rattle.std.proofs.Common.{ℕ, List, ap, ◌∙◌, drop, length, refl}
use Rattle.nova_log.proofs.Keeping.{below_named, kept_anew}
use Rattle.nova_log.proofs.kept.LogReading.read.Goals as goal

pub returns-clause-kept : goal.returns-clause-kept
returns-clause-kept g c = λ other alike _ kept.
    let before = g.S.LineSource.asked c.args.source.now in
    let after = g.S.LineSource.asked c.read_log.new.source in
    kept_anew (g.F.FixedLines.fixed c.args.fixed.now) c.args.geometry.now (g.S.LineSource.medium c.args.source.now) other c.keep.new.self c.in_ok-entries.entries c.args.inode
    before after c.in_ok-entries.ensures.ok c.in_ok-entries.ensures.log (c.keep.ensures.inode kept)
    (c.keep.ensures.lines kept ∙ ap (λ (xs : List ℕ). drop (length xs) after) c.asked_so_far-before.ensures)
    (below_named _ _ _ _ (ap (λ (m : List (List ℕ)). length m) c.read_log.ensures.same) refl (c.keep.ensures.below kept)) (c.keep.ensures.fixed kept) alike
