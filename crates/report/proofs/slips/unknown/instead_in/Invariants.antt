use Rattle.std.proofs.Common.{◌≡◌, drop}
use Rattle.report.specs.SlipUnknown.{instead_in, texts_of}
use Rattle.report.proofs.slips.unknown.instead_in.Given as goal

abbrev pub invariant-loop-row : goal.invariant-loop-row
invariant-loop-row l = instead_in (texts_of l.rows) l.name ≡ instead_in (texts_of (drop l.row-index l.rows)) l.name
