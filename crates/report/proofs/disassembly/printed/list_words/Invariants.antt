use Rattle.std.proofs.Common.{◌≡◌, map}
use Rattle.report.specs.Places.{origin_in}
use Rattle.report.proofs.DisassemblyListing.{lines_below}
use Rattle.report.proofs.disassembly.printed.list_words.Given as goal

abbrev pub invariant-loop-index : goal.invariant-loop-index
invariant-loop-index l = l.listing.items ≡ lines_below (map (λ line. line.now) l.lines) (origin_in l.places) l.words l.index
