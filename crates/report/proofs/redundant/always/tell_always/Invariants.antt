use Rattle.std.proofs.Common.{◌≡◌, ◌++◌, string_bytes}
use Rattle.report.specs.Places.{origin_in}
use Rattle.report.specs.Forms.{always_form}
use Rattle.report.proofs.Listing.{lines_of}
use Rattle.report.proofs.redundant.always.tell_always.Given as goal

abbrev pub invariant-loop-pc : goal.invariant-loop-pc
invariant-loop-pc l = (l.yielded ++ l.pc-iterator ≡ l.fn.uses.entries)
    × (string_bytes l.text ≡ string_bytes l.fn.text ++ lines_of (always_form l.form (origin_in l.places)) l.yielded)
