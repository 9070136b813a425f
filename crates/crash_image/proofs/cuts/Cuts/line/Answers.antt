use Rattle.std.proofs.Common.{◌≡◌, ◌∙◌, ◌<◌, ℕ, List, length, sym, subst, ap}
use Rattle.store_trace.specs.Cut.{number_in}
use Rattle.crash_image.proofs.Lined.{cut_increasing, cut_line}
use Rattle.crash_image.specs.View.{CutsView}
use Rattle.crash_image.proofs.cuts.Cuts.line.Goals as goal

pub number_of-number-requires : goal.number_of-number-requires
number_of-number-requires c = rw c.entries.ensures (cut_increasing c.args.self.now.steps c.args.cut.now c.requires.cut)

pub read_line-requires : goal.read_line-requires
read_line-requires c = subst (λ (v : CutsView). c.args.line < length v.start) (sym c.self.view_is) c.requires.there

pub bytes_after-requires : goal.bytes_after-requires
bytes_after-requires c = c.self.invariant.1

pub returns : goal.returns
returns c =
    let number : c.number_of-number.result ≡ number_in c.args.cut.now c.args.line =
    c.number_of-number.ensures ∙ ap (λ (entries : List (ℕ × ℕ)). number_in entries c.args.line) c.entries.ensures in
    cut_line c.self.inside.medium.now c.self.inside.events.now c.args.self.now c.args.cut.now c.args.line c.number_of-number.result
    c.read_line.result.now c.bytes_after.result c.self.view_is
    (subst (λ (v : CutsView). c.args.line < length v.start) (sym c.self.view_is) c.requires.there)
    number c.read_line.ensures.value c.bytes_after.ensures
