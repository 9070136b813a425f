use Rattle.std.proofs.Common.{◌≡◌, ◌≢◌, ◌+◌, ◌-◌, ◌%◌, ◌*◌, ◌<◌, length, arith}
use Rattle.line_memory.specs.declared.TheConstants.{PERSISTENT_BASE}
use Rattle.recovery.specs.declared.overlay_memory.memory.Place.TheVariants.{Image}
use Rattle.recovery.proofs.Placing.{below_made, below_refused, is_misaligned, is_past, no_fault_there, within_image}
use Rattle.recovery.proofs.overlay_memory.memory.HeldMemory.place.Goals as goal

pub returns-then-address-from-ne0-clause-err : goal.returns-then-address-from-ne0-clause-err
returns-then-address-from-ne0-clause-err g c =
    is_misaligned c.args.self.now (g.S.Source.medium c.args.image.now) c.args.address c.args.width (λ e.
    let odd : c.args.address % c.from.result ≢ 0 = λ f. omega arith in
    (rw c.from.ensures at odd) e)

pub returns-then-address-lt-PERSISTENT_BASE-clause-no_fault :
    goal.returns-then-address-lt-PERSISTENT_BASE-clause-no_fault
returns-then-address-lt-PERSISTENT_BASE-clause-no_fault g c =
    let even : c.args.address % c.from.result ≡ 0 = omega arith in
    let aligned : c.args.address % c.args.width ≡ 0 = rw c.from.ensures at even in
    below_made c.args.self.now (g.S.Source.medium c.args.image.now) c.args.address c.args.width c.place_below.result
    (rw c.self.view_is at c.self.invariant) c.requires.over c.requires.width aligned c.place_below.ensures.address c.place_below.ensures.within

pub returns-then-address-lt-PERSISTENT_BASE-clause-err :
    goal.returns-then-address-lt-PERSISTENT_BASE-clause-err
returns-then-address-lt-PERSISTENT_BASE-clause-err g c =
    let even : c.args.address % c.from.result ≡ 0 = omega arith in
    let aligned : c.args.address % c.args.width ≡ 0 = rw c.from.ensures at even in
    below_refused c.args.self.now (g.S.Source.medium c.args.image.now) c.args.address c.args.width c.place_below.result
    c.requires.width aligned (omega arith) c.place_below.ensures.err

pub returns-then-offset-from-clause-err : goal.returns-then-offset-from-clause-err
returns-then-offset-from-clause-err g c =
    let even : c.args.address % c.from.result ≡ 0 = omega arith in
    let aligned : c.args.address % c.args.width ≡ 0 = rw c.from.ensures at even in
    is_past c.args.self.now (g.S.Source.medium c.args.image.now) c.args.address c.args.width c.requires.width aligned (omega arith) (omega arith)

pub returns-clause-no_fault : goal.returns-clause-no_fault
returns-clause-no_fault g c =
    let offset = c.args.address - PERSISTENT_BASE in
    let place : c.args.address ≡ PERSISTENT_BASE + (c.args.address - PERSISTENT_BASE) = omega arith in
    let even : c.args.address % c.from.result ≡ 0 = omega arith in
    let aligned : c.args.address % c.args.width ≡ 0 = rw c.from.ensures at even in
    let there : c.args.address - PERSISTENT_BASE < 64 * length (g.S.Source.medium c.args.image.now) = omega arith in
    no_fault_there c.args.self.now (g.S.Source.medium c.args.image.now) c.args.address c.args.width (Image (c.args.address - PERSISTENT_BASE))
    (rw c.self.view_is at c.self.invariant) c.requires.over c.requires.width aligned place
    (within_image c.args.self.now (g.S.Source.medium c.args.image.now) c.args.address c.args.width (c.args.address - PERSISTENT_BASE) c.requires.over
    c.requires.width aligned place there)
