use Rattle.std.proofs.Common.{◌∙◌, arith, refl, sym}
use Rattle.bus.proofs.Comparing.{copies_one, copies_whole, copy_differs, is_so}
use Rattle.bus.proofs.Foreign.{bytes_differ}
use Rattle.bus.proofs.listing.have_copies.Goals as goal

pub loop-place-init : goal.loop-place-init
loop-place-init c = λ h seat less got. absurd (omega (arith, less))

pub loop-place-preserved : goal.loop-place-preserved
loop-place-preserved c =
    copies_one c.args.copy.now c.args.seats.now c.loop-place.place c.index-seats-place.result c.loop-place-test.true c.index-seats-place.is
    (sym c.copy.ensures.value ∙ is_so c.are_same_bytes.result _ _ c.if-not-are_same_bytes.false c.are_same_bytes.ensures) c.loop-place.invariant

pub returns-then-not-are_same_bytes : goal.returns-then-not-are_same_bytes
returns-then-not-are_same_bytes c =
    copy_differs c.args.copy.now c.args.seats.now c.loop-place.place c.index-seats-place.result c.loop-place-test.true c.index-seats-place.is
    c.copy.ensures.whole c.requires
    (bytes_differ _ _ _ _ _ c.if-not-are_same_bytes.true c.are_same_bytes.ensures c.copy.ensures.value refl)

pub returns : goal.returns
returns c = copies_whole c.args.copy.now c.args.seats.now c.loop-place.place (omega arith) c.loop-place.invariant
