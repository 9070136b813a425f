use Rattle.std.proofs.Common.{◌-◌, refl, subst, sym, inl, inr, arith}
use Rattle.std.specs.Prelude.{Bool, IsTrue}
use Rattle.durability.proofs.Opens.{is_false, is_true}
use Rattle.durability.proofs.Tellings.{fate_of_store, kept_above, kept_below}
use Rattle.durability.proofs.cut.kept_of.Goals as goal

pub returns-in-Some : goal.returns-in-Some
returns-in-Some c =
    let first = c.in-Some.ensures in
    let fate = fate_of_store c.args.events.now c.args.entry.line first.hart c.in-Some.store c.args.fates.now _ c.requires.fates first.store in
    let is_open = c.is_open.ensures c.args.events.now c.args.entry.line c.in-Some.store fate in
    let late = is_open.0 (subst (λ (b : Bool). IsTrue b) (sym c.if-is_open.true) is_true) in
    let above = kept_above c.args.events.now c.args.moment c.args.entry.line (c.args.entry.number - 1) c.in-Some.store first c.requires.moment late in
    record {
      line = refl;
      above = omega (arith, above, c.if-entry-eq0.false);
      hart = first.hart;
      store = first.store;
      last = omega (arith, first.number, c.if-entry-eq0.false);
      made = first.made;
    }

pub returns-in-Some-2 : goal.returns-in-Some-2
returns-in-Some-2 c =
    let first = c.in-Some.ensures in
    let fate = fate_of_store c.args.events.now c.args.entry.line first.hart c.in-Some.store c.args.fates.now _ c.requires.fates first.store in
    let is_open = c.is_open.ensures c.args.events.now c.args.entry.line c.in-Some.store fate in
    let below = kept_below c.args.events.now c.args.moment c.args.entry.line (c.args.entry.number - 1) c.in-Some.store first c.requires.moment
    (λ late. is_false (subst (λ (b : Bool). IsTrue b) c.if-is_open.false (is_open.1 late))) in
    inl (omega (arith, below, c.if-entry-eq0.false))

pub returns-then-entry-eq0 : goal.returns-then-entry-eq0
returns-then-entry-eq0 c = inl (omega (arith, c.if-entry-eq0.true))

pub returns-in-None : goal.returns-in-None
returns-in-None c = inr (omega (arith, c.in-None.ensures, c.if-entry-eq0.false))
