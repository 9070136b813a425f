use Rattle.std.proofs.Common.{ℕ, ◌<◌, ◌≤◌, refl, subst, sym}
use Rattle.durability.proofs.MendLists.{first_clean, no_clean_before}
use Rattle.durability.specs.Causes.{IsClean}
use Rattle.durability.specs.Cuts.{is_store_of}
use Rattle.durability.specs.Mends.{is_clean_by, IsEventOf}
use Rattle.durability.specs.Operations.{IsLast}
use Rattle.durability.proofs.mend.mend_of.Goals as goal

pub last_clean-requires-clause-is : goal.last_clean-requires-clause-is
last_clean-requires-clause-is c =
    let lost = c.args.lost in
    let first = first_clean c.args.events.now c.args.moment lost.line lost.store lost.cause c.in-Some-clean_before.clean
    c.in-Some-clean_before.ensures.some.0 c.requires.lost.cause in
    (first.holds.hart, lost.line, first.holds.cleans.is)

pub returns-in-Some-clean_before : goal.returns-in-Some-clean_before
returns-in-Some-clean_before c =
    let events = c.args.events.now in
    let lost = c.args.lost in
    let first = first_clean c.args.events.now c.args.moment lost.line lost.store lost.cause c.in-Some-clean_before.clean
    c.in-Some-clean_before.ensures.some.0 c.requires.lost.cause in (
      c.in-Some.ensures,
      record {
        clean = c.in-Some-clean_before.clean;
        hart = first.holds.hart;
        first = first;
        cleans = first.holds.cleans;
        before = subst (λ (n : ℕ). c.in-Some-clean_before.clean < n) c.event-before.ensures c.in-Some-clean_before.ensures.some.1;
        last = subst (λ (n : ℕ). IsLast (λ k. (k < n) × IsEventOf (is_clean_by first.holds.hart) c.args.events.now k) c.last_clean.result)
            c.event-before.ensures (c.last_clean.ensures first.holds.hart lost.line first.holds.cleans.is);
      },
    )

pub returns-in-None : goal.returns-in-None
returns-in-None c =
    let lost = c.args.lost in
    let none = no_clean_before c.args.events.now c.args.moment lost.line lost.store lost.cause c.event-before.result c.in-None.ensures.none
    c.requires.lost.cause in (
      refl,
      c.in-Some.ensures,
      record {
        none = subst (λ (n : ℕ). (k : ℕ) → IsClean c.args.events.now c.args.lost.line c.args.lost.store k → n ≤ k) c.event-before.ensures none;
        after = c.last_of.ensures.after;
        last = subst (λ (n : ℕ). IsLast (λ k. (k < n) × IsEventOf (is_store_of c.args.lost.line) c.args.events.now k) c.last_of.result)
            c.event-before.ensures c.last_of.ensures.last;
      },
    )
