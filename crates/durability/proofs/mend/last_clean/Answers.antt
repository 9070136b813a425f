use Rattle.std.proofs.Common.{ℕ, ◌<◌, subst, sym}
use Rattle.store_trace.specs.declared.event.Event.{Event}
use Rattle.store_trace.specs.declared.event.Event.TheVariants.{Store}
use Rattle.durability.proofs.MendLists.{same_hart}
use Rattle.durability.specs.Mends.{is_clean_by, IsEventOf}
use Rattle.durability.specs.Operations.{IsLast}
use Rattle.durability.proofs.mend.last_clean.Goals as goal

pub returns : goal.returns
returns c = λ hart line is.
    let none : Event = Store 0 0 0 0 0 in
    let same = same_hart c.args.events.now c.args.clean none hart line c.in-Clean.hart c.in-Clean.line is c.in-Clean.is in
    subst (λ (h : ℕ). IsLast (λ n. (n < c.args.before) × IsEventOf (is_clean_by h) c.args.events.now n) c.last_of.result) (sym same)
    c.last_of.ensures.last
