use Rattle.std.proofs.Common.{rules, ◌≡◌, ◌∙◌, ◌++◌, ◌∷◌, [], append_assoc, ap, sym, subst, arith}
use Rattle.workers.specs.Desks.{Sitting}
use Rattle.workers.specs.declared.rule.DeskView.{DeskView}
use Rattle.workers.proofs.Closing.{next_of, gathers_one, gathers_more, ended_is}
use Rattle.workers.proofs.Steps.{joins_at}
use Rattle.workers.specs.Rule.{Gathers}
use Rattle.workers.proofs.desk.CheckDesk.join.Goals as goal

pub join_seat-requires : goal.join_seat-requires
join_seat-requires c =
    let table = c.self.inside.table.shared in
    let i = c.loop-seat.invariant in
    let k = c.seat.invariant in
    let words = c.self.invariant.2 in
    let next : c.loop-seat.seat-iterator.rest.items ≡ c.in-Some.seat ∷ c.next.new.self.rest.items = search rules in
    let its = next_of (λ (s : Sitting). s.desk ≡ c.args.self.now.name) c.args.others.items c.loop-seat.yielded c.loop-seat.seat-iterator.rest.items c.next.new.self.rest.items c.in-Some.seat c.requires.others i.3 next in
    let mine = sym (ap (λ d. d.name.table) c.self.view_is) in (
      i.0 ∙ mine,
      ap (λ s. s.desk.table) c.seat.view_is ∙ (ap (λ d. d.table) its ∙ mine),
      k.0,
      omega arith,
      joins_at table.key.moments table.key.workers c.loop-seat.all.id c.loop-seat.all.me.0 c.seat.inside.seat.id c.seat.inside.seat.me.0 (omega arith),
    )

pub loop-seat-preserved : goal.loop-seat-preserved
loop-seat-preserved c =
    let i = c.loop-seat.invariant in
    let k = c.seat.invariant in
    let j = c.join_seat.ensures in
    let next : c.loop-seat.seat-iterator.rest.items ≡ c.in-Some.seat ∷ c.next.new.self.rest.items = search rules in
    let v = c.seat.inside.seat.me.0 in
    let is = ap (λ m. m.0) j.2 in (
      j.0 ∙ i.0,
      ap (λ m. m.1) j.2 ∙ i.1,
      subst (λ (u : DeskView). Gathers (c.args.first ∷ c.loop-seat.yielded ++ c.in-Some.seat ∷ []) u) (sym is)
          (gathers_more (c.args.first ∷ c.loop-seat.yielded) c.loop-seat.all.me.0 c.in-Some.seat v i.2 k.1 (ap (λ s. s.claimed) c.seat.view_is) (ended_is c.seat.inside.ended c.in-Some.seat.ended v.ended k.3 (ap (λ s. s.ended) c.seat.view_is)) (ap (λ s. s.bad) c.seat.view_is) (ap (λ s. s.found) c.seat.view_is)),
      append_assoc c.loop-seat.yielded (c.in-Some.seat ∷ []) c.next.new.self.rest.items ∙ (ap (λ l. c.loop-seat.yielded ++ l) (sym next) ∙ i.3),
    )

pub loop-seat-init : goal.loop-seat-init
loop-seat-init c =
    let k = c.first.invariant in
    let v = c.first.inside.seat.me.0 in (
      ap (λ s. s.desk.table) c.first.view_is ∙ ap (λ d. d.table) c.requires.first,
      k.0,
      gathers_one c.args.first v k.1 (ap (λ s. s.claimed) c.first.view_is) (ended_is c.first.inside.ended c.args.first.ended v.ended k.3 (ap (λ s. s.ended) c.first.view_is)) (ap (λ s. s.bad) c.first.view_is) (ap (λ s. s.found) c.first.view_is),
      search rules,
    )
