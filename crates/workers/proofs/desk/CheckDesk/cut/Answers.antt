use Rattle.std.proofs.Common.{rules, ◌≡◌, ◌+◌, ◌-◌, [], ◌∷◌, ◌++◌, ◌∙◌, ap, sym, arith}
use Rattle.std.specs.Prelude.{ℕ}
use Rattle.workers.specs.Desks.{fresh}
use Rattle.workers.specs.Rule.{newcomer, without_part}
use Rattle.workers.proofs.Closing.{cuts_as, fresh_at}
use Rattle.workers.proofs.Lists.{replicate_up}
use Rattle.workers.proofs.desk.CheckDesk.cut.Goals as goal

pub split_seat-seat-requires : goal.split_seat-seat-requires
split_seat-seat-requires c =
    let table = c.self.inside.table.shared in
    let i = c.loop-worker.invariant in
    let k = c.self.invariant in
    let words = k.2 in
    let workers : ℕ = c.args.self.now.workers in
    let parts : ℕ = workers + 1 - c.loop-worker.worker in
    let end = i.2 in
    let inside = c.loop-worker-test.true in
    let moments : c.args.self.now.name.moments ≡ table.key.moments = sym (ap (λ d. d.name.moments) c.self.view_is) ∙ sym k.0 in (
      i.0 ∙ sym (ap (λ d. d.name.table) c.self.view_is),
      omega arith,
      cuts_as table.key.moments table.key.workers c.loop-worker.first.id parts c.loop-worker.first.me.0
          (ap (λ m. m.0) i.1 ∙ ap (λ (n : ℕ). newcomer parts n) moments)
          (omega arith),
    )

pub loop-worker-preserved : goal.loop-worker-preserved
loop-worker-preserved c =
    let i = c.loop-worker.invariant in
    let split = c.split_seat-seat.ensures in
    let workers : ℕ = c.args.self.now.workers in
    let moments : ℕ = c.args.self.now.name.moments in
    let pushed : c.push.new.self.items ≡ c.loop-worker.seats.items ++ c.new.result ∷ [] = search rules in
    let is = fresh_at c.new.result _ _ c.args.self.now.name c.new.ensures (split.3 ∙ i.0) (ap (λ d. d.name.moments) c.self.view_is) in
    let end = i.2 in (
      split.0 ∙ i.0,
      split.2 ∙ (ap (λ m. (without_part m.0, m.1)) i.1 ∙ ap (λ (n : ℕ). (newcomer n moments, [])) (omega arith)),
      i.2,
      pushed ∙ (ap (λ s. c.loop-worker.seats.items ++ s ∷ []) is ∙ replicate_up c.loop-worker.seats.items (fresh c.args.self.now.name) c.loop-worker.worker (c.loop-worker.worker + 1 - 1) i.3 (omega arith) (omega arith)),
    )

pub new-requires-2 : goal.new-requires-2
new-requires-2 c =
    let i = c.loop-worker.invariant in
    let end = i.2 in
    let done = c.loop-worker-test.false in
    i.1 ∙ (ap (λ (n : ℕ). (newcomer n c.args.self.now.name.moments, [])) (omega arith) ∙ ap (λ (n : ℕ). (newcomer 1 n, [])) (sym (ap (λ d. d.name.moments) c.self.view_is)))

pub returns : goal.returns
returns c =
    let i = c.loop-worker.invariant in
    let end = i.2 in
    let done = c.loop-worker-test.false in
    let pushed : c.push-2.new.self.items ≡ c.loop-worker.seats.items ++ c.new-2.result ∷ [] = search rules in
    let is = fresh_at c.new-2.result _ _ c.args.self.now.name c.new-2.ensures i.0 (ap (λ d. d.name.moments) c.self.view_is) in
    pushed ∙ (ap (λ s. c.loop-worker.seats.items ++ s ∷ []) is ∙ replicate_up c.loop-worker.seats.items (fresh c.args.self.now.name) c.loop-worker.worker c.args.self.now.workers i.3 (omega arith) (omega arith))
