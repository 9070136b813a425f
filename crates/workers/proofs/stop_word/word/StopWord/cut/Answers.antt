use Rattle.std.proofs.Common.{rules, ◌≡◌, ◌+◌, ◌-◌, [], ◌∷◌, ◌++◌, ◌∙◌, ap, sym, arith}
use Rattle.std.specs.Prelude.{ℕ}
use Rattle.workers.specs.Stops.{fresh}
use Rattle.workers.specs.StopWordRule.{newcomer, without_part}
use Rattle.workers.proofs.StopWordClosing.{cuts_as}
use Rattle.workers.proofs.Totals.{replicate_up}
use Rattle.workers.proofs.stop_word.word.StopWord.cut.Goals as goal

pub split_seat-seat-requires : goal.split_seat-seat-requires
split_seat-seat-requires c =
    let table = c.self.inside.table.shared in
    let i = c.loop.invariant in
    let words = c.self.invariant.1 in
    let parts : ℕ = c.args.self.now.seats + 1 - c.loop.counter in
    let end = i.2 in
    let inside = c.loop-test.true in (
      i.0 ∙ sym (ap (λ d. d.table) c.self.view_is),
      omega arith,
      cuts_as table.key.seats c.loop.first.id parts c.loop.first.me.0 (ap (λ m. m.0) i.1) (omega arith),
    )

pub loop-preserved : goal.loop-preserved
loop-preserved c =
    let i = c.loop.invariant in
    let split = c.split_seat-seat.ensures in
    let pushed : c.push.new.self.items ≡ c.loop.seats.items ++ c.new.result ∷ [] = search rules in
    let is = c.new.ensures ∙ ap fresh (split.3 ∙ i.0) in
    let end = i.2 in (
      split.0 ∙ i.0,
      split.2 ∙ (ap (λ m. (without_part m.0, m.1)) i.1 ∙ ap (λ (n : ℕ). (newcomer n, [])) (omega arith)),
      i.2,
      pushed ∙ (ap (λ s. c.loop.seats.items ++ s ∷ []) is ∙ replicate_up c.loop.seats.items (fresh c.args.self.now.table) c.loop.counter (c.loop.counter + 1 - 1) i.3 (omega arith) (omega arith)),
    )

pub new-requires-2 : goal.new-requires-2
new-requires-2 c =
    let i = c.loop.invariant in
    let end = i.2 in
    let done = c.loop-test.false in
    i.1 ∙ ap (λ (n : ℕ). (newcomer n, [])) (omega arith)

pub returns : goal.returns
returns c =
    let i = c.loop.invariant in
    let end = i.2 in
    let done = c.loop-test.false in
    let pushed : c.push-2.new.self.items ≡ c.loop.seats.items ++ c.new-2.result ∷ [] = search rules in
    let is = c.new-2.ensures ∙ ap fresh i.0 in
    pushed ∙ (ap (λ s. c.loop.seats.items ++ s ∷ []) is ∙ replicate_up c.loop.seats.items (fresh c.args.self.now.table) c.loop.counter c.args.self.now.seats i.3 (omega arith) (omega arith))
