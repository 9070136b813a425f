use Rattle.std.proofs.Common.{rules, ◌≡◌, ◌∙◌, ◌∷◌, ◌++◌, [], length, All, List, vec_len, append_assoc, length-append, ap, sym, subst, arith}
use Rattle.std.proofs.lemmas.List.Elements.{All-push}
use Rattle.workers.specs.Desks.{Sitting, all_bad, all_claimed, all_found, ended_count}
use Rattle.workers.specs.Sweeps.{IsTally}
use Rattle.workers.specs.Works.{IsWorked}
use Rattle.workers.proofs.Closing.{next_of}
use Rattle.workers.proofs.Sweeping.{gathered_more, ended_one, tally_new}
use Rattle.workers.proofs.sweep.take_in.Goals as goal

pub loop-one-init : goal.loop-one-init
loop-one-init g c =
    let P = g.J.Judge.passes c.args.job.now in
    let F = g.J.Judge.fails c.args.job.now in
    let name = c.args.desk.now.name in
    let start : c.into_iter-one-iterator.result.rest.items ≡ c.args.worked.items = search rules in
    let none : c.args.seats.now.items ≡ [] = c.requires.seats in (
      start,
      ap length none,
      ap ended_count none,
      subst (All (λ (s : Sitting). s.desk ≡ name)) (sym {A = List Sitting} none) (λ k d less. absurd (omega (arith, less))),
      subst (λ l. IsTally P F name.moments (all_claimed l) (all_bad l) (all_found l) c.args.best.now) (sym {A = List Sitting} none)
          (tally_new P F name.moments c.args.best.now c.requires.none),
    )

pub loop-one-preserved : goal.loop-one-preserved
loop-one-preserved g c =
    let P = g.J.Judge.passes c.args.job.now in
    let F = g.J.Judge.fails c.args.job.now in
    let name = c.args.desk.now.name in
    let i = c.loop-one.invariant in
    let one = c.in-Some.one in
    let e = c.in_ok-add.ensures in
    let next : c.loop-one.one-iterator.rest.items ≡ c.in-Some.one ∷ c.next.new.self.rest.items = search rules in
    let its = next_of (IsWorked P F name) c.args.worked.items c.loop-one.yielded c.loop-one.one-iterator.rest.items c.next.new.self.rest.items one c.requires.each i.0 next in
    let t = its.1 e.whole in
    let a = length-append c.loop-one.yielded (one ∷ []) in
    let b = length-append c.loop-one.seats.items (one.seat ∷ []) in
    let pushed : c.add.new.seats.items ≡ c.loop-one.seats.items ++ one.seat ∷ [] = e.seats in
    let l = ap length pushed in
    let n = i.1 in (
      append_assoc c.loop-one.yielded (one ∷ []) c.next.new.self.rest.items ∙ (ap (λ l. c.loop-one.yielded ++ l) (sym next) ∙ i.0),
      omega (arith, a, b, l, n),
      ap ended_count pushed ∙ (ended_one c.loop-one.seats.items one.seat t.0 ∙ (let k = i.2 in omega (arith, k, a))),
      subst (All (λ (s : Sitting). s.desk ≡ name)) (sym {A = List Sitting} pushed) (All-push (λ (s : Sitting). s.desk ≡ name) c.loop-one.seats.items one.seat i.3 its.0),
      subst (λ l. IsTally P F name.moments (all_claimed l) (all_bad l) (all_found l) c.add.new.best) (sym {A = List Sitting} pushed)
          (gathered_more P F name.moments c.loop-one.seats.items one.seat c.loop-one.best one.best c.add.new.best i.4 t.1 e.best),
    )

pub returns-clause-desk : goal.returns-clause-desk
returns-clause-desk g c = c.loop-one.invariant.3

pub returns-clause-all : goal.returns-clause-all
returns-clause-all g c =
    let i = c.loop-one.invariant in
    let n = i.1 in
    let steps = c.in-None.ensures.steps.0 in
    let left : length c.loop-one.one-iterator.rest.items ≡ 0 = search rules in
    let joined = length-append c.loop-one.yielded c.loop-one.one-iterator.rest.items in
    let sum = ap length i.0 in
    let seats : vec_len c.loop-one.seats ≡ length c.loop-one.seats.items = search rules in
    let worked : vec_len c.args.worked ≡ length c.args.worked.items = search rules in omega (arith, n, left, joined, sum, seats, worked)

pub returns-clause-ended : goal.returns-clause-ended
returns-clause-ended g c =
    let i = c.loop-one.invariant in
    let n = i.2 in
    let steps = c.in-None.ensures.steps.0 in
    let left : length c.loop-one.one-iterator.rest.items ≡ 0 = search rules in
    let joined = length-append c.loop-one.yielded c.loop-one.one-iterator.rest.items in
    let sum = ap length i.0 in
    let worked : vec_len c.args.worked ≡ length c.args.worked.items = search rules in omega (arith, n, left, joined, sum, worked)

pub returns-clause-best : goal.returns-clause-best
returns-clause-best g c = c.loop-one.invariant.4
