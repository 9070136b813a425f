use Rattle.std.proofs.Common.{◌≡◌, ◌+◌, ◌<◌, ◌≤◌, ◌∙◌, MatchBool, sym, ap, subst, arith}
use Rattle.std.specs.Prelude.{ℕ}
use Rattle.workers.specs.Desks.{last_moment}
use Rattle.workers.proofs.Seating.{last_push, claim_parts, claim_some, claim_none}
use Rattle.workers.proofs.Steps.{claim_at, look_at}
use Rattle.workers.proofs.desk.CheckDesk.claim.Goals as goal

pub fetch_add-number-requires : goal.fetch_add-number-requires
fetch_add-number-requires c =
    let table = c.self.inside.table.shared in
    let seat = c.seat.inside.seat in
    let i = c.seat.invariant in
    let k = c.self.invariant in
    let words = k.2 in
    let n = k.4 in
    let w = k.5 in
    let not_ended = subst (λ b. MatchBool b (seat.me.0.ended ≡ 1) (seat.me.0.ended ≡ 0)) c.if-seat.false i.3 in (
      ap (λ s. s.desk.table) c.seat.view_is ∙ (ap (λ d. d.table) c.requires ∙ sym (ap (λ d. d.name.table) c.self.view_is)),
      omega arith,
      claim_at table.key.moments table.key.workers (omega (arith, k.0)) (omega (arith, k.1)) table.table_id.slots seat.id seat.me (omega arith),
    )

pub load-word-requires : goal.load-word-requires
load-word-requires c =
    let table = c.self.inside.table.shared in
    let old = c.seat.inside.seat in
    let seat = c.fetch_add-number.new.seat in
    let f = c.fetch_add-number.ensures in
    let i = c.seat.invariant in
    let words = c.self.invariant.2 in
    let parts = claim_parts old.me.0 seat.me.0 c.fetch_add-number.result f.2.1 f.2.2 in (
      f.0 ∙ (ap (λ s. s.desk.table) c.seat.view_is ∙ (ap (λ d. d.table) c.requires ∙ sym (ap (λ d. d.name.table) c.self.view_is))),
      omega arith,
      look_at table.key.moments table.key.workers table.table_id.slots seat.id seat.me (omega arith),
    )

pub invariant_of-seat : goal.invariant_of-seat
invariant_of-seat c =
    let old = c.seat.inside.seat in
    let mid = c.fetch_add-number.new.seat in
    let seat = c.load-word.new.seat in
    let f = c.fetch_add-number.ensures in
    let l = c.load-word.ensures in
    let i = c.seat.invariant in
    let inside : c.fetch_add-number.result < old.me.0.moments =
    let t = c.if-number-from.true in let e = c.from.ensures in
    let m = ap (λ d. d.moments) c.requires in let a = ap (λ s. s.desk.moments) c.seat.view_is in let b = ap (λ d. d.name.moments) c.self.view_is in let k = i.2 in omega arith in
    let is = claim_some old.me.0 mid.me.0 seat.me.0 c.fetch_add-number.result c.load-word.result f.2.1 l.2.1 inside in (
      l.2.0 ∙ (f.2.0 ∙ i.0),
      ap (λ v. v.parts) is ∙ i.1,
      ap (λ v. v.moments) is ∙ i.2,
      subst (λ k. MatchBool c.seat.inside.ended (k ≡ 1) (k ≡ 0)) (sym (ap (λ v. v.ended) is)) i.3,
      c.moment_in-seat-inside.ensures ∙ (sym (last_push old.me.0.found c.load-word.result) ∙ sym (ap (λ v. last_moment v.found) is)),
    )

pub invariant_of-seat-else-number-from : goal.invariant_of-seat-else-number-from
invariant_of-seat-else-number-from c =
    let old = c.seat.inside.seat in
    let mid = c.fetch_add-number.new.seat in
    let seat = c.load-word.new.seat in
    let f = c.fetch_add-number.ensures in
    let l = c.load-word.ensures in
    let i = c.seat.invariant in
    let outside : old.me.0.moments ≤ c.fetch_add-number.result =
    let t = c.if-number-from.false in let e = c.from.ensures in
    let m = ap (λ d. d.moments) c.requires in let a = ap (λ s. s.desk.moments) c.seat.view_is in let b = ap (λ d. d.name.moments) c.self.view_is in let k = i.2 in omega arith in
    let is = claim_none old.me.0 mid.me.0 seat.me.0 c.fetch_add-number.result c.load-word.result f.2.2 l.2.1 outside in
    let not_ended = subst (λ b. MatchBool b (old.me.0.ended ≡ 1) (old.me.0.ended ≡ 0)) c.if-seat.false i.3 in (
      l.2.0 ∙ (f.2.0 ∙ i.0),
      ap (λ v. v.parts) is ∙ i.1,
      ap (λ v. v.moments) is ∙ i.2,
      ap (λ v. v.ended) is ∙ ap (λ (k : ℕ). k + 1) not_ended,
      c.moment_in-seat-inside.ensures ∙ (sym (last_push old.me.0.found c.load-word.result) ∙ sym (ap (λ v. last_moment v.found) is)),
    )
