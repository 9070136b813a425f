use Rattle.std.proofs.Common.{◌≡◌, ℕ, List, [], ◌∷◌, ◌++◌, reverse, rules, refl, sym, ap, ◌∙◌}
use Rattle.std.proofs.lemmas.List.{reverse-append}
use Rattle.hart.specs.Effect.{answered}
use Rattle.hart.specs.declared.state.HartState.{HartState}
use Rattle.bus.specs.declared.exchange.Exchange.{Exchange}
use Rattle.bus.specs.Replays.{CoreView}
use Rattle.bus.specs.Seats.{SeatView}
use Rattle.bus.proofs.Agreeing.{served_agrees, served_others}
use Rattle.bus.proofs.Counting.{counted_exchange}
use Rattle.bus.proofs.Leading.{led_asked}
use Rattle.bus.proofs.locked.serve.Goals as goal

-- a list with one more, the newest first
turned_by : (xs ys : List Exchange) (x : Exchange) → ys ≡ xs ++ x ∷ [] → reverse ys ≡ x ∷ reverse xs
turned_by xs ys x added = ap reverse added ∙ reverse-append xs (x ∷ [])

-- a seat that has made no step since its last exchange
abbrev seat_of : ℕ → List ℕ → ℕ → ℕ → HartState → List ℕ → List Exchange → SeatView
seat_of hart text budget made state copy exchanges = record {
  hart = hart;
  text = text;
  budget = budget;
  made = made;
  state = state;
  copy = copy;
  exchanges = exchanges;
  since = 0;
}

told_is : (hart : ℕ) (text : List ℕ) (budget made : ℕ) (copy : List ℕ) (s t : HartState) (xs ys : List Exchange) → s ≡ t → xs ≡ ys
    → seat_of hart text budget made s copy xs ≡ seat_of hart text budget made t copy ys
told_is hart text budget made copy s t xs ys state exchanges = rw (state, exchanges) refl

pub invariant_of-seat-2 : goal.invariant_of-seat-2
invariant_of-seat-2 c =
    let added = rw c.make_room.ensures.items at c.add_exchange.ensures in (
      counted_exchange c.seat.inside.made c.seat.inside.budget c.seat.inside.since c.seat.inside.exchanges.items c.add_exchange.new.exchanges.items _
          c.seat.invariant.0 (rw (sym c.seat.view_is) at c.requires.left) added refl,
      led_asked c.seat.inside.renewed c.is_renewed_after-seat-inside.result c.seat.inside.hart c.seat.inside.copy c.renew_after.new.copy
          c.seat.inside.exchanges.items c.add_exchange.new.exchanges.items _ c.seat.inside.state c.resume.new.state c.request_of-instr.result.0
          c.seat.inside.since c.seat.invariant.1 refl c.request_of-instr.ensures.asks c.request_of-instr.ensures.spelled
          (search rules) c.renew_after.ensures.kept added c.is_renewed_after-seat-inside.ensures,
    )

pub returns-clause-ok : goal.returns-clause-ok
returns-clause-ok c =
    let as_before = ap (λ (s : HartState). answered s c.request_of-instr.result.0 c.in_ok-reply.reply) c.request_of-instr.ensures.same in
    let turned = turned_by _ _ _ (rw c.make_room.ensures.items at c.add_exchange.ensures) in
    record {
      instr = c.request_of-instr.result.0;
      request = c.request_of-instr.result.1;
      reply = c.in_ok-reply.reply;
      tells = rw (← c.seat.view_is) c.in_ok-reply.ensures.ok;
      told = rw (← c.seat.view_is) (record {
        asks = c.request_of-instr.ensures.asks;
        spelled = c.request_of-instr.ensures.spelled;
        renewed = λ renews. c.renew_after.ensures.renewed renews ∙ c.text.ensures.value ∙ ap (λ (core : CoreView). core.shared.ram.text) c.core-2.view_is;
        kept = c.renew_after.ensures.kept;
        seat = told_is _ _ _ _ _ _ _ _ _ (c.resume.ensures ∙ as_before) turned;
      });
      renews = c.in_ok-reply.ensures.text;
      answer = c.outcome_of.ensures;
    }

pub returns-clause-agrees : goal.returns-clause-agrees
returns-clause-agrees c = served_agrees _ _ _ _ _ (returns-clause-ok c)

pub returns-clause-others : goal.returns-clause-others
returns-clause-others c = λ other apart a. served_others _ _ _ _ other _ (returns-clause-ok c) apart a
