use Rattle.std.proofs.Common.{◌≡◌, ℕ, ◌<◌, List, [], Some, inl, inr, length, slice_get, refl, sym, ap, ◌∙◌, subst, arith, rules}
use Rattle.std.proofs.lemmas.Option.{slice_get_within}
use Rattle.bus.proofs.Places.{there_is}
use Rattle.machine.specs.Run.{Config, started}
use Rattle.schedule_states.proofs.Happening.{led_start}
use Rattle.schedule_states.proofs.Looking.{first_number, got_appended}
use Rattle.schedule_states.proofs.Numbering.{met_kept, numbered_grown}
use Rattle.schedule_states.proofs.Onward.{met_numbered, only_grown}
use Rattle.schedule_states.specs.Covering.{IsMet, ReachedView}
use Rattle.schedule_states.specs.Happening.{IsLed}
use Rattle.schedule_states.specs.Onward.{only}
use Rattle.schedule_states.specs.Reaching.{HaveGrown}
use Rattle.schedule_states.specs.States.{AreGrown, PartsView, StandsFor}
use Rattle.schedule_states.specs.declared.program_state.ProgramState.{ProgramState}
use Rattle.schedule_states.specs.declared.program_state.StateNumbers.{StateNumbers}
use Rattle.schedule_states.proofs.reached.Reached.meet_start.Goals as goal

not_below : (n : ℕ) → n < length {A = StateNumbers} [] → ⊥
not_below n below = omega (arith, below)

pub invariant_of-self : goal.invariant_of-self
invariant_of-self g c =
    let same : AreGrown c.self.inside.parts c.self.inside.parts =
    record { table = record { start = refl; grows = λ n s found. found }; lists = λ n held found. found; claims = refl } in
    numbered_grown
    (record { parts = c.self.inside.parts; hart_parts = c.self.inside.hart_parts; standings = c.self.inside.standings; states = c.self.inside.states; harts = c.self.inside.leads })
    c.self.inside.parts c.first_standing.new.known same c.first_standing.ensures.kept c.self.invariant

pub invariant_of-self-2 : goal.invariant_of-self-2
invariant_of-self-2 g c =
    let same : AreGrown c.self.inside.parts c.self.inside.parts =
    record { table = record { start = refl; grows = λ n s found. found }; lists = λ n held found. found; claims = refl } in
    numbered_grown
    (record { parts = c.self.inside.parts; hart_parts = c.self.inside.hart_parts; standings = c.self.inside.standings; states = c.self.inside.states; harts = c.self.inside.leads })
    c.self.inside.parts c.first_standing.new.known same c.first_standing.ensures.kept c.self.invariant

pub numbers_for-requires-clause-standing : goal.numbers_for-requires-clause-standing
numbers_for-requires-clause-standing g c κs within =
    slice_get_within c.first_standing.new.known c.in_ok-standing.standing c.in_ok-standing.ensures.first.0 c.in_ok-standing.ensures.first.1

-- the state at the start has its numbers
started_met : {T : Type 0} (before after : ReachedView T) (numbers : StateNumbers) (n : ℕ) (s : ProgramState) (t : T) → HaveGrown before after → slice_get after.states n ≡ Some numbers →
    IsMet (only before numbers) 0 s t → IsMet after n s t
started_met before after numbers n s t grown here met =
    met_numbered after numbers n s t here (met_kept (only before numbers) (only after numbers) 0 s t (only_grown before after numbers grown) met)

pub returns-clause-start : goal.returns-clause-start
returns-clause-start g c told =
    let stands : StandsFor c.args.self.now.parts c.in-Ok.start
    (started c.args.self.now.parts.table.start.program c.args.self.now.parts.table.start.medium c.args.self.now.harts) = search rules in
    let same : c.args.self.now.parts ≡ c.self.inside.parts = search rules in
    let parts : c.number_of.new.self.parts ≡ c.args.self.now.parts = c.number_of.ensures.parts ∙ c.numbers_for.ensures.parts ∙ sym same in
    let first = c.in_ok-standing.ensures.first in
    let none : c.self.inside.states ≡ [] = rw (sym c.self.view_is) at c.requires.none in (
      record {
        state = c.in-Ok.start;
        standing = first.0;
        number = c.in_ok-number_of.field-0;
        met = started_met c.numbers_for.new.self c.number_of.new.self c.in_ok-numbers.numbers c.in_ok-number_of.field-0 c.in-Ok.start first.0 c.number_of.ensures.grown
            c.in_ok-number_of.ensures.number (c.in_ok-numbers.ensures.met first.0 first.1);
        stands_as = (
          subst (λ (p : PartsView). StandsFor p c.in-Ok.start
              (started c.args.self.now.parts.table.start.program c.args.self.now.parts.table.start.medium c.args.self.now.harts)) (sym parts) stands,
          first.2,
        );
      },
      first_number c.numbers_for.new.self.states c.number_of.new.self.states c.in_ok-numbers.numbers c.in_ok-number_of.field-0 c.in_ok-numbers.numbers
          (c.numbers_for.ensures.states ∙ none) c.number_of.ensures.more c.in_ok-number_of.ensures.number,
    )

pub returns-clause-led : goal.returns-clause-led
returns-clause-led g c told =
    let end : Config = (started c.args.self.now.parts.table.start.program c.args.self.now.parts.table.start.medium c.args.self.now.harts) in
    let stands : StandsFor c.args.self.now.parts c.in-Ok.start end = search rules in
    let same : c.args.self.now.parts ≡ c.self.inside.parts = search rules in
    let none : c.self.inside.states ≡ [] = rw (sym c.self.view_is) at c.requires.none in
    let first = c.in_ok-standing.ensures.first in
    let parts : c.number_of.new.self.parts ≡ c.args.self.now.parts = c.number_of.ensures.parts ∙ c.numbers_for.ensures.parts ∙ sym same in
    let harts : c.number_of.new.self.harts ≡ c.args.self.now.harts = search rules in
    let start : started c.number_of.new.self.parts.table.start.program c.number_of.new.self.parts.table.start.medium c.number_of.new.self.harts ≡ end =
    ap (λ (p : PartsView). started p.table.start.program p.table.start.medium c.number_of.new.self.harts) parts
    ∙ ap (λ (count : ℕ). started c.args.self.now.parts.table.start.program c.args.self.now.parts.table.start.medium count) harts in
    λ n there.
    let here : (x : StateNumbers) × (slice_get c.number_of.new.self.states n ≡ Some x) = there_is c.number_of.new.self.states n there in
    elim (got_appended c.numbers_for.new.self.states c.number_of.new.self.states c.in_ok-numbers.numbers c.number_of.ensures.more n here.0 here.1) [
      | inl before ↦ absurd (not_below n (subst (λ (states : List StateNumbers). n < length states) (c.numbers_for.ensures.states ∙ none)
          (slice_get_within c.numbers_for.new.self.states n here.0 before)))
      | inr is ↦ record {
        state = c.in-Ok.start;
        standing = first.0;
        met = started_met c.numbers_for.new.self c.number_of.new.self c.in_ok-numbers.numbers n c.in-Ok.start first.0 c.number_of.ensures.grown
            (here.1 ∙ ap (λ (x : StateNumbers). Some x) is) (c.in_ok-numbers.ensures.met first.0 first.1);
        led_as = record {
          end = end;
          led = subst (λ (from : Config). IsLed (g.J.StateJudge.allows c.args.judge.now) from end) (sym start) (led_start (g.J.StateJudge.allows c.args.judge.now) end);
          stands_as = (subst (λ (p : PartsView). StandsFor p c.in-Ok.start end) (sym parts) stands, first.2);
        };
      }
    ]
