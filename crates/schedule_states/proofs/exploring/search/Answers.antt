use Rattle.std.proofs.Common.{◌≡◌, ◌≤◌, ◌<◌, ◌∷◌, ◌++◌, true, None, Some, List, [], ℕ, length, slice_get, inr, refl, sym, ap, ◌∙◌, subst, rules, arith}
use Rattle.std.proofs.lemmas.Option.{slice_get_within}
use Rattle.std.proofs.lemmas.Result.{IfOk-weaker}
use Rattle.machine.specs.Run.{started}
use Rattle.schedule_states.proofs.Closing.{closed_all, closed_next, covers_at_kept}
use Rattle.schedule_states.proofs.Covered.{ends_either, good_either, may_claim, reduce_at}
use Rattle.schedule_states.proofs.Happening.{happening}
use Rattle.schedule_states.proofs.Judging.{judged_kept, leads_found, nowhere_found, nowhere_more, told_found, told_more}
use Rattle.schedule_states.proofs.Listing.{known_kept, known_none, known_of}
use Rattle.schedule_states.proofs.Looking.{within_kept}
use Rattle.schedule_states.proofs.Onward.{some_then}
use Rattle.schedule_states.proofs.Turning.{turns_next}
use Rattle.schedule_states.specs.Covering.{IsClosed, IsClosedAt}
use Rattle.schedule_states.specs.Ending.{AreTurnsBelow}
use Rattle.schedule_states.specs.Judged.{AreJudged}
use Rattle.schedule_states.specs.Judging.{AlwaysGood}
use Rattle.schedule_states.specs.StartLines.{StartView}
use Rattle.schedule_states.specs.Watching.{nothing}
use Rattle.schedule_states.specs.declared.ways.Ways.{Ways}
use Rattle.schedule_states.proofs.exploring.search.Goals as goal

pub loop-number-init : goal.loop-number-init
loop-number-init g c = record {
  start = refl;
  harts = refl;
  claims = refl;
  covers = c.requires.start.0;
  led = c.requires.start.1;
  closed = λ number few. absurd (omega (arith, few));
  judged = record {
    moments = λ none. record {
      held = rw c.requires.new.1 (record { below = λ n held found. absurd cc; each = λ memory number found. absurd cc });
      each = λ n moment found. let none : slice_get [] n ≡ Some moment = rw c.requires.new.0 at found in absurd cc;
    };
    below = λ n few. let none : n < 0 = rw c.requires.new.3 at few in absurd (omega (arith, none));
    within = rw c.requires.new.3 (omega arith);
  };
  before = omega arith;
  asked = refl;
  turns = λ asked. record { count_is = rw c.requires.new.2 refl; each = λ n to found. let none : slice_get [] n ≡ Some to = rw c.requires.new.2 at found in absurd cc };
  within = omega arith;
  limits = refl;
  known = known_none (g.J.StateJudge.stands c.args.judge.now) (g.J.StateJudge.allows c.args.judge.now) (g.J.StateJudge.ends c.args.judge.now) c.args.reached.now _ _ c.requires.new.4;
  fits = c.requires.given.0;
  kept = λ events full image good. good;
  told = nothing;
}

pub returns-then-number-met-clause-good : goal.returns-then-number-met-clause-good
returns-then-number-met-clause-good g c =
    let past : length c.loop-number.reached.states ≤ c.loop-number.number = search rules in
    let closed : IsClosed (g.J.StateJudge.stands c.args.judge.now) (g.J.StateJudge.allows c.args.judge.now) (g.J.StateJudge.ends c.args.judge.now) c.loop-number.reached =
    closed_all (g.J.StateJudge.stands c.args.judge.now) (g.J.StateJudge.allows c.args.judge.now) (g.J.StateJudge.ends c.args.judge.now) c.loop-number.reached c.loop-number.number c.loop-number.invariant.closed past in
    let good : AlwaysGood (g.J.StateJudge.stands c.args.judge.now) (g.J.StateJudge.allows c.args.judge.now) (g.J.StateJudge.good c.args.judge.now c.loop-number.workspace) (g.J.StateJudge.ends c.args.judge.now)
    c.args.reached.now.parts.table.start.program c.args.reached.now.parts.table.start.medium c.args.reached.now.harts =
    good_either (g.J.StateJudge.stands c.args.judge.now) (g.J.StateJudge.allows c.args.judge.now)
    (g.J.StateJudge.good c.args.judge.now c.loop-number.workspace) (g.J.StateJudge.ends c.args.judge.now) c.loop-number.reached
    c.args.reached.now.parts.table.start.program c.args.reached.now.parts.table.start.medium c.args.reached.now.harts
    (λ t es event plain. (g.met.J.StateJudge g.world.𝓛 g.world.𝓜 g.world.𝓡 ((λ s x. x), (λ x. x), (λ x. x), λ x. x)).unmarked c.args.judge.now t es event plain)
    (reduce_at (g.J.StateJudge.allows c.args.judge.now) (g.J.StateJudge.good c.args.judge.now) c.loop-number.workspace c.loop-number.reached.parts.claims
    (rw (sym c.loop-number.invariant.claims) at c.requires.reduced))
    (ap (λ (s : StartView). s.medium) c.loop-number.invariant.start) c.loop-number.invariant.covers.0 closed (λ n few. c.loop-number.invariant.judged.below n (omega (arith, few, past, c.loop-number.invariant.before))) in
    IfOk-weaker c.all_judged.result _ _ (λ explored is. told_more explored _ _ (λ each. (
      good,
      λ demanded.
          let asked : c.args.judged.now.ways.asked ≡ true = c.requires.given.2.asks demanded in
          ends_either (g.J.StateJudge.stands c.args.judge.now) (g.J.StateJudge.allows c.args.judge.now) (g.J.StateJudge.ends c.args.judge.now) c.loop-number.reached
          c.args.reached.now.parts.table.start.program c.args.reached.now.parts.table.start.medium c.args.reached.now.harts
          (λ t es event plain. (g.met.J.StateJudge g.world.𝓛 g.world.𝓜 g.world.𝓡 ((λ s x. x), (λ x. x), (λ x. x), λ x. x)).unmarked c.args.judge.now t es event plain)
          (inr (c.requires.given.2.free asked)) closed c.loop-number.invariant.covers.0
          (c.requires.given.2.free asked) (each (c.loop-number.invariant.asked ∙ asked)),
    )) is) c.all_judged.ensures.ends

pub returns-then-number-met-clause-requests : goal.returns-then-number-met-clause-requests
returns-then-number-met-clause-requests g c = IfOk-weaker c.all_judged.result _ _ (λ explored is. (
  rw c.loop-number.invariant.harts at is.0,
  nowhere_more explored _ _ (λ requests nowhere none. nowhere (c.loop-number.invariant.claims ∙ none)
      (started c.args.reached.now.parts.table.start.program c.args.reached.now.parts.table.start.medium c.args.reached.now.harts) c.loop-number.invariant.covers) is.1,
)) c.all_judged.ensures.requests

pub all_judged-requires-clause-turns : goal.all_judged-requires-clause-turns
all_judged-requires-clause-turns g c κs within asked =
    let past : length c.loop-number.reached.states ≤ c.loop-number.number = search rules in
    let was : c.args.judged.now.ways.asked ≡ true = sym c.loop-number.invariant.asked ∙ asked in
    let all : c.loop-number.number ≡ length c.loop-number.reached.states = omega (arith, past, c.loop-number.invariant.within) in record {
      turns = subst (λ (n : ℕ). AreTurnsBelow (g.J.StateJudge.stands c.args.judge.now) (g.J.StateJudge.allows c.args.judge.now) c.loop-number.reached c.loop-number.judged.ways.next.items n) all
          (c.loop-number.invariant.turns was);
      free = c.requires.given.2.free was;
    }

pub all_judged-requires-clause-some : goal.all_judged-requires-clause-some
all_judged-requires-clause-some g c κs within =
    omega (arith, slice_get_within c.loop-number.reached.states c.loop-number.invariant.covers.0.number c.loop-number.invariant.covers.0.met.numbers c.loop-number.invariant.covers.0.met.found)

pub returns-clause-good : goal.returns-clause-good
returns-clause-good g c =
    let past : length c.loop-number.reached.states ≤ c.loop-number.number = search rules in
    let closed : IsClosed (g.J.StateJudge.stands c.args.judge.now) (g.J.StateJudge.allows c.args.judge.now) (g.J.StateJudge.ends c.args.judge.now) c.loop-number.reached =
    closed_all (g.J.StateJudge.stands c.args.judge.now) (g.J.StateJudge.allows c.args.judge.now) (g.J.StateJudge.ends c.args.judge.now) c.loop-number.reached c.loop-number.number c.loop-number.invariant.closed past in
    let good : AlwaysGood (g.J.StateJudge.stands c.args.judge.now) (g.J.StateJudge.allows c.args.judge.now) (g.J.StateJudge.good c.args.judge.now c.loop-number.workspace) (g.J.StateJudge.ends c.args.judge.now)
    c.args.reached.now.parts.table.start.program c.args.reached.now.parts.table.start.medium c.args.reached.now.harts =
    good_either (g.J.StateJudge.stands c.args.judge.now) (g.J.StateJudge.allows c.args.judge.now)
    (g.J.StateJudge.good c.args.judge.now c.loop-number.workspace) (g.J.StateJudge.ends c.args.judge.now) c.loop-number.reached
    c.args.reached.now.parts.table.start.program c.args.reached.now.parts.table.start.medium c.args.reached.now.harts
    (λ t es event plain. (g.met.J.StateJudge g.world.𝓛 g.world.𝓜 g.world.𝓡 ((λ s x. x), (λ x. x), (λ x. x), λ x. x)).unmarked c.args.judge.now t es event plain)
    (reduce_at (g.J.StateJudge.allows c.args.judge.now) (g.J.StateJudge.good c.args.judge.now) c.loop-number.workspace c.loop-number.reached.parts.claims
    (rw (sym c.loop-number.invariant.claims) at c.requires.reduced))
    (ap (λ (s : StartView). s.medium) c.loop-number.invariant.start) c.loop-number.invariant.covers.0 closed (λ n few. c.loop-number.invariant.judged.below n (omega (arith, few, past, c.loop-number.invariant.before))) in
    IfOk-weaker c.all_judged-2.result _ _ (λ explored is. told_more explored _ _ (λ each. (
      good,
      λ demanded.
          let asked : c.args.judged.now.ways.asked ≡ true = c.requires.given.2.asks demanded in
          ends_either (g.J.StateJudge.stands c.args.judge.now) (g.J.StateJudge.allows c.args.judge.now) (g.J.StateJudge.ends c.args.judge.now) c.loop-number.reached
          c.args.reached.now.parts.table.start.program c.args.reached.now.parts.table.start.medium c.args.reached.now.harts
          (λ t es event plain. (g.met.J.StateJudge g.world.𝓛 g.world.𝓜 g.world.𝓡 ((λ s x. x), (λ x. x), (λ x. x), λ x. x)).unmarked c.args.judge.now t es event plain)
          (inr (c.requires.given.2.free asked)) closed c.loop-number.invariant.covers.0
          (c.requires.given.2.free asked) (each (c.loop-number.invariant.asked ∙ asked)),
    )) is) c.all_judged-2.ensures.ends

pub returns-clause-requests : goal.returns-clause-requests
returns-clause-requests g c = IfOk-weaker c.all_judged-2.result _ _ (λ explored is. (
  rw c.loop-number.invariant.harts at is.0,
  nowhere_more explored _ _ (λ requests nowhere none. nowhere (c.loop-number.invariant.claims ∙ none)
      (started c.args.reached.now.parts.table.start.program c.args.reached.now.parts.table.start.medium c.args.reached.now.harts) c.loop-number.invariant.covers) is.1,
)) c.all_judged-2.ensures.requests

pub all_judged-requires-2-clause-turns : goal.all_judged-requires-2-clause-turns
all_judged-requires-2-clause-turns g c κs within asked =
    let past : length c.loop-number.reached.states ≤ c.loop-number.number = search rules in
    let was : c.args.judged.now.ways.asked ≡ true = sym c.loop-number.invariant.asked ∙ asked in
    let all : c.loop-number.number ≡ length c.loop-number.reached.states = omega (arith, past, c.loop-number.invariant.within) in record {
      turns = subst (λ (n : ℕ). AreTurnsBelow (g.J.StateJudge.stands c.args.judge.now) (g.J.StateJudge.allows c.args.judge.now) c.loop-number.reached c.loop-number.judged.ways.next.items n) all
          (c.loop-number.invariant.turns was);
      free = c.requires.given.2.free was;
    }

pub all_judged-requires-2-clause-some : goal.all_judged-requires-2-clause-some
all_judged-requires-2-clause-some g c κs within =
    omega (arith, slice_get_within c.loop-number.reached.states c.loop-number.invariant.covers.0.number c.loop-number.invariant.covers.0.met.numbers c.loop-number.invariant.covers.0.met.found)

pub returns-in-Some-clause-good : goal.returns-in-Some-clause-good
returns-in-Some-clause-good g c = IfOk-weaker c.found.result _ _ (λ explored is. told_found explored _ _ is) c.found.ensures

pub returns-in-Some-clause-requests : goal.returns-in-Some-clause-requests
returns-in-Some-clause-requests g c = IfOk-weaker c.found.result _ _ (λ explored is.
    (leads_found explored c.args.reached.now.harts (rw (c.loop-number.invariant.harts) at is), nowhere_found explored _ _ is)) c.found.ensures

pub returns-in-Err-clause-good : goal.returns-in-Err-clause-good
returns-in-Err-clause-good g c = IfOk-weaker c.found-in-Err.result _ _ (λ explored is. told_found explored _ _ is) c.found-in-Err.ensures

pub returns-in-Err-clause-requests : goal.returns-in-Err-clause-requests
returns-in-Err-clause-requests g c = IfOk-weaker c.found-in-Err.result _ _ (λ explored is.
    (leads_found explored c.args.reached.now.harts (rw (c.go_on_all.ensures.grown.harts, c.loop-number.invariant.harts) at is), nowhere_found explored _ _ is)) c.found-in-Err.ensures

pub returns-then-met-most-clause-kept : goal.returns-then-met-most-clause-kept
returns-then-met-most-clause-kept g c = (rw c.loop-number.invariant.start at c.loop-number.invariant.fits, c.loop-number.invariant.kept)

pub returns-then-number-met-clause-kept : goal.returns-then-number-met-clause-kept
returns-then-number-met-clause-kept g c = (rw c.loop-number.invariant.start at c.loop-number.invariant.fits, c.loop-number.invariant.kept)

pub returns-then-count-most-clause-kept : goal.returns-then-count-most-clause-kept
returns-then-count-most-clause-kept g c = (rw c.loop-number.invariant.start at c.loop-number.invariant.fits, c.loop-number.invariant.kept)

pub returns-clause-kept : goal.returns-clause-kept
returns-clause-kept g c = (rw c.loop-number.invariant.start at c.loop-number.invariant.fits, c.loop-number.invariant.kept)

pub returns-in_err-stop-clause-kept : goal.returns-in_err-stop-clause-kept
returns-in_err-stop-clause-kept g c = (
  rw c.loop-number.invariant.start at c.judge_at.ensures.kept.0,
  λ events full image good. c.judge_at.ensures.kept.1 events full image (c.loop-number.invariant.kept events full image good),
)

pub returns-in-Some-clause-kept : goal.returns-in-Some-clause-kept
returns-in-Some-clause-kept g c = (
  rw c.loop-number.invariant.start at c.judge_at.ensures.kept.0,
  λ events full image good. c.judge_at.ensures.kept.1 events full image (c.loop-number.invariant.kept events full image good),
)

pub returns-in_err-to-clause-kept : goal.returns-in_err-to-clause-kept
returns-in_err-to-clause-kept g c = (
  rw c.loop-number.invariant.start at c.judge_at.ensures.kept.0,
  λ events full image good. c.judge_at.ensures.kept.1 events full image (c.loop-number.invariant.kept events full image good),
)

pub returns-in-Err-clause-kept : goal.returns-in-Err-clause-kept
returns-in-Err-clause-kept g c = (
  rw c.loop-number.invariant.start at c.judge_at.ensures.kept.0,
  λ events full image good. c.judge_at.ensures.kept.1 events full image (c.loop-number.invariant.kept events full image good),
)

pub loop-number-preserved : goal.loop-number-preserved
loop-number-preserved g c =
    let there : c.loop-number.number < length c.loop-number.reached.states = search rules in
    let here : IsClosedAt (g.J.StateJudge.stands c.args.judge.now) (g.J.StateJudge.allows c.args.judge.now) (g.J.StateJudge.ends c.args.judge.now) c.go_on_all.new.self c.loop-number.number =
    rw c.in-Ok.is at c.in_ok-to.ensures.closed in
    let passed : c.in_ok-stop.field-0 ≡ None = search rules in
    let judged : AreJudged (g.J.StateJudge.stands c.args.judge.now) (g.J.StateJudge.good c.args.judge.now c.judge_at.new.workspace) c.loop-number.reached c.judge_at.new.judged = c.in_ok-stop.ensures.judged.0 in
    let start : c.go_on_all.new.self.parts.table.start ≡ c.loop-number.reached.parts.table.start = c.go_on_all.ensures.grown.parts.table.start in record {
      start = start ∙ c.loop-number.invariant.start;
      harts = c.go_on_all.ensures.grown.harts ∙ c.loop-number.invariant.harts;
      claims = c.go_on_all.ensures.grown.parts.claims ∙ c.loop-number.invariant.claims;
      covers = covers_at_kept (g.J.StateJudge.stands c.args.judge.now) c.loop-number.reached c.go_on_all.new.self 0
          (started c.args.reached.now.parts.table.start.program c.args.reached.now.parts.table.start.medium c.args.reached.now.harts)
          c.go_on_all.ensures.grown c.loop-number.invariant.covers;
      led = (rw c.in-Ok.is at c.in_ok-to.ensures.led) c.loop-number.invariant.led;
      closed = closed_next (g.J.StateJudge.stands c.args.judge.now) (g.J.StateJudge.allows c.args.judge.now) (g.J.StateJudge.ends c.args.judge.now) c.loop-number.reached c.go_on_all.new.self c.loop-number.number
          c.loop-number.invariant.closed there here c.go_on_all.ensures.still;
      judged = judged_kept (g.J.StateJudge.stands c.args.judge.now) (g.J.StateJudge.good c.args.judge.now c.judge_at.new.workspace) c.loop-number.reached c.go_on_all.new.self c.judge_at.new.judged _
          c.go_on_all.ensures.grown c.go_on_all.ensures.before.0 c.go_on_all.ensures.before.1 refl refl refl refl judged;
      before = omega (arith, c.in_ok-stop.ensures.good passed);
      asked = c.note.ensures.asked ∙ ap (λ (w : Ways). w.asked) c.judge_at.ensures.same.0 ∙ c.loop-number.invariant.asked;
      turns = λ asked.
          let was : c.judge_at.new.judged.ways.asked ≡ true = ap (λ (w : Ways). w.asked) c.judge_at.ensures.same.0 ∙ c.loop-number.invariant.asked ∙ asked in
          let before : c.judge_at.new.judged.ways.next.items ≡ c.loop-number.judged.ways.next.items = ap (λ (w : Ways). w.next.items) c.judge_at.ensures.same.0 in
          let noted : c.note.new.self.next.items ≡ c.loop-number.judged.ways.next.items ++ c.in-Ok.to ∷ [] = c.in_ok-note-in-Ok.ensures.noted was ∙ ap (λ (next : List (List ℕ)). next ++ c.in-Ok.to ∷ []) before in
          rw noted (turns_next (g.J.StateJudge.stands c.args.judge.now) (g.J.StateJudge.allows c.args.judge.now) c.loop-number.reached c.go_on_all.new.self c.loop-number.judged.ways.next.items
          c.loop-number.number c.in-Ok.to c.go_on_all.ensures.before.0 c.go_on_all.ensures.grown c.go_on_all.ensures.before.2 there (rw c.in-Ok.is at c.in_ok-to.ensures.turns) (c.loop-number.invariant.turns asked));
      within = omega (arith, within_kept c.loop-number.reached.states c.go_on_all.new.self.states c.loop-number.number c.go_on_all.ensures.grown.states there);
      limits = c.judge_at.ensures.same.1 ∙ c.loop-number.invariant.limits;
      known = known_kept (g.J.StateJudge.stands c.args.judge.now) (g.J.StateJudge.allows c.args.judge.now) (g.J.StateJudge.ends c.args.judge.now) c.loop-number.reached c.go_on_all.new.self _ _
          c.go_on_all.ensures.before.0 c.go_on_all.ensures.grown c.go_on_all.ensures.before.2 c.in_ok-stop.ensures.judged.1;
      fits = rw start c.judge_at.ensures.kept.0;
      kept = λ events full image good. c.judge_at.ensures.kept.1 events full image (c.loop-number.invariant.kept events full image good);
      told = c.tell.ensures c.args.watcher.now c.loop-number.invariant.told;
    }

pub judge_at-requires-clause-can : goal.judge_at-requires-clause-can
judge_at-requires-clause-can g c κs within = (
  record {
    happened = λ n there. happening (g.J.StateJudge.stands c.args.judge.now) (g.J.StateJudge.allows c.args.judge.now) (g.J.StateJudge.happens c.args.judge.now) c.loop-number.reached n c.loop-number.invariant.led
        (rw (c.loop-number.invariant.start, c.loop-number.invariant.harts) c.requires.given.1) there;
    claims = may_claim (g.J.StateJudge.allows c.args.judge.now) _ c.loop-number.reached.parts.claims (rw (sym c.loop-number.invariant.claims) at c.requires.reduced);
  },
  c.loop-number.invariant.fits,
)

pub go_on_all-requires-clause-claims : goal.go_on_all-requires-clause-claims
go_on_all-requires-clause-claims g c κs within = may_claim (g.J.StateJudge.allows c.args.judge.now) _ c.loop-number.reached.parts.claims
    (rw (sym c.loop-number.invariant.claims) at c.requires.reduced)

pub go_on_all-requires-clause-known : goal.go_on_all-requires-clause-known
go_on_all-requires-clause-known g c κs within = some_then _ _ c.of.result
    (λ turns at. known_of (g.J.StateJudge.stands c.args.judge.now) (g.J.StateJudge.allows c.args.judge.now) (g.J.StateJudge.ends c.args.judge.now) c.loop-number.reached _ c.loop-number.number _
    turns.now c.in_ok-stop.ensures.judged.1 at)
    c.of.ensures
