use Rattle.std.specs.Prelude.{IfSome}
use Rattle.std.proofs.Common.{◌≡◌, true, Option, Some, None, inr, subst, sym, rules}
use Rattle.std.proofs.lemmas.Option.{IfSome_then}
use Rattle.schedule_states.proofs.Watching.{heard_then}
use Rattle.schedule_states.specs.Ending.{AlwaysEnds}
use Rattle.schedule_states.specs.Exploring.{IfAll, IsFinal}
use Rattle.schedule_states.specs.Judging.{AlwaysGood}
use Rattle.schedule_states.specs.Watching.{nothing}
use Rattle.schedule_states.specs.declared.exploring.Explored.{Explored}
use Rattle.schedule_states.proofs.exploring.explore_claiming.Goals as goal

-- what a search has found alone is given
all_same : (found : Option Explored) (one : Explored) (claim : Type 0) → IfSome found (λ explored. (explored ≡ one) × IsFinal explored) → IfAll one claim →
    IfSome found (λ explored. IfAll explored claim)
all_same None one claim same is = tt
all_same (Some explored) one claim same is = subst (λ (e : Explored). IfAll e claim) (sym same.0) is

pub loop-guess-init : goal.loop-guess-init
loop-guess-init g c = record { fits = c.requires.fits; kept = λ events full image good. good; told = nothing }

pub returns-then-not-may_claim-clause-told : goal.returns-then-not-may_claim-clause-told
returns-then-not-may_claim-clause-told g c = nothing

pub returns-in_err-claims-clause-told : goal.returns-in_err-claims-clause-told
returns-in_err-claims-clause-told g c = nothing

pub explore_by-requires-clause-reduced : goal.explore_by-requires-clause-reduced
explore_by-requires-clause-reduced g c κs within =
    let allowed : c.may_claim.result ≡ true = search rules in
    inr (c.may_claim.ensures.free allowed, c.may_claim.ensures.ignored allowed)

pub loop-guess-preserved : goal.loop-guess-preserved
loop-guess-preserved g c = record {
  fits = c.explore_by.ensures.kept.0;
  kept = λ events full image good. c.explore_by.ensures.kept.1 events full image (c.loop-guess.invariant.kept events full image good);
  told = heard_then _ _ _ _ c.loop-guess.invariant.told c.explore_by.ensures.told;
}

pub returns-in_err-found-clause-kept : goal.returns-in_err-found-clause-kept
returns-in_err-found-clause-kept g c = (
  c.explore_by.ensures.kept.0,
  λ events full image good. c.explore_by.ensures.kept.1 events full image (c.loop-guess.invariant.kept events full image good),
)

pub returns-in_err-found-clause-told : goal.returns-in_err-found-clause-told
returns-in_err-found-clause-told g c = heard_then _ _ _ _ c.loop-guess.invariant.told c.explore_by.ensures.told

pub returns-in-None-clause-good : goal.returns-in-None-clause-good
returns-in-None-clause-good g c = all_same c.final_of.result c.in_ok-found.found (
    AlwaysGood (g.J.StateJudge.stands c.args.judge.now) (g.J.StateJudge.allows c.args.judge.now) (g.J.StateJudge.good c.args.judge.now c.explore_by.new.workspace) (g.J.StateJudge.ends c.args.judge.now)
    c.args.start.program.now c.args.start.medium.now c.args.start.harts
    × (g.J.StateJudge.demands c.args.judge.now → AlwaysEnds c.args.start.program.now c.args.start.medium.now c.args.start.harts)
    ) c.final_of.ensures c.in_ok-found.ensures.good

pub returns-in-None-clause-only : goal.returns-in-None-clause-only
returns-in-None-clause-only g c = IfSome_then c.final_of.result c.final_of.ensures (λ explored is. is.1)

pub returns-in-None-clause-kept : goal.returns-in-None-clause-kept
returns-in-None-clause-kept g c = (
  c.explore_by.ensures.kept.0,
  λ events full image good. c.explore_by.ensures.kept.1 events full image (c.loop-guess.invariant.kept events full image good),
)

pub returns-in-None-clause-told : goal.returns-in-None-clause-told
returns-in-None-clause-told g c = heard_then _ _ _ _ c.loop-guess.invariant.told c.explore_by.ensures.told
