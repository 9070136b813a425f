use Rattle.std.proofs.Common.{sym, ◌∙◌}
use Rattle.schedule_states.specs.Watching.{nothing}
use Rattle.schedule_states.proofs.exploring.explore_by.Goals as goal

pub returns-in_err-origin-clause-told : goal.returns-in_err-origin-clause-told
returns-in_err-origin-clause-told g c = nothing

pub returns-in_err-parts-clause-told : goal.returns-in_err-parts-clause-told
returns-in_err-parts-clause-told g c = nothing

pub returns-clause-good : goal.returns-clause-good
returns-clause-good g c = rw (c.with_none-reached.ensures, c.in_ok-parts.ensures.start, c.in_ok-origin.ensures.program, c.in_ok-origin.ensures.medium) at c.explore_from.ensures.good

pub returns-clause-requests : goal.returns-clause-requests
returns-clause-requests g c = rw (c.with_none-reached.ensures, c.in_ok-parts.ensures.start, c.in_ok-origin.ensures.program, c.in_ok-origin.ensures.medium, c.in_ok-parts.ensures.claims) at c.explore_from.ensures.requests

pub explore_from-requires-clause-given : goal.explore_from-requires-clause-given
explore_from-requires-clause-given g c κs within = rw (c.with_none-reached.ensures, c.in_ok-parts.ensures.start, c.in_ok-origin.ensures.program, c.in_ok-origin.ensures.medium) (
  c.requires.fits,
  c.requires.happens,
  record {
    asks = λ demanded. c.new-judged.ensures.ways.0 ∙ c.must_end.ensures.demanded demanded;
    free = λ asked. c.must_end.ensures.free (sym c.new-judged.ensures.ways.0 ∙ asked);
  },
)

pub returns-clause-kept : goal.returns-clause-kept
returns-clause-kept g c = rw (c.with_none-reached.ensures, c.in_ok-parts.ensures.start, c.in_ok-origin.ensures.medium) at c.explore_from.ensures.kept

pub explore_from-requires-clause-reduced : goal.explore_from-requires-clause-reduced
explore_from-requires-clause-reduced g c κs within = rw (c.with_none-reached.ensures, c.in_ok-parts.ensures.claims) c.requires.reduced
