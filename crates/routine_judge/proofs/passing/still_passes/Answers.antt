-- The event between the two moments keeps the pass.
use Rattle.std.proofs.Common.{◌≡◌, ℕ, ◌+◌, ◌<◌, List, length, get_or, None, ap, subst, arith}
use Rattle.store_trace.specs.Marks.{begun_by, ended_by}
use Rattle.routine_judge.proofs.Keeping.{kept_next}
use Rattle.routine_judge.proofs.Lasting.{right_window_next}
use Rattle.routine_judge.proofs.Sourcing.{basis_next}
use Rattle.verdict.proofs.CutLines.{images_whole}
use Rattle.verdict.specs.CutImages.{AreMedia}
use Rattle.routine_judge.specs.Standing.{IsPassed}
use Rattle.routine_judge.specs.Views.{JudgeView}
use Rattle.verdict.specs.Keeping.{IsUnseen}
use Rattle.store_trace.specs.declared.event.Event.{Event}
use Rattle.store_trace.specs.declared.event.Event.TheVariants.{Fence}
use Rattle.routine_judge.proofs.passing.still_passes.Goals as goal

pub returns-then-stays : goal.returns-then-stays
returns-then-stays c = λ quiet.
    let i = c.run.inside in
    let view = c.args.run.now in
    let flags = c.args.opener.now in
    let last = c.in-Some.last in
    let d : Event = Fence 0 in
    let events : i.trace.now.events ≡ view.events = ap (λ (v : JudgeView). v.events) c.run.view_is in
    let next : last + 1 ≡ c.args.moment = omega arith in
    let there : last < length view.events = omega arith in
    let passed : IsPassed view flags c.args.window last = rw c.in-Some.is at c.requires.passed in
    let stays = c.stays.ensures c.if-stays.true in
    let unseen = subst (λ (es : List Event). IsUnseen flags (get_or es last d)) events (c.is_quiet_at.ensures.unseen quiet d) in
    let begins = subst (λ (es : List Event). begun_by (get_or es last d) ≡ None) events (c.is_quiet_at.ensures.begins quiet d) in
    let ends = subst (λ (es : List Event). ended_by (get_or es last d) ≡ None) events (c.is_quiet_at.ensures.ends quiet d) in
    let basis = basis_next view.right view c.args.window last (last + 1)
    (right_window_next view last d (record { there = there; none_begins = begins; none_ends = ends }) c.args.window
    (λ window. c.windows_stay_between_marks.ensures view.events last d window there begins ends)) passed.is_basis in
    let whole : (m : ℕ) → AreMedia view.start view.events m = λ m.
    subst (λ (v : JudgeView). AreMedia v.start v.events m) c.run.view_is (images_whole i.medium.now i.trace.now.events m c.run.invariant.4 c.run.invariant.5) in
    subst (λ (m : ℕ). IsPassed view flags c.args.window m) next
    (kept_next view last d flags c.args.window (whole last) (whole (last + 1)) there stays unseen begins ends basis passed)
