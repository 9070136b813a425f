-- Chains of power cuts, as they are made.
use Rattle.std.proofs.Common.{◌≡◌, ◌∙◌, ℕ, ◌+◌, List, [], ◌∷◌, ◌++◌, length, Option, Some, None, Result, sym, ap, subst}
use Rattle.std.proofs.lemmas.List.{length-append}
use Rattle.machine.specs.Replies.{trace_in}
use Rattle.program.specs.Sections.{Sections}
use Rattle.recovery.specs.Cuts.{shown_at}
use Rattle.recovery.specs.Routine.{RecoversWith}
use Rattle.recovery.specs.declared.recovery_run.Cause as run
use Rattle.recovery.specs.declared.routine.TracedRun.{TracedRun}
use Rattle.std.specs.Prelude.{IfSome}
use Rattle.routine_judge.proofs.EventLines.{run_names_lines}
use Rattle.routine_judge.specs.ChainCuts.{IsCutOver, IsFurther}
use Rattle.routine_judge.specs.Chains.{BeginsAt, IsBadChain, IsCutIn, LeadsTo}
use Rattle.routine_judge.specs.Gathered.{AreAnswers}
use Rattle.routine_judge.specs.RightAnswers.{IsSource, Source}
use Rattle.routine_judge.specs.CutVerdicts.{IsImageAt}
use Rattle.routine_judge.specs.Views.{JudgeView}
use Rattle.routine_judge.specs.declared.cuts.chain.Chain.{Chain}
use Rattle.routine_judge.specs.declared.cuts.chain.ChainSoFar.{ChainSoFar}
use Rattle.routine_judge.specs.declared.right.RightAnswers.{RightAnswers}
use Rattle.routine_judge.specs.declared.cuts.chain.FurtherCut.{FurtherCut}
use Rattle.routine_judge.specs.declared.cuts.outcome.ChainLink.{ChainLink}
use Rattle.crash_image.specs.View.{HasLines}
use Rattle.store_trace.proofs.Images.{length_image}
use Rattle.store_trace.specs.Cut.{number_in}
use Rattle.store_trace.specs.History.{at_moment}
use Rattle.store_trace.specs.declared.event.Event.{Event}
use Rattle.text.specs.declared.image_name.name.ImageName.{ImageName}
use Rattle.verdict.specs.declared.branches.question.Question.{Question}

-- an image has as many lines as the medium that was stored to
pub image_size : (medium : List (List ℕ)) (events : List Event) (m : ℕ) (name : ImageName) (left : List (List ℕ)) → IsImageAt medium events m name left
    → length left ≡ length medium
image_size medium events m name left at =
    ap (λ (lines : List (List ℕ)). length lines) at.leaves ∙ length_image medium (number_in at.cut) (at_moment events m)

pub further_size : (program : Sections) (steps : ℕ) (old new : ChainSoFar) → IsFurther program steps old new → length new.image ≡ length old.image
further_size program steps old new f = image_size old.image (trace_in f.cut_in.end.common) f.link.moment f.link.image new.image f.cut_in.image_at

-- the program's cut alone
pub program_cut : (view : JudgeView) (medium : List (List ℕ)) (events : List Event) (m : ℕ) (name : ImageName) (left : List (List ℕ)) (links : List ChainLink)
    → medium ≡ view.start → events ≡ view.events → links ≡ record { moment = m; image = name } ∷ [] → IsImageAt medium events m name left → LeadsTo view links left None
program_cut view medium events m name left links start own one at =
    subst (λ (ls : List ChainLink). LeadsTo view ls left None) (sym one)
    (LeadsTo.in_program (record { moment = m; image = name }) left
    (subst (λ (lines : List (List ℕ)). IsImageAt lines view.events m name left) start (subst (λ (es : List Event). IsImageAt medium es m name left) own at)))

-- where a chain begins
pub begins_more : (m cuts : ℕ) (links : List ChainLink) (link : ChainLink) → BeginsAt m cuts links → BeginsAt m (cuts + 1) (links ++ link ∷ [])
begins_more m cuts [] link b = absurd b
begins_more m cuts (first ∷ rest) link b = (b.0, length-append rest (link ∷ []) ∙ ap (λ (n : ℕ). n + 1) b.1)

pub begins_further : (m cuts : ℕ) (program : Sections) (steps : ℕ) (old new : ChainSoFar) → IsFurther program steps old new → BeginsAt m cuts old.links.items
    → BeginsAt m (cuts + 1) new.links.items
begins_further m cuts program steps old new f b =
    subst (λ (links : List ChainLink). BeginsAt m (cuts + 1) links) (sym f.longer) (begins_more m cuts old.links.items f.link b)

-- where it leads
pub leads_further : (view : JudgeView) (program : Sections) (steps : ℕ) (old new : ChainSoFar) → program ≡ view.routine → steps ≡ view.steps → IsFurther program steps old new
    → LeadsTo view old.links.items old.image old.shown → LeadsTo view new.links.items new.image new.shown
leads_further view program steps old new e f further leads =
    let cut = subst (λ (p : Sections). IsCutIn p view.steps old.image old.shown further.link new.image new.shown) e
    (subst (λ (n : ℕ). IsCutIn program n old.image old.shown further.link new.image new.shown) f further.cut_in) in
    subst (λ (links : List ChainLink). LeadsTo view links new.image new.shown) (sym further.longer)
    (LeadsTo.in_recovery old.links.items further.link old.image new.image old.shown new.shown leads cut)

-- a cut of a run on what a chain leaves
pub cut_of_run : (program : Sections) (steps : ℕ) (questions : List Question) (chain : ChainSoFar) (traced : TracedRun) (cut : FurtherCut)
    → RecoversWith program chain.image steps questions traced.trace.events traced.found → IsCutOver chain traced cut
    → IsCutIn program steps chain.image chain.shown cut.link cut.image cut.shown
cut_of_run program steps questions chain traced cut r over = record {
  end = r.end;
  full = r.full;
  runs = r.runs;
  image_at = subst (λ (es : List Event). IsImageAt chain.image es cut.link.moment cut.link.image cut.image) r.traces over.image_at;
  shows = over.shows ∙ ap (λ (es : List Event). shown_at cut.link.moment (length es) traced.found chain.shown) r.traces
      ∙ ap (λ (f : Result (List ℕ) run.Cause). shown_at cut.link.moment (length (trace_in r.end.common)) f chain.shown) r.comes;
}

pub run_lines : (program : Sections) (image : List (List ℕ)) (steps : ℕ) (questions : List Question) (events : List Event) (found : Result (List ℕ) run.Cause)
    → RecoversWith program image steps questions events found → HasLines image events
run_lines program image steps questions events found r =
    subst (λ (es : List Event). HasLines image es) (sym r.traces) (run_names_lines program image steps r.end r.full r.runs)

-- by the source of the moment's right answers
pub some_chain : (view : JudgeView) (m : ℕ) (right : RightAnswers) (found : Option Chain) (source : Source) → IsSource view m source → AreAnswers view source right
    → IfSome found (λ chain. (other : Source) → IsSource view m other → AreAnswers view other right → IsBadChain view m chain.links.items chain.cause)
    → IfSome found (λ chain. IsBadChain view m chain.links.items chain.cause)
some_chain view m right None source is are all = tt
some_chain view m right (Some chain) source is are all = all source is are
