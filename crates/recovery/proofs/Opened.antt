-- What a run on one image of a box says of the others of its part, and what cuts leave of these.
use Rattle.std.proofs.Common.{◌≡◌, ℕ, zero, suc, ◌+◌, ◌<◌, ◌≤◌, Bool, List, [], ◌∷◌, ◌++◌, Option, Result, Ok, length, get_or, refl, sym, ap, subst, ◌∙◌, arith}
use Rattle.std.specs.Prelude.{IfSome, take}
use Rattle.std.specs.List.{AllByRecursion}
use Rattle.std.proofs.lemmas.List.{take_more}
use Rattle.std.proofs.lemmas.List.Elements.{All-contains}
use Rattle.line_memory.specs.Lines.{AreLines, line_at}
use Rattle.program.specs.Sections.{Sections}
use Rattle.store_trace.specs.Cut.{IsWithin}
use Rattle.store_trace.specs.History.{at_moment, history, steps_of}
use Rattle.store_trace.specs.Image.{image}
use Rattle.store_trace.specs.declared.crash_model.step.PersistenceStep.{PersistenceStep}
use Rattle.store_trace.specs.declared.crash_model.step.PersistenceStep.TheVariants as steps
use Rattle.store_trace.specs.declared.event.Event.{Event}
use Rattle.store_trace.specs.declared.event.Event.TheVariants.{Store, Clean, Fence, Begin, End}
use Rattle.machine.proofs.SharedMemoryStepping.{history_more}
use Rattle.machine.specs.Replies.{trace_in, trace_of}
use Rattle.machine.specs.Run.{Config, started}
use Rattle.machine.specs.declared.shared_memory.history.Entry.{Entry}
use Rattle.recovery.proofs.Boxed.{cut_is_left, left_grows, left_is_cut}
use Rattle.recovery.proofs.Limited.{ends_once, runs_alike}
use Rattle.recovery.proofs.Parted.{part_agrees}
use Rattle.recovery.specs.Answers.{answer}
use Rattle.recovery.specs.Asking.{asked}
use Rattle.recovery.specs.Boxes.{AreWhole, IsIn, IsNoFence, left_of, part_of}
use Rattle.recovery.specs.Cuts.{AnswersWell, IsCutOf, shown_at}
use Rattle.recovery.specs.Parts.{IsOpenedBy, part_by}
use Rattle.recovery.specs.Recovery.{RunsFor}
use Rattle.recovery.specs.declared.recovery_run.Cause.{Cause}

-- images of a box are of whole lines
line_whole : (l : ℕ) (box : List (List (List ℕ))) (image : List (List ℕ)) → AreWhole box → IsIn box image → l < length image → length (line_at image l) ≡ 64
line_whole l [] [] w h there = absurd (omega (arith, there))
line_whole l [] (line ∷ image) w h there = absurd h
line_whole l (contents ∷ box) [] w h there = absurd h
line_whole zero (contents ∷ box) (line ∷ image) w h there = All-contains (λ bytes. length bytes ≡ 64) contents line w.0 h.0
line_whole (suc l) (contents ∷ box) (line ∷ image) w h there = line_whole l box image w.1 h.1 (omega (arith, there))

pub whole_in : (box : List (List (List ℕ))) (image : List (List ℕ)) → AreWhole box → IsIn box image → AreLines image
whole_in box image w h = record { whole = λ l there. line_whole l box image w h there }

pub length_in : (box : List (List (List ℕ))) (image : List (List ℕ)) → IsIn box image → length box ≡ length image
length_in [] [] h = refl
length_in [] (line ∷ image) h = absurd h
length_in (contents ∷ box) [] h = absurd h
length_in (contents ∷ box) (line ∷ image) h = ap suc (length_in box image h.1)

-- the run on another image of the part
pub record IsSameRun (program : Sections) (steps : ℕ) (other : List (List ℕ)) (events : List Event) (found : Result (List ℕ) Cause) : Type 0 where
  pub end : Config
  pub full : Bool
  pub runs : RunsFor (started program other 1) steps end full
  pub traces : trace_in end.common ≡ events
  pub comes : answer end full ≡ found

pub part_runs : (program : Sections) (steps : ℕ) (box : List (List (List ℕ))) (image other : List (List ℕ)) (end : Config) (full : Bool) → AreWhole box → IsIn box image
    → RunsFor (started program image 1) steps end full → AllByRecursion (λ q. q.line < length box) (asked end.common.history)
    → IsIn (part_of box image (asked end.common.history)) other → IsSameRun program steps other (trace_in end.common) (answer end full)
part_runs program steps box image other end full w here x below h =
    let p = part_agrees box image other (asked end.common.history) below h in
    let same : length other ≡ length image = sym (length_in box other p.0) ∙ length_in box image here in
    let r = runs_alike program image other steps end full (whole_in box image w here) (whole_in box other w p.0) same x p.1 in record {
      end = r.0;
      full = full;
      runs = r.1;
      traces = ap (λ (h : List Entry). trace_of h) r.2.history;
      comes = r.3;
    }

-- a cut over such a run leaves an image of the box that is left of the part
pub record LiesIn (part : List (List (List ℕ))) (events : List Event) (found : Result (List ℕ) Cause) (earlier : Option (List ℕ)) (left : List (List ℕ)) (shown : Option (List ℕ)) : Type 0 where
  pub moment : ℕ
  pub there : moment ≤ length events
  pub inside : IsIn (left_of (at_moment events moment) part) left
  pub shows : shown ≡ shown_at moment (length events) found earlier

pub cut_lies : (program : Sections) (steps : ℕ) (part : List (List (List ℕ))) (other : List (List ℕ)) (events : List Event) (found : Result (List ℕ) Cause)
    (earlier : Option (List ℕ)) (left : List (List ℕ)) (shown : Option (List ℕ)) → IsSameRun program steps other events found → IsIn part other
    → IsCutOf program steps other earlier left shown → LiesIn part events found earlier left shown
cut_lies program steps part other events found earlier left shown r h c =
    let one = ends_once (started program other 1) r.end c.end steps r.full c.full r.runs c.runs in
    let traces : trace_in c.end.common ≡ events = ap (λ (end : Config). trace_in end.common) one.0 ∙ r.traces in
    let comes : answer c.end c.full ≡ found =
    ap (λ (end : Config). answer end c.full) one.0 ∙ ap (λ (full : Bool). answer r.end full) one.1 ∙ r.comes in record {
      moment = c.moment;
      there = subst (λ (es : List Event). c.moment ≤ length es) traces c.there;
      inside = subst (λ (es : List Event). IsIn (left_of (at_moment es c.moment) part) left) traces
          (subst (λ (lines : List (List ℕ)). IsIn (left_of (at_moment (trace_in c.end.common) c.moment) part) lines) (sym c.leaves)
          (cut_is_left (at_moment (trace_in c.end.common) c.moment) part other c.cut c.within h));
      shows = c.shows ∙ ap (λ (es : List Event). shown_at c.moment (length es) (answer c.end c.full) earlier) traces
          ∙ ap (λ (f : Result (List ℕ) Cause). shown_at c.moment (length events) f earlier) comes;
    }

-- and each image of that box is left by one
pub record IsLeftOf (program : Sections) (steps : ℕ) (part : List (List (List ℕ))) (earlier : Option (List ℕ)) (left : List (List ℕ)) (shown : Option (List ℕ)) : Type 0 where
  pub source : List (List ℕ)
  pub inside : IsIn part source
  pub made : IsCutOf program steps source earlier left shown

pub cut_is_made : (program : Sections) (steps : ℕ) (part : List (List (List ℕ))) (events : List Event) (found : Result (List ℕ) Cause) (earlier : Option (List ℕ)) (moment : ℕ)
    (left : List (List ℕ)) → ((other : List (List ℕ)) → IsIn part other → IsSameRun program steps other events found) → moment ≤ length events
    → IsIn (left_of (at_moment events moment) part) left → IsLeftOf program steps part earlier left (shown_at moment (length events) found earlier)
cut_is_made program steps part events found earlier moment left runs there h =
    let c = left_is_cut (at_moment events moment) part left h in
    let r = runs c.lines c.inside in record {
      source = c.lines;
      inside = c.inside;
      made = record {
        end = r.end;
        full = r.full;
        runs = r.runs;
        moment = moment;
        there = subst (λ (es : List Event). moment ≤ length es) (sym r.traces) there;
        cut = c.cut;
        within = subst (λ (es : List Event). IsWithin (at_moment es moment) c.cut) (sym r.traces) c.within;
        leaves = c.leaves ∙ ap (λ (es : List Event). image c.lines c.cut (at_moment es moment)) (sym r.traces);
        shows = ap (λ (es : List Event). shown_at moment (length es) found earlier) (sym r.traces)
            ∙ ap (λ (f : Result (List ℕ) Cause). shown_at moment (length (trace_in r.end.common)) f earlier) (sym r.comes);
      };
    }

-- an event that isn't a fence takes no image away
event_grows : (p : List PersistenceStep) (box : List (List (List ℕ))) (event : Event) (left : List (List ℕ)) → IsNoFence event → IsIn (left_of p box) left
    → IsIn (left_of ((steps_of event ++ []) ++ p) box) left
event_grows p box (Store h l o w v) left n i = left_grows (steps.Store l o w v) p box left tt i
event_grows p box (Clean h l) left n i = left_grows (steps.Clean h l) p box left tt i
event_grows p box (Fence h) left n i = absurd n
event_grows p box (Begin h op) left n i = i
event_grows p box (End h op) left n i = i

pub moment_grows : (events : List Event) (moment : ℕ) (d : Event) (box : List (List (List ℕ))) (left : List (List ℕ)) → moment < length events
    → IsNoFence (get_or events moment d) → IsIn (left_of (at_moment events moment) box) left → IsIn (left_of (at_moment events (moment + 1)) box) left
moment_grows events moment d box left there no_fence h =
    let next : at_moment events (moment + 1) ≡ (steps_of (get_or events moment d) ++ []) ++ at_moment events moment =
    ap (λ (es : List Event). history es) (take_more events moment d there) ∙ history_more (take moment events) (get_or events moment d ∷ []) in
    rw next (event_grows (at_moment events moment) box (get_or events moment d) left no_fence h)

-- all of that in terms of the run on one image
pub part_has_run : (program : Sections) (steps : ℕ) (box : List (List (List ℕ))) (image other : List (List ℕ)) (end : Config) (full : Bool)
    → IsOpenedBy program steps box image end full → IsIn (part_by box image end) other
    → (e : Config) × (f : Bool) × RunsFor (started program other 1) steps e f × (trace_in e.common ≡ trace_in end.common) × (answer e f ≡ answer end full)
part_has_run program steps box image other end full o h =
    let r = part_runs program steps box image other end full o.whole o.inside o.runs o.below h in (r.end, r.full, r.runs, r.traces, r.comes)

pub part_lies : (program : Sections) (steps : ℕ) (box : List (List (List ℕ))) (image other : List (List ℕ)) (end : Config) (full : Bool) (earlier : Option (List ℕ))
    (left : List (List ℕ)) (shown : Option (List ℕ)) → IsOpenedBy program steps box image end full → IsIn (part_by box image end) other
    → IsCutOf program steps other earlier left shown
    → (moment : ℕ) × (moment ≤ length (trace_in end.common)) × IsIn (left_of (at_moment (trace_in end.common) moment) (part_by box image end)) left
    × (shown ≡ shown_at moment (length (trace_in end.common)) (answer end full) earlier)
part_lies program steps box image other end full earlier left shown o h c =
    let r = part_runs program steps box image other end full o.whole o.inside o.runs o.below h in
    let i = cut_lies program steps (part_by box image end) other (trace_in end.common) (answer end full) earlier left shown r h c in
    (i.moment, i.there, i.inside, i.shows)

pub part_made : (program : Sections) (steps : ℕ) (box : List (List (List ℕ))) (image : List (List ℕ)) (end : Config) (full : Bool) (earlier : Option (List ℕ))
    (moment : ℕ) (left : List (List ℕ)) → IsOpenedBy program steps box image end full → moment ≤ length (trace_in end.common)
    → IsIn (left_of (at_moment (trace_in end.common) moment) (part_by box image end)) left
    → (other : List (List ℕ)) × IsIn (part_by box image end) other
    × IsCutOf program steps other earlier left (shown_at moment (length (trace_in end.common)) (answer end full) earlier)
part_made program steps box image end full earlier moment left o there h =
    let c = cut_is_made program steps (part_by box image end) (trace_in end.common) (answer end full) earlier moment left
    (λ other i. part_runs program steps box image other end full o.whole o.inside o.runs o.below i) there h in
    (c.source, c.inside, c.made)

-- the answer of the run is that of each image of the part
pub part_answers : (program : Sections) (steps : ℕ) (box : List (List (List ℕ))) (image other : List (List ℕ)) (end : Config) (full : Bool) (right : List ℕ → Type 0)
    (bytes : List ℕ) (shown : Option (List ℕ)) → IsOpenedBy program steps box image end full → answer end full ≡ Ok bytes → right bytes
    → IfSome shown (λ was. bytes ≡ was) → IsIn (part_by box image end) other → AnswersWell program steps right other shown
part_answers program steps box image other end full right bytes shown o found is stays h =
    let r = part_runs program steps box image other end full o.whole o.inside o.runs o.below h in record {
      bytes = bytes;
      answers = record { end = r.end; full = r.full; runs = r.runs; comes = sym (r.comes ∙ found) };
      is_right = is;
      stays = stays;
    }
