-- What the opened branches of a moment say of its verdict.
use Rattle.std.proofs.Common.{◌≡◌, ℕ, ◌<◌, Bool, true, false, List, [], ◌∷◌, Option, Some, None, map, sym, subst, ◌∙◌, arith}
use Rattle.std.specs.List.{AllByRecursion}
use Rattle.verdict.specs.Branches.{AreOver, IsWithin}
use Rattle.verdict.specs.Branches as branches
use Rattle.verdict.specs.Numbers.{is_flagged, number_over}
use Rattle.crash_image.specs.Named.{IsNameOf}
use Rattle.store_trace.proofs.Lines.{Upwards, cut_from_within, number_in_within, upwards_stored_lines, within_from_cut}
use Rattle.store_trace.specs.Cut.{IsCut, number_in, numbered, stored_lines}
use Rattle.store_trace.specs.Cut as crash
use Rattle.store_trace.specs.Floor.{floor}
use Rattle.store_trace.specs.Stores.{stores}
use Rattle.store_trace.specs.declared.crash_model.step.PersistenceStep.{PersistenceStep}
use Rattle.text.specs.declared.image_name.name.ImageName.{ImageName}
use Rattle.verdict.proofs.Lists.{before_comes}
use Rattle.verdict.specs.Contents.{AreWidest}
use Rattle.verdict.specs.Edges.{AreOpen, AreTried, IsBadCut}
use Rattle.verdict.specs.Verdicts.{AreFlagged, AreGood, HasManyBranches, IsBad, IsLeastBad, IsMomentVerdict}
use Rattle.verdict.specs.declared.branches.question.Question.{Question}
use Rattle.verdict.specs.declared.moment_verdict.contents.LineContents.{LineContents}
use Rattle.verdict.specs.declared.moment_verdict.verdict.MomentVerdict.TheVariants as moments

-- what is found of a cut is found of each that gives the lines the same numbers
abbrev pub IsAlike : {Cause : Type 0} → ((ℕ → ℕ) → Option Cause → Type 0) → Type 0
IsAlike {Cause} found = (k c : ℕ → ℕ) (cause : Option Cause) → ((l : ℕ) → k l ≡ c l) → found c cause → found k cause

-- what holds of each cut by line holds of each cut
all_good : {Cause : Type 0} (found : (ℕ → ℕ) → Option Cause → Type 0) (p : List PersistenceStep) →
    ((k : ℕ → ℕ) → IsWithin (λ l. floor l p) (λ l. stores l p) k → found k None) → AreGood found p
all_good found p h cut c =
    let w = within_from_cut p cut c in
    h (number_in cut) (record { least = w.low; most = w.high })

-- the least bad cut by line is the least bad cut
least_cut : {Cause : Type 0} (found : (ℕ → ℕ) → Option Cause → Type 0) (p : List PersistenceStep) (c : ℕ → ℕ) (cause : Cause) → IsAlike found →
    branches.IsLeastBad (λ l. floor l p) (λ l. stores l p) found c cause → IsLeastBad found p (numbered c (stored_lines p)) cause
least_cut found p c cause alike l =
    let inside : crash.IsWithin p c = record { low = l.within.least; high = l.within.most } in
    let cut = numbered c (stored_lines p) in
    let there : IsCut p cut = cut_from_within p c inside in
    record {
      there = there;
      bad = alike (number_in cut) c (Some cause) (number_in_within p c inside) l.bad;
      least = λ other o b.
          let w = within_from_cut p other o in
          let up : Upwards 0 (map (λ e. e.0) other) = subst (λ (ls : List ℕ). Upwards 0 ls) (sym o.lines) (upwards_stored_lines p) in
          let comes = before_comes 0 other cut (o.lines ∙ sym there.lines) up b in
          let here : number_in cut comes.line ≡ c comes.line = number_in_within p c inside comes.line in
          l.least (number_in other) (record { least = w.low; most = w.high })
          (record {
            line = comes.line;
            lower = omega (arith, comes.lower, here);
            same = λ m less. comes.same m less ∙ number_in_within p c inside m;
          });
    }

-- the verdict where there are too many branches, where each cut passes, and where one is bad
pub over_moment : (alike : Question → ℕ → ℕ → Bool) (asks : (ℕ → ℕ) → List Question → Type 0) (low high : ℕ → ℕ) (p : List PersistenceStep) → low ≡ (λ l. floor l p) → high ≡ (λ l. stores l p) →
    AreOver alike asks low high 65536 → HasManyBranches alike asks p
over_moment alike asks low high p f s h =
    subst (λ (g : ℕ → ℕ). AreOver alike asks (λ l. floor l p) g 65536) s (subst (λ (g : ℕ → ℕ). AreOver alike asks g high 65536) f h)

pub few_moment : (alike : Question → ℕ → ℕ → Bool) (asks : (ℕ → ℕ) → List Question → Type 0) (low high : ℕ → ℕ) (p : List PersistenceStep) → low ≡ (λ l. floor l p) → high ≡ (λ l. stores l p) →
    ¬ AreOver alike asks low high 65536 → ¬ HasManyBranches alike asks p
few_moment alike asks low high p f s few over =
    few (subst (λ (g : ℕ → ℕ). AreOver alike asks g high 65536) (sym f) (subst (λ (g : ℕ → ℕ). AreOver alike asks (λ l. floor l p) g 65536) (sym s) over))

pub pass_moment : {Cause : Type 0} (further : Bool) (alike : Question → ℕ → ℕ → Bool) (asks : (ℕ → ℕ) → List Question → Type 0) (found : (ℕ → ℕ) → Option Cause → Type 0) (low high : ℕ → ℕ) (p : List PersistenceStep) →
    low ≡ (λ l. floor l p) → high ≡ (λ l. stores l p) → ¬ AreOver alike asks low high 65536 → ((k : ℕ → ℕ) → IsWithin low high k → found k None) →
    IsMomentVerdict further alike asks found p moments.Pass
pass_moment further alike asks found low high p f s few h = (
  few_moment alike asks low high p f s few,
  all_good found p (λ k w. h k
      (subst (λ (g : ℕ → ℕ). IsWithin g high k) (sym f) (subst (λ (g : ℕ → ℕ). IsWithin (λ l. floor l p) g k) (sym s) w))),
)

-- and the lines that recovery asks
pub flags_moment : (asks : (ℕ → ℕ) → List Question → Type 0) (low high : ℕ → ℕ) (p : List PersistenceStep) (flags : List Bool) → low ≡ (λ l. floor l p) →
    high ≡ (λ l. stores l p) → ((k : ℕ → ℕ) → IsWithin low high k → (questions : List Question) → asks k questions → AllByRecursion (λ q. is_flagged q.line flags ≡ true) questions) →
    AreFlagged asks p flags
flags_moment asks low high p flags f s h = λ k w. h k
    (subst (λ (g : ℕ → ℕ). IsWithin g high k) (sym f) (subst (λ (g : ℕ → ℕ). IsWithin (λ l. floor l p) g k) (sym s) w))

-- the least bad cut stands within its bounds
pub bad_within : {Cause : Type 0} (found : (ℕ → ℕ) → Option Cause → Type 0) (low high : ℕ → ℕ) (p : List PersistenceStep) (numbers : List ℕ) (cause : Cause) →
    low ≡ (λ l. floor l p) → high ≡ (λ l. stores l p) → branches.IsLeastBad low high found (number_over low numbers) cause →
    branches.IsLeastBad (λ l. floor l p) (λ l. stores l p) found (number_over (λ l. floor l p) numbers) cause
bad_within found low high p numbers cause f s least =
    subst (λ (g : ℕ → ℕ). branches.IsLeastBad (λ l. floor l p) g found (number_over (λ l. floor l p) numbers) cause) s
    (subst (λ (g : ℕ → ℕ). branches.IsLeastBad g high found (number_over g numbers) cause) f least)

pub fail_moment : {Cause : Type 0} (further : Bool) (alike : Question → ℕ → ℕ → Bool) (asks : (ℕ → ℕ) → List Question → Type 0) (found : (ℕ → ℕ) → Option Cause → Type 0) (low high : ℕ → ℕ) (p : List PersistenceStep)
    (numbers table : List ℕ) (name : ImageName) (cause : Cause) → low ≡ (λ l. floor l p) → high ≡ (λ l. stores l p) → table ≡ numbers → IsAlike found →
    ¬ AreOver alike asks low high 65536 → branches.IsLeastBad low high found (number_over low numbers) cause →
    IsNameOf p (numbered (number_over (λ l. floor l p) table) (stored_lines p)) name → IsMomentVerdict further alike asks found p (moments.Fail name cause false)
fail_moment further alike asks found low high p numbers table name cause f s t same few least named = (
  few_moment alike asks low high p f s few,
  (
    numbered (number_over (λ l. floor l p) numbers) (stored_lines p),
    subst (λ (ns : List ℕ). IsNameOf p (numbered (number_over (λ l. floor l p) ns) (stored_lines p)) name) t named,
    least_cut found p (number_over (λ l. floor l p) numbers) cause same (bad_within found low high p numbers cause f s least),
  ),
)

-- a bad cut by line is a bad cut
bad_cut : {Cause : Type 0} (found : (ℕ → ℕ) → Option Cause → Type 0) (p : List PersistenceStep) (numbers : List ℕ) (cause : Cause) → IsAlike found →
    IsBadCut found (λ l. floor l p) (λ l. stores l p) numbers cause → IsBad found p (numbered (number_over (λ l. floor l p) numbers) (stored_lines p)) cause
bad_cut found p numbers cause alike b =
    let c : ℕ → ℕ = number_over (λ l. floor l p) numbers in
    let inside : crash.IsWithin p c = record { low = b.within.least; high = b.within.most } in
    let cut = numbered c (stored_lines p) in (
      cut_from_within p c inside,
      alike (number_in cut) c (Some cause) (number_in_within p c inside) b.bad,
    )

pub bad_moment : {Cause : Type 0} (further : Bool) (alike : Question → ℕ → ℕ → Bool) (asks : (ℕ → ℕ) → List Question → Type 0) (found : (ℕ → ℕ) → Option Cause → Type 0) (low high : ℕ → ℕ) (p : List PersistenceStep)
    (numbers table : List ℕ) (name : ImageName) (cause : Cause) → low ≡ (λ l. floor l p) → high ≡ (λ l. stores l p) → table ≡ numbers → IsAlike found →
    AreOver alike asks low high 65536 → further ≡ true → IsBadCut found low high numbers cause →
    IsNameOf p (numbered (number_over (λ l. floor l p) table) (stored_lines p)) name → IsMomentVerdict further alike asks found p (moments.Fail name cause true)
bad_moment further alike asks found low high p numbers table name cause f s t same over u bad named = (
  over_moment alike asks low high p f s over,
  u,
  (
    numbered (number_over (λ l. floor l p) numbers) (stored_lines p),
    subst (λ (ns : List ℕ). IsNameOf p (numbered (number_over (λ l. floor l p) ns) (stored_lines p)) name) t named,
    bad_cut found p numbers cause same (subst (λ (g : ℕ → ℕ). IsBadCut found (λ l. floor l p) g numbers cause) s (subst (λ (g : ℕ → ℕ). IsBadCut found g high numbers cause) f bad)),
  ),
)

-- no image that was tried is bad
pub many_moment : {Cause : Type 0} (further : Bool) (alike : Question → ℕ → ℕ → Bool) (asks : (ℕ → ℕ) → List Question → Type 0) (found : (ℕ → ℕ) → Option Cause → Type 0) (low high : ℕ → ℕ) (p : List PersistenceStep)
    (lines table : List ℕ) (named : List LineContents) → low ≡ (λ l. floor l p) → high ≡ (λ l. stores l p) → table ≡ lines →
    AreOver alike asks low high 65536 → further ≡ true → AreTried asks found low high lines → AreWidest alike low high table named →
    IsMomentVerdict further alike asks found p (moments.TooMany (Some named))
many_moment further alike asks found low high p lines table named f s t over u tried widest = (
  over_moment alike asks low high p f s over,
  u,
  (
    lines,
    subst (λ (g : ℕ → ℕ). AreTried asks found (λ l. floor l p) g lines) s (subst (λ (g : ℕ → ℕ). AreTried asks found g high lines) f tried),
    subst (λ (g : ℕ → ℕ). AreWidest alike (λ l. floor l p) g lines named) s
        (subst (λ (g : ℕ → ℕ). AreWidest alike g high lines named) f (subst (λ (ls : List ℕ). AreWidest alike low high ls named) t widest)),
  ),
)

-- a line that is past its floor is below so many
pub below_of : (low high : ℕ → ℕ) (count : ℕ) (lines : List ℕ) → AreOpen low high count lines → AllByRecursion (λ l. l < count) lines
below_of low high count [] past = tt
below_of low high count (l ∷ lines) past = (past.0.0, below_of low high count lines past.1)
