-- A step of a schedule comes to one end, and a step is refused for one reason.
use Rattle.std.proofs.Common.{◌≡◌, ℕ, List, [], ◌∷◌, Option, Some, None, slice_get, refl, sym, ap, ◌∙◌}
use Rattle.isa_table.specs.Table.{Spells}
use Rattle.isa_table.specs.declared.instruction.Instr.{Instr}
use Rattle.decode.specs.Decoding.{Decodes}
use Rattle.hart.specs.Needs.{IsSpelledBy, Needs, need_of}
use Rattle.hart.specs.declared.state.HartState.{HartState}
use Rattle.hart.specs.declared.state.Status.{Status}
use Rattle.hart.specs.declared.state.Status.TheVariants.{Running, Exited, Trapped}
use Rattle.hart.specs.declared.need.Need.{Need}
use Rattle.hart.specs.declared.need.Need.TheVariants.{Local, Ask, Stop}
use Rattle.machine.specs.declared.schedule.items.Step.{Step}
use Rattle.machine.specs.declared.schedule.items.Step.TheVariants.{Hart, Evict}
use Rattle.machine.specs.Run.{Config, Executes, HartSteps, HartStepsIfThere, Meets, RunsTo, StepsTo, after_request, fetched_by}

-- no word spells two instructions
spells_one : (w : ℕ) (o : Option Instr) (i j : Instr) → Decodes w o → Spells w i → Spells w j → i ≡ j
spells_one w o i j decodes a b =
    let e : Some i ≡ Some j = sym (decodes.all i a) ∙ decodes.all j b in cc

-- a word is decoded in one way
decoded_once : (w : ℕ) (o p : Option Instr) → Decodes w o → Decodes w p → o ≡ p
decoded_once w None None a b = refl
decoded_once w None (Some j) a b = a.all j (b.some j refl)
decoded_once w (Some i) p a b = sym (b.all i (a.some i refl))

pub needs_once : (s : HartState) (word : Option ℕ) (m n : Need) → Needs s word m → Needs s word n → m ≡ n
needs_once s None m n a b = a ∙ sym b
needs_once s (Some w) m n a b = a.2 ∙ ap (λ (o : Option Instr). need_of s o) (decoded_once w a.0 b.0 a.1 b.1) ∙ sym b.2

-- what a hart that asks spells
spelled_once : (s : HartState) (word : Option ℕ) (need : Need) (i j : Instr) → Needs s word need → IsSpelledBy word i → IsSpelledBy word j → i ≡ j
spelled_once s None need i j needs a b = absurd a
spelled_once s (Some w) need i j needs a b = spells_one w needs.0 i j needs.1 a b

meets_once : (c d e : Config) (h : ℕ) (s : HartState) (word : Option ℕ) (need : Need) → Needs s word need
    → Meets c h s word need d → Meets c h s word need e → d ≡ e
meets_once c d e h s word (Local after) needs a b = a ∙ sym b
meets_once c d e h s word (Stop trap) needs a b = a ∙ sym b
meets_once c d e h s word (Ask request) needs a b =
    a.2 ∙ ap (λ (i : Instr). after_request c h s i request) (spelled_once s word (Ask request) a.0 b.0 needs a.1 b.1) ∙ sym b.2

executes_once : (c d e : Config) (h : ℕ) (s : HartState) (word : Option ℕ) → Executes c h s word d → Executes c h s word e → d ≡ e
executes_once c d e h s word a b =
    let same : b.0 ≡ a.0 = needs_once s word b.0 a.0 b.1 a.1 in
    meets_once c d e h s word a.0 a.1 a.2 (rw same at b.2)

hart_steps_once : (c d e : Config) (h : ℕ) (s : HartState) (status : Status)
    → HartSteps c h s status d → HartSteps c h s status e → d ≡ e
hart_steps_once c d e h s Running a b = executes_once c d e h s (fetched_by c h s.pc) a b
hart_steps_once c d e h s (Exited code) a b = a ∙ sym b
hart_steps_once c d e h s (Trapped trap) a b = a ∙ sym b

there_steps_once : (c d e : Config) (h : ℕ) (o : Option HartState)
    → HartStepsIfThere c h o d → HartStepsIfThere c h o e → d ≡ e
there_steps_once c d e h None a b = absurd a
there_steps_once c d e h (Some s) a b = hart_steps_once c d e h s s.status a b

pub steps_once : (c : Config) (step : Step) (d e : Config) → StepsTo c step d → StepsTo c step e → d ≡ e
steps_once c (Hart h) d e a b = there_steps_once c d e h (slice_get c.harts h) a b
steps_once c (Evict line) d e a b = a ∙ sym b

pub runs_once : (c : Config) (steps : List Step) (d e : Config) → RunsTo c steps d → RunsTo c steps e → d ≡ e
runs_once c [] d e a b = a ∙ sym b
runs_once c (step ∷ steps) d e a b =
    let same : b.0 ≡ a.0 = steps_once c step b.0 a.0 b.1 a.1 in
    runs_once a.0 steps d e a.2 (rw same at b.2)
