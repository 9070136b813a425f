-- What a state stands for it stood for before the parts grew.
use Rattle.std.proofs.Common.{◌≡◌, ℕ, ◌<◌, ◌+◌, List, Option, Some, length, slice_get, ap, ◌∙◌, subst}
use Rattle.std.proofs.lemmas.Option.{get_or_from_slice_get, slice_get_within}
use Rattle.line_memory.specs.Lines.{line_at}
use Rattle.line_memory.specs.Memory.{Memory}
use Rattle.machine.specs.Histories.{text_of}
use Rattle.machine.specs.Replies.{memory_in, trace_in}
use Rattle.machine.specs.Run.{Config}
use Rattle.store_trace.specs.History.{history}
use Rattle.store_trace.specs.declared.crash_model.step.PersistenceStep.{PersistenceStep}
use Rattle.schedule_states.proofs.Looking.{got_kept}
use Rattle.schedule_states.proofs.Putting.{memory_kept, state_kept}
use Rattle.schedule_states.specs.HeldLines.{AreBelow}
use Rattle.schedule_states.specs.Memories.{IsLineOf, IsMemoryOf, memory_over}
use Rattle.schedule_states.specs.Numbers.{AreKept}
use Rattle.schedule_states.specs.StartLines.{StartView, memory_at}
use Rattle.schedule_states.specs.States.{AreGrown, AreLists, IsHartOf, IsText, PartsView, StandsFor, text_for}
use Rattle.schedule_states.specs.Successors.{HasLists}
use Rattle.schedule_states.specs.declared.held_lines.HeldLine.{HeldLine}
use Rattle.schedule_states.specs.declared.line_state.LineState.{LineState}
use Rattle.schedule_states.specs.declared.program_state.HartPart.{HartPart}
use Rattle.schedule_states.specs.declared.program_state.ProgramState.{ProgramState}

pub text_before : (old new : PartsView) (n : ℕ) (text : Memory) → AreGrown old new → AreLists old.table.states old.lists → n < length old.lists → IsText new n text →
    IsText old n text
text_before old new n text grown are there is =
    let found : slice_get old.lists n ≡ Some is.held = got_kept old.lists new.lists n is.held grown.lists there is.found in
    let below : AreBelow (length old.table.states) is.held = are.below n is.held found in record {
      held = is.held;
      found = found;
      below = below;
      is = is.is ∙ ap (λ (m : Memory). text_of m) (memory_kept old.table.states new.table.states is.held (memory_at new.table.start) grown.table.grows below
          ∙ ap (λ (s : StartView). memory_over old.table.states is.held (memory_at s)) grown.table.start);
    }

pub memory_before : (start : StartView) (old new : List LineState) (held : List HeldLine) (memory : Memory) (p : List PersistenceStep) → AreKept old new →
    AreBelow (length old) held → IsMemoryOf start new held memory p → IsMemoryOf start old held memory p
memory_before start old new held memory p grows below of = record {
  below = below;
  flat = of.flat ∙ memory_kept old new held (memory_at start) grows below;
  lines = λ l there. subst (λ (s : Option LineState). IsLineOf (line_at start.medium l) l p s) (state_kept old new held (16777216 + l) grows below) (of.lines l there);
}

text_there : (s : ProgramState) (h : ℕ) (part : HartPart) (old : PartsView) → HasLists old s → slice_get s.harts.items h ≡ Some part → part.text < length old.lists
text_there s h part old lists got =
    subst (λ (p : HartPart). p.text < length old.lists) (get_or_from_slice_get s.harts.items h part part got) (lists.texts h part (slice_get_within s.harts.items h part got))

pub stands_before : (old new : PartsView) (s : ProgramState) (c : Config) → AreGrown old new → AreLists old.table.states old.lists → HasLists old s →
    StandsFor new s c → StandsFor old s c
stands_before old new s c grown are lists stands =
    let found : slice_get old.lists s.memory ≡ Some stands.held = got_kept old.lists new.lists s.memory stands.held grown.lists lists.memory stands.found in record {
      count = stands.count;
      few = stands.few;
      harts = λ h part own mine here.
          let of : IsHartOf new c.common h part own = stands.harts h part own mine here in record {
            text = text_before old new part.text (text_for c.common h) grown are (text_there s h part old lists mine) of.text;
            ahead = of.ahead;
            ready = of.ready;
            reserved = of.reserved;
          };
      held = stands.held;
      found = found;
      memory = memory_before old.table.start old.table.states new.table.states stands.held (memory_in c.common) (history (trace_in c.common)) grown.table.grows
          (are.below s.memory stands.held found)
          (subst (λ (start : StartView). IsMemoryOf start new.table.states stands.held (memory_in c.common) (history (trace_in c.common))) grown.table.start stands.memory);
    }
