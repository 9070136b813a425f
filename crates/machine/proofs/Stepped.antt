-- What a step does that is made, by what its hart's next instruction needs.
use Rattle.std.proofs.Common.{◌≡◌, ℕ, ◌<◌, length, Some, slice_get, slice_set, refl, sym}
use Rattle.hart.specs.Needs.{IsSpelledBy, Needs}
use Rattle.hart.specs.declared.need.Need.TheVariants.{Local, Ask, Stop}
use Rattle.hart.specs.declared.need.Request.{Request}
use Rattle.hart.specs.declared.state.HartState.{HartState}
use Rattle.hart.specs.declared.state.Status.TheVariants.{Running, Trapped}
use Rattle.hart.specs.declared.state.Trap.{Trap}
use Rattle.isa_table.specs.declared.instruction.Instr.{Instr}
use Rattle.machine.specs.Outcomes.{outcome_of}
use Rattle.machine.specs.Represents.{Answers, MachineView, copies_after, copy_of}
use Rattle.machine.specs.Run.{fetched}
use Rattle.machine.specs.Stepped.{HasStepped}
use Rattle.machine.specs.declared.machine.Outcome.TheVariants.{Done}
use Rattle.machine.proofs.Refusing.{longer, silent_alone, silent_trap}
use Rattle.machine.proofs.Stepping.{evicts, goes_on_alone, goes_on_answered, outcome_made, traps, with_state}
use Rattle.machine.specs.declared.schedule.items.Step.TheVariants.{Hart, Evict}
use Rattle.machine.specs.SharedView.{Evicts, SharedView}

pub stepped_alone : (old new : MachineView) (h : ℕ) (s after : HartState) → slice_get old.harts h ≡ Some s → s.status ≡ Running
    → Needs s (fetched (copy_of old h) s.pc) (Local after) → new ≡ with_state old h after
    → HasStepped old new (Hart h) (outcome_of after.status)
stepped_alone old new h s after there running needs e =
    let both = goes_on_alone old new h s after there running needs e in record {
      outcome_is = rw e (sym (outcome_made old.harts h s after there running));
      runs = both.runs;
      exact = both.exact;
      event = λ makes. absurd (silent_alone old h s after there needs makes);
    }

pub stepped_trap : (old new : MachineView) (h : ℕ) (s after : HartState) (trap : Trap) → slice_get old.harts h ≡ Some s → s.status ≡ Running
    → Needs s (fetched (copy_of old h) s.pc) (Stop trap) → after ≡ record s { status = Trapped trap } → new ≡ with_state old h after
    → HasStepped old new (Hart h) (outcome_of after.status)
stepped_trap old new h s after trap there running needs stopped e =
    let both = traps old new h s after trap there running needs stopped e in record {
      outcome_is = rw e (sym (outcome_made old.harts h s after there running));
      runs = both.runs;
      exact = both.exact;
      event = λ makes. absurd (silent_trap old h s trap there needs makes);
    }

pub stepped_answered : (old new : MachineView) (shared : SharedView) (h : ℕ) (s after : HartState) (i : Instr) (request : Request)
    → h < 8 → length old.copies ≡ length old.harts → slice_get old.harts h ≡ Some s → s.status ≡ Running
    → Needs s (fetched (copy_of old h) s.pc) (Ask request) → IsSpelledBy (fetched (copy_of old h) s.pc) i → Answers old.shared shared h s i request after
    → new ≡ record { harts = slice_set old.harts h after; copies = copies_after old.copies h request shared.ram.text; shared = shared }
    → HasStepped old new (Hart h) (outcome_of after.status)
stepped_answered old new shared h s after i request few each there running needs spelled a e =
    let both = goes_on_answered old new shared h s after i request few each there running needs spelled a e in record {
      outcome_is = rw e (sym (outcome_made old.harts h s after there running));
      runs = both.runs;
      exact = both.exact;
      event = λ makes. rw e (longer old shared h s request a.reply there needs a.serves makes);
    }

pub stepped_evict : (old new : MachineView) (shared : SharedView) (line : ℕ) → line < length old.shared.cache.lines → Evicts old.shared shared line
    → new ≡ record old { shared = shared } → HasStepped old new (Evict line) Done
stepped_evict old new shared line there evicted e =
    let both = evicts old new shared line there evicted e in record {
      outcome_is = refl;
      runs = both.runs;
      exact = both.exact;
      event = λ makes. absurd makes;
    }
