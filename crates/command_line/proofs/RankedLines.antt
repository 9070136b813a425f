-- Lines of a medium, and of the bytes of a file, by their ranks and by their names.
use Rattle.std.proofs.Common.{◌≡◌, ◌∙◌, ℕ, ◌*◌, ◌<◌, ◌≤◌, List, length, ap, subst, sym, arith}
use Rattle.std.specs.Prelude.{All}
use Rattle.std.specs.List.{concat}
use Rattle.std.proofs.lemmas.List.{length-replicate}
use Rattle.crash_test.specs.declared.images.ImageLine.{ImageLine}
use Rattle.line_memory.specs.Lines.{IsMedium, zero_lines}
use Rattle.recovery.proofs.Starting.{length_joined}
use Rattle.store_trace.specs.TraceView.{NamesLine}
use Rattle.command_line.specs.ImageFiles.{AreThere, HasFewNames, HasRoom, IsPlaced}
use Rattle.command_line.specs.Traces.{events_of}
use Rattle.command_line.specs.declared.events.OpenEvents.{OpenEvents}
use Rattle.command_line.specs.declared.events.OpenEvents.TheVariants.{Run, Trace}
use Rattle.command_line.specs.declared.events.OpenTrace.{OpenTrace}
use Rattle.command_line.specs.declared.image.OpenStart.{OpenStart}
use Rattle.command_line.specs.declared.made_run.MadeRun.{MadeRun}

pub zeros_length : (count : ℕ) → length (zero_lines count) ≡ count
unfolding zero_lines
zeros_length count = length-replicate count _

-- each line of an image is in its place, where each line of the events is
pub lines_placed : (start : OpenStart) (lines : List ImageLine) → HasRoom start
    → ((count : ℕ) → All (NamesLine count) (events_of start.events) → All (λ (l : ImageLine). l.line < count) lines)
    → All (λ (l : ImageLine). IsPlaced start.events (length start.bytes.items) l.line) lines
lines_placed start lines room named k d inside = room.placed _ (named room.count room.named k d inside)

-- the bytes of a medium have each of its lines
pub medium_room : (made : MadeRun) (start : OpenStart) → IsMedium made.run.setup.medium
    → All (NamesLine (length made.run.setup.medium)) made.run.events → start.events ≡ Run made → start.bytes.items ≡ concat made.run.setup.medium → HasRoom start
medium_room made start whole named is bytes = record {
  few = subst HasFewNames (sym is) tt;
  count = length made.run.setup.medium;
  named = subst (λ (opened : OpenEvents). All (NamesLine (length made.run.setup.medium)) (events_of opened)) (sym is) named;
  placed = λ line inside.
      let size : length start.bytes.items ≡ 64 * length made.run.setup.medium =
      ap (λ (all : List ℕ). length all) bytes ∙ length_joined made.run.setup.medium whole.each in
      subst (λ (opened : OpenEvents). IsPlaced opened (length start.bytes.items) line) (sym is) (omega (arith, size));
}

-- and those of a file each line that its trace names, where each is there
pub bytes_room : (trace : OpenTrace) (start : OpenStart) → All (NamesLine (length trace.ranked.names.items)) trace.ranked.trace.events
    → length trace.ranked.names.items ≤ 16384 → AreThere trace.ranked.names.items (length start.bytes.items) → start.events ≡ Trace trace → HasRoom start
bytes_room trace start named few there is = record {
  few = subst HasFewNames (sym is) few;
  count = length trace.ranked.names.items;
  named = subst (λ (opened : OpenEvents). All (NamesLine (length trace.ranked.names.items)) (events_of opened)) (sym is) named;
  placed = λ rank inside.
      subst (λ (opened : OpenEvents). IsPlaced opened (length start.bytes.items) rank) (sym is) (inside, there rank inside);
}
