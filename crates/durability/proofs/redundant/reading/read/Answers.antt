use Rattle.std.proofs.Common.{◌+◌, ◌<◌, Some, None, inl, inr, length, arith, refl, ◌∙◌, ap}
use Rattle.std.proofs.lemmas.Option.{slice_get-get_or}
use Rattle.store_trace.specs.declared.event.Event.{Event}
use Rattle.store_trace.specs.declared.event.Event.TheVariants.{Store, Clean, Fence, Begin, End}
use Rattle.durability.proofs.Readings.{last_fences_here, last_fences_stay, lines_cleaned, lines_stay, lines_stored}
use Rattle.durability.proofs.Telling.{all_told_stay, clean_is_open, told_at}
use Rattle.durability.specs.declared.redundant.reason.Reason.TheVariants.{NotFenced}
use Rattle.durability.proofs.redundant.reading.read.Goals as goal

pub returns-in-Store : goal.returns-in-Store
returns-in-Store c =
    let none : Event = Store 0 0 0 0 0 in
    let events = c.args.events.now in
    let at = c.args.at in
    let event : Event = Store c.in-Store.hart c.in-Store.line c.in-Store.offset c.in-Store.width c.in-Store.value in
    let here = slice_get-get_or events at none c.requires.there ∙ ap (λ (e : Event). Some e) c.in-Store.is in
    let named = rw c.in-Store.is at (c.requires.named at none c.requires.there) in
    record {
      fences = last_fences_stay events at event c.args.fences.now here (λ h e. cc) c.requires.fences;
      lines = lines_stored events at c.in-Store.hart c.in-Store.line c.in-Store.offset c.in-Store.width c.in-Store.value c.args.lines.now _ here named
          c.requires.lines;
      told = all_told_stay events at event c.args.told.now here (λ h e. cc) c.requires.told;
      this = told_at events (at + 1) at event None here refl;
    }

pub returns-in-Clean : goal.returns-in-Clean
returns-in-Clean c =
    let none : Event = Store 0 0 0 0 0 in
    let events = c.args.events.now in
    let at = c.args.at in
    let event : Event = Clean c.in-Clean.hart c.in-Clean.line in
    let here = slice_get-get_or events at none c.requires.there ∙ ap (λ (e : Event). Some e) c.in-Clean.is in
    let named = rw c.in-Clean.is at (c.requires.named at none c.requires.there) in
    let hart = rw c.in-Clean.is at (c.requires.each at none c.requires.there) in
    record {
      fences = last_fences_stay events at event c.args.fences.now here (λ h e. cc) c.requires.fences;
      lines = lines_cleaned events at c.in-Clean.hart c.in-Clean.line c.args.lines.now _ here hart named c.requires.lines;
      told = all_told_stay events at event c.args.told.now here (λ h e. cc) c.requires.told;
      this = told_at events (at + 1) at event (Some NotFenced) here (clean_is_open events at c.in-Clean.hart c.in-Clean.line);
    }

pub returns-in-Fence : goal.returns-in-Fence
returns-in-Fence c =
    let none : Event = Store 0 0 0 0 0 in
    let events = c.args.events.now in
    let at = c.args.at in
    let event : Event = Fence c.in-Fence.hart in
    let here = slice_get-get_or events at none c.requires.there ∙ ap (λ (e : Event). Some e) c.in-Fence.is in
    let hart = rw c.in-Fence.is at (c.requires.each at none c.requires.there) in
    let within : c.in-Fence.hart < length c.args.fences.now = omega (arith, hart) in
    record {
      fences = last_fences_here events at c.in-Fence.hart c.args.fences.now here within c.requires.fences;
      lines = c.complete.ensures.lines;
      told = c.complete.ensures.told;
      this = told_at events (at + 1) at event c.complete.result here c.complete.ensures.fence;
    }

pub returns-in-Begin : goal.returns-in-Begin
returns-in-Begin c =
    let none : Event = Store 0 0 0 0 0 in
    let events = c.args.events.now in
    let at = c.args.at in
    let there = slice_get-get_or events at none c.requires.there in
    elim c.in-Begin.is [
      | inl begins ↦
          let event : Event = Begin begins.0 begins.1 in
          let here = there ∙ ap (λ (e : Event). Some e) begins.2 in
          record {
            fences = last_fences_stay events at event c.args.fences.now here (λ h e. cc) c.requires.fences;
            lines = lines_stay events at event c.args.lines.now here (λ h l e. cc) refl c.requires.lines;
            told = all_told_stay events at event c.args.told.now here (λ h e. cc) c.requires.told;
            this = told_at events (at + 1) at event None here refl;
          }
      | inr ends ↦
          let event : Event = End ends.0 ends.1 in
          let here = there ∙ ap (λ (e : Event). Some e) ends.2 in
          record {
            fences = last_fences_stay events at event c.args.fences.now here (λ h e. cc) c.requires.fences;
            lines = lines_stay events at event c.args.lines.now here (λ h l e. cc) refl c.requires.lines;
            told = all_told_stay events at event c.args.told.now here (λ h e. cc) c.requires.told;
            this = told_at events (at + 1) at event None here refl;
          }
    ]
