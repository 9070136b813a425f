-- The notes of a check are those on its events, and behind them that the start is no volume.
use Rattle.std.proofs.Common.{◌≡◌, ◌∙◌, ◌++◌, ◌&&◌, ℕ, Bool, Result, Ok, Err, ap, inl}
use Rattle.std.specs.Global.{Vec}
use Rattle.command_line.specs.Noting.{AddsVolumeNote, NotesCheck, NotesEvents, are_wanted_of, lacks_volume, volume_note}
use Rattle.command_line.specs.Traces.{medium_of}
use Rattle.command_line.specs.declared.failure.Failure.{Failure}
use Rattle.command_line.specs.declared.opened.OpenCheck.{OpenCheck}

pub notes_checked : (check : OpenCheck) (on_events : Vec ℕ) (lacks : Bool) (outcome : Result (Vec ℕ) Failure)
    → NotesEvents (are_wanted_of check.command.judged) check.events (Ok on_events)
    → lacks ≡ (are_wanted_of check.command.judged && lacks_volume check.command.judged.source (medium_of check.events))
    → AddsVolumeNote on_events lacks outcome → NotesCheck check outcome
notes_checked check on_events lacks (Ok all) notes is added = record {
  notes = record { on_events = on_events; are_notes = notes; notes_are = added.adds ∙ ap (λ (l : Bool). on_events.items ++ volume_note l) is };
}
notes_checked check on_events lacks (Err failure) notes is added = record { notes = inl added.adds }
