-- What is told of an image by the events as they are told.
use Rattle.std.proofs.Common.{◌≡◌, Bool, Result, Ok, Err}
use Rattle.std.specs.Prelude.{IfOk, String, string_bytes}
use Rattle.std.specs.declared.alloc.AllocError.{AllocError}
use Rattle.std.specs.declared.alloc.Global.{Global}
use Rattle.crash_test.specs.declared.losses.ExplainedImage.{ExplainedImage}
use Rattle.report.specs.Places.{origin_in}
use Rattle.report.specs.Told.{events_in}
use Rattle.report.specs.declared.told.ToldEvents.{ToldEvents}
use Rattle.command_line.specs.Reasons.{IsToldBy, told_losses}
use Rattle.command_line.specs.Traces.{AreTold}
use Rattle.command_line.specs.declared.events.OpenEvents.{OpenEvents}

pub told_by : (json : Bool) (opened : OpenEvents) (explained : ExplainedImage) (told : ToldEvents) (outcome : Result (String Global) AllocError)
    → AreTold opened told → IfOk outcome (λ text. string_bytes text ≡ told_losses json (origin_in told.places) (events_in told) explained)
    → IfOk outcome (λ text. IsToldBy json opened explained (string_bytes text))
told_by json opened explained told (Ok text) are is = record { told = told; are_told = are; text_is = is }
told_by json opened explained told (Err refused) are is = tt
