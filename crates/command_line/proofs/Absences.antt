-- What is told of commands and of refusals that are none of those of a moment or an image.
use Rattle.std.proofs.Common.{◌≡◌, ℕ, List, [], refl}
use Rattle.std.specs.Prelude.{Result}
use Rattle.arguments.specs.declared.asked.Command.{Command}
use Rattle.arguments.specs.declared.asked.Command.TheVariants as asked
use Rattle.arguments.specs.declared.asked.AskCommand.{AskCommand}
use Rattle.arguments.specs.declared.asked.CheckCommand.{CheckCommand}
use Rattle.arguments.specs.declared.asked.ExplainCommand.{ExplainCommand}
use Rattle.arguments.specs.declared.asked.ImageCommand.{ImageCommand}
use Rattle.arguments.specs.declared.asked.ImagesCommand.{ImagesCommand}
use Rattle.arguments.specs.declared.asked.JudgeCommand.{JudgeCommand}
use Rattle.arguments.specs.declared.asked.PictureCommand.{PictureCommand}
use Rattle.command_line.specs.Absent.{SaysAbsent, SaysMeaning}
use Rattle.command_line.specs.FileNames.{names_of}
use Rattle.command_line.specs.Further.{SaysLines, SaysOfRefusal}
use Rattle.command_line.specs.Meanings.{ReadsThen, refused_file}
use Rattle.command_line.specs.Steps.{Reads, Still}
use Rattle.command_line.specs.declared.failure.Failure.{Failure}
use Rattle.command_line.specs.declared.failure.Refusal.{Refusal}
use Rattle.command_line.specs.declared.failure.Refusal.TheVariants as refusals

pub other_command : {F : Type 0} (reads : Reads F) (refusal : Refusal) (command : Command) (old : F) (outcome : Result (List ℕ) Failure) (new : F)
    → ((asked_of : ImagesCommand) → command ≡ asked.Images asked_of → ⊥)
    → ((asked_of : ImageCommand) → command ≡ asked.Image asked_of → ⊥)
    → ((asked_of : PictureCommand) → command ≡ asked.Picture asked_of → ⊥)
    → ((asked_of : ExplainCommand) → command ≡ asked.Explain asked_of → ⊥)
    → ((asked_of : CheckCommand) → command ≡ asked.Check asked_of → ⊥)
    → ((asked_of : JudgeCommand) → command ≡ asked.Judge asked_of → ⊥)
    → ((asked_of : AskCommand) → command ≡ asked.Ask asked_of → ⊥)
    → Still (SaysMeaning refusal []) old outcome new → SaysAbsent reads refusal command old outcome new
other_command reads refusal (asked.Assemble it) old outcome new no_images no_image no_picture no_explain no_check no_judge no_ask says = says
other_command reads refusal (asked.MakeVolume it) old outcome new no_images no_image no_picture no_explain no_check no_judge no_ask says = says
other_command reads refusal (asked.Upgrade it) old outcome new no_images no_image no_picture no_explain no_check no_judge no_ask says = says
other_command reads refusal (asked.Run it) old outcome new no_images no_image no_picture no_explain no_check no_judge no_ask says = says
other_command reads refusal (asked.Replay it) old outcome new no_images no_image no_picture no_explain no_check no_judge no_ask says = says
other_command reads refusal (asked.Debug it) old outcome new no_images no_image no_picture no_explain no_check no_judge no_ask says = says
other_command reads refusal (asked.Trace it) old outcome new no_images no_image no_picture no_explain no_check no_judge no_ask says = says
other_command reads refusal (asked.Unpersisted it) old outcome new no_images no_image no_picture no_explain no_check no_judge no_ask says = says
other_command reads refusal (asked.Waste it) old outcome new no_images no_image no_picture no_explain no_check no_judge no_ask says = says
other_command reads refusal (asked.Images it) old outcome new no_images no_image no_picture no_explain no_check no_judge no_ask says = absurd (no_images it refl)
other_command reads refusal (asked.Image it) old outcome new no_images no_image no_picture no_explain no_check no_judge no_ask says = absurd (no_image it refl)
other_command reads refusal (asked.Explain it) old outcome new no_images no_image no_picture no_explain no_check no_judge no_ask says = absurd (no_explain it refl)
other_command reads refusal (asked.Check it) old outcome new no_images no_image no_picture no_explain no_check no_judge no_ask says = absurd (no_check it refl)
other_command reads refusal (asked.Judge it) old outcome new no_images no_image no_picture no_explain no_check no_judge no_ask says = absurd (no_judge it refl)
other_command reads refusal (asked.Ask it) old outcome new no_images no_image no_picture no_explain no_check no_judge no_ask says = absurd (no_ask it refl)
other_command reads refusal (asked.CheckAll it) old outcome new no_images no_image no_picture no_explain no_check no_judge no_ask says = says
other_command reads refusal (asked.JudgeAll it) old outcome new no_images no_image no_picture no_explain no_check no_judge no_ask says = says
other_command reads refusal (asked.Answer it) old outcome new no_images no_image no_picture no_explain no_check no_judge no_ask says = says
other_command reads refusal (asked.Picture it) old outcome new no_images no_image no_picture no_explain no_check no_judge no_ask says = absurd (no_picture it refl)
other_command reads refusal (asked.Interleave it) old outcome new no_images no_image no_picture no_explain no_check no_judge no_ask says = says
other_command reads refusal (asked.Show it) old outcome new no_images no_image no_picture no_explain no_check no_judge no_ask says = says
other_command reads refusal (asked.Listing it) old outcome new no_images no_image no_picture no_explain no_check no_judge no_ask says = says
other_command reads refusal (asked.Program it) old outcome new no_images no_image no_picture no_explain no_check no_judge no_ask says = says
other_command reads refusal (asked.Code it) old outcome new no_images no_image no_picture no_explain no_check no_judge no_ask says = says

pub other_refusal : {F : Type 0} (reads : Reads F) (command : Command) (refusal : Refusal) (old : F) (outcome : Result (List ℕ) Failure) (new : F)
    → (refusal ≡ refusals.Moment → ⊥) → (refusal ≡ refusals.Image → ⊥)
    → ReadsThen reads (refused_file (names_of command) refusal) (SaysLines (refused_file (names_of command) refusal) refusal) old outcome new
    → SaysOfRefusal reads command refusal old outcome new
other_refusal reads command (refusals.Assembly it) old outcome new no_moment no_image says = says
other_refusal reads command (refusals.Object it) old outcome new no_moment no_image says = says
other_refusal reads command (refusals.Elf it) old outcome new no_moment no_image says = says
other_refusal reads command (refusals.Plan it) old outcome new no_moment no_image says = says
other_refusal reads command refusals.ScheduleText old outcome new no_moment no_image says = says
other_refusal reads command (refusals.Trace it) old outcome new no_moment no_image says = says
other_refusal reads command refusals.Medium old outcome new no_moment no_image says = says
other_refusal reads command (refusals.Volume it) old outcome new no_moment no_image says = says
other_refusal reads command (refusals.Step it) old outcome new no_moment no_image says = says
other_refusal reads command (refusals.Beyond it) old outcome new no_moment no_image says = says
other_refusal reads command refusals.Foreign old outcome new no_moment no_image says = says
other_refusal reads command refusals.Moment old outcome new no_moment no_image says = absurd (no_moment refl)
other_refusal reads command refusals.Image old outcome new no_moment no_image says = absurd (no_image refl)
other_refusal reads command (refusals.Operation it) old outcome new no_moment no_image says = says
other_refusal reads command (refusals.Marks it) old outcome new no_moment no_image says = says
other_refusal reads command refusals.Reply old outcome new no_moment no_image says = says
other_refusal reads command refusals.NoReply old outcome new no_moment no_image says = says
other_refusal reads command (refusals.RecoverySource it) old outcome new no_moment no_image says = says
other_refusal reads command (refusals.RecoveryObject it) old outcome new no_moment no_image says = says
other_refusal reads command (refusals.RecoveryElf it) old outcome new no_moment no_image says = says
