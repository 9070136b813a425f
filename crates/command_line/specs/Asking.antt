-- What `judge --ask` comes to: images are asked for on standard output, standard input has the replies, and then comes the verdict.
use Rattle.std.specs.Prelude.{◌≡◌, ◌≢◌, ◌⊎◌, ◌++◌, ◌≤◌, ◌<◌, All, ℕ, Bool, IfSome, List, [], ◌∷◌, Option, Some, None, Result, Ok, Err, MatchResult, codes, length, map, string_bytes, take}
use Rattle.std.specs.Io.KnownBytes.{Appends, Consumes, IsAtEnd}
use Rattle.std.specs.Str.Lossy.{utf8_lossy}
use Rattle.arguments.specs.Spans.{IsUpward}
use Rattle.arguments.specs.declared.asked.AskCommand.{AskCommand}
use Rattle.crash_test.specs.declared.losses.ExplainedImage.{ExplainedImage}
use Rattle.debugger.specs.Dialogue.{IsLine}
use Rattle.durability.specs.declared.cut.Kept.{Kept}
use Rattle.durability.specs.declared.cut.Lost.{Lost}
use Rattle.durability.specs.declared.cut.ToldCut.{ToldCut}
use Rattle.durability.specs.declared.mend.Mend.{Mend}
use Rattle.durability.specs.declared.mend.Mend.TheVariants as mends
use Rattle.debugger.specs.StreamFailures.{AppendsFront}
use Rattle.routine_judge.specs.MarkFaults.{AreSound}
use Rattle.routine_judge.specs.Outside.{HasAsked, HasNoReply, IsOutsideVerdict}
use Rattle.routine_judge.specs.OutsideViews.{KnownView, ReplyView, WantedView}
use Rattle.routine_judge.specs.Verdicts.{IsRefusal}
use Rattle.routine_judge.specs.declared.history.overlap.Overlap.TheVariants.{Never}
use Rattle.routine_judge.specs.declared.outside.cause.OutsideCause.{OutsideCause}
use Rattle.routine_judge.specs.declared.outside.cause.OutsideCause.TheVariants.{Missing, Different, Full}
use Rattle.store_trace.specs.Marks.{begun}
use Rattle.text.specs.Words.{words}
use Rattle.text.specs.declared.image_name.name.ImageName.{ImageName}
use Rattle.text.specs.declared.image_name.name.ImageName.TheVariants.{Number, Cut}
use Rattle.trace_file.specs.Ranks.{AreInOrder}
use Rattle.verdict.specs.declared.moment_verdict.verdict.Verdict.{Verdict}
use Rattle.verdict.specs.declared.moment_verdict.verdict.Verdict.TheVariants as verdicts
use Rattle.command_line.specs.Answered.{PrintsVerdict}
use Rattle.command_line.specs.Failures.{failure_of_judge}
use Rattle.command_line.specs.ImageFiles.{StartsTrace}
use Rattle.command_line.specs.Judging.{Answers, judges_none}
use Rattle.command_line.specs.Reasons.{Explains, IsExplainedOf}
use Rattle.command_line.specs.Replies.{SaysReply}
use Rattle.command_line.specs.Requests.{request_text}
use Rattle.command_line.specs.Steps.{First, GoesOn, Reads, Step, Still, Tells}
use Rattle.command_line.specs.Traces.{HasPlaces, IsOpen as HasTheirLines, events_of, medium_of, name_in}
use Rattle.command_line.specs.Verdicts.{failing, first_of, last_of}
use Rattle.command_line.specs.declared.answer.Answer.{Answer}
use Rattle.command_line.specs.declared.events.OpenEvents.{OpenEvents}
use Rattle.command_line.specs.declared.events.OpenEvents.TheVariants.{Run, Trace}
use Rattle.command_line.specs.declared.failure.Failure.{Failure}
use Rattle.command_line.specs.declared.failure.Failure.TheVariants.{Refused, Memory, File}
use Rattle.command_line.specs.declared.failure.Refusal.TheVariants as refusals
use Rattle.command_line.specs.declared.image.OpenStart.{OpenStart}
use Rattle.command_line.specs.declared.opened.OpenAsk.{OpenAsk}

-- the names of a trace file's lines, by their ranks
abbrev pub names_of : OpenEvents → List ℕ
names_of (Run made) = []
names_of (Trace trace) = trace.ranked.names.items

-- what is known of the bytes that standard input will still give, and of those that standard output holds
abbrev pub Streams : Type 0
Streams = Option (List ℕ) × Option (List ℕ)

-- a line was read, with its line end and nothing behind it
pub record ReadsLine (input input' : Option (List ℕ)) (line : List ℕ) : Type 0 where
  pub is_line : IsLine line
  pub reads : Consumes input input' (line ++ 10 ∷ [])

-- part of a line was read, without a line end
pub record ReadsPart (input input' : Option (List ℕ)) : Type 0 where
  pub part : List ℕ
  pub is_line : IsLine part
  pub reads : Consumes input input' part

-- why no line was read: standard input ended in it, memory for it was refused, or a read failed
abbrev pub LacksLine : Option (List ℕ) → Option (List ℕ) → Failure → Type 0
LacksLine input input' (Refused refusals.NoReply) = ReadsPart input input' × IsAtEnd input'
LacksLine input input' Memory = ReadsPart input input'
LacksLine input input' File = ReadsPart input input'
LacksLine input input' failure = ⊥

-- the next line is this reply
pub record IsReplied (names : List ℕ) (input input' : Option (List ℕ)) (reply : ReplyView) : Type 0 where
  pub line : List ℕ
  pub read : ReadsLine input input' line
  pub says : SaysReply names (words line) reply

-- the next line is no reply
pub record IsNoReply (names : List ℕ) (input input' : Option (List ℕ)) : Type 0 where
  pub line : List ℕ
  pub read : ReadsLine input input' line
  pub none : (reply : ReplyView) → ¬ SaysReply names (words line) reply

-- why there is no reply: V6, the next line is none; V7, standard input ends before it; or memory is refused, or a read fails, and then no more
-- than the line was read
abbrev pub IsUnreplied : List ℕ → Option (List ℕ) → Option (List ℕ) → Failure → Type 0
IsUnreplied names input input' (Refused refusals.Reply) = IsNoReply names input input'
IsUnreplied names input input' Memory = ReadsPart input input' ⊎ ((line : List ℕ) × ReadsLine input input' line)
IsUnreplied names input input' failure = LacksLine input input' failure

-- the names of those lines that an image has
abbrev pub names_in : OpenEvents → WantedView → List ℕ
names_in opened wanted = take (length wanted.start) (names_of opened)

-- the image is asked for on standard output, and the next line of standard input is this reply
pub record GivesReply (opened : OpenEvents) (old : Streams) (wanted : WantedView) (reply : ReplyView) (new : Streams) : Type 0 where
  pub asked : Appends old.1 new.1 (request_text (name_in opened) wanted)
  pub replied : IsReplied (names_in opened wanted) old.0 new.0 reply

-- the image isn't asked for: memory is refused, or standard output fails, which may then hold a front of the request
abbrev pub IsUnasked : OpenEvents → Streams → WantedView → Failure → Streams → Type 0
IsUnasked opened old wanted Memory new = new ≡ old
IsUnasked opened old wanted File new = (new.0 ≡ old.0) × AppendsFront old.1 new.1 (request_text (name_in opened) wanted)
IsUnasked opened old wanted failure new = ⊥

-- it is asked for, and there is no reply
pub record IsUnanswered (opened : OpenEvents) (old : Streams) (wanted : WantedView) (failure : Failure) (new : Streams) : Type 0 where
  pub asked : Appends old.1 new.1 (request_text (name_in opened) wanted)
  pub unreplied : IsUnreplied (names_in opened wanted) old.0 new.0 failure

abbrev pub FailsReply : OpenEvents → Streams → WantedView → Failure → Streams → Type 0
FailsReply opened old wanted failure new = IsUnasked opened old wanted failure new ⊎ IsUnanswered opened old wanted failure new

-- what is known of events that are to be judged so
pub record IsOpenAsk (ask : OpenAsk) : Type 0 where
  pub within : IfSome ask.command.moments IsUpward
  pub lines : HasTheirLines ask.events
  pub places : HasPlaces ask.events
  pub few : length (names_of ask.events) ≤ 16384

pub record HasOpened (command : AskCommand) (start : OpenStart) (ask : OpenAsk) : Type 0 where
  pub command_is : ask.command ≡ command
  pub events_are : ask.events ≡ start.events

pub record Opens (command : AskCommand) (start : OpenStart) (outcome : Result OpenAsk Failure) : Type 0 where
  pub opens : MatchResult outcome (HasOpened command start) (λ failure. ⊥)

-- a trace file over the bytes of a file of any size, as for `image`
abbrev pub OpensAsk : {F : Type 0} → Reads F → AskCommand → Step F OpenAsk
OpensAsk reads command = First (StartsTrace reads command.events) (λ start. Still (Opens command start))

-- the verdict, by replies that were asked for in turn
pub record IsAskedVerdict (ask : OpenAsk) (old new : Streams) (verdict : Verdict OutsideCause) : Type 0 where
  pub sound : AreSound Never (events_of ask.events) (length (events_of ask.events))
  pub begins : begun (events_of ask.events) ≢ []
  pub verdict_is : IsOutsideVerdict (GivesReply ask.events) (medium_of ask.events) (events_of ask.events) (first_of ask.command.moments)
      (last_of ask.command.moments) old new verdict

-- no image is asked for: a mark is wrong, there is none, or there is no such moment; memory may be refused
pub record IsRefused (ask : OpenAsk) (old new : Streams) (failure : Failure) : Type 0 where
  pub told : Tells (IsRefusal Never (events_of ask.events) (first_of ask.command.moments)) failure_of_judge failure
  pub untouched : new ≡ old

-- memory is refused behind some replies
pub record LacksMemory (ask : OpenAsk) (old new : Streams) (failure : Failure) : Type 0 where
  pub is_memory : failure ≡ Memory
  pub replies : List KnownView
  pub asked : HasAsked (GivesReply ask.events) (medium_of ask.events) (events_of ask.events) old replies new

-- why there is none: nothing is judged, memory is refused, or there is no reply to an image that was asked for behind others
abbrev pub IsUnjudged : OpenAsk → Streams → Streams → Failure → Type 0
IsUnjudged ask old new failure = IsRefused ask old new failure ⊎ (LacksMemory ask old new failure
    ⊎ HasNoReply (GivesReply ask.events) (FailsReply ask.events) (medium_of ask.events) (events_of ask.events) old new failure)

pub record FindsVerdict (ask : OpenAsk) (old new : Streams) (outcome : Result (Verdict OutsideCause) Failure) : Type 0 where
  pub finds : MatchResult outcome (IsAskedVerdict ask old new) (IsUnjudged ask old new)

-- an image by the names of its lines
abbrev pub named_entry : (ℕ → ℕ) → ℕ × ℕ → ℕ × ℕ
named_entry name entry = (name entry.0, entry.1)

abbrev pub named_image : (ℕ → ℕ) → ImageName → ImageName
named_image name (Number n) = Number n
named_image name (Cut entries) = Cut (map (named_entry name) entries)

-- a verdict by the names of lines; of a moment with too many branches no lines are named
abbrev pub named_verdict : (ℕ → ℕ) → Verdict OutsideCause → Verdict OutsideCause
named_verdict name (verdicts.Pass moments images) = verdicts.Pass moments images
named_verdict name (verdicts.Open moments images open') = verdicts.Open moments images open'
named_verdict name (verdicts.Fail moment image cause of_too_many) = verdicts.Fail moment (named_image name image) cause of_too_many
named_verdict name (verdicts.TooMany moment lines) = verdicts.TooMany moment None
named_verdict name (verdicts.TooLong moment) = verdicts.TooLong moment

-- why an image is bad: recovery has no answer, for this word, its answer isn't a right one, or `full-` and the word for why there is none that is
-- right
abbrev pub outside_text : OutsideCause → List ℕ
outside_text (Missing word) = utf8_lossy word.items
outside_text Different = codes "different"
outside_text (Full word) = codes "full-" ++ utf8_lossy word.items

-- all lines of an image count
abbrev pub IsAllOf : List (List ℕ) → List ℕ → Type 0
IsAllOf image lines = AreInOrder (length image) lines

-- what a failing image lacks and keeps, where that is asked for
abbrev pub ExplainsAsked : OpenAsk → Verdict OutsideCause → Result (Option ExplainedImage) Failure → Type 0
ExplainsAsked ask verdict = Explains (IsExplainedOf IsAllOf ask.events) (events_of ask.events) (failing ask.command.why verdict)

-- what it lacks and keeps, by the names of lines
abbrev pub named_lost : (ℕ → ℕ) → Lost → Lost
named_lost name lost = record lost { line = name lost.line }

abbrev pub named_kept : (ℕ → ℕ) → Kept → Kept
named_kept name kept = record kept { line = name kept.line }

abbrev pub named_mend : (ℕ → ℕ) → Mend → Mend
named_mend name (mends.Fence behind deadline) = mends.Fence behind deadline
named_mend name (mends.CleanAndFence line behind deadline) = mends.CleanAndFence (name line) behind deadline
named_mend name (mends.Later store) = mends.Later store
named_mend name (mends.Earlier store) = mends.Earlier store

pub record IsNamedCut (name : ℕ → ℕ) (told named : ToldCut) : Type 0 where
  pub lost : named.lost.items ≡ map (named_lost name) told.lost.items
  pub kept : named.kept.items ≡ map (named_kept name) told.kept.items
  pub mends : named.mends.items ≡ map (named_mend name) told.mends.items

pub record IsNamed (name : ℕ → ℕ) (explained named : ExplainedImage) : Type 0 where
  pub read : IsNamedCut name explained.told.read named.told.read
  pub unread : named.told.unread ≡ explained.told.unread
  pub schedule : named.schedule ≡ explained.schedule

abbrev pub IsNamedWhy : (ℕ → ℕ) → Option ExplainedImage → Option ExplainedImage → Type 0
IsNamedWhy name None named = named ≡ None
IsNamedWhy name (Some explained) None = ⊥
IsNamedWhy name (Some explained) (Some named) = IsNamed name explained named

-- memory for that may be refused
pub record NamesWhy (name : ℕ → ℕ) (why : Option ExplainedImage) (outcome : Result (Option ExplainedImage) Failure) : Type 0 where
  pub names : MatchResult outcome (IsNamedWhy name why) (λ failure. failure ≡ Memory)

-- what is told of the verdict on standard output, and on standard error, where no moment is judged
abbrev pub TellsVerdict : {E : Type 0} → (E → Option (List ℕ)) → OpenAsk → Verdict OutsideCause → Step E Answer
TellsVerdict said ask verdict =
    First (Still (ExplainsAsked ask verdict)) (λ why.
    First (Still (NamesWhy (name_in ask.events) why)) (λ named.
    First (Still (PrintsVerdict outside_text ask.command.json ask.events (named_verdict (name_in ask.events) verdict) named))
    (Answers said (judges_none verdict))))

-- the verdict on the events, and then what is told of it; nothing is told where there is none
pub record JudgesAsked {E : Type 0} (said : E → Option (List ℕ)) (ask : OpenAsk) (old new : Streams) (errors : E) (outcome : Result Answer Failure)
    (errors' : E) : Type 0 where
  pub found : Result (Verdict OutsideCause) Failure
  pub finds : FindsVerdict ask old new found
  pub tells : GoesOn (TellsVerdict said ask) found errors outcome errors'
