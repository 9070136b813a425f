-- A core that answers a request, or evicts a line, is the replay of its history still.
use Rattle.std.proofs.Common.{◌≡◌, ◌<◌, ◌≤◌, ℕ, List, [], ◌∷◌, ◌++◌, reverse, refl, sym, ap, ◌∙◌, arith}
use Rattle.std.proofs.lemmas.List.{reverse-append}
use Rattle.program.specs.Sections.{Sections}
use Rattle.hart.specs.declared.need.Request.{Request}
use Rattle.hart.specs.declared.need.Reply.{Reply}
use Rattle.line_memory.specs.Lines.{line_bytes}
use Rattle.line_memory.specs.Memory.{Memory}
use Rattle.machine.specs.Represents.{text_bytes}
use Rattle.machine.proofs.Copying.{text_there}
use Rattle.machine.specs.declared.shared_memory.history.Entry.{Entry}
use Rattle.machine.specs.declared.shared_memory.history.Entry.TheVariants.{Asked, Evicted}
use Rattle.machine.specs.Histories.{replayed, text_of}
use Rattle.machine.specs.Replies.{SharedState, memory_in, reply_after, starting_memory}
use Rattle.machine.specs.SharedView.{Evicts, IsExact, Serves, SharedView, lines_shown}
use Rattle.machine.proofs.Shown.{evicted_exact, evicted_shows, reply_stands, served_exact, served_shows}
use Rattle.bus.specs.Replays.{AreBelow, CoreView, IsReplay, LinesBelow, replay}
use Rattle.bus.specs.Serving.{EvictsLine, Tells}

-- the reply of what is shared is the one that the replay gives
pub tells : (program : Sections) (start : List (List ℕ)) (history : List Entry) (old new : SharedView) (h : ℕ) (request : Request) (reply : Reply)
    → h < 8 → IsReplay program start history old → Serves old new h request reply
    → reply ≡ reply_after (replay program start history) h request
tells program start history old new h request reply few is serves =
    serves.reply ∙ reply_stands old h request (replay program start history) few is.shows

pub told_more : (program : Sections) (start : List (List ℕ)) (history : List Entry) (old new : SharedView) (h : ℕ) (request : Request) (reply : Reply)
    → h < 8 → IsReplay program start history old → Serves old new h request reply
    → IsReplay program start (Asked h request reply ∷ history) new
unfolding replay
told_more program start history old new h request reply few is serves =
    let same = tells program start history old new h request reply few is serves in
    record {
      told =
          ap (λ (r : Reply). Asked h request r ∷ (replay program start history).history) (sym same)
          ∙ ap (λ (t : List Entry). Asked h request reply ∷ t) is.told;
      shows = served_shows old new h request reply (replay program start history) few serves is.shows;
    }

pub evicted_more : (program : Sections) (start : List (List ℕ)) (history : List Entry) (old new : SharedView) (line : ℕ)
    → IsReplay program start history old → Evicts old new line → IsReplay program start (Evicted line ∷ history) new
unfolding replay
evicted_more program start history old new line is evicts = record {
  told = ap (λ (t : List Entry). Evicted line ∷ t) is.told;
  shows = evicted_shows old new line (replay program start history) evicts is.shows;
}

-- and its cache is still the one that the history leaves
exact_more : (program : Sections) (start : List (List ℕ)) (history : List Entry) (old new : SharedView) (h : ℕ) (request : Request) (reply : Reply)
    → h < 8 → IsReplay program start history old → IsExact old (replay program start history) → Serves old new h request reply
    → IsExact new (replay program start (Asked h request reply ∷ history))
unfolding replay
exact_more program start history old new h request reply few is exact serves =
    served_exact old new h request reply (replay program start history) few serves is.shows exact

exact_evicted : (program : Sections) (start : List (List ℕ)) (history : List Entry) (old new : SharedView) (line : ℕ)
    → IsExact old (replay program start history) → Evicts old new line → IsExact new (replay program start (Evicted line ∷ history))
unfolding replay
exact_evicted program start history old new line exact evicts = evicted_exact old new line (replay program start history) evicts exact

-- the first memory of a replay is that of its start
pub initial_is : (program : Sections) (start : List (List ℕ)) (history : List Entry)
    → (replay program start history).initial ≡ starting_memory program start
unfolding replay
initial_is program start [] = refl
initial_is program start (Asked h request reply ∷ before) = initial_is program start before
initial_is program start (Evicted line ∷ before) = initial_is program start before

-- the text that is shared is that of the flat memory right after the request
pub renews : (program : Sections) (start : List (List ℕ)) (history : List Entry) (old new : SharedView) (h : ℕ) (request : Request) (reply : Reply)
    → h < 8 → IsReplay program start history old → Serves old new h request reply
    → text_bytes new.ram.text ≡ text_of (replayed (starting_memory program start) (Asked h request reply ∷ history))
renews program start history old new h request reply few is serves =
    let now = told_more program start history old new h request reply few is serves in
    let c : SharedState = replay program start (Asked h request reply ∷ history) in
    let memory : memory_in c ≡ replayed (starting_memory program start) (Asked h request reply ∷ history) =
    ap (λ (m : Memory). replayed m c.history) (initial_is program start (Asked h request reply ∷ history))
    ∙ ap (λ (entries : List Entry). replayed (starting_memory program start) entries) now.told in
    text_there new.ram (line_bytes (lines_shown new)) ∙ ap (λ (m : Memory). text_of m) (now.shows.memory ∙ memory)

-- the same by the entries of a vector, the oldest first
reverse_more : (entries : List Entry) (entry : Entry) → reverse (entries ++ entry ∷ []) ≡ entry ∷ reverse entries
reverse_more entries entry = reverse-append entries (entry ∷ [])

pub asked_kept : (program : Sections) (start : List (List ℕ)) (entries all : List Entry) (old new : SharedView) (harts h : ℕ) (request : Request) (reply : Reply)
    → h < harts → harts ≤ 8 → IsReplay program start (reverse entries) old → Serves old new h request reply → all ≡ entries ++ Asked h request reply ∷ []
    → IsReplay program start (reverse all) new
asked_kept program start entries all old new harts h request reply there few is serves e =
    rw (e, reverse_more entries (Asked h request reply)) (told_more program start (reverse entries) old new h request reply (omega arith) is serves)

pub evicted_kept : (program : Sections) (start : List (List ℕ)) (entries all : List Entry) (old new : SharedView) (line : ℕ)
    → IsReplay program start (reverse entries) old → Evicts old new line → all ≡ entries ++ Evicted line ∷ []
    → IsReplay program start (reverse all) new
evicted_kept program start entries all old new line is evicts e =
    rw (e, reverse_more entries (Evicted line)) (evicted_more program start (reverse entries) old new line is evicts)

pub asked_exact : (program : Sections) (start : List (List ℕ)) (entries all : List Entry) (old new : SharedView) (harts h : ℕ) (request : Request) (reply : Reply)
    → h < harts → harts ≤ 8 → IsReplay program start (reverse entries) old → IsExact old (replay program start (reverse entries))
    → Serves old new h request reply → all ≡ entries ++ Asked h request reply ∷ [] → IsExact new (replay program start (reverse all))
asked_exact program start entries all old new harts h request reply there few is exact serves e =
    rw (e, reverse_more entries (Asked h request reply)) (exact_more program start (reverse entries) old new h request reply (omega arith) is exact serves)

pub evicted_stays_exact : (program : Sections) (start : List (List ℕ)) (entries all : List Entry) (old new : SharedView) (line : ℕ)
    → IsExact old (replay program start (reverse entries)) → Evicts old new line → all ≡ entries ++ Evicted line ∷ []
    → IsExact new (replay program start (reverse all))
evicted_stays_exact program start entries all old new line exact evicts e =
    rw (e, reverse_more entries (Evicted line)) (exact_evicted program start (reverse entries) old new line exact evicts)

-- each hart of the history is one of the core's
pub asked_below : (harts : ℕ) (entries all : List Entry) (h : ℕ) (request : Request) (reply : Reply) → h < harts
    → AreBelow harts (reverse entries) → all ≡ entries ++ Asked h request reply ∷ [] → AreBelow harts (reverse all)
asked_below harts entries all h request reply few below e = rw (e, reverse_more entries (Asked h request reply)) (few, below)

pub evicted_below : (harts : ℕ) (entries all : List Entry) (line : ℕ)
    → AreBelow harts (reverse entries) → all ≡ entries ++ Evicted line ∷ [] → AreBelow harts (reverse all)
evicted_below harts entries all line below e = rw (e, reverse_more entries (Evicted line)) below

-- each line that was evicted is one of the medium's
pub asked_lines : (lines : ℕ) (entries all : List Entry) (h : ℕ) (request : Request) (reply : Reply) → LinesBelow lines (reverse entries)
    → all ≡ entries ++ Asked h request reply ∷ [] → LinesBelow lines (reverse all)
asked_lines lines entries all h request reply below e = rw (e, reverse_more entries (Asked h request reply)) below

pub evicted_lines : (lines : ℕ) (entries all : List Entry) (line : ℕ) → line < lines → LinesBelow lines (reverse entries)
    → all ≡ entries ++ Evicted line ∷ [] → LinesBelow lines (reverse all)
evicted_lines lines entries all line there below e = rw (e, reverse_more entries (Evicted line)) (there, below)

-- what a core tells, by its fields
pub tells_is : (program : Sections) (start : List (List ℕ)) (harts capacity : ℕ) (entries all : List Entry) (old new : SharedView) (h : ℕ)
    (request : Request) (reply : Reply) → h < 8 → IsReplay program start (reverse entries) old → Serves old new h request reply
    → all ≡ entries ++ Asked h request reply ∷ [] → (core : CoreView)
    → core ≡ record { program = program; start = start; harts = harts; capacity = capacity; shared = old; history = reverse entries }
    → Tells core (record { program = program; start = start; harts = harts; capacity = capacity; shared = new; history = reverse all }) h request reply
tells_is program start harts capacity entries all old new h request reply few is serves e core view =
    rw view (record {
      answer = tells program start (reverse entries) old new h request reply few is serves;
      serves = serves;
      core = ap (λ (history : List Entry). record { program = program; start = start; harts = harts; capacity = capacity; shared = new; history = history })
          (ap (λ (l : List Entry). reverse l) e ∙ reverse_more entries (Asked h request reply));
    })

pub renews_is : (program : Sections) (start : List (List ℕ)) (harts capacity : ℕ) (entries all : List Entry) (old new : SharedView) (h : ℕ)
    (request : Request) (reply : Reply) → h < 8 → IsReplay program start (reverse entries) old → Serves old new h request reply
    → all ≡ entries ++ Asked h request reply ∷ [] → (core : CoreView)
    → core ≡ record { program = program; start = start; harts = harts; capacity = capacity; shared = old; history = reverse entries }
    → text_bytes new.ram.text ≡ text_of (replayed (starting_memory core.program core.start) (reverse all))
renews_is program start harts capacity entries all old new h request reply few is serves e core view =
    rw (view, e, reverse_more entries (Asked h request reply)) (renews program start (reverse entries) old new h request reply few is serves)

-- what a core evicts, by its fields
pub evicts_is : (program : Sections) (start : List (List ℕ)) (harts capacity : ℕ) (entries all : List Entry) (old new : SharedView) (line : ℕ)
    → Evicts old new line → all ≡ entries ++ Evicted line ∷ [] → (core : CoreView)
    → core ≡ record { program = program; start = start; harts = harts; capacity = capacity; shared = old; history = reverse entries }
    → EvictsLine core (record { program = program; start = start; harts = harts; capacity = capacity; shared = new; history = reverse all }) line
evicts_is program start harts capacity entries all old new line evicts e core view =
    rw view (record {
      evicts = evicts;
      core = ap (λ (history : List Entry). record { program = program; start = start; harts = harts; capacity = capacity; shared = new; history = history })
          (ap (λ (l : List Entry). reverse l) e ∙ reverse_more entries (Evicted line));
    })
