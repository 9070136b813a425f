-- What is printed of mends as JSON: an object a line.
use Rattle.std.specs.Prelude.{ℕ, List, ◌++◌, codes, decimal}
use Rattle.durability.specs.declared.mend.Deadline.{Deadline}
use Rattle.durability.specs.declared.mend.Deadline.TheVariants.{BeforeKept, BeforeEnd, BeforeBegin}
use Rattle.durability.specs.declared.mend.Mend.{Mend}
use Rattle.durability.specs.declared.mend.Mend.TheVariants.{Fence, CleanAndFence, Later, Earlier}
use Rattle.report.specs.Json.{null, object_end}

-- a number that may have 64 bits, as a text
abbrev pub quoted_number : ℕ → List ℕ
quoted_number n = codes "\"" ++ (decimal n ++ codes "\"")

-- `"before":E,"deadline":"end","operation":"1"`
abbrev pub before_members : List ℕ → List ℕ → List ℕ → List ℕ
before_members event kind operation = codes "\"before\":" ++ (event ++ (codes ",\"deadline\":\"" ++ (kind ++ (codes "\",\"operation\":" ++ operation))))

abbrev pub no_deadline : List ℕ
no_deadline = codes "\"before\":null,\"deadline\":null,\"operation\":null"

-- by when a store had to be durable, by the object of each event
abbrev pub deadline_members : (ℕ → List ℕ) → Deadline → List ℕ
deadline_members event (BeforeKept store) = before_members (event store) (codes "kept") null
deadline_members event (BeforeEnd mark) = before_members (event mark.event) (codes "end") (quoted_number mark.operation)
deadline_members event (BeforeBegin mark) = before_members (event mark.event) (codes "begin") (quoted_number mark.operation)

-- the members that tell a mend: its words, the line to clean, what it comes behind, its deadline, and the store that is to be moved
abbrev pub mend_of : List ℕ → List ℕ → List ℕ → List ℕ → List ℕ → List ℕ
mend_of words line behind deadline store = codes "\"mend\":\"" ++ (words ++ (codes "\",\"cache_line\":" ++ (line
    ++ (codes ",\"behind\":" ++ (behind ++ (codes "," ++ (deadline ++ (codes ",\"store\":" ++ store))))))))

abbrev pub mend_members : (ℕ → List ℕ) → Mend → List ℕ
mend_members event (Fence behind deadline) = mend_of (codes "fence") null (event behind) (deadline_members event deadline) null
mend_members event (CleanAndFence line behind deadline) =
    mend_of (codes "clean and fence") (decimal line) (event behind) (deadline_members event deadline) null
mend_members event (Later store) = mend_of (codes "store later") null null no_deadline (event store)
mend_members event (Earlier store) = mend_of (codes "store earlier") null null no_deadline (event store)

abbrev pub mend_object : (ℕ → List ℕ) → Mend → List ℕ
mend_object event mend = codes "{\"kind\":\"mend\"," ++ (mend_members event mend ++ object_end)
