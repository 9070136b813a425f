-- What the words behind a command's name say, and why they say nothing.
use Rattle.std.proofs.Common.{◌≡◌, ◌≢◌, ◌≤◌, ◌<◌, ◌^◌, ◌&&◌, ℕ, Bool, true, false, List, [], ◌∷◌, codes, inl, inr, ap, refl, sym, ◌∙◌, arith, eqb, eq-eqb}
use Rattle.std.proofs.lemmas.Bool.{true≢false}
use Rattle.debugger.specs.Code.{KnownCode}
use Rattle.debugger.specs.declared.fault.DebugFault.{DebugFault}
use Rattle.debugger.specs.declared.fault.DebugFault.TheVariants as faults
use Rattle.machine.specs.Grammar.{IsSchedule}
use Rattle.machine.specs.declared.schedule.items.Item.{Item}
use Rattle.machine.specs.declared.shared_memory.fault.StepFault.TheVariants as refusals
use Rattle.debugger.specs.Grammar.{Asked, IsFar, IsNoHart, IsOneAddress, IsOneHart, IsOnePlace, IsRange, Names, NamesNoHart, OnAddress, OnAsked, OnHart, OnName, OnPlace, SaysNamed, SaysPlain, breaks, watches, clears, steps, shows, locates, peeks, goes, goes_on, lists_lines, says_more, helps, quits, IsSwitch}
use Rattle.std.specs.Str.Parse.{IsNumeral}
use Rattle.text.specs.Numbers.{IsWritten, Writes}
use Rattle.text.specs.Words.{words}
use Rattle.text.specs.declared.numbers.Number.{Number}
use Rattle.text.specs.declared.numbers.Number.TheVariants.{Small, Large}

-- two names differ
abbrev same_bytes : List ℕ → List ℕ → Bool
same_bytes [] [] = true
same_bytes [] (y ∷ ys) = false
same_bytes (x ∷ xs) [] = false
same_bytes (x ∷ xs) (y ∷ ys) = eqb x y && same_bytes xs ys

same_self : (xs : List ℕ) → same_bytes xs xs ≡ true
same_self [] = refl
same_self (x ∷ xs) = rw (eq-eqb x x refl) (same_self xs)

same_as : (xs ys : List ℕ) → xs ≡ ys → same_bytes xs ys ≡ true
same_as xs ys e = rw (← e) (same_self xs)

differ : (xs ys : List ℕ) → same_bytes xs ys ≡ false → xs ≡ ys → ⊥
differ xs ys off e = let bad : true ≡ false = sym (same_as xs ys e) ∙ off in absurd (cc)

-- a name says what it is the name of, and nothing else
only_break : (code : KnownCode) (rest : List ℕ) (asked : Asked) → SaysNamed code (codes "break") rest asked → (number : Number) × IsOnePlace code (words rest) number
only_break code rest (breaks number) s = (number, s.1)
only_break code rest (clears number) s = absurd (differ (codes "break") _ refl s.0)
only_break code rest asked s = absurd (differ (codes "break") _ refl s.0)

only_watch : (rest : List ℕ) (asked : Asked) → SaysPlain (codes "watch") rest asked → (number : Number) × IsOneAddress (words rest) number
only_watch rest (watches number) s = (number, s.1)
only_watch rest (breaks number) s = absurd s
only_watch rest (clears number) s = absurd s
only_watch rest asked s = absurd (differ (codes "watch") _ refl s.0)

only_clear : (code : KnownCode) (rest : List ℕ) (asked : Asked) → SaysNamed code (codes "clear") rest asked → (number : Number) × IsOnePlace code (words rest) number
only_clear code rest (clears number) s = (number, s.1)
only_clear code rest (breaks number) s = absurd (differ (codes "clear") _ refl s.0)
only_clear code rest asked s = absurd (differ (codes "clear") _ refl s.0)

only_step : (rest : List ℕ) (asked : Asked) → SaysPlain (codes "step") rest asked → (number : Number) × IsOneHart (words rest) number
only_step rest (steps number) s = (number, s.1)
only_step rest (breaks number) s = absurd s
only_step rest (clears number) s = absurd s
only_step rest asked s = absurd (differ (codes "step") _ refl s.0)

only_regs : (rest : List ℕ) (asked : Asked) → SaysPlain (codes "regs") rest asked → (number : Number) × IsOneHart (words rest) number
only_regs rest (shows number) s = (number, s.1)
only_regs rest (breaks number) s = absurd s
only_regs rest (clears number) s = absurd s
only_regs rest asked s = absurd (differ (codes "regs") _ refl s.0)

only_where : (rest : List ℕ) (asked : Asked) → SaysPlain (codes "where") rest asked → (number : Number) × IsOneHart (words rest) number
only_where rest (locates number) s = (number, s.1)
only_where rest (breaks number) s = absurd s
only_where rest (clears number) s = absurd s
only_where rest asked s = absurd (differ (codes "where") _ refl s.0)

-- the address of an instruction
place_fault : (code : KnownCode) (make : Number → Asked) (name rest : List ℕ) (fault : DebugFault)
    → ((number : Number) → IsOnePlace code (words rest) number → SaysNamed code name rest (make number)) → IsFar (make Large)
    → ((asked : Asked) → SaysNamed code name rest asked → (number : Number) × IsOnePlace code (words rest) number)
    → OnPlace code (words rest) fault → OnAsked (SaysNamed code name rest) fault
place_fault code make name rest faults.Command says far only on = λ asked s. let one = only asked s in on one.0 one.1
place_fault code make name rest faults.Address says far only on = (make Large, says Large on, far)
place_fault code make name rest faults.PointsFull says far only on = absurd on
place_fault code make name rest faults.Memory says far only on = absurd on
place_fault code make name rest faults.InputOutput says far only on = absurd on
place_fault code make name rest (faults.Step fault) says far only on = absurd on
place_fault code make name rest (faults.Stopped place fault) says far only on = absurd on

pub break_fault : (code : KnownCode) (rest : List ℕ) (fault : DebugFault) → OnPlace code (words rest) fault
    → OnAsked (SaysNamed code (codes "break") rest) fault
break_fault code rest fault on = place_fault code breaks (codes "break") rest fault (λ number one. (refl, one)) refl (only_break code rest) on

pub clear_fault : (code : KnownCode) (rest : List ℕ) (fault : DebugFault) → OnPlace code (words rest) fault
    → OnAsked (SaysNamed code (codes "clear") rest) fault
clear_fault code rest fault on = place_fault code clears (codes "clear") rest fault (λ number one. (refl, one)) refl (only_clear code rest) on

-- an address
pub watch_fault : (rest : List ℕ) (fault : DebugFault) → OnAddress (words rest) fault → OnAsked (SaysPlain (codes "watch") rest) fault
watch_fault rest faults.Command on = λ asked s. let one = only_watch rest asked s in on one.0 one.1
watch_fault rest faults.Address on = (watches Large, (refl, on), refl)
watch_fault rest faults.PointsFull on = absurd on
watch_fault rest faults.Memory on = absurd on
watch_fault rest faults.InputOutput on = absurd on
watch_fault rest (faults.Step fault) on = absurd on
watch_fault rest (faults.Stopped place fault) on = absurd on

-- harts
hart_fault : (make : Number → Asked) (name rest : List ℕ) (fault : DebugFault)
    → ((number : Number) → IsOneHart (words rest) number → SaysPlain name rest (make number))
    → ((number : Number) → IsNoHart number → NamesNoHart (make number))
    → ((asked : Asked) → SaysPlain name rest asked → (number : Number) × IsOneHart (words rest) number)
    → OnHart (words rest) fault → OnAsked (SaysPlain name rest) fault
hart_fault make name rest faults.Command says none only on = λ asked s. let one = only asked s in on one.0 one.1
hart_fault make name rest faults.Address says none only on = absurd on
hart_fault make name rest faults.PointsFull says none only on = absurd on
hart_fault make name rest faults.Memory says none only on = absurd on
hart_fault make name rest faults.InputOutput says none only on = absurd on
hart_fault make name rest (faults.Step refusals.NoSuchHart) says none only on = (make on.0, says on.0 on.1, none on.0 on.2)
hart_fault make name rest (faults.Step refusals.NoSuchLine) says none only on = absurd on
hart_fault make name rest (faults.Step refusals.TraceFull) says none only on = absurd on
hart_fault make name rest (faults.Step refusals.Memory) says none only on = absurd on
hart_fault make name rest (faults.Step refusals.OutOfLimits) says none only on = absurd on
hart_fault make name rest (faults.Stopped place fault) says none only on = absurd on

pub step_fault : (rest : List ℕ) (fault : DebugFault) → OnHart (words rest) fault → OnAsked (SaysPlain (codes "step") rest) fault
step_fault rest fault on = hart_fault steps (codes "step") rest fault (λ number one. (refl, one)) (λ number none. none) (only_step rest) on

pub regs_fault : (rest : List ℕ) (fault : DebugFault) → OnHart (words rest) fault → OnAsked (SaysPlain (codes "regs") rest) fault
regs_fault rest fault on = hart_fault shows (codes "regs") rest fault (λ number one. (refl, one)) (λ number none. none) (only_regs rest) on

pub where_fault : (rest : List ℕ) (fault : DebugFault) → OnHart (words rest) fault → OnAsked (SaysPlain (codes "where") rest) fault
where_fault rest fault on = hart_fault locates (codes "where") rest fault (λ number one. (refl, one)) (λ number none. none) (only_where rest) on

-- tests
true_and_false : (b : Bool) → b ≡ true → b ≡ false → ⊥
true_and_false b p q = true≢false (sym p ∙ q)

-- one word
same_word : (parts : List (List ℕ)) (word other : List ℕ) → parts ≡ word ∷ [] → parts ≡ other ∷ [] → other ≡ word
same_word parts word other a b = cc

pub no_address_word : (parts : List (List ℕ)) (number : Number) → ((word : List ℕ) → parts ≢ word ∷ []) → ¬ (IsOneAddress parts number)
no_address_word parts number none one = none one.word one.spelled

pub no_hart_word : (parts : List (List ℕ)) (number : Number) → ((word : List ℕ) → parts ≢ word ∷ []) → ¬ (IsOneHart parts number)
no_hart_word parts number none one = none one.word one.spelled

pub address_said : (parts : List (List ℕ)) (word : List ℕ) (number : Number) → parts ≡ word ∷ [] → IsWritten word number → IsOneAddress parts number
address_said parts word number spelled address = record { word = word; spelled = spelled; address = address }

address_alike : (word other : List ℕ) (number : Number) → other ≡ word → IsWritten other number → IsWritten word number
address_alike word other number e said = rw (← e) said

pub no_address : (parts : List (List ℕ)) (word : List ℕ) (number : Number) → parts ≡ word ∷ [] → ((n : Number) → ¬ (IsWritten word n))
    → ¬ (IsOneAddress parts number)
no_address parts word number spelled none one =
    none number (address_alike word one.word number (same_word parts word one.word spelled one.spelled) one.address)

-- a place
pub place_said : (code : KnownCode) (parts : List (List ℕ)) (word : List ℕ) (number : Number) → parts ≡ word ∷ [] → IsWritten word number
    → IsOnePlace code parts number
place_said code parts word number spelled address = record { word = word; spelled = spelled; place = inl address }

pub no_place_word : (code : KnownCode) (parts : List (List ℕ)) (number : Number) → ((word : List ℕ) → parts ≢ word ∷ []) → ¬ (IsOnePlace code parts number)
no_place_word code parts number none one = none one.word one.spelled

-- a word that the code takes for a name, and what it stands for
pub place_named : (code : KnownCode) (parts : List (List ℕ)) (word : List ℕ) (number : Number) → parts ≡ word ∷ [] → ((n : Number) → ¬ (IsWritten word n))
    → code.named word ≡ true → Names code word number → IsOnePlace code parts number
place_named code parts word number spelled none named stands = record { word = word; spelled = spelled; place = inr ((none, named), stands) }

pub no_name_there : (code : KnownCode) (parts : List (List ℕ)) (word : List ℕ) (number : Number) → parts ≡ word ∷ [] → ((n : Number) → ¬ (IsWritten word n))
    → code.named word ≡ false → ¬ (IsOnePlace code parts number)
no_name_there code parts word number spelled none unnamed one = elim one.place [
  | inl written ↦ none number (address_alike word one.word number (same_word parts word one.word spelled one.spelled) written)
  | inr name ↦ true_and_false (code.named word) (ap code.named (sym (same_word parts word one.word spelled one.spelled)) ∙ name.0.1) unnamed
]

pub name_fault : (code : KnownCode) (parts : List (List ℕ)) (word : List ℕ) (fault : DebugFault) → parts ≡ word ∷ []
    → ((n : Number) → ¬ (IsWritten word n)) → OnName code word fault → OnPlace code parts fault
name_fault code parts word faults.Command spelled none on = λ number. no_name_there code parts word number spelled none on
name_fault code parts word faults.Address spelled none on = place_named code parts word Large spelled none on.0 on.1
name_fault code parts word faults.PointsFull spelled none on = absurd on
name_fault code parts word faults.Memory spelled none on = absurd on
name_fault code parts word faults.InputOutput spelled none on = absurd on
name_fault code parts word (faults.Step fault) spelled none on = absurd on
name_fault code parts word (faults.Stopped place fault) spelled none on = absurd on

pub hart_said : (parts : List (List ℕ)) (word : List ℕ) (number : Number) → parts ≡ word ∷ [] → Writes 10 word number → IsOneHart parts number
hart_said parts word number spelled writes = record { word = word; spelled = spelled; writes = writes }

pub hart_past : (parts : List (List ℕ)) (word : List ℕ) (number : ℕ) → parts ≡ word ∷ [] → Writes 10 word (Small number)
    → 4294967295 < number → OnHart parts (faults.Step refusals.NoSuchHart)
hart_past parts word number spelled writes past =
    let large : 2 ^ 32 ≤ number = omega arith in (Small number, hart_said parts word (Small number) spelled writes, large)

pub hart_large : (parts : List (List ℕ)) (word : List ℕ) → parts ≡ word ∷ [] → Writes 10 word Large
    → OnHart parts (faults.Step refusals.NoSuchHart)
hart_large parts word spelled writes = (Large, hart_said parts word Large spelled writes, tt)

numeral_alike : (word other : List ℕ) → other ≡ word → IsNumeral 10 other → IsNumeral 10 word
numeral_alike word other e said = rw (← e) said

pub no_hart : (parts : List (List ℕ)) (word : List ℕ) (number : Number) → parts ≡ word ∷ [] → ¬ (IsNumeral 10 word) → ¬ (IsOneHart parts number)
no_hart parts word number spelled none one =
    none (numeral_alike word one.word (same_word parts word one.word spelled one.spelled) one.writes.numeral)

-- an address and a number of bytes
pub range_said : (parts rest : List (List ℕ)) (word digits : List ℕ) (number : Number) (count : ℕ) → parts ≡ word ∷ rest → rest ≡ digits ∷ []
    → IsWritten word number → Writes 10 digits (Small count) → 1 ≤ count → count ≤ 64 → IsRange parts number count
range_said parts rest word digits number count first second address writes least most = record {
  word = word;
  digits = digits;
  spelled = rw (← second) first;
  address = address;
  writes = writes;
  least = least;
  most = most;
}

pub no_range_word : (parts : List (List ℕ)) (number : Number) (count : ℕ) → parts ≡ [] → ¬ (IsRange parts number count)
no_range_word parts number count none range = let spelled = range.spelled in absurd (cc)

first_word_is : (parts rest : List (List ℕ)) (word digits other : List ℕ) → parts ≡ word ∷ rest → parts ≡ other ∷ digits ∷ [] → other ≡ word
first_word_is parts rest word digits other a b = cc

rest_is : (parts rest : List (List ℕ)) (word digits other : List ℕ) → parts ≡ word ∷ rest → parts ≡ other ∷ digits ∷ [] → rest ≡ digits ∷ []
rest_is parts rest word digits other a b = cc

pub no_range_digits : (parts rest : List (List ℕ)) (word : List ℕ) (number : Number) (count : ℕ) → parts ≡ word ∷ rest
    → ((digits : List ℕ) → rest ≢ digits ∷ []) → ¬ (IsRange parts number count)
no_range_digits parts rest word number count first none range =
    none range.digits (rest_is parts rest word range.digits range.word first range.spelled)

pub no_range_address : (parts rest : List (List ℕ)) (word : List ℕ) (number : Number) (count : ℕ) → parts ≡ word ∷ rest
    → ((n : Number) → ¬ (IsWritten word n)) → ¬ (IsRange parts number count)
no_range_address parts rest word number count first none range =
    none number (address_alike word range.word number (first_word_is parts rest word range.digits range.word first range.spelled) range.address)

pub no_range_count : (parts rest : List (List ℕ)) (word digits : List ℕ) (number : Number) (count : ℕ) → parts ≡ word ∷ rest → rest ≡ digits ∷ []
    → ((n : ℕ) → Writes 10 digits (Small n) → 1 ≤ n → n ≤ 64 → ⊥) → ¬ (IsRange parts number count)
no_range_count parts rest word digits number count first second none range =
    none count (rw (same_word rest digits range.digits second (rest_is parts rest word range.digits range.word first range.spelled)) at range.writes)
    range.least range.most

pub range_fault : (rest : List ℕ) (asked : Asked) → ((number : Number) (count : ℕ) → ¬ (IsRange (words rest) number count))
    → ¬ (SaysPlain (codes "peek") rest asked)
range_fault rest (peeks number count) none s = none number count s.1
range_fault rest (breaks number) none s = absurd s
range_fault rest (clears number) none s = absurd s
range_fault rest asked none s = absurd (differ (codes "peek") _ refl s.0)

-- schedules, and nothing
pub go_none : (rest : List ℕ) (asked : Asked) → words rest ≢ [] → ((items : List Item) → ¬ (IsSchedule rest items))
    → ¬ (SaysPlain (codes "go") rest asked)
go_none rest (goes items) filled none s = none items s.2
go_none rest (breaks number) filled none s = absurd s
go_none rest (clears number) filled none s = absurd s
go_none rest goes_on filled none s = filled s.1
go_none rest asked filled none s = absurd (differ (codes "go") _ refl s.0)

pub go_wants : (rest : List ℕ) → words rest ≢ [] → (items : List Item) × IsSchedule rest items
    → OnAsked (SaysPlain (codes "go") rest) faults.Memory
go_wants rest filled read = (read.0, (refl, filled, read.1))

pub quit_none : (rest : List ℕ) (asked : Asked) → words rest ≢ [] → ¬ (SaysPlain (codes "quit") rest asked)
quit_none rest quits filled s = filled s.1
quit_none rest (breaks number) filled s = absurd s
quit_none rest (clears number) filled s = absurd s
quit_none rest asked filled s = absurd (differ (codes "quit") _ refl s.0)

pub lines_none : (rest : List ℕ) (asked : Asked) → words rest ≢ [] → ¬ (SaysPlain (codes "lines") rest asked)
lines_none rest lists_lines filled s = filled s.1
lines_none rest (breaks number) filled s = absurd s
lines_none rest (clears number) filled s = absurd s
lines_none rest asked filled s = absurd (differ (codes "lines") _ refl s.0)

pub help_none : (rest : List ℕ) (asked : Asked) → words rest ≢ [] → ¬ (SaysPlain (codes "help") rest asked)
help_none rest helps filled s = filled s.1
help_none rest (breaks number) filled s = absurd s
help_none rest (clears number) filled s = absurd s
help_none rest asked filled s = absurd (differ (codes "help") _ refl s.0)

-- a switch
pub no_switch_word : (parts : List (List ℕ)) (on : Bool) → ((word : List ℕ) → parts ≢ word ∷ []) → ¬ (IsSwitch parts on)
no_switch_word parts true none is = none (codes "on") is
no_switch_word parts false none is = none (codes "off") is

pub no_switch : (parts : List (List ℕ)) (word : List ℕ) (on : Bool) → parts ≡ word ∷ [] → word ≢ codes "on" → word ≢ codes "off"
    → ¬ (IsSwitch parts on)
no_switch parts word true spelled up down is = up (sym (same_word parts word (codes "on") spelled is))
no_switch parts word false spelled up down is = down (sym (same_word parts word (codes "off") spelled is))

pub verbose_none : (rest : List ℕ) (asked : Asked) → ((on : Bool) → ¬ (IsSwitch (words rest) on)) → ¬ (SaysPlain (codes "verbose") rest asked)
verbose_none rest (says_more on) none s = none on s.1
verbose_none rest (breaks number) none s = absurd s
verbose_none rest (clears number) none s = absurd s
verbose_none rest asked none s = absurd (differ (codes "verbose") _ refl s.0)

-- no name
pub no_name : (name rest : List ℕ) (asked : Asked) → name ≢ codes "watch" → name ≢ codes "step" → name ≢ codes "regs" → name ≢ codes "where"
    → name ≢ codes "peek" → name ≢ codes "go" → name ≢ codes "lines" → name ≢ codes "verbose" → name ≢ codes "help" → name ≢ codes "quit"
    → ¬ (SaysPlain name rest asked)
no_name name rest (breaks number) w s r p k g l v h q said = said
no_name name rest (watches number) w s r p k g l v h q said = w said.0
no_name name rest (clears number) w s r p k g l v h q said = said
no_name name rest (steps number) w s r p k g l v h q said = s said.0
no_name name rest (shows number) w s r p k g l v h q said = r said.0
no_name name rest (locates number) w s r p k g l v h q said = p said.0
no_name name rest (peeks number count) w s r p k g l v h q said = k said.0
no_name name rest (goes items) w s r p k g l v h q said = g said.0
no_name name rest goes_on w s r p k g l v h q said = g said.0
no_name name rest lists_lines w s r p k g l v h q said = l said.0
no_name name rest (says_more on) w s r p k g l v h q said = v said.0
no_name name rest helps w s r p k g l v h q said = h said.0
no_name name rest quits w s r p k g l v h q said = q said.0

-- a command of another name takes no address of an instruction
pub plain_said : (code : KnownCode) (name rest : List ℕ) (asked : Asked) → SaysPlain name rest asked → SaysNamed code name rest asked
plain_said code name rest (breaks number) s = absurd s
plain_said code name rest (clears number) s = absurd s
plain_said code name rest asked s = s

is_plain : (code : KnownCode) (name rest : List ℕ) (asked : Asked) → name ≢ codes "break" → name ≢ codes "clear" → SaysNamed code name rest asked
    → SaysPlain name rest asked
is_plain code name rest (breaks number) b c s = absurd (b s.0)
is_plain code name rest (clears number) b c s = absurd (c s.0)
is_plain code name rest asked b c s = s

pub plain_fault : (code : KnownCode) (name rest : List ℕ) (fault : DebugFault) → name ≢ codes "break" → name ≢ codes "clear"
    → OnAsked (SaysPlain name rest) fault → OnAsked (SaysNamed code name rest) fault
plain_fault code name rest faults.Command b c on = λ asked s. on asked (is_plain code name rest asked b c s)
plain_fault code name rest faults.Address b c on = (on.0, plain_said code name rest on.0 on.1, on.2)
plain_fault code name rest faults.Memory b c on = (on.0, on.1)
plain_fault code name rest faults.PointsFull b c on = absurd on
plain_fault code name rest faults.InputOutput b c on = absurd on
plain_fault code name rest (faults.Step refusals.NoSuchHart) b c on = (on.0, plain_said code name rest on.0 on.1, on.2)
plain_fault code name rest (faults.Step refusals.NoSuchLine) b c on = absurd on
plain_fault code name rest (faults.Step refusals.TraceFull) b c on = absurd on
plain_fault code name rest (faults.Step refusals.Memory) b c on = absurd on
plain_fault code name rest (faults.Step refusals.OutOfLimits) b c on = absurd on
plain_fault code name rest (faults.Stopped place fault) b c on = absurd on
