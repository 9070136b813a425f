-- The texts that harts fetch: a copy of the bytes of the text region is the text of the flat memory that it was made of.
use Rattle.std.proofs.Common.{◌≡◌, ◌≢◌, ℕ, ◌+◌, ◌<◌, ◌≤◌, List, [], ◌∷◌, length, replicate, Some, None, nat_le, nat_lt, slice_index_or, refl, sym, inl, inr, arith}
use Rattle.std.proofs.lemmas.Bool.{cases_lt, cases_Bool, cases_eq, le-leb, lt-leb, lt-ltb, le-ltb, eq-eqb, ne_eqb, and_right}
use Rattle.std.proofs.lemmas.List.{get_or-replicate, get_or-set_same, get_or-set_other}
use Rattle.word_bits.specs.Bytes.{loaded}
use Rattle.hart.specs.declared.need.Request.{Request}
use Rattle.hart.specs.declared.need.Reply.{Reply}
use Rattle.line_memory.specs.Memory.{Memory}
use Rattle.line_memory.specs.Regions.{RamView, flat, ram_bytes, region}
use Rattle.line_memory.specs.declared.TheConstants.{DATA_BASE, PERSISTENT_BASE, TEXT_BASE, TEXT_SIZE}
use Rattle.line_memory.proofs.Accesses.{region_loaded}
use Rattle.machine.specs.declared.shared_memory.history.Entry.{Entry}
use Rattle.machine.specs.declared.shared_memory.history.Entry.TheVariants.{Asked}
use Rattle.machine.specs.Histories.{fetched_text, is_renewing, replayed, text_of}
use Rattle.machine.specs.Run.{fetched}
use Rattle.machine.specs.Represents.{copies_after, text_bytes}

-- the text of a flat memory is that of its text region
pub text_there : (ram : RamView) (persistent : Memory) → text_bytes ram.text ≡ text_of (flat (ram_bytes ram) persistent)
unfolding region ram_bytes flat
text_there ram persistent =
    let same : (a : ℕ) → text_bytes ram.text a ≡ text_of (flat (ram_bytes ram) persistent) a = λ a.
    elim (cases_lt a (TEXT_BASE + TEXT_SIZE)) [
      | inl low ↦ rw (lt-ltb a PERSISTENT_BASE (omega arith), lt-ltb a DATA_BASE (omega arith), lt-ltb a (TEXT_BASE + TEXT_SIZE) low)
          (elim (cases_Bool (nat_le TEXT_BASE a)) [ inl e ↦ rw e refl | inr e ↦ rw e refl ])
      | inr high ↦ rw (and_right (nat_le TEXT_BASE a) (nat_lt a (TEXT_BASE + TEXT_SIZE)) (le-ltb a (TEXT_BASE + TEXT_SIZE) high)) refl
    ] in
    λ i a. same a i

-- the word at an address of a copy
pub word_fetched : (bytes : List ℕ) (pc at : ℕ) → length bytes ≡ TEXT_SIZE → pc ≡ TEXT_BASE + at → at + 4 ≤ TEXT_SIZE
    → fetched (text_bytes bytes) pc ≡ Some (loaded bytes at 4)
word_fetched bytes pc at whole place fits =
    rw (le-leb TEXT_BASE pc (omega arith), le-leb (pc + 4) (TEXT_BASE + TEXT_SIZE) (omega arith))
    (region_loaded TEXT_BASE TEXT_SIZE bytes pc 4 at whole place fits)

pub no_word_below : (text : Memory) (pc : ℕ) → pc < TEXT_BASE → fetched text pc ≡ None
no_word_below text pc low = rw (lt-leb TEXT_BASE pc low) refl

pub no_word_above : (text : Memory) (pc : ℕ) → TEXT_BASE + TEXT_SIZE < pc + 4 → fetched text pc ≡ None
no_word_above text pc high =
    rw (and_right (nat_le TEXT_BASE pc) (nat_le (pc + 4) (TEXT_BASE + TEXT_SIZE)) (lt-leb (pc + 4) (TEXT_BASE + TEXT_SIZE) high)) refl

-- the copies after a request of hart h, where the text of a FENCE.I is that of the memory right after it
pub copied_more : (copies : List (List ℕ)) (text : List ℕ) (initial : Memory) (history : List Entry) (h k : ℕ) (request : Request) (reply : Reply)
    → h < length copies → text_bytes text ≡ text_of (replayed initial (Asked h request reply ∷ history))
    → text_bytes (slice_index_or copies k []) ≡ fetched_text initial k history
    → text_bytes (slice_index_or (copies_after copies h request text) k []) ≡ fetched_text initial k (Asked h request reply ∷ history)
copied_more copies text initial history h k request reply there now was = elim (cases_Bool (is_renewing request)) [
  | inr other ↦ rw other was
  | inl renews ↦ elim (cases_eq h k) [
    | inl here ↦ rw (renews, eq-eqb h k here, ← here, get_or-set_same {A = List ℕ}) now
    | inr other ↦
        let apart : k ≢ h = λ e. other (sym e) in
        rw (renews, ne_eqb h k other, get_or-set_other {A = List ℕ}) was
  ]
]

-- the copies at the start of a run
pub copies_at_start : (text : List ℕ) (initial : Memory) (harts h : ℕ) → h < harts → text_bytes text ≡ text_of initial
    → text_bytes (slice_index_or (replicate harts text) h []) ≡ fetched_text initial h []
copies_at_start text initial harts h few same = rw (get_or-replicate harts h text [] few) same
