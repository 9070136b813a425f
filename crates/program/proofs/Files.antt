-- A file gives its sections back, and bytes whose header and size are those of a file are one.
use Rattle.std.proofs.Common.{◌≡◌, ℕ, ◌+◌, ◌-◌, ◌<◌, ◌≤◌, List, ◌++◌, length, get_or, take, drop, refl, sym, ap, ◌∙◌, arith, inl, inr}
use Rattle.std.proofs.lemmas.Bool.{cases_lt}
use Rattle.std.proofs.lemmas.List.{take_all, take_rest, take_at, drop_at, take-append-drop, length-append, length-take, length-drop, drop-drop, get_or-drop, get_or-take, get_or_past}
use Rattle.std.proofs.lemmas.Nat.{le_bytes_4}
use Rattle.byteorder.specs.Endian.{little_bytes, little_number}
use Rattle.byteorder.specs.Numbers.{little_number-reads_back}
use Rattle.program.specs.Sections.{AreWithinLimits, Sections}
use Rattle.program.specs.ObjectFile.{IsObjectFile, file_of, magic, text_length, data_length, file_size, HasHeader, HasWords, IsFirstFault}
use Rattle.program.specs.declared.fault.LoadFault.{LoadFault}
use Rattle.program.specs.declared.fault.LoadFault.TheVariants.{Magic, Truncated, TooLarge, Trailing, TextLength, Memory}

-- what the bytes of an object's file give back
pub record GivesBack (bytes : List ℕ) (object : Sections) : Type 0 where
  pub text_size : text_length bytes ≡ length object.text
  pub data_size : data_length bytes ≡ length object.static_data
  pub size : length bytes ≡ file_size bytes
  pub words : HasWords bytes
  pub text : take (text_length bytes) (drop 16 bytes) ≡ object.text
  pub static_data : drop (text_length bytes) (drop 16 bytes) ≡ object.static_data

pub file_gives_back : (object : Sections) → AreWithinLimits object.text object.static_data → GivesBack (file_of object) object
file_gives_back object limits =
    let text = object.text in
    let bytes = object.static_data in
    let t : little_number 4 (drop 8 (file_of object)) ≡ length text = little_number-reads_back 4 (length text) (little_bytes 4 (length bytes) ++ text ++ bytes) (omega arith) in
    let d : little_number 4 (drop 12 (file_of object)) ≡ length bytes = little_number-reads_back 4 (length bytes) (text ++ bytes) (omega arith) in
    let size : length (file_of object) ≡ 16 + length text + length bytes = omega (arith, length-append text bytes) in
    record {
      text_size = t;
      data_size = d;
      size = omega arith;
      words = record {
        lengths = record {
          header = record { begins = record { magic_is = sym (take_all (length (file_of object)) magic (omega arith)) }; header = omega arith };
          text_fits = omega arith;
          data_fits = omega arith;
        };
        whole_words = rw t limits.whole_words;
      };
      text = rw t (take_at text bytes (length text) refl);
      static_data = rw t (drop_at text bytes (length text) refl);
    }

pub gives_back : (bytes : List ℕ) (object : Sections) → IsObjectFile bytes object → GivesBack bytes object
gives_back bytes object file = rw file.whole (file_gives_back object file.limits)

same_sections : (object other : Sections) → object.text ≡ other.text → object.static_data ≡ other.static_data → object ≡ other
same_sections object other text static_data = ap (λ (t : List ℕ). record { text = t; static_data = object.static_data }) text ∙ ap (λ (d : List ℕ). record { text = other.text; static_data = d }) static_data

pub one_object : (bytes : List ℕ) (object other : Sections) → IsObjectFile bytes object → IsObjectFile bytes other → object ≡ other
one_object bytes object other file file' =
    let a = gives_back bytes object file in
    let b = gives_back bytes other file' in
    same_sections object other (sym a.text ∙ b.text) (sym a.static_data ∙ b.static_data)

no_fault_back : (bytes : List ℕ) (object : Sections) (fault : LoadFault) → GivesBack bytes object → IsFirstFault bytes fault → ⊥
no_fault_back bytes object Magic back found = found back.words.lengths.header.begins
no_fault_back bytes object Truncated back found = elim found [ inl short ↦ omega arith | inr short ↦ omega arith ]
no_fault_back bytes object TooLarge back found = omega arith
no_fault_back bytes object TextLength back found = found.1 back.words.whole_words
no_fault_back bytes object Trailing back found = omega arith
no_fault_back bytes object Memory back found = found

pub no_fault : (bytes : List ℕ) (object : Sections) (fault : LoadFault) → IsObjectFile bytes object → IsFirstFault bytes fault → ⊥
no_fault bytes object fault file found = no_fault_back bytes object fault (gives_back bytes object file) found

abbrev pub IsBytes : List ℕ → Type 0
IsBytes bytes = (i : ℕ) → get_or bytes i 0 < 256

IsBytes-drop : (n : ℕ) (bytes : List ℕ) → IsBytes bytes → IsBytes (drop n bytes)
IsBytes-drop n bytes fits i = rw get_or-drop (fits (n + i))

IsBytes-take : (n : ℕ) (bytes : List ℕ) → IsBytes bytes → IsBytes (take n bytes)
IsBytes-take n bytes fits i =
    elim (cases_lt i n) [
      | inl lt ↦ rw (get_or-take n bytes i 0 lt) (fits i)
      | inr le ↦ rw (get_or_past (take n bytes) i 0 (omega (arith, length-take n bytes))) (omega arith)
    ]

-- the bytes of the number in four bytes are these
number_back : (bytes : List ℕ) → 4 ≤ length bytes → IsBytes bytes → little_bytes 4 (little_number 4 bytes) ≡ take 4 bytes
number_back bytes long fits =
    le_bytes_4 (take 4 bytes) (little_number 4 bytes) (omega (arith, length-take 4 bytes)) (IsBytes-take 4 bytes fits)
    (omega (arith, get_or-take 4 bytes 0 0 (omega arith), get_or-take 4 bytes 1 0 (omega arith), get_or-take 4 bytes 2 0 (omega arith), get_or-take 4 bytes 3 0 (omega arith)))

-- bytes with a header are the magic, the two lengths and the rest
pub header_is : (bytes : List ℕ) → IsBytes bytes → HasHeader bytes → bytes ≡ magic ++ (little_bytes 4 (text_length bytes) ++ (little_bytes 4 (data_length bytes) ++ drop 16 bytes))
header_is bytes fits whole =
    let long : 16 ≤ length bytes = whole.header in
    let first : take 8 bytes ≡ magic = whole.begins.magic_is ∙ take_all (length bytes) magic (omega arith) in
    let text : take 4 (drop 8 bytes) ≡ little_bytes 4 (text_length bytes) = sym (number_back (drop 8 bytes) (omega (arith, length-drop 8 bytes)) (IsBytes-drop 8 bytes fits)) in
    let static_data : take 4 (drop 12 bytes) ≡ little_bytes 4 (data_length bytes) = sym (number_back (drop 12 bytes) (omega (arith, length-drop 12 bytes)) (IsBytes-drop 12 bytes fits)) in
    let at_8 : take 4 (drop 8 bytes) ++ drop 12 bytes ≡ drop 8 bytes = ap (λ (r : List ℕ). take 4 (drop 8 bytes) ++ r) (sym (drop-drop 4 8 bytes)) ∙ take-append-drop 4 (drop 8 bytes) in
    let at_12 : take 4 (drop 12 bytes) ++ drop 16 bytes ≡ drop 12 bytes = ap (λ (r : List ℕ). take 4 (drop 12 bytes) ++ r) (sym (drop-drop 4 12 bytes)) ∙ take-append-drop 4 (drop 12 bytes) in
    let second : drop 12 bytes ≡ little_bytes 4 (data_length bytes) ++ drop 16 bytes = sym at_12 ∙ ap (λ (f : List ℕ). f ++ drop 16 bytes) static_data in
    sym (take-append-drop 8 bytes)
    ∙ ap (λ (f : List ℕ). f ++ drop 8 bytes) first
    ∙ ap (λ (r : List ℕ). magic ++ r) (sym at_8)
    ∙ ap (λ (f : List ℕ). magic ++ (f ++ drop 12 bytes)) text
    ∙ ap (λ (r : List ℕ). magic ++ (little_bytes 4 (text_length bytes) ++ r)) second

-- the same bytes, whose rest is in two parts of the lengths of the header
of_parts : (bytes text static_data : List ℕ) → IsBytes bytes → HasWords bytes → length text ≡ text_length bytes → length static_data ≡ data_length bytes → drop 16 bytes ≡ text ++ static_data
    → IsObjectFile bytes (record { text = text; static_data = static_data })
of_parts bytes text static_data fits words t d parts = record {
  limits = record { whole_words = rw t words.whole_words; text_fits = omega arith; data_fits = omega arith };
  whole = header_is bytes fits words.lengths.header
      ∙ ap (λ (n : ℕ). magic ++ (little_bytes 4 n ++ (little_bytes 4 (data_length bytes) ++ drop 16 bytes))) (sym t)
      ∙ ap (λ (n : ℕ). magic ++ (little_bytes 4 (length text) ++ (little_bytes 4 n ++ drop 16 bytes))) (sym d)
      ∙ ap (λ (r : List ℕ). magic ++ (little_bytes 4 (length text) ++ (little_bytes 4 (length static_data) ++ r))) parts;
}

-- bytes of the size that their header says are the file of what stands behind it
pub is_file : (bytes : List ℕ) (t d : ℕ) → IsBytes bytes → HasWords bytes → t ≡ text_length bytes → d ≡ data_length bytes → length bytes ≡ 16 + t + d
    → IsObjectFile bytes (record { text = take (16 + t - 16) (drop 16 bytes); static_data = take (length bytes - (16 + t)) (drop (16 + t) bytes) })
is_file bytes t d fits words t_is d_is size =
    let n : 16 + t - 16 ≡ t = omega arith in
    let rest : take (length bytes - (16 + t)) (drop (16 + t) bytes) ≡ drop t (drop 16 bytes) = take_rest bytes (16 + t) ∙ sym (drop-drop t 16 bytes) in
    rw (n, rest) (of_parts bytes (take t (drop 16 bytes)) (drop t (drop 16 bytes)) fits words
    (omega (arith, length-take t (drop 16 bytes), length-drop 16 bytes))
    (omega (arith, length-drop t (drop 16 bytes), length-drop 16 bytes))
    (sym (take-append-drop t (drop 16 bytes))))
