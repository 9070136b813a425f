-- The bytes of a source's lines in the memory of its program.
use Rattle.std.proofs.Common.{◌≡◌, ℕ, ◌+◌, ◌-◌, ◌<◌, ◌≤◌, List, ◌++◌, length, slice_get, replicate, Some, subst, sym, ap, ◌∙◌, arith, append-nil, get_or}
use Rattle.std.proofs.lemmas.List.{get_or_append_left, get_or-append-add, get_or-replicate, length-append, length-replicate}
use Rattle.std.proofs.lemmas.Option.{slice_get-get_or}
use Rattle.line_memory.specs.Lines.{line_bytes}
use Rattle.line_memory.specs.Regions.{RamView, padded, ram_bytes}
use Rattle.line_memory.specs.declared.TheConstants.{DATA_SIZE, PERSISTENT_BASE, TEXT_SIZE}
use Rattle.program.specs.Sections.{Sections}
use Rattle.program.specs.Loading.{Loads, zero_filled}
use Rattle.machine.specs.Replies.{starting_memory}
use Rattle.asm_lex.specs.declared.asm_names.kinds.Section.{Section}
use Rattle.asm_lex.specs.declared.asm_names.kinds.Section.TheVariants.{Text, Data}
use Rattle.assemble.specs.Assembly.{AreBytesOf, Assembles, bytes_in, lines_back, values_of}
use Rattle.assemble.specs.Places.{base_of, limit_of, place_after, section_after}
use Rattle.assemble.specs.Standing.{LineStands}
use Rattle.assemble.proofs.Standing.{line_stands, sizes}
use Rattle.line_memory.proofs.Accesses.{data_byte, text_byte}
use Rattle.line_memory.proofs.Flat.{flat_ram}
use Rattle.crash_test.specs.Places.{HoldsSource, StandsAtItsPlace}

-- part of a list, and what fills it up
within : (front bytes rest : List ℕ) (size at : ℕ) → at < length bytes
    → slice_get (zero_filled (front ++ bytes ++ rest) size) (length front + at) ≡ slice_get bytes at
within front bytes rest size at h =
    let zeros : List ℕ = replicate (size - length (front ++ bytes ++ rest)) 0 in
    let some = length-append front bytes in
    let whole = length-append (front ++ bytes) rest in
    let filled = length-append (front ++ bytes ++ rest) zeros in
    let before_rest : length front + at < length (front ++ bytes) = omega arith in
    let before_zeros : length front + at < length (front ++ bytes ++ rest) = omega arith in
    let before_end : length front + at < length (front ++ bytes ++ rest ++ zeros) = omega arith in
    slice_get-get_or (front ++ bytes ++ rest ++ zeros) (length front + at) 0 before_end
    ∙ ap (λ byte. Some byte) (
    get_or_append_left (front ++ bytes ++ rest) zeros 0 (length front + at) before_zeros
    ∙ get_or_append_left (front ++ bytes) rest 0 (length front + at) before_rest
    ∙ get_or-append-add front bytes at 0)
    ∙ sym (slice_get-get_or bytes at 0 h)

behind : (bytes : List ℕ) (size at : ℕ) → length bytes ≤ at → at < size → slice_get (zero_filled bytes size) at ≡ Some 0
behind bytes size at past h =
    let zeros : List ℕ = replicate (size - length bytes) 0 in
    let filled = length-append bytes zeros in
    let many : length zeros ≡ size - length bytes = length-replicate (size - length bytes) 0 in
    let before_end : at < length (bytes ++ zeros) = omega arith in
    let among : at - length bytes < size - length bytes = omega arith in
    let place : at ≡ length bytes + (at - length bytes) = omega arith in
    slice_get-get_or (bytes ++ zeros) at 0 before_end
    ∙ ap (λ byte. Some byte) (
    ap (λ n. get_or (bytes ++ zeros) n 0) place
    ∙ get_or-append-add bytes zeros (at - length bytes) 0
    ∙ get_or-replicate (size - length bytes) (at - length bytes) 0 0 among)

-- a region that was filled up holds its section
padded_whole : (bytes : List ℕ) (size : ℕ) → length bytes ≡ size → padded bytes size ≡ bytes
unfolding padded
padded_whole bytes size whole =
    let none : size - length bytes ≡ 0 = omega arith in
    rw none (append-nil bytes)

holds : (object program : Sections) (medium : List (List ℕ)) (s : Section) (at : ℕ) → Loads program object → length object.text ≤ TEXT_SIZE
    → at < limit_of s → starting_memory program medium (base_of s + at) ≡ slice_get (zero_filled (bytes_in s object) (limit_of s)) at
unfolding padded
holds object program medium Text at loads fits h =
    let zeros : List ℕ = replicate (TEXT_SIZE - length object.text) 0 in
    let filled = length-append object.text zeros in
    let many : length zeros ≡ TEXT_SIZE - length object.text = length-replicate (TEXT_SIZE - length object.text) 0 in
    let whole : length (zero_filled object.text TEXT_SIZE) ≡ TEXT_SIZE = omega arith in
    let low : base_of Text + at < PERSISTENT_BASE = omega arith in
    let ram : RamView = record { text = padded program.text TEXT_SIZE; bytes = padded program.static_data DATA_SIZE } in
    flat_ram (ram_bytes ram) (line_bytes medium) (base_of Text + at) low
    ∙ text_byte ram at h
    ∙ ap (λ text. slice_get (padded text TEXT_SIZE) at) loads.text
    ∙ ap (λ text. slice_get text at) (padded_whole (zero_filled object.text TEXT_SIZE) TEXT_SIZE whole)
holds object program medium Data at loads fits h =
    let low : base_of Data + at < PERSISTENT_BASE = omega arith in
    let ram : RamView = record { text = padded program.text TEXT_SIZE; bytes = padded program.static_data DATA_SIZE } in
    flat_ram (ram_bytes ram) (line_bytes medium) (base_of Data + at) low
    ∙ data_byte ram at h
    ∙ ap (λ bytes. slice_get (padded bytes DATA_SIZE) at) loads.static_data

in_limits : (source : List ℕ) (object : Sections) (s : Section) → Assembles source object → length (bytes_in s object) ≤ limit_of s
in_limits source object Text a = a.text_fits
in_limits source object Data a = a.data_fits

stands : (source : List ℕ) (object program : Sections) (medium : List (List ℕ)) (earlier : List (List ℕ)) (line : List ℕ)
    → Assembles source object → Loads program object → LineStands (values_of source) earlier line object
    → StandsAtItsPlace source (starting_memory program medium) earlier line
stands source object program medium earlier line a loads stood = record {
  bytes = stood.bytes;
  is_line = stood.is_line;
  stand = λ at h.
      let s = section_after earlier in
      let there : place_after earlier + at ≡ base_of s + (length stood.front + at) = rw stood.place (omega arith) in
      let some = length-append stood.front stood.bytes in
      let whole = length-append (stood.front ++ stood.bytes) stood.rest in
      let most = rw stood.stands at (in_limits source object s a) in
      let inside : length stood.front + at < limit_of s = omega arith in
      rw there (holds object program medium s (length stood.front + at) loads a.text_fits inside
      ∙ ap (λ bytes. slice_get (zero_filled bytes (limit_of s)) (length stood.front + at)) stood.stands
      ∙ within stood.front stood.bytes stood.rest (limit_of s) at h);
}

pub source_stands : (source : List ℕ) (object program : Sections) (medium : List (List ℕ)) → Assembles source object → Loads program object
    → HoldsSource source (starting_memory program medium)
source_stands source object program medium a loads = record {
  lines = λ later earlier line e. stands source object program medium earlier line a loads
      (line_stands (values_of source) later earlier line object (subst (λ lines. AreBytesOf (values_of source) lines object) e a.lines));
  zeros = λ s at past h.
      let size = sizes (values_of source) (lines_back source) object s a.lines in
      holds object program medium s at loads a.text_fits h ∙ behind (bytes_in s object) (limit_of s) at (rw size past) h;
}
