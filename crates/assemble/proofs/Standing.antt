-- The bytes of each line stand in the object at the line's place, and a section has as many bytes as its lines take.
use Rattle.std.proofs.Common.{◌≡◌, ℕ, ◌+◌, List, [], ◌∷◌, ◌++◌, length, refl, sym, ap, ◌∙◌, append-nil, append_assoc, arith}
use Rattle.std.proofs.lemmas.List.{length-append}
use Rattle.asm_lex.specs.declared.asm_names.kinds.Section.{Section}
use Rattle.asm_lex.specs.declared.asm_names.kinds.Section.TheVariants.{Text, Data}
use Rattle.program.specs.Sections.{Sections}
use Rattle.assemble.specs.Meanings.{LineMeaning}
use Rattle.assemble.specs.Assembly.{Adds, AreBytesOf, added, bytes_in}
use Rattle.assemble.specs.Places.{base_of, meaning_in, place_after, section_after, share, size_at, size_of}
use Rattle.assemble.specs.SourceLines.{Values}
use Rattle.assemble.specs.Standing.{LineStands}
use Rattle.assemble.proofs.ByteSteps.{has_size}
use Rattle.assemble.proofs.Placed.{says, size_next}

-- what is added to a section comes after its bytes, and no section loses any
added_there : (s : Section) (bytes : List ℕ) (before : Sections) → bytes_in s (added s bytes before) ≡ bytes_in s before ++ bytes
added_there Text bytes before = refl
added_there Data bytes before = refl

grown : (s t : Section) (bytes : List ℕ) (before : Sections) → (more : List ℕ) × (bytes_in s (added t bytes before) ≡ bytes_in s before ++ more)
grown Text Text bytes before = (bytes, refl)
grown Data Data bytes before = (bytes, refl)
grown Text Data bytes before = ([], sym (append-nil before.text))
grown Data Text bytes before = ([], sym (append-nil before.static_data))

stands_later : (values : Values) (earlier : List (List ℕ)) (line : List ℕ) (before after : Sections) (t : Section) (bytes : List ℕ)
    → after ≡ added t bytes before → LineStands values earlier line before → LineStands values earlier line after
stands_later values earlier line before after t bytes e stood =
    let more = grown (section_after earlier) t bytes before in
    record {
      bytes = stood.bytes;
      is_line = stood.is_line;
      front = stood.front;
      rest = stood.rest ++ more.0;
      stands = rw (e, more.1, stood.stands) (append_assoc (stood.front ++ stood.bytes) stood.rest more.0);
      place = stood.place;
    }

pub line_stands : (values : Values) (later earlier : List (List ℕ)) (line : List ℕ) (object : Sections)
    → AreBytesOf values (later ++ line ∷ earlier) object → LineStands values earlier line object
line_stands values [] earlier line object are =
    let before = are.0 in
    let adds : Adds values earlier line before object = are.2 in
    record {
      bytes = adds.bytes;
      is_line = adds.is_line;
      front = bytes_in (section_after earlier) before;
      rest = [];
      stands = rw (adds.after_is, added_there (section_after earlier) adds.bytes before) (sym (append-nil (bytes_in (section_after earlier) before ++ adds.bytes)));
      place = adds.place;
    }
line_stands values (l ∷ later) earlier line object are =
    let before = are.0 in
    let adds : Adds values (later ++ line ∷ earlier) l before object = are.2 in
    stands_later values earlier line before object (section_after (later ++ line ∷ earlier)) adds.bytes adds.after_is
    (line_stands values later earlier line before are.1)

-- what so many bytes of one section add to another
length_added : (s t : Section) (bytes : List ℕ) (before : Sections)
    → length (bytes_in s (added t bytes before)) ≡ length (bytes_in s before) + share s t (length bytes)
length_added Text Text bytes before = length-append before.text bytes
length_added Data Data bytes before = length-append before.static_data bytes
length_added Text Data bytes before = grind arith
length_added Data Text bytes before = grind arith

-- a line's share of its own section is that of its bytes
same_share : (s t : Section) (n : ℕ) (f : Section → ℕ) → n ≡ f t → share s t n ≡ share s t (f s)
same_share Text Text n f e = e
same_share Data Data n f e = e
same_share Text Data n f e = refl
same_share Data Text n f e = refl

pub sizes : (values : Values) (lines : List (List ℕ)) (object : Sections) (s : Section) → AreBytesOf values lines object
    → length (bytes_in s object) ≡ size_of s lines
unfolding size_of place_after
sizes values [] object Text are = ap (λ (x : Sections). length x.text) are
sizes values [] object Data are = ap (λ (x : Sections). length x.static_data) are
sizes values (line ∷ earlier) object s are =
    let before = are.0 in
    let adds : Adds values earlier line before object = are.2 in
    let t = section_after earlier in
    let size : length adds.bytes ≡ size_at (base_of t + size_of t earlier) (meaning_in line) =
    has_size values (place_after earlier) adds.is_line.says.meaning adds.bytes adds.is_line.has_bytes
    ∙ ap (λ (m : LineMeaning). size_at (place_after earlier) m.meaning) (sym (says line adds.is_line.says adds.is_line.reads)) in
    ap (λ (x : Sections). length (bytes_in s x)) adds.after_is
    ∙ length_added s t adds.bytes before
    ∙ ap (λ n. n + share s t (length adds.bytes)) (sizes values earlier before s are.1)
    ∙ ap (λ n. size_of s earlier + n) (same_share s t (length adds.bytes) (λ x. size_at (base_of x + size_of x earlier) (meaning_in line)) size)
    ∙ sym (size_next s line earlier)
