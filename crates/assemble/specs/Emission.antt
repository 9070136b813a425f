-- What the second pass has made, from one line to the next.
use Rattle.std.specs.Prelude.{◌≡◌, ℕ, ◌+◌, ◌≤◌, List, length}
use Rattle.program.specs.Sections.{Sections}
use Rattle.program.specs.declared.TheConstants.{TEXT_LIMIT, DATA_LIMIT}
use Rattle.asm_lex.specs.declared.asm_names.kinds.Section.TheVariants.{Text, Data}
use Rattle.assemble.specs.Meanings.{Meaning}
use Rattle.assemble.specs.declared.emission.Emission.{Emission}
use Rattle.assemble.specs.Places.{base_of, size_of, section_from, section_after}
use Rattle.assemble.specs.SourceLines.{Values, HasBytes}
use Rattle.assemble.specs.Faults.{NoneHas, late_code}
use Rattle.assemble.specs.Assembly.{bytes_in, added, AreBytesOf}
use Rattle.assemble.specs.Passes.{IsNext}

-- the bytes of both sections so far
abbrev pub sections_in : Emission → Sections
sections_in e = record { text = e.text.items; static_data = e.static_data.items }

-- neither section passes its limit
pub record HasRoom (e : Emission) : Type 0 where
  pub text_fits : length e.text.items ≤ TEXT_LIMIT
  pub data_fits : length e.static_data.items ≤ DATA_LIMIT

-- the bytes of a statement are added to its section
pub record Emits (values : Values) (meaning : Meaning) (old new : Emission) : Type 0 where
  pub bytes : List ℕ
  pub has_bytes : HasBytes values (base_of old.section + length (bytes_in old.section (sections_in old))) meaning bytes
  pub section_is : new.section ≡ section_from old.section meaning
  pub sections_are : sections_in new ≡ added old.section bytes (sections_in old)

-- the bytes of these lines
pub record IsEmitted (values : Values) (earlier : List (List ℕ)) (e : Emission) : Type 0 where
  pub section_is : e.section ≡ section_after earlier
  pub text_is : length e.text.items ≡ size_of Text earlier
  pub data_is : length e.static_data.items ≡ size_of Data earlier
  pub bytes_are : AreBytesOf values earlier (sections_in e)

-- the second pass: no line before has a fault
pub record Emitting (values : Values) (source rest : List ℕ) (number : ℕ) (e : Emission) : Type 0 where
  pub earlier : List (List ℕ)
  pub next : IsNext source rest number earlier
  pub emitted : IsEmitted values earlier e
  pub none : NoneHas (late_code values) earlier
