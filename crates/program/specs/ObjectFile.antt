-- The file of an object, and what makes bytes no such file. A file is the magic, the lengths of text and data in
-- four bytes each, the least significant first, and then the bytes of text and of data.
use Rattle.std.specs.Prelude.{ℕ, ◌≡◌, ◌≢◌, ◌+◌, ◌<◌, ◌≤◌, ◌%◌, ◌⊎◌, List, ◌++◌, length, take, drop, codes}
use Rattle.byteorder.specs.Endian.{little_bytes, little_number}
use Rattle.program.specs.Sections.{AreWithinLimits, Sections}
use Rattle.program.specs.declared.TheConstants.{TEXT_LIMIT, DATA_LIMIT}
use Rattle.program.specs.declared.fault.LoadFault.{LoadFault}
use Rattle.program.specs.declared.fault.LoadFault.TheVariants.{Magic, Truncated, TooLarge, Trailing, TextLength, Memory}

abbrev pub magic : List ℕ
magic = codes "RVXPROG1"

-- the magic, and two lengths
abbrev pub header_size : ℕ
header_size = 16

abbrev pub file_of : Sections → List ℕ
file_of object = magic ++ little_bytes 4 (length object.text) ++ little_bytes 4 (length object.static_data) ++ object.text ++ object.static_data

-- the bytes are the file of this object
pub record IsObjectFile (bytes : List ℕ) (object : Sections) : Type 0 where
  pub limits : AreWithinLimits object.text object.static_data
  pub whole : bytes ≡ file_of object

-- the lengths that a header gives, and the size that a file with these lengths has
abbrev pub text_length : List ℕ → ℕ
text_length bytes = little_number 4 (drop 8 bytes)

abbrev pub data_length : List ℕ → ℕ
data_length bytes = little_number 4 (drop 12 bytes)

abbrev pub file_size : List ℕ → ℕ
file_size bytes = header_size + text_length bytes + data_length bytes

-- the bytes begin with the magic, or with as much of it as they are long
pub record BeginsAsFile (bytes : List ℕ) : Type 0 where
  pub magic_is : take (length magic) bytes ≡ take (length bytes) magic

pub record HasHeader (bytes : List ℕ) : Type 0 where
  pub begins : BeginsAsFile bytes
  pub header : header_size ≤ length bytes

-- a whole header, whose lengths keep the limits
pub record HasLengths (bytes : List ℕ) : Type 0 where
  pub header : HasHeader bytes
  pub text_fits : text_length bytes ≤ TEXT_LIMIT
  pub data_fits : data_length bytes ≤ DATA_LIMIT

-- and whose text is whole words
pub record HasWords (bytes : List ℕ) : Type 0 where
  pub lengths : HasLengths bytes
  pub whole_words : text_length bytes % 4 ≡ 0

-- The fault of the bytes that is found first, each where nothing is wrong that is looked for before it.
abbrev pub IsFirstFault : List ℕ → LoadFault → Type 0
IsFirstFault bytes Magic = ¬ BeginsAsFile bytes
IsFirstFault bytes Truncated = (BeginsAsFile bytes × (length bytes < header_size)) ⊎ (HasWords bytes × (length bytes < file_size bytes))
IsFirstFault bytes TooLarge = HasHeader bytes × ((TEXT_LIMIT < text_length bytes) ⊎ (DATA_LIMIT < data_length bytes))
IsFirstFault bytes TextLength = HasLengths bytes × (text_length bytes % 4 ≢ 0)
IsFirstFault bytes Trailing = HasWords bytes × (file_size bytes < length bytes)
-- want of memory is no fault of the bytes
IsFirstFault bytes Memory = ⊥
