-- The replies of an outside recovery, each a line.
-- Source: this project's own format.
use Rattle.std.specs.Prelude.{◌≡◌, ◌≢◌, ◌⊎◌, ◌++◌, ◌==◌, ◌||◌, ◌&&◌, ℕ, Bool, true, List, [], ◌∷◌, Ok, Err, codes, length, nat_le, position}
use Rattle.std.specs.List.{AllZip, flat_map, list_all}
use Rattle.std.specs.Option.{option_to_list}
use Rattle.std.specs.Str.{IsUtf8}
use Rattle.hex.specs.Hex.{decode_of}
use Rattle.routine_judge.specs.OutsideViews.{ReplyView}
use Rattle.text.specs.Grammar.{IsNumber, words as listed}
use Rattle.trace_file.specs.Ranks.{AreInOrder}

-- `lN`
pub record IsLineName (word : List ℕ) (line : ℕ) : Type 0 where
  pub digits : List ℕ
  pub spelled : word ≡ codes "l" ++ digits
  pub number : IsNumber digits line

-- the rank of a line among these names; nothing for a line that they don't have
abbrev pub rank_of : List ℕ → ℕ → List ℕ
rank_of names line = option_to_list (position (λ name. name == line) names)

-- lines with a comma between each two: the ranks of those that have one
pub record IsLineList (names word ranks : List ℕ) : Type 0 where
  pub utf8 : IsUtf8 word
  pub lines : List ℕ
  pub says : AllZip IsLineName (listed word) lines
  pub ranked : ranks ≡ flat_map (rank_of names) lines

-- these words say of which lines bytes were loaded: `loads` and a list of them, or no word, and then it may have been all
abbrev pub SaysLoads : List ℕ → List (List ℕ) → List ℕ → Type 0
SaysLoads names words ranks = ((words ≡ []) × AreInOrder (length names) ranks)
    ⊎ ((list : List ℕ) × (words ≡ codes "loads" ∷ list ∷ []) × IsLineList names list ranks)

-- the digits of an answer are the first word, but for `loads`; there may be none
abbrev pub IsParted : List (List ℕ) → List ℕ → List (List ℕ) → Type 0
IsParted [] digits rest = (digits ≡ []) × (rest ≡ [])
IsParted (word ∷ words) digits rest = ((word ≡ codes "loads") × (digits ≡ []) × (rest ≡ word ∷ words))
    ⊎ ((word ≢ codes "loads") × (digits ≡ word) × (rest ≡ words))

-- what follows `answer`: the answer's bytes, two hexadecimal digits each, and the lines
pub record SaysAnswer (names : List ℕ) (words : List (List ℕ)) (reply : ReplyView) : Type 0 where
  pub digits : List ℕ
  pub rest : List (List ℕ)
  pub parted : IsParted words digits rest
  pub bytes : List ℕ
  pub decoded : decode_of digits ≡ Ok bytes
  pub found : reply.found ≡ Ok bytes
  pub loads : SaysLoads names rest reply.lines

-- `a` to `z`, `0` to `9`, or `-`
unfoldable pub is_cause_byte : ℕ → Bool
is_cause_byte byte = (nat_le 97 byte && nat_le byte 122) || (nat_le 48 byte && nat_le byte 57) || (byte == 45)

-- what follows `none`: a word for why there is no answer, and the lines
pub record SaysNone (names : List ℕ) (words : List (List ℕ)) (reply : ReplyView) : Type 0 where
  pub word : List ℕ
  pub rest : List (List ℕ)
  pub spelled : words ≡ word ∷ rest
  pub plain : list_all is_cause_byte word ≡ true
  pub found : reply.found ≡ Err word
  pub loads : SaysLoads names rest reply.lines

-- a line of these words is this reply, where the events name lines so by their ranks
abbrev pub SaysReply : List ℕ → List (List ℕ) → ReplyView → Type 0
SaysReply names words reply = ((rest : List (List ℕ)) × (words ≡ codes "answer" ∷ rest) × SaysAnswer names rest reply)
    ⊎ ((rest : List (List ℕ)) × (words ≡ codes "none" ∷ rest) × SaysNone names rest reply)
