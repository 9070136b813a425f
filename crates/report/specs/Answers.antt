-- What is printed of the answer of a recovery routine.
use Rattle.std.specs.Prelude.{ℕ, List, ◌++◌, codes, decimal, length, take}
use Rattle.std.specs.List.{flat_map}
use Rattle.report.specs.Json.{object_end}
use Rattle.report.specs.Places.{line_end}
use Rattle.report.specs.Rows.{two_digits}
use Rattle.report.specs.Why.{spaced}

-- bytes as two lower-case hexadecimal digits each
abbrev pub digits_text : List ℕ → List ℕ
digits_text bytes = flat_map two_digits bytes

-- how many bytes it has, and the first 64 of them behind a space, where there are some
abbrev pub answer_text : List ℕ → List ℕ
answer_text bytes = decimal (length bytes) ++ (codes " bytes" ++ spaced (digits_text (take 64 bytes)))

-- `answer` and that
abbrev pub answer_line : List ℕ → List ℕ
answer_line bytes = codes "answer " ++ (answer_text bytes ++ line_end)

-- `right`, that and the moment
abbrev pub right_line : List ℕ → ℕ → List ℕ
right_line bytes moment = codes "right " ++ (answer_text bytes ++ (codes " moment=" ++ (decimal moment ++ line_end)))

-- `"bytes":N,"hex":"HEX"`
abbrev pub bytes_members : List ℕ → List ℕ
bytes_members bytes = codes "\"bytes\":" ++ (decimal (length bytes) ++ (codes ",\"hex\":\"" ++ (digits_text (take 64 bytes) ++ codes "\"")))

-- `{"kind":"answer","bytes":N,"hex":"HEX"}`
abbrev pub answer_object : List ℕ → List ℕ
answer_object bytes = codes "{\"kind\":\"answer\"," ++ (bytes_members bytes ++ object_end)

-- `{"kind":"right","bytes":N,"hex":"HEX","moment":M}`
abbrev pub right_object : List ℕ → ℕ → List ℕ
right_object bytes moment =
    codes "{\"kind\":\"right\"," ++ (bytes_members bytes ++ (codes ",\"moment\":" ++ (decimal moment ++ object_end)))

-- `answers N, at the end LAST`
abbrev pub answers_line : ℕ → List ℕ → List ℕ
answers_line different last = codes "answers " ++ (decimal different ++ (codes ", at the end " ++ (last ++ line_end)))

-- `{"kind":"answers","different":N,LAST}`
abbrev pub answers_object : ℕ → List ℕ → List ℕ
answers_object different last = codes "{\"kind\":\"answers\",\"different\":" ++ (decimal different ++ (codes "," ++ (last ++ object_end)))

-- `"cause":"C"`
abbrev pub cause_member : List ℕ → List ℕ
cause_member cause = codes "\"cause\":\"" ++ (cause ++ codes "\"")
