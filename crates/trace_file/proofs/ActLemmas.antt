-- What an event did, read from its line, and why a text begins with no such thing.
use Rattle.std.proofs.Common.{◌≡◌, ℕ, ◌<◌, List, [], ◌∷◌, ◌++◌, Result, codes, refl, sym, ap, ◌∙◌, arith}
use Rattle.std.specs.Prelude.{◌≢◌}
use Rattle.std.specs.Borrow.{Bor}
use Rattle.store_trace.specs.declared.event.Event.{Event}
use Rattle.store_trace.specs.declared.event.Event.TheVariants as kinds
use Rattle.text.specs.Numbers.{IsOf}
use Rattle.text.specs.declared.numbers.Number.{Number}
use Rattle.trace_file.proofs.CutLemmas.{same_rest}
use Rattle.trace_file.proofs.NumeralLemmas.{one_number}
use Rattle.trace_file.specs.Entries.{act_text, line_end}
use Rattle.trace_file.specs.Numerals.{IsNumberBefore, numeral}
use Rattle.trace_file.specs.Parts.{HasAct, HasSize, HasStore, IsJudged, IsNumbered, size_text, store_text}
use Rattle.trace_file.specs.declared.fault.TraceFileCode.{TraceFileCode}
use Rattle.trace_file.specs.declared.judging.StoreNumbers.{StoreNumbers}

-- what follows a number that was read is what follows any number there
pub behind_decimal : (stop n : ℕ) (text rest other : List ℕ) (number : Number) → stop < 48 → IsNumberBefore 10 stop text number rest
    → text ≡ numeral 10 n ++ stop ∷ other → rest ≡ other
behind_decimal stop n text rest other number low is e =
    (one_number 10 stop is.value n rest other (omega arith) (omega arith) low (sym is.whole ∙ e)).1

pub numbered : (keyword text behind rest : List ℕ) (number : Number) → text ≡ keyword ++ behind → IsNumberBefore 10 10 behind number rest
    → IsNumbered keyword text number rest
numbered keyword text behind rest number e is = record {
  value = is.value;
  whole = e ∙ ap (λ (t : List ℕ). keyword ++ t) is.whole;
  known = is.known;
}

pub no_keyword : (keyword text : List ℕ) → ((rest : List ℕ) → text ≢ keyword ++ rest) → (n : ℕ) (rest : List ℕ) → text ≢ keyword ++ (numeral 10 n ++ line_end rest)
no_keyword keyword text none n rest = none (numeral 10 n ++ line_end rest)

pub no_number_behind : (keyword text behind : List ℕ) → text ≡ keyword ++ behind → ((n : ℕ) (rest : List ℕ) → behind ≢ numeral 10 n ++ 10 ∷ rest)
    → (n : ℕ) (rest : List ℕ) → text ≢ keyword ++ (numeral 10 n ++ line_end rest)
no_number_behind keyword text behind e none n rest is = none n rest (same_rest keyword behind (numeral 10 n ++ 10 ∷ rest) (sym e ∙ is))

-- the width and the value of a store
pub sized : (text t u rest : List ℕ) (width value : Number) → IsNumberBefore 10 32 text width t → t ≡ 48 ∷ 120 ∷ u → IsNumberBefore 16 10 u value rest
    → HasSize text width value rest
sized text t u rest width value is e is_value = record {
  w = is.value;
  v = is_value.value;
  whole = is.whole ∙ ap (λ (x : List ℕ). numeral 10 is.value ++ 32 ∷ x) (e ∙ ap (λ (x : List ℕ). 48 ∷ 120 ∷ x) is_value.whole);
  width_known = is.known;
  value_known = is_value.known;
}

pub no_width : (text : List ℕ) → ((n : ℕ) (rest : List ℕ) → text ≢ numeral 10 n ++ 32 ∷ rest) → (w v : ℕ) (rest : List ℕ) → text ≢ size_text w v rest
no_width text none w v rest is = none w (48 ∷ 120 ∷ (numeral 16 v ++ 10 ∷ rest)) is

pub no_prefix : (text t : List ℕ) (width : Number) → IsNumberBefore 10 32 text width t → ((rest : List ℕ) → t ≢ 48 ∷ 120 ∷ rest)
    → (w v : ℕ) (rest : List ℕ) → text ≢ size_text w v rest
no_prefix text t width is none w v rest e =
    none (numeral 16 v ++ 10 ∷ rest) (behind_decimal 32 w text t (48 ∷ 120 ∷ (numeral 16 v ++ 10 ∷ rest)) width (omega arith) is e)

pub no_value : (text t u : List ℕ) (width : Number) → IsNumberBefore 10 32 text width t → t ≡ 48 ∷ 120 ∷ u → ((n : ℕ) (rest : List ℕ) → u ≢ numeral 16 n ++ 10 ∷ rest)
    → (w v : ℕ) (rest : List ℕ) → text ≢ size_text w v rest
no_value text t u width is prefix none w v rest e =
    let behind = behind_decimal 32 w text t (48 ∷ 120 ∷ (numeral 16 v ++ 10 ∷ rest)) width (omega arith) is e in
    none v rest (same_rest (48 ∷ 120 ∷ []) u (numeral 16 v ++ 10 ∷ rest) (sym prefix ∙ behind))

-- the numbers of a store
pub stored : (text t u v x rest : List ℕ) (line offset width value : Number) → text ≡ codes "store l" ++ t → IsNumberBefore 10 43 t line u
    → IsNumberBefore 10 32 u offset v → v ≡ 119 ∷ x → HasSize x width value rest
    → HasStore text (record { line = line; offset = offset; width = width; value = value }) rest
stored text t u v x rest line offset width value store is_line is_offset letter size = record {
  l = is_line.value;
  o = is_offset.value;
  w = size.w;
  v = size.v;
  whole = store ∙ ap (λ (y : List ℕ). codes "store l" ++ y) (is_line.whole
      ∙ ap (λ (y : List ℕ). numeral 10 is_line.value ++ 43 ∷ y) (is_offset.whole
      ∙ ap (λ (y : List ℕ). numeral 10 is_offset.value ++ 32 ∷ y) (letter ∙ ap (λ (y : List ℕ). 119 ∷ y) size.whole)));
  line_known = is_line.known;
  offset_known = is_offset.known;
  width_known = size.width_known;
  value_known = size.value_known;
}

pub no_store : (text : List ℕ) → ((rest : List ℕ) → text ≢ codes "store l" ++ rest) → (l o w v : ℕ) (rest : List ℕ) → text ≢ store_text l o w v rest
no_store text none l o w v rest e = none (numeral 10 l ++ 43 ∷ (numeral 10 o ++ 32 ∷ 119 ∷ size_text w v rest)) e

behind_store : (text t : List ℕ) (l o w v : ℕ) (rest : List ℕ) → text ≡ codes "store l" ++ t → text ≡ store_text l o w v rest
    → t ≡ numeral 10 l ++ 43 ∷ (numeral 10 o ++ 32 ∷ 119 ∷ size_text w v rest)
behind_store text t l o w v rest store e =
    same_rest (codes "store l") t (numeral 10 l ++ 43 ∷ (numeral 10 o ++ 32 ∷ 119 ∷ size_text w v rest)) (sym store ∙ e)

pub no_line : (text t : List ℕ) → text ≡ codes "store l" ++ t → ((n : ℕ) (rest : List ℕ) → t ≢ numeral 10 n ++ 43 ∷ rest)
    → (l o w v : ℕ) (rest : List ℕ) → text ≢ store_text l o w v rest
no_line text t store none l o w v rest e = none l (numeral 10 o ++ 32 ∷ 119 ∷ size_text w v rest) (behind_store text t l o w v rest store e)

behind_line : (text t u : List ℕ) (line : Number) (l o w v : ℕ) (rest : List ℕ) → text ≡ codes "store l" ++ t → IsNumberBefore 10 43 t line u
    → text ≡ store_text l o w v rest → u ≡ numeral 10 o ++ 32 ∷ 119 ∷ size_text w v rest
behind_line text t u line l o w v rest store is e =
    behind_decimal 43 l t u (numeral 10 o ++ 32 ∷ 119 ∷ size_text w v rest) line (omega arith) is (behind_store text t l o w v rest store e)

pub no_offset : (text t u : List ℕ) (line : Number) → text ≡ codes "store l" ++ t → IsNumberBefore 10 43 t line u
    → ((n : ℕ) (rest : List ℕ) → u ≢ numeral 10 n ++ 32 ∷ rest) → (l o w v : ℕ) (rest : List ℕ) → text ≢ store_text l o w v rest
no_offset text t u line store is none l o w v rest e = none o (119 ∷ size_text w v rest) (behind_line text t u line l o w v rest store is e)

behind_offset : (text t u v : List ℕ) (line offset : Number) (l o w n : ℕ) (rest : List ℕ) → text ≡ codes "store l" ++ t → IsNumberBefore 10 43 t line u
    → IsNumberBefore 10 32 u offset v → text ≡ store_text l o w n rest → v ≡ 119 ∷ size_text w n rest
behind_offset text t u v line offset l o w n rest store is is_offset e =
    behind_decimal 32 o u v (119 ∷ size_text w n rest) offset (omega arith) is_offset (behind_line text t u line l o w n rest store is e)

pub no_letter : (text t u v : List ℕ) (line offset : Number) → text ≡ codes "store l" ++ t → IsNumberBefore 10 43 t line u
    → IsNumberBefore 10 32 u offset v → ((rest : List ℕ) → v ≢ 119 ∷ rest) → (l o w n : ℕ) (rest : List ℕ) → text ≢ store_text l o w n rest
no_letter text t u v line offset store is is_offset none l o w n rest e =
    none (size_text w n rest) (behind_offset text t u v line offset l o w n rest store is is_offset e)

pub no_size : (text t u v x : List ℕ) (line offset : Number) → text ≡ codes "store l" ++ t → IsNumberBefore 10 43 t line u
    → IsNumberBefore 10 32 u offset v → v ≡ 119 ∷ x → ((w n : ℕ) (rest : List ℕ) → x ≢ size_text w n rest)
    → (l o w n : ℕ) (rest : List ℕ) → text ≢ store_text l o w n rest
no_size text t u v x line offset store is is_offset letter none l o w n rest e =
    none w n rest (same_rest (119 ∷ []) x (size_text w n rest) (sym letter ∙ behind_offset text t u v line offset l o w n rest store is is_offset e))

-- what an event did
pub is_store : (text : List ℕ) (store : StoreNumbers) (rest : Bor (List ℕ)) (hart : Number) (judged : Result Event TraceFileCode) → HasStore text store rest.now
    → ((h l o w v : ℕ) → IsOf h hart → IsOf l store.line → IsOf o store.offset → IsOf w store.width → IsOf v store.value → IsJudged (kinds.Store h l o w v) judged)
    → (h : ℕ) → IsOf h hart → HasAct text h (record { judged = judged; rest = rest })
is_store text store rest hart judged has judging h known = record {
  event = kinds.Store h has.l has.o has.w has.v;
  of_hart = refl;
  whole = has.whole;
  judged = judging h has.l has.o has.w has.v known has.line_known has.offset_known has.width_known has.value_known;
}

pub is_clean : (text : List ℕ) (line : Number) (rest : Bor (List ℕ)) (hart : Number) (judged : Result Event TraceFileCode)
    → IsNumbered (codes "clean l") text line rest.now → ((h l : ℕ) → IsOf h hart → IsOf l line → IsJudged (kinds.Clean h l) judged)
    → (h : ℕ) → IsOf h hart → HasAct text h (record { judged = judged; rest = rest })
is_clean text line rest hart judged has judging h known =
    record { event = kinds.Clean h has.value; of_hart = refl; whole = has.whole; judged = judging h has.value known has.known }

pub is_begin : (text : List ℕ) (op : Number) (rest : Bor (List ℕ)) (hart : Number) (judged : Result Event TraceFileCode)
    → IsNumbered (codes "begin ") text op rest.now → ((h o : ℕ) → IsOf h hart → IsOf o op → IsJudged (kinds.Begin h o) judged)
    → (h : ℕ) → IsOf h hart → HasAct text h (record { judged = judged; rest = rest })
is_begin text op rest hart judged has judging h known =
    record { event = kinds.Begin h has.value; of_hart = refl; whole = has.whole; judged = judging h has.value known has.known }

pub is_end : (text : List ℕ) (op : Number) (rest : Bor (List ℕ)) (hart : Number) (judged : Result Event TraceFileCode)
    → IsNumbered (codes "end ") text op rest.now → ((h o : ℕ) → IsOf h hart → IsOf o op → IsJudged (kinds.End h o) judged)
    → (h : ℕ) → IsOf h hart → HasAct text h (record { judged = judged; rest = rest })
is_end text op rest hart judged has judging h known =
    record { event = kinds.End h has.value; of_hart = refl; whole = has.whole; judged = judging h has.value known has.known }

pub is_fence : (text : List ℕ) (rest : Bor (List ℕ)) (hart : Number) (judged : Result Event TraceFileCode) → text ≡ codes "fence\n" ++ rest.now
    → ((h : ℕ) → IsOf h hart → IsJudged (kinds.Fence h) judged) → (h : ℕ) → IsOf h hart → HasAct text h (record { judged = judged; rest = rest })
is_fence text rest hart judged has judging h known =
    record { event = kinds.Fence h; of_hart = refl; whole = has; judged = judging h known }

pub is_none : (text : List ℕ) → ((l o w v : ℕ) (rest : List ℕ) → text ≢ store_text l o w v rest)
    → ((n : ℕ) (rest : List ℕ) → text ≢ codes "clean l" ++ (numeral 10 n ++ line_end rest))
    → ((n : ℕ) (rest : List ℕ) → text ≢ codes "begin " ++ (numeral 10 n ++ line_end rest))
    → ((n : ℕ) (rest : List ℕ) → text ≢ codes "end " ++ (numeral 10 n ++ line_end rest))
    → ((rest : List ℕ) → text ≢ codes "fence\n" ++ rest) → (event : Event) (rest : List ℕ) → text ≢ act_text event rest
is_none text no_store no_clean no_begin no_end no_fence (kinds.Store hart line offset width value) rest = no_store line offset width value rest
is_none text no_store no_clean no_begin no_end no_fence (kinds.Clean hart line) rest = no_clean line rest
is_none text no_store no_clean no_begin no_end no_fence (kinds.Fence hart) rest = no_fence rest
is_none text no_store no_clean no_begin no_end no_fence (kinds.Begin hart op) rest = no_begin op rest
is_none text no_store no_clean no_begin no_end no_fence (kinds.End hart op) rest = no_end op rest
