-- What branches off an entry, question by question.
use Rattle.std.proofs.Common.{◌≡◌, ◌≢◌, inl, inr, ℕ, zero, suc, ◌+◌, ◌-◌, ◌≤◌, ◌<◌, ◌==◌, ◌&&◌, if◌then◌else◌, Bool, true, false, eqb, ltb, List, [], ◌∷◌, ◌++◌, length, take, drop, get_or, slice_index, refl, sym, ap, subst, ◌∙◌, arith, append_assoc}
use Rattle.std.specs.Prelude.{bit_or}
use Rattle.std.proofs.Math.Path.{fun_ext}
use Rattle.std.proofs.lemmas.List.{append-nil, take_more, drop_more, length-take-le}
use Rattle.std.proofs.lemmas.Bool.{cases_Bool, cases_eq}
use Rattle.verdict.specs.Branches.{IsEquivalence, all_alike, is_first, question}
use Rattle.verdict.specs.Queue.{entry, is_new, is_new_behind, siblings, branching}
use Rattle.verdict.specs.declared.branches.question.Question.{Question}
use Rattle.verdict.specs.declared.branches.queue.Entry.{Entry}
use Rattle.verdict.proofs.Alikes.{not_first}
use Rattle.verdict.proofs.Listed.{drop_past}

siblings_more : (new : ℕ → Bool) (p d l n more : ℕ) →
    siblings new p d l n (more + 1) ≡ siblings new p d l n more ++ (if new (n + more) then entry p d l (n + more) ∷ [] else [])
siblings_more new p d l n zero = let e : n + 0 ≡ n = omega arith in rw e refl
siblings_more new p d l n (suc more) =
    let one : suc more + 1 ≡ suc (more + 1) = omega arith in
    let sum : n + suc more ≡ n + 1 + more = omega arith in
    let rest = siblings_more new p d l (n + 1) more in
    rw (one, sum) (elim (cases_Bool (new n)) [
      | inl t ↦ rw t (ap (λ (r : List Entry). entry p d l n ∷ r) rest)
      | inr f ↦ rw f rest
    ])

siblings_to : (new : ℕ → Bool) (p d l floor number : ℕ) → floor ≤ number →
    siblings new p d l (floor + 1) (number + 1 - floor) ≡ siblings new p d l (floor + 1) (number - floor) ++ (if new (number + 1) then entry p d l (number + 1) ∷ [] else [])
siblings_to new p d l floor number le =
    let size : number + 1 - floor ≡ (number - floor) + 1 = omega (arith, le) in
    let at : floor + 1 + (number - floor) ≡ number + 1 = omega (arith, le) in
    rw size (siblings_more new p d l (floor + 1) (number - floor)
    ∙ ap (λ (n : ℕ). siblings new p d l (floor + 1) (number - floor) ++ (if new n then entry p d l n ∷ [] else [])) at)

-- a number that is new
pub sibling_pushed : (new : ℕ → Bool) (p d l floor number : ℕ) (old found : List Entry) → floor ≤ number → new (number + 1) ≡ true →
    found ≡ old ++ siblings new p d l (floor + 1) (number - floor) →
    found ++ entry p d l (number + 1) ∷ [] ≡ old ++ siblings new p d l (floor + 1) (number + 1 - floor)
sibling_pushed new p d l floor number old found le t h =
    ap (λ (r : List Entry). r ++ entry p d l (number + 1) ∷ []) h
    ∙ append_assoc old (siblings new p d l (floor + 1) (number - floor)) (entry p d l (number + 1) ∷ [])
    ∙ ap (λ (b : Bool). old ++ (siblings new p d l (floor + 1) (number - floor) ++ (if b then entry p d l (number + 1) ∷ [] else []))) (sym t)
    ∙ ap (λ (r : List Entry). old ++ r) (sym (siblings_to new p d l floor number le))

-- one that isn't
pub sibling_passed : (new : ℕ → Bool) (p d l floor number : ℕ) (old found : List Entry) → floor ≤ number → new (number + 1) ≡ false →
    found ≡ old ++ siblings new p d l (floor + 1) (number - floor) → found ≡ old ++ siblings new p d l (floor + 1) (number + 1 - floor)
sibling_passed new p d l floor number old found le f h =
    h ∙ ap (λ (r : List Entry). old ++ r) (sym (append-nil (siblings new p d l (floor + 1) (number - floor))))
    ∙ ap (λ (b : Bool). old ++ (siblings new p d l (floor + 1) (number - floor) ++ (if b then entry p d l (number + 1) ∷ [] else []))) (sym f)
    ∙ ap (λ (r : List Entry). old ++ r) (sym (siblings_to new p d l floor number le))

pub siblings_end : (new : ℕ → Bool) (p d l floor number low high : ℕ) (old found : List Entry) → floor ≡ low → number ≡ high →
    found ≡ old ++ siblings new p d l (floor + 1) (number - floor) → found ≡ old ++ siblings new p d l (low + 1) (high - low)
siblings_end new p d l floor number low high old found e f h = rw (e, f) at h

-- two conditions, of which both hold or one doesn't
pub both_true : {a b : Bool} → a ≡ true → b ≡ true → (a && b) ≡ true
both_true {a} {b} e f = rw (e, f) refl

pub first_false : {a : Bool} (b : Bool) → a ≡ false → (a && b) ≡ false
first_false {a} b e = rw e refl

pub last_false : (a : Bool) {b : Bool} → b ≡ false → (a && b) ≡ false
last_false a {b} e = rw e (elim a as (λ x. (x && false) ≡ false) [ true ↦ refl | false ↦ refl ])

-- where none is new, nothing branches off
siblings_none : (new : ℕ → Bool) (p d l n more : ℕ) → ((m : ℕ) → n ≤ m → new m ≡ false) → siblings new p d l n more ≡ []
siblings_none new p d l n zero h = refl
siblings_none new p d l n (suc more) h = rw (h n (omega arith)) (siblings_none new p d l (n + 1) more (λ m le. h m (omega (arith, le))))

-- the bytes of a line that some questions ask, beside others
pub so_far : ℕ → ℕ → List Question → ℕ
so_far l bytes [] = bytes
so_far l bytes (q ∷ qs) = so_far l (if q.line == l then bit_or bytes q.bytes else bytes) qs

so_far_last : (l bytes : ℕ) (qs : List Question) (q : Question) → so_far l bytes (qs ++ q ∷ []) ≡ (if q.line == l then bit_or (so_far l bytes qs) q.bytes else so_far l bytes qs)
unfolding so_far
so_far_last l bytes [] q = refl
so_far_last l bytes (x ∷ qs) q = so_far_last l (if x.line == l then bit_or bytes x.bytes else bytes) qs q

-- what each judge of numbers keeps to
pub record AreBytes (alike : Question → ℕ → ℕ → Bool) : Type 0 where
  pub nothing : (l n m : ℕ) → alike (question l 0) n m ≡ true
  pub both : (l a b n m : ℕ) → alike (question l (bit_or a b)) n m ≡ (alike (question l a) n m && alike (question l b) n m)

and_assoc : (a b c : Bool) → ((a && b) && c) ≡ (a && (b && c))
and_assoc true b c = refl
and_assoc false b c = refl

and_true : (a : Bool) → (a && true) ≡ a
and_true true = refl
and_true false = refl

-- numbers are alike in all that some questions ask of a line just if they are in all these bytes of it
alike_so_far : (alike : Question → ℕ → ℕ → Bool) (l bytes : ℕ) (qs : List Question) (n m : ℕ) → AreBytes alike →
    (alike (question l bytes) n m && all_alike alike l qs n m) ≡ alike (question l (so_far l bytes qs)) n m
unfolding so_far
alike_so_far alike l bytes [] n m h = and_true (alike (question l bytes) n m)
alike_so_far alike l bytes (q ∷ qs) n m h = elim (cases_eq q.line l) [
  | inl e ↦
      let t : eqb q.line l ≡ true = grind (arith, e) in
      let own : alike q n m ≡ alike (question l q.bytes) n m = ap (λ (x : ℕ). alike (question x q.bytes) n m) e in
      rw t (ap (λ (b : Bool). alike (question l bytes) n m && (b && all_alike alike l qs n m)) own
      ∙ sym (and_assoc (alike (question l bytes) n m) (alike (question l q.bytes) n m) (all_alike alike l qs n m))
      ∙ ap (λ (b : Bool). b && all_alike alike l qs n m) (sym (h.both l bytes q.bytes n m))
      ∙ alike_so_far alike l (bit_or bytes q.bytes) qs n m h)
  | inr ne ↦ let f : eqb q.line l ≡ false = grind (arith, ne) in rw f (alike_so_far alike l bytes qs n m h)
]

all_so_far : (alike : Question → ℕ → ℕ → Bool) (l : ℕ) (qs : List Question) (n m : ℕ) → AreBytes alike → all_alike alike l qs n m ≡ alike (question l (so_far l 0 qs)) n m
all_so_far alike l qs n m h = sym (ap (λ (b : Bool). b && all_alike alike l qs n m) (h.nothing l n m)) ∙ alike_so_far alike l 0 qs n m h

so_far_with : (seen : List Question) (q : Question) → so_far q.line 0 (seen ++ q ∷ []) ≡ bit_or (so_far q.line 0 seen) q.bytes
so_far_with seen q = let t : eqb q.line q.line ≡ true = grind arith in so_far_last q.line 0 seen q ∙ (rw t refl)

-- a number is new by the questions seen just if it is by their bytes
new_behind : (alike : Question → ℕ → ℕ → Bool) (low c : ℕ → ℕ) (seen : List Question) (q : Question) → AreBytes alike →
    is_new alike low c seen q ≡ is_new_behind alike low q (so_far q.line 0 seen) (c q.line)
new_behind alike low c seen q h = fun_ext (λ n.
    let one = all_so_far alike q.line seen n (c q.line) h in
    let all : all_alike alike q.line (seen ++ q ∷ []) ≡ alike (question q.line (bit_or (so_far q.line 0 seen) q.bytes)) =
    fun_ext (λ x. fun_ext (λ y. all_so_far alike q.line (seen ++ q ∷ []) x y h ∙ ap (λ (bytes : ℕ). alike (question q.line bytes) x y) (so_far_with seen q))) in
    ap (λ (b : Bool). b && is_first (all_alike alike q.line (seen ++ q ∷ [])) (low q.line) n) one
    ∙ ap (λ (r : ℕ → ℕ → Bool). alike (question q.line (so_far q.line 0 seen)) n (c q.line) && is_first r (low q.line) n) all)

-- a question that asks nothing more
nothing_new : (alike : Question → ℕ → ℕ → Bool) (low : ℕ → ℕ) (q : Question) (before own n : ℕ) → IsEquivalence alike → bit_or before q.bytes ≡ before →
    low q.line ≤ own → own < n → is_new_behind alike low q before own n ≡ false
nothing_new alike low q before own n eq same le less = elim (cases_Bool (alike (question q.line before) n own)) [
  | inl t ↦
      let back : alike (question q.line (bit_or before q.bytes)) own n ≡ true =
      ap (λ (bytes : ℕ). alike (question q.line bytes) own n) same ∙ eq.back (question q.line before) n own t in
      rw t (not_first (alike (question q.line (bit_or before q.bytes))) (low q.line) n own le less back)
  | inr f ↦ rw f refl
]

-- one more question
branching_more : (p : ℕ) (alike : Question → ℕ → ℕ → Bool) (low high c : ℕ → ℕ) (asked : List Question) (at : ℕ) (d : Question) → at < length asked →
    branching p alike low high c (take at asked) (drop at asked)
    ≡ siblings (is_new alike low c (take at asked) (get_or asked at d)) p (at + 1) (get_or asked at d).line (c (get_or asked at d).line + 1) (high (get_or asked at d).line - c (get_or asked at d).line)
    ++ branching p alike low high c (take (at + 1) asked) (drop (at + 1) asked)
branching_more p alike low high c asked at d less =
    let x : Question = get_or asked at d in
    let size : length (take at asked) ≡ at = length-take-le at asked (omega (arith, less)) in
    ap (λ (r : List Question). branching p alike low high c (take at asked) r) (drop_more asked at d less)
    ∙ ap (λ (n : ℕ). siblings (is_new alike low c (take at asked) x) p (n + 1) x.line (c x.line + 1) (high x.line - c x.line) ++ branching p alike low high c (take at asked ++ x ∷ []) (drop (at + 1) asked)) size
    ∙ ap (λ (s : List Question). siblings (is_new alike low c (take at asked) x) p (at + 1) x.line (c x.line + 1) (high x.line - c x.line) ++ branching p alike low high c s (drop (at + 1) asked)) (sym (take_more asked at d less))

-- of the lines with several numbers the questions before this place are seen, and what branches off there is found
pub record IsFound (alike : Question → ℕ → ℕ → Bool) (low high c : ℕ → ℕ) (p decided : ℕ) (asked : List Question) (place : ℕ) (seen : List ℕ) (found : List Entry) : Type 0 where
  pub bytes : (l : ℕ) → low l ≢ high l → slice_index seen l ≡ so_far l 0 (take place asked)
  pub early : place < decided → found ≡ []
  pub late : decided ≤ place → branching p alike low high c (take decided asked) (drop decided asked) ≡ found ++ branching p alike low high c (take place asked) (drop place asked)

pub found_first : (alike : Question → ℕ → ℕ → Bool) (low high c : ℕ → ℕ) (p decided : ℕ) (asked : List Question) (seen : List ℕ) (found : List Entry) →
    ((l : ℕ) → slice_index seen l ≡ 0) → found ≡ [] → IsFound alike low high c p decided asked 0 seen found
unfolding so_far
found_first alike low high c p decided asked seen found h e = record {
  bytes = λ l several. h l;
  early = λ less. e;
  late = λ le. let z : decided ≡ 0 = omega (arith, le) in rw (e, z) refl;
}

seen_more : (low high : ℕ → ℕ) (asked : List Question) (place : ℕ) (q d : Question) (old new : List ℕ) → place < length asked → q ≡ get_or asked place d →
    ((l : ℕ) → low l ≢ high l → slice_index old l ≡ so_far l 0 (take place asked)) →
    ((l : ℕ) → slice_index new l ≡ (if q.line == l then bit_or (slice_index old l) q.bytes else slice_index old l)) →
    (l : ℕ) → low l ≢ high l → slice_index new l ≡ so_far l 0 (take (place + 1) asked)
seen_more low high asked place q d old new less e h n l several =
    n l ∙ ap (λ (b : ℕ). if q.line == l then bit_or b q.bytes else b) (h l several) ∙ sym (so_far_last l 0 (take place asked) q)
    ∙ ap (λ (x : Question). so_far l 0 (take place asked ++ x ∷ [])) e
    ∙ ap (λ (qs : List Question). so_far l 0 qs) (sym (take_more asked place d less))

-- a question that is decided, or asks nothing more
pub found_same : (alike : Question → ℕ → ℕ → Bool) (low high c : ℕ → ℕ) (p decided : ℕ) (asked : List Question) (place : ℕ) (q d : Question) (before : ℕ) (old new : List ℕ) (found later : List Entry) →
    IsEquivalence alike → AreBytes alike → low q.line ≢ high q.line → low q.line ≤ c q.line → later ≡ found → place < length asked → q ≡ get_or asked place d → before ≡ slice_index old q.line →
    (decided ≤ place → bit_or before q.bytes ≡ before) →
    ((l : ℕ) → slice_index new l ≡ (if q.line == l then bit_or (slice_index old l) q.bytes else slice_index old l)) →
    IsFound alike low high c p decided asked place old found → IsFound alike low high c p decided asked (place + 1) new later
found_same alike low high c p decided asked place q d before old new found later eq bytes several above same less e was none n h = subst (IsFound alike low high c p decided asked (place + 1) new) (sym same) (record {
  bytes = seen_more low high asked place q d old new less e h.bytes n;
  early = λ early. h.early (omega (arith, early));
  late = λ le. elim (cases_eq decided (place + 1)) [
    | inl at ↦ let z : found ≡ [] = h.early (omega (arith, at)) in rw (z, at) refl
    | inr nd ↦
        let after : decided ≤ place = omega (arith, le, nd) in
        let seen : List Question = take place asked in
        let mask : before ≡ so_far q.line 0 seen = was ∙ h.bytes q.line several in
        let here : siblings (is_new alike low c seen q) p (place + 1) q.line (c q.line + 1) (high q.line - c q.line) ≡ [] =
        ap (λ (new : ℕ → Bool). siblings new p (place + 1) q.line (c q.line + 1) (high q.line - c q.line)) (new_behind alike low c seen q bytes)
        ∙ siblings_none (is_new_behind alike low q (so_far q.line 0 seen) (c q.line)) p (place + 1) q.line (c q.line + 1) (high q.line - c q.line)
        (λ m from. nothing_new alike low q (so_far q.line 0 seen) (c q.line) m eq
        (subst (λ (b : ℕ). bit_or b q.bytes ≡ b) mask (none after)) above (omega (arith, from))) in
        let more = branching_more p alike low high c asked place d less in
        h.late after ∙ ap (λ (r : List Entry). found ++ r)
        (subst (λ (x : Question). branching p alike low high c (take place asked) (drop place asked)
        ≡ siblings (is_new alike low c (take place asked) x) p (place + 1) x.line (c x.line + 1) (high x.line - c x.line) ++ branching p alike low high c (take (place + 1) asked) (drop (place + 1) asked))
        (sym e) more
        ∙ ap (λ (r : List Entry). r ++ branching p alike low high c (take (place + 1) asked) (drop (place + 1) asked)) here)
  ];
})

-- a question that asks more
pub found_more : (alike : Question → ℕ → ℕ → Bool) (low high c : ℕ → ℕ) (p decided : ℕ) (asked : List Question) (place : ℕ) (q d : Question) (before : ℕ) (old new : List ℕ) (found pushed more : List Entry) →
    AreBytes alike → low q.line ≢ high q.line → more ≡ pushed → place < length asked → q ≡ get_or asked place d → before ≡ slice_index old q.line → decided ≤ place →
    ((l : ℕ) → slice_index new l ≡ (if q.line == l then bit_or (slice_index old l) q.bytes else slice_index old l)) →
    pushed ≡ found ++ siblings (is_new_behind alike low q before (c q.line)) p (place + 1) q.line (c q.line + 1) (high q.line - c q.line) →
    IsFound alike low high c p decided asked place old found → IsFound alike low high c p decided asked (place + 1) new more
found_more alike low high c p decided asked place q d before old new found pushed more bytes several same less e was after n m h = record {
  bytes = seen_more low high asked place q d old new less e h.bytes n;
  early = λ early. absurd (omega (arith, early, after));
  late = λ le.
      (let seen : List Question = take place asked in
      let mask : before ≡ so_far q.line 0 seen = was ∙ h.bytes q.line several in
      let news : is_new_behind alike low q before (c q.line) ≡ is_new alike low c seen q =
      ap (λ (b : ℕ). is_new_behind alike low q b (c q.line)) mask ∙ sym (new_behind alike low c seen q bytes) in
      let here : List Entry = siblings (is_new alike low c seen q) p (place + 1) q.line (c q.line + 1) (high q.line - c q.line) in
      let rest : List Entry = branching p alike low high c (take (place + 1) asked) (drop (place + 1) asked) in
      let grown : more ≡ found ++ here =
      same ∙ m ∙ ap (λ (new : ℕ → Bool). found ++ siblings new p (place + 1) q.line (c q.line + 1) (high q.line - c q.line)) news in
      h.late after ∙ ap (λ (r : List Entry). found ++ r)
      (subst (λ (x : Question). branching p alike low high c (take place asked) (drop place asked)
      ≡ siblings (is_new alike low c (take place asked) x) p (place + 1) x.line (c x.line + 1) (high x.line - c x.line) ++ rest)
      (sym e) (branching_more p alike low high c asked place d less))
      ∙ sym (append_assoc found here rest) ∙ ap (λ (r : List Entry). r ++ rest) (sym grown));
}

-- a question of a line that has one number
pub found_closed : (alike : Question → ℕ → ℕ → Bool) (low high c : ℕ → ℕ) (p decided : ℕ) (asked : List Question) (place : ℕ) (q d : Question) (seen : List ℕ) (found : List Entry) →
    low q.line ≡ high q.line → low q.line ≤ c q.line → place < length asked → q ≡ get_or asked place d →
    IsFound alike low high c p decided asked place seen found → IsFound alike low high c p decided asked (place + 1) seen found
found_closed alike low high c p decided asked place q d seen found one above less e h = record {
  bytes = λ l several.
      let other : q.line ≢ l = λ same. several (subst (λ (n : ℕ). low n ≡ high n) same one) in
      let f : eqb q.line l ≡ false = grind (arith, other) in
      h.bytes l several
      ∙ sym (so_far_last l 0 (take place asked) q ∙ ap (λ (b : Bool). if b then bit_or (so_far l 0 (take place asked)) q.bytes else so_far l 0 (take place asked)) f)
      ∙ ap (λ (x : Question). so_far l 0 (take place asked ++ x ∷ [])) e
      ∙ ap (λ (qs : List Question). so_far l 0 qs) (sym (take_more asked place d less));
  early = λ early. h.early (omega (arith, early));
  late = λ le. elim (cases_eq decided (place + 1)) [
    | inl at ↦ let z : found ≡ [] = h.early (omega (arith, at)) in rw (z, at) refl
    | inr nd ↦
        let after : decided ≤ place = omega (arith, le, nd) in
        let none : high q.line - c q.line ≡ 0 = omega (arith, one, above) in
        let here : siblings (is_new alike low c (take place asked) q) p (place + 1) q.line (c q.line + 1) (high q.line - c q.line) ≡ [] =
        ap (λ (n : ℕ). siblings (is_new alike low c (take place asked) q) p (place + 1) q.line (c q.line + 1) n) none in
        let more = branching_more p alike low high c asked place d less in
        h.late after ∙ ap (λ (r : List Entry). found ++ r)
        (subst (λ (x : Question). branching p alike low high c (take place asked) (drop place asked)
        ≡ siblings (is_new alike low c (take place asked) x) p (place + 1) x.line (c x.line + 1) (high x.line - c x.line) ++ branching p alike low high c (take (place + 1) asked) (drop (place + 1) asked))
        (sym e) more
        ∙ ap (λ (r : List Entry). r ++ branching p alike low high c (take (place + 1) asked) (drop (place + 1) asked)) here)
  ];
}

pub found_all : (alike : Question → ℕ → ℕ → Bool) (low high c : ℕ → ℕ) (p decided : ℕ) (asked : List Question) (place : ℕ) (seen : List ℕ) (found : List Entry) → length asked ≤ place →
    IsFound alike low high c p decided asked place seen found → found ≡ branching p alike low high c (take decided asked) (drop decided asked)
found_all alike low high c p decided asked place seen found past h = elim (cases_Bool (ltb place decided)) [
  | inl t ↦
      let before : place < decided = grind (arith, t) in
      let none : drop decided asked ≡ [] = drop_past asked decided (omega (arith, past, before)) in
      h.early before ∙ sym (ap (λ (r : List Question). branching p alike low high c (take decided asked) r) none)
  | inr f ↦
      let after : decided ≤ place = grind (arith, f) in
      let none : drop place asked ≡ [] = drop_past asked place past in
      sym (h.late after ∙ ap (λ (r : List Question). found ++ branching p alike low high c (take place asked) r) none ∙ append-nil found)
]
