-- What the words of a line say, and why they say nothing.
use Rattle.std.proofs.Common.{◌≡◌, ◌≢◌, ◌∙◌, ◌<◌, ◌≤◌, ◌+◌, ◌&&◌, ℕ, zero, suc, Bool, true, false, Bor, List, [], ◌∷◌, ◌++◌, Option, Some, None, Result, Ok, Err, codes, inl, inr, refl, sym, ap, subst, arith, eqb, eq-eqb, length, get_or, map, take, position, lit<}
use Rattle.std.specs.Prelude.{All, IfNone, IfOk, IfSome, MatchOption, slice_index}
use Rattle.std.specs.List.{AllZip, flat_map, list_all}
use Rattle.std.specs.Str.{IsUtf8}
use Rattle.std.proofs.lemmas.Grind.{common_steps, flat_map-append}
use Rattle.std.proofs.lemmas.List.{append-nil, take_all, take_more}
use Rattle.std.proofs.lemmas.List.Elements.{All-append, All-cons, All-nil}
use Rattle.std.proofs.lemmas.Str.Pattern.{strip_prefix_char}
use Rattle.std.specs.Str.Pattern.{FindsCharPrefix}
use Rattle.trace_file.specs.Ranks.{AreInOrder}
use Rattle.hex.specs.Hex.{decode_of}
use Rattle.hex.specs.declared.error.FromHexError.{FromHexError}
use Rattle.routine_judge.specs.OutsideViews.{ReplyView}
use Rattle.text.specs.Grammar.{IsNumber, words as listed}
use Rattle.command_line.specs.Replies.{IsLineList, IsLineName, IsParted, SaysAnswer, SaysLoads, SaysNone, SaysReply, is_cause_byte, rank_of}

-- two words differ
abbrev same_bytes : List ℕ → List ℕ → Bool
same_bytes [] [] = true
same_bytes [] (y ∷ ys) = false
same_bytes (x ∷ xs) [] = false
same_bytes (x ∷ xs) (y ∷ ys) = eqb x y && same_bytes xs ys

same_self : (xs : List ℕ) → same_bytes xs xs ≡ true
same_self [] = refl
same_self (x ∷ xs) = rw (eq-eqb x x refl) (same_self xs)

same_as : (xs ys : List ℕ) → xs ≡ ys → same_bytes xs ys ≡ true
same_as xs ys e = rw (← e) (same_self xs)

differ : (xs ys : List ℕ) → same_bytes xs ys ≡ false → xs ≡ ys → ⊥
differ xs ys off e = let bad : true ≡ false = sym (same_as xs ys e) ∙ off in absurd cc

-- the first of the words, and those behind it
first_word : (x y : List ℕ) (xs ys : List (List ℕ)) → ◌≡◌ {A = List (List ℕ)} (x ∷ xs) (y ∷ ys) → x ≡ y
first_word x y xs ys e = cc

other_words : (x y : List ℕ) (xs ys : List (List ℕ)) → ◌≡◌ {A = List (List ℕ)} (x ∷ xs) (y ∷ ys) → xs ≡ ys
other_words x y xs ys e = cc

no_words : (x : List ℕ) (xs : List (List ℕ)) → ◌≡◌ {A = List (List ℕ)} (x ∷ xs) [] → ⊥
no_words x xs e = absurd cc

-- a line that begins with neither word
pub no_reply : (names : List ℕ) (ws : List (List ℕ)) → ((rest : List (List ℕ)) → ws ≢ codes "answer" ∷ rest)
    → ((rest : List (List ℕ)) → ws ≢ codes "none" ∷ rest) → (reply : ReplyView) → ¬ SaysReply names ws reply
no_reply names ws answers lacks reply (inl says) = answers says.0 says.1
no_reply names ws answers lacks reply (inr says) = lacks says.0 says.1

-- what is behind the first word says the reply
pub by_answer : {E : Type 0} (names : List ℕ) (ws rest : List (List ℕ)) (outcome : Result (Option ReplyView) E) → ws ≡ codes "answer" ∷ rest
    → IfOk outcome (λ found. MatchOption found ((reply : ReplyView) → ¬ SaysAnswer names rest reply) (SaysAnswer names rest))
    → IfOk outcome (λ found. MatchOption found ((reply : ReplyView) → ¬ SaysReply names ws reply) (SaysReply names ws))
by_answer names ws rest (Ok (Some reply)) is says = inl (rest, is, says)
by_answer names ws rest (Ok None) is none = λ reply says. elim says [
  | inl answer ↦ none reply (subst (λ (r : List (List ℕ)). SaysAnswer names r reply) (other_words _ _ answer.0 rest (sym answer.1 ∙ is)) answer.2)
  | inr lacks ↦ absurd (differ (codes "none") (codes "answer") refl (first_word _ _ lacks.0 rest (sym lacks.1 ∙ is)))
]
by_answer names ws rest (Err e) is says = tt

pub by_cause : {E : Type 0} (names : List ℕ) (ws rest : List (List ℕ)) (outcome : Result (Option ReplyView) E) → ws ≡ codes "none" ∷ rest
    → IfOk outcome (λ found. MatchOption found ((reply : ReplyView) → ¬ SaysNone names rest reply) (SaysNone names rest))
    → IfOk outcome (λ found. MatchOption found ((reply : ReplyView) → ¬ SaysReply names ws reply) (SaysReply names ws))
by_cause names ws rest (Ok (Some reply)) is says = inr (rest, is, says)
by_cause names ws rest (Ok None) is none = λ reply says. elim says [
  | inl answer ↦ absurd (differ (codes "answer") (codes "none") refl (first_word _ _ answer.0 rest (sym answer.1 ∙ is)))
  | inr lacks ↦ none reply (subst (λ (r : List (List ℕ)). SaysNone names r reply) (other_words _ _ lacks.0 rest (sym lacks.1 ∙ is)) lacks.2)
]
by_cause names ws rest (Err e) is says = tt

-- the digits are parted in one way
digits_once : (ws : List (List ℕ)) (one other : List ℕ) (rest rest' : List (List ℕ)) → IsParted ws one rest → IsParted ws other rest' → other ≡ one
digits_once [] one other rest rest' p q = q.0 ∙ sym p.0
digits_once (w ∷ ws) one other rest rest' (inl p) (inl q) = q.1 ∙ sym p.1
digits_once (w ∷ ws) one other rest rest' (inl p) (inr q) = absurd (q.0 p.0)
digits_once (w ∷ ws) one other rest rest' (inr p) (inl q) = absurd (p.0 q.0)
digits_once (w ∷ ws) one other rest rest' (inr p) (inr q) = q.1 ∙ sym p.1

rest_once : (ws : List (List ℕ)) (one other : List ℕ) (rest rest' : List (List ℕ)) → IsParted ws one rest → IsParted ws other rest' → rest' ≡ rest
rest_once [] one other rest rest' p q = q.1 ∙ sym p.1
rest_once (w ∷ ws) one other rest rest' (inl p) (inl q) = q.2 ∙ sym p.2
rest_once (w ∷ ws) one other rest rest' (inl p) (inr q) = absurd (q.0 p.0)
rest_once (w ∷ ws) one other rest rest' (inr p) (inl q) = absurd (p.0 q.0)
rest_once (w ∷ ws) one other rest rest' (inr p) (inr q) = q.2 ∙ sym p.2

pub no_digits : (names : List ℕ) (ws : List (List ℕ)) (digits : List ℕ) (rest : List (List ℕ)) → IsParted ws digits rest
    → ((bytes : List ℕ) → decode_of digits ≢ Ok bytes) → (reply : ReplyView) → ¬ SaysAnswer names ws reply
no_digits names ws digits rest parted none reply says =
    none says.bytes (rw (digits_once ws digits says.digits rest says.rest parted says.parted) at says.decoded)

pub no_loads : (names : List ℕ) (ws : List (List ℕ)) (digits : List ℕ) (rest : List (List ℕ)) → IsParted ws digits rest
    → ((ranks : List ℕ) → ¬ SaysLoads names rest ranks) → (reply : ReplyView) → ¬ SaysAnswer names ws reply
no_loads names ws digits rest parted none reply says =
    none reply.lines (subst (λ (r : List (List ℕ)). SaysLoads names r reply.lines) (rest_once ws digits says.digits rest says.rest parted says.parted) says.loads)

-- digits that aren't decoded
not_ok : (outcome : Result (List ℕ) FromHexError) (fault : FromHexError) (bytes : List ℕ) → outcome ≡ Err fault → outcome ≢ Ok bytes
not_ok outcome fault bytes e same = let both = sym e ∙ same in absurd cc

pub not_decoded : (digits : List ℕ) (fault : FromHexError) → decode_of digits ≡ Err fault → (bytes : List ℕ) → decode_of digits ≢ Ok bytes
not_decoded digits fault e bytes = not_ok (decode_of digits) fault bytes e

-- a word for why there is no answer
pub no_word : (names : List ℕ) (ws : List (List ℕ)) → ws ≡ [] → (reply : ReplyView) → ¬ SaysNone names ws reply
no_word names ws none reply says = no_words says.word says.rest (sym says.spelled ∙ none)

pub no_plain : (names : List ℕ) (ws : List (List ℕ)) (word : List ℕ) (rest : List (List ℕ)) → ws ≡ word ∷ rest → list_all is_cause_byte word ≡ false
    → (reply : ReplyView) → ¬ SaysNone names ws reply
no_plain names ws word rest is off reply says =
    let same : says.word ≡ word = first_word says.word word says.rest rest (sym says.spelled ∙ is) in
    let on : list_all is_cause_byte word ≡ true = rw same at says.plain in
    let bad : true ≡ false = sym on ∙ off in absurd cc

pub no_loaded : (names : List ℕ) (ws : List (List ℕ)) (word : List ℕ) (rest : List (List ℕ)) → ws ≡ word ∷ rest
    → ((ranks : List ℕ) → ¬ SaysLoads names rest ranks) → (reply : ReplyView) → ¬ SaysNone names ws reply
no_loaded names ws word rest is none reply says =
    none reply.lines (subst (λ (r : List (List ℕ)). SaysLoads names r reply.lines) (other_words says.word word says.rest rest (sym says.spelled ∙ is)) says.loads)

-- the words for lines
pub no_keyword : (names : List ℕ) (ws : List (List ℕ)) → ws ≢ [] → ((rest : List (List ℕ)) → ws ≢ codes "loads" ∷ rest)
    → (ranks : List ℕ) → ¬ SaysLoads names ws ranks
no_keyword names ws some none ranks (inl all) = some all.0
no_keyword names ws some none ranks (inr says) = none (says.0 ∷ []) says.1

pub no_list : (names : List ℕ) (ws rest : List (List ℕ)) → ws ≡ codes "loads" ∷ rest → ((word : List ℕ) → rest ≢ word ∷ [])
    → (ranks : List ℕ) → ¬ SaysLoads names ws ranks
no_list names ws rest is none ranks (inl all) = no_words _ rest (sym is ∙ all.0)
no_list names ws rest is none ranks (inr says) = none says.0 (other_words _ _ rest (says.0 ∷ []) (sym is ∙ says.1))

pub by_list : {V E : Type 0} (items : V → List ℕ) (names : List ℕ) (ws rest : List (List ℕ)) (word : List ℕ) (outcome : Result (Option V) E)
    → ws ≡ codes "loads" ∷ rest → rest ≡ word ∷ []
    → IfOk outcome (λ found. MatchOption found ((ranks : List ℕ) → ¬ IsLineList names word ranks) (λ ranks. IsLineList names word (items ranks)))
    → IfOk outcome (λ found. MatchOption found ((ranks : List ℕ) → ¬ SaysLoads names ws ranks) (λ ranks. SaysLoads names ws (items ranks)))
by_list items names ws rest word (Ok (Some ranks)) is only says = inr (word, is ∙ ap (λ (r : List (List ℕ)). codes "loads" ∷ r) only, says)
by_list items names ws rest word (Ok None) is only none = λ ranks says. elim says [
  | inl all ↦ no_words _ rest (sym is ∙ all.0)
  | inr list ↦
      let same = sym (other_words _ _ rest (list.0 ∷ []) (sym is ∙ list.1)) ∙ only in
      none ranks (subst (λ (w : List ℕ). IsLineList names w ranks) (first_word list.0 word [] [] same) list.2)
]
by_list items names ws rest word (Err e) is only says = tt

-- a word that is no text lists nothing
pub not_utf8 : (names word : List ℕ) → ¬ IsUtf8 word → (ranks : List ℕ) → ¬ IsLineList names word ranks
not_utf8 names word none ranks says = none says.utf8

pub not_listed : (names word : List ℕ) → ((lines : List ℕ) → ¬ AllZip IsLineName (listed word) lines) → (ranks : List ℕ) → ¬ IsLineList names word ranks
not_listed names word none ranks says = none says.lines says.says

-- the lines that words name, one by one
pub one_more_named : (ws : List (Bor (List ℕ))) (lines : List ℕ) (word : Bor (List ℕ)) (line : ℕ)
    → AllZip IsLineName (map (λ w. w.now) ws) lines → IsLineName word.now line
    → AllZip IsLineName (map (λ w. w.now) (ws ++ word ∷ [])) (lines ++ line ∷ [])
one_more_named [] [] word line says more = (more, tt)
one_more_named [] (l ∷ ls) word line says more = absurd says
one_more_named (w ∷ ws) [] word line says more = absurd says
one_more_named (w ∷ ws) (l ∷ ls) word line says more = (says.0, one_more_named ws ls word line says.1 more)

pub unnamed_at : (ws : List (List ℕ)) (n : ℕ) (word : List ℕ) → n < length ws → word ≡ get_or ws n word
    → ((line : ℕ) → ¬ IsLineName word line) → (lines : List ℕ) → ¬ AllZip IsLineName ws lines
unnamed_at [] n word inside is none lines says = absurd (omega arith)
unnamed_at (w ∷ ws) n word inside is none [] says = absurd says
unnamed_at (w ∷ ws) zero word inside is none (l ∷ ls) says = let P : List ℕ → Type 0 = λ text. IsLineName text l in none l (subst P (sym is) says.0)
unnamed_at (w ∷ ws) (suc n) word inside is none (l ∷ ls) says = unnamed_at ws n word (omega arith) is none ls says.1

-- the ranks of one more line
pub rank_more : (names lines : List ℕ) (n : ℕ) → n < length lines
    → flat_map (rank_of names) (take (n + 1) lines) ≡ flat_map (rank_of names) (take n lines) ++ rank_of names (get_or lines n 0)
rank_more names lines n inside =
    ap (flat_map (rank_of names)) (take_more lines n 0 inside)
    ∙ flat_map-append (rank_of names) (take n lines) (get_or lines n 0 ∷ [])
    ∙ ap (λ (l : List ℕ). flat_map (rank_of names) (take n lines) ++ l) (append-nil (rank_of names (get_or lines n 0)))

pub ranks_all : (names lines : List ℕ) (n : ℕ) → length lines ≤ n → flat_map (rank_of names) (take n lines) ≡ flat_map (rank_of names) lines
ranks_all names lines n past = ap (flat_map (rank_of names)) (take_all n lines past)

-- each rank is that of a line
pub more_there : (count rank : ℕ) (ranks : List ℕ) → rank < count → All (λ r. r < count) ranks → All (λ r. r < count) (ranks ++ rank ∷ [])
more_there count rank ranks inside there =
    let P : ℕ → Type 0 = λ r. r < count in All-append P ranks (rank ∷ []) there (All-cons P rank [] inside (All-nil P))

pub all_there : (count : ℕ) (ranks : List ℕ) → AreInOrder count ranks → All (λ r. r < count) ranks
all_there count ranks is k d inside =
    let short : k < count = rw is.count_is at inside in
    let own : slice_index ranks k ≡ k = is.own k short in
    grind (arith, common_steps)

-- a word without an `l`
pub if_none : {X : Type 0} (r : Option X) (P : Type 0) → P → IfNone r P
if_none None P p = p
if_none (Some x) P p = tt

pub other_letter : (word : List ℕ) → FindsCharPrefix 108 word None → (line : ℕ) → ¬ IsLineName word line
other_letter word none line says = strip_prefix_char 108 word None none (lit< tt) says.digits says.spelled
