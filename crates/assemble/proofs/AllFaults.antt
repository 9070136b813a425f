-- The passes over the lines of a source, from one line to the next.
use Rattle.std.proofs.Common.{◌≡◌, ◌∙◌, Bool, false, ℕ, zero, suc, ◌+◌, ◌<◌, ◌≤◌, List, [], ◌∷◌, ◌++◌, Option, ap, arith, append_assoc, append-nil, inl, inr, length, refl, subst, sym}
use Rattle.std.proofs.lemmas.List.{length-append}
use Rattle.std.specs.Prelude.{Some, None, nat_eq}
use mathlib.Core.List.{reverse_aux}
use Rattle.asm_lex.specs.Lines.{lines_of}
use Rattle.assemble.specs.Assembly.{lines_back, values_of}
use Rattle.assemble.specs.Faults.{Codes, code_of_said, early_code, late_code}
use Rattle.assemble.specs.Lines.{line_of}
use Rattle.assemble.specs.declared.TheConstants.{SOURCE_LIMIT}
use Rattle.assemble.specs.declared.asm_line.fault.AsmCode.{AsmCode}
use Rattle.assemble.specs.declared.fault.AsmFault.{AsmFault}
use Rattle.assemble.specs.Labels.{place_at}
use Rattle.assemble.proofs.First.{early_none, early_some, next_end, next_start, next_step}
use Rattle.assemble.proofs.FirstPass.{after_none, placed_none}
use Rattle.assemble.specs.AllFaults.{AreFirst, early_faults, fault_at, faults_among, faults_behind, faults_of, late_faults, or_else, sound, with_line}
use Rattle.assemble.specs.Passes.{FindingEarly, FindingLate, IsPlaced}
use Rattle.assemble.specs.Positions.{IsAfter, start}
use Rattle.assemble.specs.declared.labels.Labels.{Labels}
use Rattle.assemble.specs.declared.position.Position.{Position}

-- one step of each definition
sound_next : (code_of : Codes) (line : List ℕ) (earlier : List (List ℕ))
    → sound code_of (line ∷ earlier) ≡ with_line (code_of (sound code_of earlier) line) line (sound code_of earlier)
unfolding sound
sound_next code_of line earlier = refl

behind_next : (code_of : Codes) (line : List ℕ) (earlier : List (List ℕ))
    → faults_behind code_of (line ∷ earlier) ≡ faults_behind code_of earlier ++ fault_at (length earlier + 1) (code_of (sound code_of earlier) line)
unfolding faults_behind
behind_next code_of line earlier = refl

among_next : (code_of : Codes) (line : List ℕ) (earlier : List (List ℕ))
    → faults_among code_of (line ∷ earlier) ≡ faults_among code_of earlier ++ fault_at (length earlier + 1) (code_of earlier line)
unfolding faults_among
among_next code_of line earlier = refl

-- the early code of a line of a source within its limit
early_is : (size : ℕ) (earlier : List (List ℕ)) (line : List ℕ) (code : Option AsmCode) → size ≤ SOURCE_LIMIT
    → code_of_said earlier (line_of line) ≡ code → early_code size earlier line ≡ code
early_is size earlier line None fits is = early_none size earlier line fits is
early_is size earlier line (Some code) fits is = early_some size earlier line code is

pub early_start : (source : List ℕ) (p : Position) (labels : Labels) (found : List AsmFault) → p ≡ start → ((t : List ℕ) → place_at labels t ≡ None)
    → found ≡ [] → FindingEarly source source 1 p labels found
unfolding sound faults_behind
early_start source p labels found begins none empty = record {
  earlier = [];
  next = next_start source;
  placed = placed_none p labels begins none;
  found_are = empty;
}

pub early_step : (source rest line after : List ℕ) (number : ℕ) (p q : Position) (old new : Labels) (found more : List AsmFault) (code : Option AsmCode)
    → length source ≤ SOURCE_LIMIT → lines_of rest ≡ line ∷ lines_of after → length after < length rest
    → ((earlier : List (List ℕ)) → IsPlaced earlier p old → code_of_said earlier (line_of line) ≡ code)
    → ((earlier : List (List ℕ)) → IsPlaced earlier p old → IsPlaced (with_line code line earlier) q new)
    → more ≡ found ++ fault_at number code
    → FindingEarly source rest number p old found → FindingEarly source after (number + 1) q new more
early_step source rest line after number p q old new found more code fits cut shorter has moves adds before =
    let lines : List (List ℕ) = sound (early_code (length source)) before.earlier in
    let is : early_code (length source) lines line ≡ code = early_is (length source) lines line code fits (has lines before.placed) in
    let number_is : number ≡ length before.earlier + 1 = before.next.number_is in
    record {
      earlier = line ∷ before.earlier;
      next = next_step source rest line after number before.earlier cut shorter before.next;
      placed = subst (λ (all : List (List ℕ)). IsPlaced all q new)
          (sym (sound_next (early_code (length source)) line before.earlier ∙ ap (λ (c : Option AsmCode). with_line c line lines) is))
          (moves lines before.placed);
      found_are = adds
          ∙ ap (λ (faults : List AsmFault). faults ++ fault_at number code) before.found_are
          ∙ ap (λ (n : ℕ). faults_behind (early_code (length source)) before.earlier ++ fault_at n code) number_is
          ∙ ap (λ (c : Option AsmCode). faults_behind (early_code (length source)) before.earlier ++ fault_at (length before.earlier + 1) c) (sym is)
          ∙ sym (behind_next (early_code (length source)) line before.earlier);
    }

pub early_end : (source rest : List ℕ) (number most : ℕ) (p : Position) (labels : Labels) (found : List AsmFault) → length found ≤ most → rest ≡ []
    → FindingEarly source rest number p labels found → AreFirst most (early_faults source) found
early_end source rest number most p labels found few empty before =
    let all : before.earlier ≡ lines_back source = next_end source rest number before.earlier empty before.next in
    record {
      rest = [];
      whole = ap (faults_behind (early_code (length source))) (sym all) ∙ sym before.found_are ∙ sym (append-nil found);
      as_many = inl refl;
      few = few;
    }

-- one code more is one fault more at most
pub still_few : (found : List AsmFault) (number most : ℕ) (code : Option AsmCode) → length found ≤ most → ¬ (length found ≡ most)
    → length (found ++ fault_at number code) ≤ most
still_few found number most None few less = rw (append-nil found) few
still_few found number most (Some code) few less = rw (length-append found (record { line = number; code = code } ∷ [])) (omega (arith, few, less))

-- further lines have further faults
pub record Grows (all found : List AsmFault) : Type 0 where
  pub rest : List AsmFault
  pub whole : all ≡ found ++ rest

grown : (all found more other : List AsmFault) → all ≡ found ++ (more ++ other) → Grows all found
grown all found more other is = record { rest = more ++ other; whole = is }

behind_grows : (code_of : Codes) (later earlier : List (List ℕ)) → Grows (faults_behind code_of (reverse_aux later earlier)) (faults_behind code_of earlier)
behind_grows code_of [] earlier = record { rest = []; whole = sym (append-nil (faults_behind code_of earlier)) }
behind_grows code_of (line ∷ later) earlier =
    let further = behind_grows code_of later (line ∷ earlier) in
    let one : List AsmFault = fault_at (length earlier + 1) (code_of (sound code_of earlier) line) in
    grown (faults_behind code_of (reverse_aux later (line ∷ earlier))) (faults_behind code_of earlier) one further.rest
    (further.whole ∙ ap (λ (faults : List AsmFault). faults ++ further.rest) (behind_next code_of line earlier)
    ∙ append_assoc (faults_behind code_of earlier) one further.rest)

among_grows : (code_of : Codes) (later earlier : List (List ℕ)) → Grows (faults_among code_of (reverse_aux later earlier)) (faults_among code_of earlier)
among_grows code_of [] earlier = record { rest = []; whole = sym (append-nil (faults_among code_of earlier)) }
among_grows code_of (line ∷ later) earlier =
    let further = among_grows code_of later (line ∷ earlier) in
    let one : List AsmFault = fault_at (length earlier + 1) (code_of earlier line) in
    grown (faults_among code_of (reverse_aux later (line ∷ earlier))) (faults_among code_of earlier) one further.rest
    (further.whole ∙ ap (λ (faults : List AsmFault). faults ++ further.rest) (among_next code_of line earlier)
    ∙ append_assoc (faults_among code_of earlier) one further.rest)

pub early_full : (source rest : List ℕ) (number most : ℕ) (p : Position) (labels : Labels) (found : List AsmFault) → length found ≡ most
    → FindingEarly source rest number p labels found → AreFirst most (early_faults source) found
early_full source rest number most p labels found full before =
    let grows = behind_grows (early_code (length source)) (lines_of rest) before.earlier in
    record {
      rest = grows.rest;
      whole = ap (faults_behind (early_code (length source))) (sym before.next.split) ∙ grows.whole
          ∙ ap (λ (faults : List AsmFault). faults ++ grows.rest) (sym before.found_are);
      as_many = inr full;
      few = omega (arith, full);
    }

-- the late pass
pub late_start : (source : List ℕ) (p : Position) (found : List AsmFault) → p ≡ start → found ≡ [] → FindingLate source source 1 p found
unfolding faults_among
late_start source p found begins empty = record {
  earlier = [];
  next = next_start source;
  placed = subst (IsAfter []) (sym begins) after_none;
  found_are = empty;
}

pub late_step : (source rest line after : List ℕ) (number : ℕ) (p q : Position) (found more : List AsmFault) (code : Option AsmCode)
    → lines_of rest ≡ line ∷ lines_of after → length after < length rest
    → ((earlier : List (List ℕ)) → IsAfter earlier p → late_code (values_of source) earlier line ≡ code)
    → ((earlier : List (List ℕ)) → IsAfter earlier p → IsAfter (line ∷ earlier) q)
    → more ≡ found ++ fault_at number code
    → FindingLate source rest number p found → FindingLate source after (number + 1) q more
late_step source rest line after number p q found more code cut shorter has moves adds before =
    let is : late_code (values_of source) before.earlier line ≡ code = has before.earlier before.placed in
    record {
      earlier = line ∷ before.earlier;
      next = next_step source rest line after number before.earlier cut shorter before.next;
      placed = moves before.earlier before.placed;
      found_are = adds
          ∙ ap (λ (faults : List AsmFault). faults ++ fault_at number code) before.found_are
          ∙ ap (λ (n : ℕ). faults_among (late_code (values_of source)) before.earlier ++ fault_at n code) before.next.number_is
          ∙ ap (λ (c : Option AsmCode). faults_among (late_code (values_of source)) before.earlier ++ fault_at (length before.earlier + 1) c) (sym is)
          ∙ sym (among_next (late_code (values_of source)) line before.earlier);
    }

pub late_end : (source rest : List ℕ) (number most : ℕ) (p : Position) (found : List AsmFault) → length found ≤ most → rest ≡ []
    → FindingLate source rest number p found → AreFirst most (late_faults source) found
late_end source rest number most p found few empty before =
    let all : before.earlier ≡ lines_back source = next_end source rest number before.earlier empty before.next in
    record {
      rest = [];
      whole = ap (faults_among (late_code (values_of source))) (sym all) ∙ sym before.found_are ∙ sym (append-nil found);
      as_many = inl refl;
      few = few;
    }

pub late_full : (source rest : List ℕ) (number most : ℕ) (p : Position) (found : List AsmFault) → length found ≡ most
    → FindingLate source rest number p found → AreFirst most (late_faults source) found
late_full source rest number most p found full before =
    let grows = among_grows (late_code (values_of source)) (lines_of rest) before.earlier in
    record {
      rest = grows.rest;
      whole = ap (faults_among (late_code (values_of source))) (sym before.next.split) ∙ grows.whole
          ∙ ap (λ (faults : List AsmFault). faults ++ grows.rest) (sym before.found_are);
      as_many = inr full;
      few = omega (arith, full);
    }

-- where there are early faults they are all
pub early_are_all : (source : List ℕ) (most : ℕ) (found : List AsmFault) → AreFirst most (early_faults source) found → (length found ≡ 0 → ⊥)
    → AreFirst most (faults_of source) found
early_are_all source most [] first some = absurd (some refl)
early_are_all source most (fault ∷ faults) first some = record {
  rest = first.rest;
  whole = ap (λ (all : List AsmFault). or_else all (late_faults source)) first.whole;
  as_many = first.as_many;
  few = first.few;
}

pub some_found : (n : ℕ) (b : Bool) (found : List AsmFault) → b ≡ nat_eq n 0 → b ≡ false → n ≡ length found → length found ≡ 0 → ⊥
some_found zero b found is false_is long none = cc
some_found (suc n) b found is false_is long none = omega (arith, long, none)
