-- A text has one first fault at most.
use Rattle.std.proofs.Common.{◌≡◌, ℕ, ◌+◌, ◌⊎◌, List, [], ◌∷◌, ◌++◌, length, refl, sym, ap, ◌∙◌, subst, arith, inl, inr, append-nil}
use Rattle.trace_file.proofs.OneReading.{entry_ends, fault_at_entry, last_ends, last_unique, middle_allowed, not_both, one_entry, together, worded}
use Rattle.trace_file.specs.Entries.{Entry, entry_line, last_line, lines_from}
use Rattle.trace_file.specs.Files.{AreAllowed, EndsEarly, FitsItsLine, GoesOn, HasEntry, HasLine, HasNoSuchLine, IsFaultAt, IsFirstFault, IsMisnumbered}
use Rattle.trace_file.specs.declared.fault.TraceFileCode.{TraceFileCode}
use Rattle.trace_file.specs.declared.fault.TraceFileCode.TheVariants as code

-- a misnumbered line is neither the next entry's nor the last one of so many
not_next : (count : ℕ) (text : List ℕ) (entry : Entry) → IsMisnumbered count text → HasEntry text (count + 1) entry → ⊥
not_next count text entry (inl other) has = other.3 (one_entry text other.0 (count + 1) other.1 entry other.2 has).number
not_next count text entry (inr other) has = not_both text (count + 1) other.0 entry has other.1

not_the_last : (count : ℕ) (text more : List ℕ) → IsMisnumbered count text → text ≡ last_line count more → ⊥
not_the_last count text more (inl other) e = not_both text other.0 count other.1 other.2 (record { rest = more; line = e })
not_the_last count text more (inr other) e = other.2 (last_unique other.0 count other.1.rest more (sym other.1.line ∙ e)).0

misnumbered_ends : (count : ℕ) (text : List ℕ) → IsMisnumbered count text → HasLine text
misnumbered_ends count text (inl other) = entry_ends text other.0 other.1 other.2
misnumbered_ends count text (inr other) = last_ends text other.0 other.1

no_such_misnumbered : (count : ℕ) (text : List ℕ) → HasNoSuchLine text → IsMisnumbered count text → ⊥
no_such_misnumbered count text junk (inl other) = junk.no_entry other.0 other.1 other.2
no_such_misnumbered count text junk (inr other) = junk.no_last other.0 other.1

-- an ending that is none, beside another fault
abbrev EndsWrong : List Entry → List ℕ → ℕ → Type 0
EndsWrong xs text n = EndsEarly xs text n ⊎ GoesOn xs text n

no_such_end : (xs : List Entry) (text : List ℕ) (n : ℕ) → HasNoSuchLine text → EndsWrong xs text n → ⊥
no_such_end xs text n junk (inl early) = early.unended junk.ends
no_such_end xs text n junk (inr on) = junk.no_last (length xs) (record { rest = on.more; line = on.whole })

misnumbered_end : (xs : List Entry) (text : List ℕ) (n : ℕ) → IsMisnumbered (length xs) text → EndsWrong xs text n → ⊥
misnumbered_end xs text n other (inl early) = early.unended (misnumbered_ends (length xs) text other)
misnumbered_end xs text n other (inr on) = not_the_last (length xs) text on.more other on.whole

entry_end : (xs : List Entry) (text : List ℕ) (n : ℕ) (entry : Entry) → HasEntry text (length xs + 1) entry → EndsWrong xs text n → ⊥
entry_end xs text n entry has (inl early) = early.unended (entry_ends text (length xs + 1) entry has)
entry_end xs text n entry has (inr on) = not_both text (length xs + 1) (length xs) entry has (record { rest = on.more; line = on.whole })

one_end : (xs : List Entry) (text : List ℕ) (m n : ℕ) → EndsWrong xs text m → EndsWrong xs text n → m ≡ n
one_end xs text m n (inl early) (inl other) = early.place ∙ sym other.place
one_end xs text m n (inl early) (inr on) = absurd (early.unended (last_ends text (length xs) (record { rest = on.more; line = on.whole })))
one_end xs text m n (inr on) (inl early) = absurd (early.unended (last_ends text (length xs) (record { rest = on.more; line = on.whole })))
one_end xs text m n (inr on) (inr other) = on.place ∙ sym other.place

bad_or_fit : (xs : List Entry) (text : List ℕ) (a b : Entry) → HasEntry text (length xs + 1) a → HasEntry text (length xs + 1) b → ¬ FitsItsLine a.event → FitsItsLine b.event → ⊥
bad_or_fit xs text a b first second bad fits =
    bad (subst (λ (e : Entry). FitsItsLine e.event) (sym (one_entry text (length xs + 1) (length xs + 1) a b first second).entry) fits)

-- behind the same entries
abbrev AreSame : TraceFileCode → TraceFileCode → ℕ → ℕ → Type 0
AreSame c d m n = (m ≡ n) × (c ≡ d)

one_code : (c d : TraceFileCode) (xs : List Entry) (text : List ℕ) (m n : ℕ) → IsFaultAt c xs text m → IsFaultAt d xs text n → AreSame c d m n
one_code code.Form code.Form xs text m n a b = (a.0 ∙ sym b.0, refl)
one_code code.Form code.Number xs text m n a b = absurd (no_such_misnumbered (length xs) text a.1 b.1)
one_code code.Form code.Store xs text m n a b = absurd (a.1.no_entry (length xs + 1) b.1.entry b.1.line)
one_code code.Form code.Limit xs text m n a b = absurd (a.1.no_entry (length xs + 1) b.1.entry b.1.line)
one_code code.Form code.End xs text m n a b = absurd (no_such_end xs text n a.1 b)
one_code code.Form code.Memory xs text m n a b = absurd b
one_code code.Number code.Form xs text m n a b = absurd (no_such_misnumbered (length xs) text b.1 a.1)
one_code code.Number code.Number xs text m n a b = (a.0 ∙ sym b.0, refl)
one_code code.Number code.Store xs text m n a b = absurd (not_next (length xs) text b.1.entry a.1 b.1.line)
one_code code.Number code.Limit xs text m n a b = absurd (not_next (length xs) text b.1.entry a.1 b.1.line)
one_code code.Number code.End xs text m n a b = absurd (misnumbered_end xs text n a.1 b)
one_code code.Number code.Memory xs text m n a b = absurd b
one_code code.Store code.Form xs text m n a b = absurd (b.1.no_entry (length xs + 1) a.1.entry a.1.line)
one_code code.Store code.Number xs text m n a b = absurd (not_next (length xs) text a.1.entry b.1 a.1.line)
one_code code.Store code.Store xs text m n a b = (a.0 ∙ sym b.0, refl)
one_code code.Store code.Limit xs text m n a b = absurd (bad_or_fit xs text a.1.entry b.1.entry a.1.line b.1.line a.1.bad b.1.fits)
one_code code.Store code.End xs text m n a b = absurd (entry_end xs text n a.1.entry a.1.line b)
one_code code.Store code.Memory xs text m n a b = absurd b
one_code code.Limit code.Form xs text m n a b = absurd (b.1.no_entry (length xs + 1) a.1.entry a.1.line)
one_code code.Limit code.Number xs text m n a b = absurd (not_next (length xs) text a.1.entry b.1 a.1.line)
one_code code.Limit code.Store xs text m n a b = absurd (bad_or_fit xs text b.1.entry a.1.entry b.1.line a.1.line b.1.bad a.1.fits)
one_code code.Limit code.Limit xs text m n a b = (a.0 ∙ sym b.0, refl)
one_code code.Limit code.End xs text m n a b = absurd (entry_end xs text n a.1.entry a.1.line b)
one_code code.Limit code.Memory xs text m n a b = absurd b
one_code code.End code.Form xs text m n a b = absurd (no_such_end xs text m b.1 a)
one_code code.End code.Number xs text m n a b = absurd (misnumbered_end xs text m b.1 a)
one_code code.End code.Store xs text m n a b = absurd (entry_end xs text m b.1.entry b.1.line a)
one_code code.End code.Limit xs text m n a b = absurd (entry_end xs text m b.1.entry b.1.line a)
one_code code.End code.End xs text m n a b = (one_end xs text m n a b, refl)
one_code code.End code.Memory xs text m n a b = absurd b
one_code code.Memory d xs text m n a b = absurd a

-- where one reading goes on, its next line is no fault of the other
same_reading : (c d : TraceFileCode) (xs ys more : List Entry) (r s : List ℕ) (m n : ℕ) → ys ≡ xs ++ more → r ≡ lines_from (1 + length xs) more s → AreAllowed ys
    → IsFaultAt c xs r m → IsFaultAt d ys s n → AreSame c d m n
same_reading c d xs ys [] r s m n all e allowed a b =
    let here : IsFaultAt d xs s n = subst (λ (es : List Entry). IsFaultAt d es s n) (all ∙ append-nil xs) b in
    one_code c d xs r m n a (subst (λ (t : List ℕ). IsFaultAt d xs t n) (sym e) here)
same_reading c d xs ys (x ∷ es) r s m n all e allowed a b =
    let both : AreAllowed (xs ++ x ∷ es) = subst AreAllowed all allowed in
    let tail : List ℕ = lines_from (1 + length xs + 1) es s in
    let place : 1 + length xs ≡ length xs + 1 = omega arith in
    let has : HasEntry r (length xs + 1) x =
    record { rest = tail; places = (middle_allowed xs x es both).places; line = e ∙ ap (λ (k : ℕ). entry_line k x tail) place } in
    absurd (fault_at_entry c xs x es r m both has a)

swapped : (c d : TraceFileCode) (m n : ℕ) → AreSame d c n m → AreSame c d m n
swapped c d m n same = (sym same.0, sym same.1)

pub one_fault : (text : List ℕ) (m n : ℕ) (c d : TraceFileCode) → IsFirstFault text m c → IsFirstFault text n d → (m ≡ n) × (c ≡ d)
one_fault text m n c d a b =
    elim (together 1 a.before b.before a.rest b.rest (worded a.before a.begins.allowed) (worded b.before b.begins.allowed) (sym a.begins.whole ∙ b.begins.whole)) [
      | inl on ↦ same_reading c d a.before b.before on.more a.rest b.rest m n on.all on.rest b.begins.allowed a.fault b.fault
      | inr on ↦ swapped c d m n (same_reading d c b.before a.before on.more b.rest a.rest n m on.all on.rest a.begins.allowed b.fault a.fault)
    ]
