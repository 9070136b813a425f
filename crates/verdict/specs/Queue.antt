-- The queue of the branches that are to be opened. An entry stands for a cut: that of its parent, which stands before it in the
-- queue, with one line raised. The first entry raises none.
use Rattle.std.specs.Prelude.{ℕ, zero, suc, ◌+◌, ◌-◌, ◌<◌, ◌==◌, ◌&&◌, if◌then◌else◌, bit_or, Bool, List, [], ◌∷◌, ◌++◌, length, slice_index_or}
use Rattle.verdict.specs.Branches.{all_alike, is_first, question}
use Rattle.verdict.specs.declared.branches.question.Question.{Question}
use Rattle.verdict.specs.declared.branches.queue.Entry.{Entry}

abbrev pub entry : ℕ → ℕ → ℕ → ℕ → Entry
entry parent decided line number = record { parent = parent; decided = decided; line = line; number = number }

abbrev pub entry_at : List Entry → ℕ → Entry
entry_at entries i = slice_index_or entries i (entry 0 0 0 0)

-- the numbers, with another one for line l
abbrev pub with_number : (ℕ → ℕ) → ℕ → ℕ → ℕ → ℕ
with_number c l n m = if m == l then n else c m

-- the cut of entry i, whose way to the first entry has at most so many steps
abbrev pub cut_within : (ℕ → ℕ) → List Entry → ℕ → ℕ → ℕ → ℕ
cut_within low entries zero i = low
cut_within low entries (suc steps) i = if i == 0 then low
    else with_number (cut_within low entries steps (entry_at entries i).parent) (entry_at entries i).line (entry_at entries i).number

abbrev pub cut_at : (ℕ → ℕ) → List Entry → ℕ → ℕ → ℕ
cut_at low entries i = cut_within low entries i i

-- each entry but the first raises one of so many lines, and stands behind its parent
pub record IsTree (lines : ℕ) (entries : List Entry) : Type 0 where
  pub behind : (i : ℕ) → 0 < i → i < length entries → (entry_at entries i).parent < i
  pub below : (i : ℕ) → 0 < i → i < length entries → (entry_at entries i).line < lines

-- each raises its line above its floor
abbrev pub AreRaised : (ℕ → ℕ) → List Entry → Type 0
AreRaised low entries = (i : ℕ) → 0 < i → i < length entries → low (entry_at entries i).line < (entry_at entries i).number

-- Whether a number of a line is new where a question is asked of a cut behind those seen: in all that they ask the line is as the cut has
-- it, and with this question no lower number from the floor on is as this one.
abbrev pub is_new : (Question → ℕ → ℕ → Bool) → (ℕ → ℕ) → (ℕ → ℕ) → List Question → Question → ℕ → Bool
is_new alike low c seen q n = all_alike alike q.line seen n (c q.line) && is_first (all_alike alike q.line (seen ++ q ∷ [])) (low q.line) n

-- the same, by the bytes of the line that were asked before, and its own number in the cut
abbrev pub is_new_behind : (Question → ℕ → ℕ → Bool) → (ℕ → ℕ) → Question → ℕ → ℕ → ℕ → Bool
is_new_behind alike low q before own n =
    alike (question q.line before) n own && is_first (alike (question q.line (bit_or before q.bytes))) (low q.line) n

-- the entries with a line at the new ones of so many numbers from n upwards
abbrev pub siblings : (ℕ → Bool) → ℕ → ℕ → ℕ → ℕ → ℕ → List Entry
siblings new parent decided l n zero = []
siblings new parent decided l n (suc more) =
    if new n then entry parent decided l n ∷ siblings new parent decided l (n + 1) more else siblings new parent decided l (n + 1) more

-- What branches off a cut where the rest is asked after the questions seen: the line of each question, at each new number above its own.
-- Decided are then the questions up to it.
abbrev pub branching : ℕ → (Question → ℕ → ℕ → Bool) → (ℕ → ℕ) → (ℕ → ℕ) → (ℕ → ℕ) → List Question → List Question → List Entry
branching parent alike low high c seen [] = []
branching parent alike low high c seen (q ∷ qs) =
    siblings (is_new alike low c seen q) parent (length seen + 1) q.line (c q.line + 1) (high q.line - c q.line)
    ++ branching parent alike low high c (seen ++ q ∷ []) qs
