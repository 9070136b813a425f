-- What a journal's records restore, the newest first.
use Rattle.std.proofs.Common.{◌≡◌, ℕ, zero, suc, ◌+◌, ◌-◌, ◌<◌, ◌≤◌, Bool, true, false, eqb, List, [], ◌∷◌, ◌++◌, length, get_or, drop, set, replicate, refl, sym, ap, ◌∙◌, arith, inl, inr, Option, Some, None}
use Rattle.std.proofs.lemmas.Bool.{cases_eq, eq-eqb, ne_eqb}
use Rattle.std.proofs.lemmas.List.{get_or-replicate, get_or-set_same, get_or-set_other}
use Rattle.std.proofs.Math.Seq.{drop-cons}
use Rattle.std.specs.Option.{option_map, option_or}
use Rattle.std.specs.List.{find, flat_map, range_with_len}
use Rattle.nova_log.specs.Journals.{HasRestored, journal_fault, journal_line, journal_questions, oldest_tail, pending, pending_in, record_questions, restored_tail}
use Rattle.line_memory.specs.Lines.{line_at}
use Rattle.word_bits.specs.Bytes.{loaded}
use Rattle.nova_log.specs.Questions.{IsStopped, IsThrough, question}
use Rattle.nova_log.proofs.Questions.{stopped_second, through_both, through_one}
use Rattle.nova_log.specs.declared.fault.VolumeFault.{VolumeFault}
use Rattle.nova_log.specs.declared.journal.Record.{Record}

-- one more record, older than the others
pub one_restored : (records : List Record) (k : ℕ) (d : Record) (now : List (Option ℕ)) (before : Option ℕ) (n : ℕ) → k < length records → n < length now →
    get_or now n None ≡ option_or (oldest_tail n (drop (k + 1) records)) before →
    get_or (set now (get_or records k d).inode (Some (get_or records k d).old_tail)) n None ≡ option_or (oldest_tail n (drop k records)) before
one_restored records k d now before n less room h =
    let r = get_or records k d in
    let parts : drop k records ≡ r ∷ drop (k + 1) records = drop_at records k d less in
    elim (cases_eq r.inode n) [
      | inl same ↦
          rw (parts, eq-eqb r.inode n same, same) (get_or-set_same now n (Some r.old_tail) None room)
      | inr other ↦
          rw (parts, ne_eqb r.inode n other) (get_or-set_other now r.inode n (Some r.old_tail) None (λ e. other (sym e)) ∙ h)
    ]
  where
    drop_at : (records : List Record) (k : ℕ) (d : Record) → k < length records → drop k records ≡ get_or records k d ∷ drop (k + 1) records
    drop_at records k d less = let e : k + 1 ≡ suc k = omega arith in rw e (drop-cons records k d less)

pub none_restored : (lines : List (List ℕ)) → HasRestored lines (replicate 64 None) 0
unfolding restored_tail
none_restored lines = record { each_inode = λ n h. get_or-replicate 64 n None None h }

pub journal_restored : (lines : List (List ℕ)) (old new : List (Option ℕ)) (records : List Record) (j : ℕ) → HasRestored lines old j →
    records ≡ pending lines j →
    ((n : ℕ) → n < 64 → get_or new n None ≡ option_or (oldest_tail n records) (get_or old n None)) → HasRestored lines new (j + 1)
unfolding restored_tail
journal_restored lines old new records j h same step =
    let e : j + 1 ≡ suc j = omega arith in
    rw e (record { each_inode = λ n less. step n less ∙ rw (same, h.each_inode n less) refl })

-- a journal's line, and then its records
pub journal_through : (inodes j head tail : ℕ) (m n : List (List ℕ)) (line a b c : List ℕ) → n ≡ m → line ≡ line_at m (journal_line j) →
    journal_fault line ≡ None → head ≡ loaded line 0 8 → tail ≡ loaded line 8 8 → b ≡ a ++ journal_line j ∷ [] →
    IsThrough (flat_map (record_questions inodes n j) (range_with_len head (tail - head))) b c → IsThrough (journal_questions inodes m j) a c
journal_through inodes j head tail m n line a b c same value clean h t asked k =
    let records : IsThrough (flat_map (record_questions inodes m j) (pending_in (line_at m (journal_line j)))) b c = rw (same, h, t, value) at k in
    let fault : journal_fault (line_at m (journal_line j)) ≡ None = rw value at clean in
    through_both (question (journal_line j) (journal_fault (line_at m (journal_line j))) ∷ [])
    (flat_map (record_questions inodes m j) (pending_in (line_at m (journal_line j)))) a b c
    (through_one (journal_line j) (journal_fault (line_at m (journal_line j))) a b fault asked) records

pub journal_stopped : (inodes j head tail : ℕ) (m n : List (List ℕ)) (line : List ℕ) (fault : VolumeFault) (a b c : List ℕ) → n ≡ m → line ≡ line_at m (journal_line j) →
    journal_fault line ≡ None → head ≡ loaded line 0 8 → tail ≡ loaded line 8 8 → b ≡ a ++ journal_line j ∷ [] →
    IsStopped (flat_map (record_questions inodes n j) (range_with_len head (tail - head))) fault b c → IsStopped (journal_questions inodes m j) fault a c
journal_stopped inodes j head tail m n line fault a b c same value clean h t asked k =
    let records : IsStopped (flat_map (record_questions inodes m j) (pending_in (line_at m (journal_line j)))) fault b c = rw (same, h, t, value) at k in
    let none : journal_fault (line_at m (journal_line j)) ≡ None = rw value at clean in
    stopped_second (question (journal_line j) (journal_fault (line_at m (journal_line j))) ∷ [])
    (flat_map (record_questions inodes m j) (pending_in (line_at m (journal_line j)))) fault a b c
    (through_one (journal_line j) (journal_fault (line_at m (journal_line j))) a b none asked) records
