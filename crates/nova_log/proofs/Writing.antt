-- The lines that the code makes are those of the definition.
use Rattle.std.proofs.Common.{◌≡◌, ℕ, ◌+◌, ◌-◌, ◌*◌, ◌/◌, ◌%◌, ◌<◌, ◌≤◌, List, [], None, Some, length, take, drop, replicate, slice_get, slice_set, refl, sym, ◌∙◌, arith, inl, inr}
use Rattle.std.proofs.lemmas.Bool.{cases_eq, le-ltb, lt-ltb, ne_eqb}
use Rattle.std.proofs.lemmas.List.{get_or-set_other, get_or-set_same, length-set}
use Rattle.std.proofs.lemmas.Option.{slice_get_past, slice_get_read}
use Rattle.std.specs.Borrow.{Bor}
use Rattle.std.specs.Slice.{IsItemAt}
use Rattle.line_memory.specs.Lines.{line_at}
use Rattle.word_bits.specs.Bytes.{stored}
use Rattle.nova_log.specs.Fresh.{inode_line}
use Rattle.nova_log.specs.Layouts.{page_at}
use Rattle.nova_log.specs.Logs.{log_of}
use Rattle.nova_log.specs.declared.volume.entry.Entry.{Entry}
use Rattle.nova_log.specs.Parts.{page_of, parts_of}
use Rattle.nova_log.specs.Written.{body_line, entry_bytes, last_part, part_line}
use Rattle.nova_log.specs.declared.log_upgrade.parts.Part.{Part}
use Rattle.nova_log.proofs.WrittenLines.{body_page}

-- an inode
pub inode_written : (head tail : ℕ) → stored (stored (replicate 64 0) 0 8 head) 8 8 tail ≡ inode_line head tail
inode_written head tail = refl

-- the link line of a part
pub link_written : (logs : List (List Entry)) (parts : List Part) (p : Part) (next : ℕ) → parts ≡ parts_of logs → p.index < last_part logs p.inode →
    next ≡ page_at (page_of parts p.inode (p.index + 1)) → stored (replicate 64 0) 0 8 next ≡ part_line logs p 62
unfolding part_line
link_written logs parts p next same before e = rw (lt-ltb p.index (last_part logs p.inode) before, e, same) refl

pub no_link : (logs : List (List Entry)) (p : Part) → last_part logs p.inode ≤ p.index → replicate 64 0 ≡ part_line logs p 62
unfolding part_line
no_link logs p after = rw (le-ltb p.index (last_part logs p.inode) after) refl

-- the other lines of its page
pub entry_there : (logs : List (List Entry)) (p : Part) (line : ℕ) (e : Entry) → line < 62 → slice_get (log_of logs p.inode) (31 * p.index + line / 2) ≡ Some e →
    take 64 (drop (64 * (line % 2)) (entry_bytes e)) ≡ part_line logs p line
unfolding part_line
entry_there logs p line e few got = rw (lt-ltb line 62 few, got) refl

pub no_entry : (logs : List (List Entry)) (p : Part) (line : ℕ) → line < 62 → slice_get (log_of logs p.inode) (31 * p.index + line / 2) ≡ None →
    replicate 64 0 ≡ part_line logs p line
unfolding part_line
no_entry logs p line few got = rw (lt-ltb line 62 few, got) refl

pub line_after : (logs : List (List Entry)) (p : Part) (line : ℕ) → 62 < line → replicate 64 0 ≡ part_line logs p line
unfolding part_line
line_after logs p line past = rw (le-ltb line 62 (omega arith), ne_eqb line 62 (λ e. absurd (omega arith))) refl

-- a line of a page
pub page_there : (logs : List (List Entry)) (n : ℕ) (p : Part) → length logs ≤ 64 → 256 ≤ n → slice_get (parts_of logs) ((n - 256) / 64) ≡ Some p →
    part_line logs p ((n - 256) % 64) ≡ body_line logs n
page_there logs n p few high got =
    let page = (n - 256) / 64 in
    let line = (n - 256) % 64 in
    let e : n ≡ 256 + 64 * page + line = omega arith in
    sym (body_page logs n page line few e (omega arith) ∙ rw got refl)

pub no_page : (logs : List (List Entry)) (n : ℕ) → length logs ≤ 64 → 256 ≤ n → slice_get (parts_of logs) ((n - 256) / 64) ≡ None → replicate 64 0 ≡ body_line logs n
no_page logs n few high got =
    let page = (n - 256) / 64 in
    let line = (n - 256) % 64 in
    let e : n ≡ 256 + 64 * page + line = omega arith in
    sym (body_page logs n page line few e (omega arith) ∙ rw got refl)

-- one line more
pub record HasBody (logs : List (List Entry)) (old new : List (List ℕ)) (end : ℕ) : Type 0 where
  pub size : length new ≡ length old
  pub first : line_at new 0 ≡ line_at old 0
  pub body : (k : ℕ) → 0 < k → k < end → line_at new k ≡ body_line logs k

pub line_more : (logs : List (List Entry)) (old now new : List (List ℕ)) (n : ℕ) (line : List ℕ) → HasBody logs old now n → 0 < n → n < length now →
    line ≡ body_line logs n → new ≡ slice_set now n line → HasBody logs old new (n + 1)
line_more logs old now new n line h behind within is written = record {
  size = rw written (length-set now n line) ∙ h.size;
  first = rw written (get_or-set_other now n 0 line [] (λ e. absurd (omega arith))) ∙ h.first;
  body = λ k some before. elim (cases_eq k n) [
    | inl here ↦ rw (written, here) (get_or-set_same now n line [] within ∙ is)
    | inr other ↦ rw written (get_or-set_other now n k line [] other ∙ h.body k some (omega arith))
  ];
}

-- what a read of a slice gives
pub item_there : {X : Type 0} (xs : List X) (i : ℕ) (r : Bor X) → IsItemAt xs i (Some r) → slice_get xs i ≡ Some r.now
item_there xs i r h = slice_get_read xs (length xs) i r.now refl h.3.0 h.1

pub no_item : {X : Type 0} (xs : List X) (i : ℕ) → IsItemAt {X = X} xs i None → slice_get xs i ≡ None
no_item xs i h = slice_get_past xs i h.3
