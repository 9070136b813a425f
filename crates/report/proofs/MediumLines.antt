-- What one more item adds to the text of a loop.
use Rattle.std.proofs.Common.{◌≡◌, ◌∙◌, ℕ, ◌+◌, ◌<◌, ◌≤◌, List, [], ◌∷◌, ◌++◌, length, get_or, take, ap, sym, arith, slice_index_or}
use Rattle.std.specs.List.{enumerate_from, flat_map, range_with_len}
use Rattle.std.proofs.lemmas.Grind.{flat_map-append}
use Rattle.std.proofs.lemmas.List.{append-nil, append_assoc, take_all, take_more}
use Rattle.std.proofs.lemmas.List.FromFn.{get_or-enumerate_from, get_or-range_with_len, length-enumerate_from}
use Rattle.nova_log.specs.declared.volume.entry.Entry.{Entry}
use Rattle.report.specs.Rows.{line_text, row_of}
use Rattle.report.specs.Volumes.{inode_text, inodes_text, numbered_inode}

-- a text, and the lines of the first items after it
abbrev pub lines_below : {X : Type 0} → List ℕ → (X → List ℕ) → List X → ℕ → List ℕ
lines_below before line items i = before ++ flat_map line (take i items)

pub lines_more : {X : Type 0} (before : List ℕ) (line : X → List ℕ) (items : List X) (i : ℕ) (d : X) → i < length items
    → lines_below before line items (i + 1) ≡ lines_below before line items i ++ line (get_or items i d)
lines_more before line items i d below =
    ap (λ (l : List _). before ++ flat_map line l) (take_more items i d below)
    ∙ ap (λ (l : List ℕ). before ++ l) (flat_map-append line (take i items) (get_or items i d ∷ []))
    ∙ ap (λ (l : List ℕ). before ++ (flat_map line (take i items) ++ l)) (append-nil (line (get_or items i d)))
    ∙ sym (append_assoc before (flat_map line (take i items)) (line (get_or items i d)))

pub lines_all : {X : Type 0} (before : List ℕ) (line : X → List ℕ) (items : List X) (i : ℕ) → length items ≤ i
    → lines_below before line items i ≡ before ++ flat_map line items
lines_all before line items i h = ap (λ (l : List _). before ++ flat_map line l) (take_all i items h)

from_zero : (i : ℕ) → 0 + i ≡ i
from_zero i = omega arith

-- the log of an inode, with its number
pub inodes_more : (before : List ℕ) (logs : List (List Entry)) (i : ℕ) → i < length logs
    → lines_below before numbered_inode (enumerate_from 0 logs) (i + 1)
    ≡ lines_below before numbered_inode (enumerate_from 0 logs) i ++ inode_text i (slice_index_or logs i [])
inodes_more before logs i within =
    let all : List (ℕ × List Entry) = enumerate_from 0 logs in
    lines_more before numbered_inode all i (0, []) (omega (arith, length-enumerate_from 0 logs))
    ∙ ap (λ (one : ℕ × List Entry). lines_below before numbered_inode all i ++ numbered_inode one) (get_or-enumerate_from 0 logs i (0, []) within)
    ∙ ap (λ (number : ℕ). lines_below before numbered_inode all i ++ inode_text number (get_or logs i [])) (from_zero i)

pub inodes_all : (before : List ℕ) (logs : List (List Entry)) (i : ℕ) → length logs ≤ i
    → lines_below before numbered_inode (enumerate_from 0 logs) i ≡ before ++ inodes_text logs
inodes_all before logs i past =
    lines_all before numbered_inode (enumerate_from 0 logs) i (omega (arith, past, length-enumerate_from 0 logs))

-- a row of a line
pub rows_more : (line : ℕ) (bytes : List ℕ) (i : ℕ) → i < 4
    → lines_below [] (row_of line bytes) (range_with_len 0 4) (i + 1) ≡ lines_below [] (row_of line bytes) (range_with_len 0 4) i ++ row_of line bytes i
rows_more line bytes i within =
    let rows : List ℕ = range_with_len 0 4 in
    lines_more [] (row_of line bytes) rows i 0 within
    ∙ ap (λ (row : ℕ). lines_below [] (row_of line bytes) rows i ++ row_of line bytes row) (get_or-range_with_len 0 4 i 0 within ∙ from_zero i)

pub rows_all : (line : ℕ) (bytes : List ℕ) (i : ℕ) → 4 ≤ i
    → lines_below [] (row_of line bytes) (range_with_len 0 4) i ≡ line_text line bytes
rows_all line bytes i past = lines_all [] (row_of line bytes) (range_with_len 0 4) i past
