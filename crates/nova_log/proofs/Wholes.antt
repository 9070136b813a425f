-- Recovery from its parts: logs from links and entries, and the whole.
use Rattle.std.proofs.Common.{◌≡◌, ℕ, ◌+◌, ◌<◌, List, [], ◌∷◌, ◌++◌, map, slice_index_or, refl, ap, ◌∙◌, Option, Some, None, Ok, Err}
use Rattle.std.specs.Option.{unwrap_or}
use Rattle.std.specs.List.{flat_map, range_with_len}
use Rattle.line_memory.specs.Lines.{line_at}
use Rattle.word_bits.specs.Bytes.{loaded}
use Rattle.nova_log.specs.Chains.{link_questions}
use Rattle.nova_log.specs.Entries.{entry_questions}
use Rattle.nova_log.specs.Inodes.{inode_at, inode_questions, inodes_of}
use Rattle.nova_log.specs.Journals.{HasRestored, journal_questions}
use Rattle.nova_log.specs.Questions.{IsStopped, IsThrough, Question}
use Rattle.nova_log.specs.Superblocks.{geometry_of, superblock_question}
use Rattle.nova_log.specs.Volumes.{asked_lines, log_in, log_questions, logs_of, positions_of, recovery_questions, unless_fault, volume_of}
use Rattle.nova_log.proofs.Questions.{stopped_first, stopped_second, through_both}
use Rattle.nova_log.specs.declared.fault.VolumeFault.{VolumeFault}
use Rattle.nova_log.specs.declared.inode.Inode.{Inode}
use Rattle.nova_log.specs.declared.superblock.Geometry.{Geometry}
use Rattle.nova_log.specs.declared.volume.entry.Entry.{Entry}

-- an inode with its effective tail
pub inode_made : (m : List (List ℕ)) (journals n tail : ℕ) (own : Inode) (restored : List (Option ℕ)) →
    own ≡ record { head = loaded (line_at m (n + 1)) 0 8; tail = loaded (line_at m (n + 1)) 8 8 } → HasRestored m restored journals → n < 64 →
    tail ≡ unwrap_or (slice_index_or restored n None) own.tail → record { head = own.head; tail = tail } ≡ inode_at m journals n
inode_made m journals n tail own restored e h less t = rw (t, h.each_inode n less, e) refl

-- a log's links, and then its entries
pub log_through : (g : Geometry) (m n : List (List ℕ)) (inode : Inode) (items slice : List ℕ) (a b c : List ℕ) → n ≡ m → slice ≡ items →
    items ≡ positions_of g m inode → IsThrough (link_questions g.shape g.pages m inode.tail g.pages inode.head) a b →
    IsThrough (flat_map (entry_questions g.shape.longest_name n) slice) b c → IsThrough (log_questions g m inode) a c
log_through g m n inode items slice a b c same e f h k =
    through_both (link_questions g.shape g.pages m inode.tail g.pages inode.head) (flat_map (entry_questions g.shape.longest_name m) (positions_of g m inode)) a b c h
    (rw (same, e, f) at k)

pub log_stopped : (g : Geometry) (m n : List (List ℕ)) (inode : Inode) (items slice : List ℕ) (fault : VolumeFault) (a b c : List ℕ) → n ≡ m → slice ≡ items →
    items ≡ positions_of g m inode → IsThrough (link_questions g.shape g.pages m inode.tail g.pages inode.head) a b →
    IsStopped (flat_map (entry_questions g.shape.longest_name n) slice) fault b c → IsStopped (log_questions g m inode) fault a c
log_stopped g m n inode items slice fault a b c same e f h k =
    stopped_second (link_questions g.shape g.pages m inode.tail g.pages inode.head) (flat_map (entry_questions g.shape.longest_name m) (positions_of g m inode)) fault a b c h
    (rw (same, e, f) at k)

pub links_stopped : (g : Geometry) (m : List (List ℕ)) (inode : Inode) (fault : VolumeFault) (a b : List ℕ) →
    IsStopped (link_questions g.shape g.pages m inode.tail g.pages inode.head) fault a b → IsStopped (log_questions g m inode) fault a b
links_stopped g m inode fault a b h =
    stopped_first (link_questions g.shape g.pages m inode.tail g.pages inode.head) (flat_map (entry_questions g.shape.longest_name m) (positions_of g m inode)) fault a b h

-- the four parts
abbrev pub journal_part : Geometry → List (List ℕ) → List Question
journal_part g m = flat_map (journal_questions g.inodes m) (range_with_len 0 g.journals)

abbrev pub inode_part : Geometry → List (List ℕ) → List Question
inode_part g m = flat_map (inode_questions g.pages m) (range_with_len 0 g.inodes)

abbrev pub log_part : Geometry → List (List ℕ) → List Question
log_part g m = flat_map (log_questions g m) (inodes_of m g.journals g.inodes)

pub recovery_through : (m : List (List ℕ)) (g : Geometry) (a b c d e : List ℕ) → g ≡ geometry_of m → IsThrough (superblock_question m ∷ []) a b →
    IsThrough (journal_part g m) b c → IsThrough (inode_part g m) c d → IsThrough (log_part g m) d e → IsThrough (recovery_questions m) a e
recovery_through m g a b c d e same h j i l =
    rw (← same) (through_both (superblock_question m ∷ []) (journal_part g m ++ (inode_part g m ++ log_part g m)) a b e h
    (through_both (journal_part g m) (inode_part g m ++ log_part g m) b c e j (through_both (inode_part g m) (log_part g m) c d e i l)))

pub logs_stopped : (m : List (List ℕ)) (g : Geometry) (f : VolumeFault) (a b c d e : List ℕ) → g ≡ geometry_of m → IsThrough (superblock_question m ∷ []) a b →
    IsThrough (journal_part g m) b c → IsThrough (inode_part g m) c d → IsStopped (log_part g m) f d e → IsStopped (recovery_questions m) f a e
logs_stopped m g f a b c d e same h j i l =
    rw (← same) (stopped_second (superblock_question m ∷ []) (journal_part g m ++ (inode_part g m ++ log_part g m)) f a b e h
    (stopped_second (journal_part g m) (inode_part g m ++ log_part g m) f b c e j (stopped_second (inode_part g m) (log_part g m) f c d e i l)))

pub inodes_stopped : (m : List (List ℕ)) (g : Geometry) (f : VolumeFault) (a b c d : List ℕ) → g ≡ geometry_of m → IsThrough (superblock_question m ∷ []) a b →
    IsThrough (journal_part g m) b c → IsStopped (inode_part g m) f c d → IsStopped (recovery_questions m) f a d
inodes_stopped m g f a b c d same h j i =
    rw (← same) (stopped_second (superblock_question m ∷ []) (journal_part g m ++ (inode_part g m ++ log_part g m)) f a b d h
    (stopped_second (journal_part g m) (inode_part g m ++ log_part g m) f b c d j (stopped_first (inode_part g m) (log_part g m) f c d i)))

pub journals_stopped : (m : List (List ℕ)) (g : Geometry) (f : VolumeFault) (a b c : List ℕ) → g ≡ geometry_of m → IsThrough (superblock_question m ∷ []) a b →
    IsStopped (journal_part g m) f b c → IsStopped (recovery_questions m) f a c
journals_stopped m g f a b c same h j =
    rw (← same) (stopped_second (superblock_question m ∷ []) (journal_part g m ++ (inode_part g m ++ log_part g m)) f a b c h
    (stopped_first (journal_part g m) (inode_part g m ++ log_part g m) f b c j))

-- what the whole finds, and asks
pub through_volume : (m : List (List ℕ)) (a e : List ℕ) → IsThrough (recovery_questions m) a e → volume_of m ≡ Ok (logs_of (geometry_of m) m)
unfolding volume_of
through_volume m a e h = ap (λ (f : Option VolumeFault). unless_fault f (logs_of (geometry_of m) m)) h.clean

pub through_asked : (m : List (List ℕ)) (a e : List ℕ) → IsThrough (recovery_questions m) a e → e ≡ a ++ asked_lines m
unfolding asked_lines
through_asked m a e h = h.asked

pub stopped_volume : (m : List (List ℕ)) (f : VolumeFault) (a e : List ℕ) → IsStopped (recovery_questions m) f a e → volume_of m ≡ Err f
unfolding volume_of
stopped_volume m f a e h = ap (λ (found : Option VolumeFault). unless_fault found (logs_of (geometry_of m) m)) h.first

pub stopped_asked : (m : List (List ℕ)) (f : VolumeFault) (a e : List ℕ) → IsStopped (recovery_questions m) f a e → e ≡ a ++ asked_lines m
unfolding asked_lines
stopped_asked m f a e h = h.asked

-- the same, where each part speaks of the source's medium as it stands before it
pub parts_through : (m0 m1 m2 m3 : List (List ℕ)) (g : Geometry) (inodes slice : List Inode) (a b c d e : List ℕ) → m1 ≡ m0 → m2 ≡ m1 → m3 ≡ m2 → g ≡ geometry_of m0 →
    slice ≡ inodes → inodes ≡ inodes_of m2 g.journals g.inodes → IsThrough (superblock_question m0 ∷ []) a b → IsThrough (journal_part g m1) b c →
    IsThrough (inode_part g m2) c d → IsThrough (flat_map (log_questions g m3) slice) d e → IsThrough (recovery_questions m0) a e
parts_through m0 m1 m2 m3 g inodes slice a b c d e s1 s2 s3 same list items h j i l =
    recovery_through m0 g a b c d e same h (rw s1 at j) (rw (s2, s1) at i) (rw (list, items, s3, s2, s1) at l)

pub parts_logs : (m0 m1 m2 m3 : List (List ℕ)) (g : Geometry) (inodes slice : List Inode) (volume : List (List Entry)) → m1 ≡ m0 → m2 ≡ m1 → m3 ≡ m2 → g ≡ geometry_of m0 →
    slice ≡ inodes → inodes ≡ inodes_of m2 g.journals g.inodes → volume ≡ map (log_in g m3) slice → volume ≡ logs_of (geometry_of m0) m0
parts_logs m0 m1 m2 m3 g inodes slice volume s1 s2 s3 same list items v =
    let logs : volume ≡ logs_of g m0 = rw (list, items, s3, s2, s1) at v in
    logs ∙ ap (λ (geometry : Geometry). logs_of geometry m0) same

pub parts_logs_stopped : (m0 m1 m2 m3 : List (List ℕ)) (g : Geometry) (inodes slice : List Inode) (f : VolumeFault) (a b c d e : List ℕ) → m1 ≡ m0 → m2 ≡ m1 → m3 ≡ m2 → g ≡ geometry_of m0 →
    slice ≡ inodes → inodes ≡ inodes_of m2 g.journals g.inodes → IsThrough (superblock_question m0 ∷ []) a b → IsThrough (journal_part g m1) b c →
    IsThrough (inode_part g m2) c d → IsStopped (flat_map (log_questions g m3) slice) f d e → IsStopped (recovery_questions m0) f a e
parts_logs_stopped m0 m1 m2 m3 g inodes slice f a b c d e s1 s2 s3 same list items h j i l =
    logs_stopped m0 g f a b c d e same h (rw s1 at j) (rw (s2, s1) at i) (rw (list, items, s3, s2, s1) at l)

pub parts_inodes_stopped : (m0 m1 m2 : List (List ℕ)) (g : Geometry) (f : VolumeFault) (a b c d : List ℕ) → m1 ≡ m0 → m2 ≡ m1 → g ≡ geometry_of m0 →
    IsThrough (superblock_question m0 ∷ []) a b → IsThrough (journal_part g m1) b c → IsStopped (inode_part g m2) f c d → IsStopped (recovery_questions m0) f a d
parts_inodes_stopped m0 m1 m2 g f a b c d s1 s2 same h j i = inodes_stopped m0 g f a b c d same h (rw s1 at j) (rw (s2, s1) at i)

pub parts_journals_stopped : (m0 m1 : List (List ℕ)) (g : Geometry) (f : VolumeFault) (a b c : List ℕ) → m1 ≡ m0 → g ≡ geometry_of m0 →
    IsThrough (superblock_question m0 ∷ []) a b → IsStopped (journal_part g m1) f b c → IsStopped (recovery_questions m0) f a c
parts_journals_stopped m0 m1 g f a b c s1 same h j = journals_stopped m0 g f a b c same h (rw s1 at j)
