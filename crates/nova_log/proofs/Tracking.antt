-- Media that agree on what recovery has asked of one of them so far are asked the same line next.
use Rattle.std.proofs.Common.{◌≡◌, ℕ, zero, suc, ◌+◌, ◌/◌, Bool, true, false, List, [], ◌∷◌, ◌++◌, length, take, refl, sym, ap, ◌∙◌, arith, cond, Option, Some, None}
use Rattle.std.specs.List.{AllByRecursion, flat_map, range_with_len}
use Rattle.line_memory.specs.Lines.{line_at}
use Rattle.nova_log.specs.Chains.{ends_in, link_fault, link_of, link_position, link_questions}
use Rattle.nova_log.specs.Entries.{entry_fault, entry_questions, is_long}
use Rattle.nova_log.specs.Inodes.{head_fault, inode_questions, inodes_of}
use Rattle.nova_log.specs.Journals.{journal_fault, journal_line, journal_questions, pending_in, record_fault, record_line, record_questions}
use Rattle.nova_log.specs.Superblocks.{geometry_in, geometry_of, superblock_fault, superblock_question}
use Rattle.nova_log.specs.Volumes.{asked_lines, log_questions, positions_of, questions_of, recovery_questions}
use Rattle.nova_log.specs.Questions.{Question, question, first_fault, lines_asked, unless_ended}
use Rattle.nova_log.proofs.Agreement.{Agrees, rest_of, same_chain, same_inodes}
use Rattle.nova_log.specs.declared.fault.VolumeFault.{VolumeFault}
use Rattle.nova_log.specs.declared.inode.Inode.{Inode}
use Rattle.nova_log.specs.declared.layout.Shape.{Shape}
use Rattle.nova_log.specs.declared.superblock.Geometry.{Geometry}

-- as long as the media agree on the lines of the first list, the second goes on like it
abbrev Follows : List (List ℕ) → List (List ℕ) → List ℕ → List ℕ → Type 0
Follows m o [] ys = ys ≡ []
Follows m o (x ∷ xs) [] = ⊥
Follows m o (x ∷ xs) (y ∷ ys) = (y ≡ x) × (line_at o x ≡ line_at m x → Follows m o xs ys)

-- the same of questions, up to a fault
abbrev Tracks : List (List ℕ) → List (List ℕ) → List Question → List Question → Type 0
Tracks m o [] q = q ≡ []
Tracks m o (x ∷ p) [] = ⊥
Tracks m o (x ∷ p) (y ∷ q) = (y.line ≡ x.line) × (line_at o x.line ≡ line_at m x.line → (y.fault ≡ x.fault) × (x.fault ≡ None → Tracks m o p q))

track_unless : (m o : List (List ℕ)) (f g : Option VolumeFault) (xs ys : List ℕ) → g ≡ f → (f ≡ None → Follows m o xs ys) →
    Follows m o (unless_ended f xs) (unless_ended g ys)
track_unless m o None g xs ys e h = rw e (h refl)
track_unless m o (Some f) g xs ys e h = rw e refl

track_lines : (m o : List (List ℕ)) (p q : List Question) → Tracks m o p q → Follows m o (lines_asked p) (lines_asked q)
track_lines m o [] q h = rw h refl
track_lines m o (x ∷ p) [] h = absurd h
track_lines m o (x ∷ p) (y ∷ q) h =
    (h.0, λ same. track_unless m o x.fault y.fault (lines_asked p) (lines_asked q) (h.1 same).0 (λ clean. track_lines m o p q ((h.1 same).1 clean)))

track_same : (m o : List (List ℕ)) (p : List Question) → Tracks m o p p
track_same m o [] = refl
track_same m o (x ∷ p) = (refl, λ same. (refl, λ clean. track_same m o p))

none_here : (x : Question) (p : List Question) → x.fault ≡ None → first_fault p ≡ None → first_fault (x ∷ p) ≡ None
none_here x p e h = rw e h

agree_here : (m o : List (List ℕ)) (x : Question) (p : List Question) → x.fault ≡ None → line_at o x.line ≡ line_at m x.line →
    Agrees m o (lines_asked p) → Agrees m o (lines_asked (x ∷ p))
agree_here m o x p e same h = rw e (same, h)

track_both : (m o : List (List ℕ)) (p p' q q' : List Question) → Tracks m o p p' →
    (first_fault p ≡ None → Agrees m o (lines_asked p) → Tracks m o q q') → Tracks m o (p ++ q) (p' ++ q')
track_both m o [] p' q q' k l = rw k (l refl tt)
track_both m o (x ∷ p) [] q q' k l = absurd k
track_both m o (x ∷ p) (y ∷ p') q q' k l = (
  k.0,
  λ same. (
    (k.1 same).0,
    λ clean. track_both m o p p' q q' ((k.1 same).1 clean)
        (λ none agree. l (none_here x p clean none) (agree_here m o x p clean same agree)),
  ),
)

-- a question whose fault the line decides
track_one : (m o : List (List ℕ)) (line : ℕ) (fault : List ℕ → Option VolumeFault) →
    Tracks m o (question line (fault (line_at m line)) ∷ []) (question line (fault (line_at o line)) ∷ [])
track_one m o line fault = (refl, λ same. (ap fault same, λ clean. refl))

track_each : {X : Type 0} (m o : List (List ℕ)) (f g : X → List Question) (items : List X) →
    ((x : X) → Tracks m o (f x) (g x)) → Tracks m o (flat_map f items) (flat_map g items)
track_each m o f g [] k = refl
track_each m o f g (x ∷ items) k = track_both m o (f x) (g x) (flat_map f items) (flat_map g items) (k x) (λ clean front. track_each m o f g items k)

track_journal : (m o : List (List ℕ)) (inodes j : ℕ) → Tracks m o (journal_questions inodes m j) (journal_questions inodes o j)
track_journal m o inodes j =
    track_both m o
    (question (journal_line j) (journal_fault (line_at m (journal_line j))) ∷ [])
    (question (journal_line j) (journal_fault (line_at o (journal_line j))) ∷ [])
    (flat_map (record_questions inodes m j) (pending_in (line_at m (journal_line j))))
    (flat_map (record_questions inodes o j) (pending_in (line_at o (journal_line j))))
    (track_one m o (journal_line j) journal_fault)
    (λ clean front. rw (front.0)
    (track_each m o (record_questions inodes m j) (record_questions inodes o j) (pending_in (line_at m (journal_line j)))
    (λ r. track_one m o (record_line j r) (record_fault inodes))))

track_links : (m o : List (List ℕ)) (s : Shape) (pages tail more page : ℕ) →
    Tracks m o (link_questions s pages m tail more page) (link_questions s pages o tail more page)
unfolding link_questions
track_links m o s pages tail zero page = refl
track_links m o s pages tail (suc more) page =
    (elim (ends_in s tail page) as (λ b. ends_in s tail page ≡ b → Tracks m o (link_questions s pages m tail (suc more) page) (link_questions s pages o tail (suc more) page)) [
      | true ↦ λ e. rw e refl
      | false ↦ λ e.
          rw e (track_both m o
          (question (link_position s page / 64) (link_fault pages more (line_at m (link_position s page / 64))) ∷ [])
          (question (link_position s page / 64) (link_fault pages more (line_at o (link_position s page / 64))) ∷ [])
          (link_questions s pages m tail more (link_of s m page)) (link_questions s pages o tail more (link_of s o page))
          (track_one m o (link_position s page / 64) (link_fault pages more))
          (λ clean front. rw (front.0) (track_links m o s pages tail more (link_of s m page))))
    ]) refl

track_entry : (m o : List (List ℕ)) (longest position : ℕ) → Tracks m o (entry_questions longest m position) (entry_questions longest o position)
track_entry m o longest position =
    track_both m o
    (question (position / 64) (entry_fault longest (line_at m (position / 64))) ∷ [])
    (question (position / 64) (entry_fault longest (line_at o (position / 64))) ∷ [])
    (cond (is_long (line_at m (position / 64))) (question (position / 64 + 1) None ∷ []) [])
    (cond (is_long (line_at o (position / 64))) (question (position / 64 + 1) None ∷ []) [])
    (track_one m o (position / 64) (entry_fault longest))
    (λ clean front. rw (front.0) (track_same m o (cond (is_long (line_at m (position / 64))) (question (position / 64 + 1) None ∷ []) [])))

track_log : (m o : List (List ℕ)) (g : Geometry) (inode : Inode) → Tracks m o (log_questions g m inode) (log_questions g o inode)
track_log m o g inode =
    track_both m o
    (link_questions g.shape g.pages m inode.tail g.pages inode.head) (link_questions g.shape g.pages o inode.tail g.pages inode.head)
    (flat_map (entry_questions g.shape.longest_name m) (positions_of g m inode)) (flat_map (entry_questions g.shape.longest_name o) (positions_of g o inode))
    (track_links m o g.shape g.pages inode.tail g.pages inode.head)
    (λ clean front. rw (same_chain m o g.shape g.pages inode.tail g.pages inode.head (clean, front))
    (track_each m o (entry_questions g.shape.longest_name m) (entry_questions g.shape.longest_name o) (positions_of g m inode)
    (λ position. track_entry m o g.shape.longest_name position)))

track_rest : (m o : List (List ℕ)) (g : Geometry) → Tracks m o (rest_of g m) (rest_of g o)
track_rest m o g =
    track_both m o
    (flat_map (journal_questions g.inodes m) (range_with_len 0 g.journals)) (flat_map (journal_questions g.inodes o) (range_with_len 0 g.journals))
    (flat_map (inode_questions g.pages m) (range_with_len 0 g.inodes) ++ flat_map (log_questions g m) (inodes_of m g.journals g.inodes))
    (flat_map (inode_questions g.pages o) (range_with_len 0 g.inodes) ++ flat_map (log_questions g o) (inodes_of o g.journals g.inodes))
    (track_each m o (journal_questions g.inodes m) (journal_questions g.inodes o) (range_with_len 0 g.journals) (λ j. track_journal m o g.inodes j))
    (λ clean front. track_both m o
    (flat_map (inode_questions g.pages m) (range_with_len 0 g.inodes)) (flat_map (inode_questions g.pages o) (range_with_len 0 g.inodes))
    (flat_map (log_questions g m) (inodes_of m g.journals g.inodes)) (flat_map (log_questions g o) (inodes_of o g.journals g.inodes))
    (track_each m o (inode_questions g.pages m) (inode_questions g.pages o) (range_with_len 0 g.inodes) (λ n. track_one m o (n + 1) (head_fault g.pages)))
    (λ clean' front'. rw (same_inodes m o g (clean, front) (clean', front'))
    (track_each m o (log_questions g m) (log_questions g o) (inodes_of m g.journals g.inodes) (λ inode. track_log m o g inode))))

track_first : (m o : List (List ℕ)) → length o ≡ length m → Tracks m o (superblock_question m ∷ []) (superblock_question o ∷ [])
track_first m o size = (
  refl,
  λ same.
      (ap (λ (line : List ℕ). superblock_fault line (length o)) same ∙ ap (λ (n : ℕ). superblock_fault (line_at m 0) n) size, λ clean. refl),
)

track_whole : (m o : List (List ℕ)) → length o ≡ length m → Tracks m o (recovery_questions m) (recovery_questions o)
track_whole m o size =
    track_both m o (superblock_question m ∷ []) (superblock_question o ∷ []) (rest_of (geometry_of m) m) (rest_of (geometry_of o) o)
    (track_first m o size)
    (λ clean front. let same : line_at o 0 ≡ line_at m 0 = front.0 in
    let geometry : geometry_of o ≡ geometry_of m = ap geometry_in same in
    rw geometry (track_rest m o (geometry_of m)))

follows_take : (m o : List (List ℕ)) (xs ys : List ℕ) (count : ℕ) → Follows m o xs ys → Agrees m o (take count xs) → take (count + 1) ys ≡ take (count + 1) xs
follows_take m o [] ys count h a = rw h refl
follows_take m o (x ∷ xs) [] count h a = absurd h
follows_take m o (x ∷ xs) (y ∷ ys) zero h a = ap (λ (z : ℕ). z ∷ []) h.0
follows_take m o (x ∷ xs) (y ∷ ys) (suc count) h a =
    let one : suc count + 1 ≡ suc (count + 1) = omega arith in
    rw (one, h.0) (ap (λ (rest : List ℕ). x ∷ rest) (follows_take m o xs ys count (h.1 a.0) a.1))

-- the lines asked so far decide the next
pub next_asked : (m o : List (List ℕ)) → length o ≡ length m → (count : ℕ) → Agrees m o (take count (asked_lines m)) →
    take (count + 1) (asked_lines o) ≡ take (count + 1) (asked_lines m)
unfolding asked_lines
next_asked m o size count a =
    follows_take m o (lines_asked (recovery_questions m)) (lines_asked (recovery_questions o)) count
    (track_lines m o (recovery_questions m) (recovery_questions o) (track_whole m o size)) a
