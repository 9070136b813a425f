-- Media that agree on the lines which recovery asks of one of them have the same volume, and recovery asks the same lines.
use Rattle.std.proofs.Common.{◌≡◌, ℕ, zero, suc, ◌+◌, ◌/◌, ◌<◌, ◌≤◌, true, false, List, [], ◌∷◌, ◌++◌, length, map, refl, sym, ap, ◌∙◌, arith, inl, inr, cond, Option, Some, None, Ok}
use Rattle.std.proofs.lemmas.Bool.{cases_eq}
use Rattle.std.specs.List.{AllByRecursion, flat_map, range_with_len}
use Rattle.line_memory.specs.Lines.{line_at}
use Rattle.nova_log.specs.Chains.{chain, ends_in, link_fault, link_of, link_position, link_questions, positions_in}
use Rattle.nova_log.specs.Entries.{entry_at, entry_fault, entry_in, entry_questions, is_long}
use Rattle.nova_log.specs.Inodes.{head_fault, inode_at, inode_questions, inodes_of}
use Rattle.nova_log.specs.Journals.{journal_fault, journal_line, journal_questions, pending, pending_in, record_at, record_fault, record_in, record_line, record_questions, restored_tail}
use Rattle.nova_log.specs.Superblocks.{geometry_in, geometry_of, superblock_fault, superblock_question}
use Rattle.nova_log.specs.Volumes.{asked_lines, log_in, log_questions, logs_of, positions_of, unless_fault, volume_of}
use Rattle.nova_log.specs.Questions.{Question, question, first_fault, lines_asked}
use Rattle.nova_log.proofs.Questions.{first_after, asked_after, first_before, asked_before}
use Rattle.nova_log.specs.declared.fault.VolumeFault.{VolumeFault}
use Rattle.nova_log.specs.declared.inode.Inode.{Inode}
use Rattle.nova_log.specs.declared.layout.Shape.{Shape}
use Rattle.nova_log.specs.declared.superblock.Geometry.{Geometry}

-- the lines of two media at these numbers are the same
abbrev pub Agrees : List (List ℕ) → List (List ℕ) → List ℕ → Type 0
Agrees m o numbers = AllByRecursion (λ n. line_at o n ≡ line_at m n) numbers

-- two lists of questions that end alike
pub record Same (p q : List Question) : Type 0 where
  pub first : first_fault q ≡ first_fault p
  pub asked : lines_asked q ≡ lines_asked p

agrees_parts : (m o : List (List ℕ)) (a b : List ℕ) → Agrees m o (a ++ b) → Agrees m o a × Agrees m o b
agrees_parts m o [] b h = (tt, h)
agrees_parts m o (n ∷ a) b h = let rest = agrees_parts m o a b h.1 in ((h.0, rest.0), rest.1)

same_both : (m o : List (List ℕ)) (p p' q q' : List Question) → Agrees m o (lines_asked (p ++ q)) → (Agrees m o (lines_asked p) → Same p p') →
    (first_fault p ≡ None → Agrees m o (lines_asked p) → Agrees m o (lines_asked q) → Same q q') → Same (p ++ q) (p' ++ q')
same_both m o p p' q q' h k l =
    (elim (first_fault p) as (λ f. first_fault p ≡ f → Same (p ++ q) (p' ++ q')) [
      | None ↦ λ e.
          let parts = agrees_parts m o (lines_asked p) (lines_asked q) (rw (asked_after p q e) at h) in
          let s = k parts.0 in
          let t = l e parts.0 parts.1 in
          let e' : first_fault p' ≡ None = s.first ∙ e in
          record {
            first = first_after p' q' e' ∙ t.first ∙ sym (first_after p q e);
            asked = asked_after p' q' e' ∙ ap (λ (n : List ℕ). n ++ lines_asked q') s.asked ∙ ap (λ (n : List ℕ). lines_asked p ++ n) t.asked ∙ sym (asked_after p q e);
          }
      | Some f ↦ λ e.
          let s = k (rw (asked_before p q f e) at h) in
          let e' : first_fault p' ≡ Some f = s.first ∙ e in
          record {
            first = first_before p' q' f e' ∙ sym (first_before p q f e);
            asked = asked_before p' q' f e' ∙ s.asked ∙ sym (asked_before p q f e);
          }
    ]) refl

-- a question whose fault the line decides
same_one : (m o : List (List ℕ)) (line : ℕ) (fault : List ℕ → Option VolumeFault) →
    Agrees m o (lines_asked (question line (fault (line_at m line)) ∷ [])) → Same (question line (fault (line_at m line)) ∷ []) (question line (fault (line_at o line)) ∷ [])
same_one m o line fault h = rw (h.0) (record { first = refl; asked = refl })

same_each : {X : Type 0} (m o : List (List ℕ)) (f g : X → List Question) (items : List X) →
    ((x : X) → Agrees m o (lines_asked (f x)) → Same (f x) (g x)) → Agrees m o (lines_asked (flat_map f items)) → Same (flat_map f items) (flat_map g items)
same_each m o f g [] k h = record { first = refl; asked = refl }
same_each m o f g (x ∷ items) k h =
    same_both m o (f x) (g x) (flat_map f items) (flat_map g items) h (k x) (λ clean front rest. same_each m o f g items k rest)

-- what was asked without a fault: each part too
abbrev pub Clean : List (List ℕ) → List (List ℕ) → List Question → Type 0
Clean m o p = (first_fault p ≡ None) × Agrees m o (lines_asked p)

none_first : (p q : List Question) → first_fault (p ++ q) ≡ None → first_fault p ≡ None
none_first p q e =
    (elim (first_fault p) as (λ f. first_fault p ≡ f → first_fault p ≡ None) [
      | None ↦ λ h. h
      | Some f ↦ λ h. let some = first_before p q f h in absurd (cc)
    ]) refl

clean_parts : (m o : List (List ℕ)) (p q : List Question) → Clean m o (p ++ q) → Clean m o p × Clean m o q
clean_parts m o p q h =
    let first = none_first p q h.0 in
    let parts = agrees_parts m o (lines_asked p) (lines_asked q) (rw (asked_after p q first) at h.1) in
    ((first, parts.0), (sym (first_after p q first) ∙ h.0, parts.1))

clean_each : {X : Type 0} (m o : List (List ℕ)) (f : X → List Question) (items : List X) → Clean m o (flat_map f items) → AllByRecursion (λ x. Clean m o (f x)) items
clean_each m o f [] h = tt
clean_each m o f (x ∷ items) h = let parts = clean_parts m o (f x) (flat_map f items) h in (parts.0, clean_each m o f items parts.1)

same_map : {X Y : Type 0} (P : X → Type 0) (f g : X → Y) (items : List X) → ((x : X) → P x → g x ≡ f x) → AllByRecursion P items → map g items ≡ map f items
same_map P f g [] k h = refl
same_map P f g (x ∷ items) k h = rw (k x h.0, same_map P f g items k h.1) refl

below : (P : ℕ → Type 0) (a n j : ℕ) → AllByRecursion P (range_with_len a n) → a ≤ j → j < a + n → P j
below P a zero j h le less = absurd (omega arith)
below P a (suc n) j h le less = elim (cases_eq j a) [
  | inl e ↦ rw e h.0
  | inr ne ↦ below P (a + 1) n j h.1 (omega arith) (omega arith)
]

-- journals
same_journal : (m o : List (List ℕ)) (inodes j : ℕ) → Agrees m o (lines_asked (journal_questions inodes m j)) → Same (journal_questions inodes m j) (journal_questions inodes o j)
same_journal m o inodes j h =
    same_both m o
    (question (journal_line j) (journal_fault (line_at m (journal_line j))) ∷ [])
    (question (journal_line j) (journal_fault (line_at o (journal_line j))) ∷ [])
    (flat_map (record_questions inodes m j) (pending_in (line_at m (journal_line j))))
    (flat_map (record_questions inodes o j) (pending_in (line_at o (journal_line j))))
    h (same_one m o (journal_line j) journal_fault)
    (λ clean front rest. rw (front.0)
    (same_each m o (record_questions inodes m j) (record_questions inodes o j) (pending_in (line_at m (journal_line j)))
    (λ r. same_one m o (record_line j r) (record_fault inodes)) rest))

same_pending : (m o : List (List ℕ)) (inodes j : ℕ) → Clean m o (journal_questions inodes m j) → pending o j ≡ pending m j
same_pending m o inodes j h =
    let parts = clean_parts m o (question (journal_line j) (journal_fault (line_at m (journal_line j))) ∷ [])
    (flat_map (record_questions inodes m j) (pending_in (line_at m (journal_line j)))) h in
    let each = clean_each m o (record_questions inodes m j) (pending_in (line_at m (journal_line j))) parts.1 in
    rw (parts.0.1.0)
    (same_map (λ r. Clean m o (record_questions inodes m j r)) (record_at m j) (record_at o j) (pending_in (line_at m (journal_line j)))
    (λ r k. ap record_in k.1.0) each)

same_restored : (m o : List (List ℕ)) (n j : ℕ) → ((i : ℕ) → i < j → pending o i ≡ pending m i) → restored_tail o n j ≡ restored_tail m n j
unfolding restored_tail
same_restored m o n zero h = refl
same_restored m o n (suc j) h = rw (h j (omega arith), same_restored m o n j (λ i less. h i (omega arith))) refl

-- inodes
same_inode : (m o : List (List ℕ)) (pages journals n : ℕ) → restored_tail o n journals ≡ restored_tail m n journals → Clean m o (inode_questions pages m n) →
    inode_at o journals n ≡ inode_at m journals n
same_inode m o pages journals n e h = rw (e, h.1.0) refl

-- the walk of a log
same_links : (m o : List (List ℕ)) (s : Shape) (pages tail more page : ℕ) → Agrees m o (lines_asked (link_questions s pages m tail more page)) →
    Same (link_questions s pages m tail more page) (link_questions s pages o tail more page)
unfolding link_questions
same_links m o s pages tail zero page h = record { first = refl; asked = refl }
same_links m o s pages tail (suc more) page h =
    (elim (ends_in s tail page) as (λ b. ends_in s tail page ≡ b → Same (link_questions s pages m tail (suc more) page) (link_questions s pages o tail (suc more) page)) [
      | true ↦ λ e. rw e (record { first = refl; asked = refl })
      | false ↦ λ e.
          let k = rw e at h in
          rw e (same_both m o
          (question (link_position s page / 64) (link_fault pages more (line_at m (link_position s page / 64))) ∷ [])
          (question (link_position s page / 64) (link_fault pages more (line_at o (link_position s page / 64))) ∷ [])
          (link_questions s pages m tail more (link_of s m page)) (link_questions s pages o tail more (link_of s o page)) k
          (same_one m o (link_position s page / 64) (link_fault pages more))
          (λ clean front rest. rw (front.0) (same_links m o s pages tail more (link_of s m page) rest)))
    ]) refl

pub same_chain : (m o : List (List ℕ)) (s : Shape) (pages tail more page : ℕ) → Clean m o (link_questions s pages m tail more page) →
    chain s o tail more page ≡ chain s m tail more page
unfolding chain link_questions
same_chain m o s pages tail zero page h = refl
same_chain m o s pages tail (suc more) page h =
    (elim (ends_in s tail page) as (λ b. ends_in s tail page ≡ b → chain s o tail (suc more) page ≡ chain s m tail (suc more) page) [
      | true ↦ λ e. rw e refl
      | false ↦ λ e.
          let k : Clean m o ((question (link_position s page / 64) (link_fault pages more (line_at m (link_position s page / 64))) ∷ []) ++ link_questions s pages m tail more (link_of s m page)) =
          rw e at h in
          let parts = clean_parts m o (question (link_position s page / 64) (link_fault pages more (line_at m (link_position s page / 64))) ∷ [])
          (link_questions s pages m tail more (link_of s m page)) k in
          rw (e, parts.0.1.0) (ap (λ (rest : List ℕ). positions_in s page s.page_entries ++ rest) (same_chain m o s pages tail more (link_of s m page) parts.1))
    ]) refl

-- entries
same_entry : (m o : List (List ℕ)) (longest position : ℕ) → Agrees m o (lines_asked (entry_questions longest m position)) →
    Same (entry_questions longest m position) (entry_questions longest o position)
same_entry m o longest position h =
    same_both m o
    (question (position / 64) (entry_fault longest (line_at m (position / 64))) ∷ [])
    (question (position / 64) (entry_fault longest (line_at o (position / 64))) ∷ [])
    (cond (is_long (line_at m (position / 64))) (question (position / 64 + 1) None ∷ []) [])
    (cond (is_long (line_at o (position / 64))) (question (position / 64 + 1) None ∷ []) [])
    h (same_one m o (position / 64) (entry_fault longest))
    (λ clean front rest. rw (front.0) (record { first = refl; asked = refl }))

same_value : (m o : List (List ℕ)) (longest position : ℕ) → Clean m o (entry_questions longest m position) → entry_at o position ≡ entry_at m position
same_value m o longest position h =
    let parts = clean_parts m o (question (position / 64) (entry_fault longest (line_at m (position / 64))) ∷ [])
    (cond (is_long (line_at m (position / 64))) (question (position / 64 + 1) None ∷ []) []) h in
    rw (parts.0.1.0)
    (ap (entry_in (line_at m (position / 64)))
    ((elim (is_long (line_at m (position / 64))) as (λ b.
    Clean m o (cond b (question (position / 64 + 1) None ∷ []) []) → cond b (line_at o (position / 64 + 1)) [] ≡ cond b (line_at m (position / 64 + 1)) []) [
      | true ↦ λ k. k.1.0
      | false ↦ λ k. refl
    ]) parts.1))

-- logs
pub same_log : (m o : List (List ℕ)) (g : Geometry) (inode : Inode) → Agrees m o (lines_asked (log_questions g m inode)) → Same (log_questions g m inode) (log_questions g o inode)
same_log m o g inode h =
    same_both m o
    (link_questions g.shape g.pages m inode.tail g.pages inode.head) (link_questions g.shape g.pages o inode.tail g.pages inode.head)
    (flat_map (entry_questions g.shape.longest_name m) (positions_of g m inode)) (flat_map (entry_questions g.shape.longest_name o) (positions_of g o inode))
    h (same_links m o g.shape g.pages inode.tail g.pages inode.head)
    (λ clean front rest. rw (same_chain m o g.shape g.pages inode.tail g.pages inode.head (clean, front))
    (same_each m o (entry_questions g.shape.longest_name m) (entry_questions g.shape.longest_name o) (positions_of g m inode)
    (λ position. same_entry m o g.shape.longest_name position) rest))

pub same_entries : (m o : List (List ℕ)) (g : Geometry) (inode : Inode) → Clean m o (log_questions g m inode) → log_in g o inode ≡ log_in g m inode
same_entries m o g inode h =
    let parts = clean_parts m o (link_questions g.shape g.pages m inode.tail g.pages inode.head)
    (flat_map (entry_questions g.shape.longest_name m) (positions_of g m inode)) h in
    let each = clean_each m o (entry_questions g.shape.longest_name m) (positions_of g m inode) parts.1 in
    rw (same_chain m o g.shape g.pages inode.tail g.pages inode.head parts.0)
    (same_map (λ position. Clean m o (entry_questions g.shape.longest_name m position)) (entry_at m) (entry_at o) (positions_of g m inode)
    (λ position k. same_value m o g.shape.longest_name position k) each)

-- the inodes of a medium whose journals and inodes have no fault
pub same_inodes : (m o : List (List ℕ)) (g : Geometry) → Clean m o (flat_map (journal_questions g.inodes m) (range_with_len 0 g.journals)) →
    Clean m o (flat_map (inode_questions g.pages m) (range_with_len 0 g.inodes)) → inodes_of o g.journals g.inodes ≡ inodes_of m g.journals g.inodes
same_inodes m o g h k =
    let journals = clean_each m o (journal_questions g.inodes m) (range_with_len 0 g.journals) h in
    let each = clean_each m o (inode_questions g.pages m) (range_with_len 0 g.inodes) k in
    same_map (λ n. Clean m o (inode_questions g.pages m n)) (inode_at m g.journals) (inode_at o g.journals) (range_with_len 0 g.inodes)
    (λ n c. same_inode m o g.pages g.journals n
    (same_restored m o n g.journals (λ i less. same_pending m o g.inodes i
    (below (λ j. Clean m o (journal_questions g.inodes m j)) 0 g.journals i journals (omega arith) (omega arith)))) c) each

-- all questions after the first
abbrev pub rest_of : Geometry → List (List ℕ) → List Question
rest_of g lines =
    flat_map (journal_questions g.inodes lines) (range_with_len 0 g.journals)
    ++ (flat_map (inode_questions g.pages lines) (range_with_len 0 g.inodes)
    ++ flat_map (log_questions g lines) (inodes_of lines g.journals g.inodes))

same_rest : (m o : List (List ℕ)) (g : Geometry) → Agrees m o (lines_asked (rest_of g m)) → Same (rest_of g m) (rest_of g o)
same_rest m o g h =
    same_both m o
    (flat_map (journal_questions g.inodes m) (range_with_len 0 g.journals)) (flat_map (journal_questions g.inodes o) (range_with_len 0 g.journals))
    (flat_map (inode_questions g.pages m) (range_with_len 0 g.inodes) ++ flat_map (log_questions g m) (inodes_of m g.journals g.inodes))
    (flat_map (inode_questions g.pages o) (range_with_len 0 g.inodes) ++ flat_map (log_questions g o) (inodes_of o g.journals g.inodes))
    h (same_each m o (journal_questions g.inodes m) (journal_questions g.inodes o) (range_with_len 0 g.journals) (λ j. same_journal m o g.inodes j))
    (λ clean front rest. same_both m o
    (flat_map (inode_questions g.pages m) (range_with_len 0 g.inodes)) (flat_map (inode_questions g.pages o) (range_with_len 0 g.inodes))
    (flat_map (log_questions g m) (inodes_of m g.journals g.inodes)) (flat_map (log_questions g o) (inodes_of o g.journals g.inodes))
    rest (same_each m o (inode_questions g.pages m) (inode_questions g.pages o) (range_with_len 0 g.inodes) (λ n. same_one m o (n + 1) (head_fault g.pages)))
    (λ clean' front' rest'. rw (same_inodes m o g (clean, front) (clean', front'))
    (same_each m o (log_questions g m) (log_questions g o) (inodes_of m g.journals g.inodes) (λ inode. same_log m o g inode) rest')))

same_logs : (m o : List (List ℕ)) (g : Geometry) → Clean m o (rest_of g m) → logs_of g o ≡ logs_of g m
same_logs m o g h =
    let journals = clean_parts m o (flat_map (journal_questions g.inodes m) (range_with_len 0 g.journals))
    (flat_map (inode_questions g.pages m) (range_with_len 0 g.inodes) ++ flat_map (log_questions g m) (inodes_of m g.journals g.inodes)) h in
    let inodes = clean_parts m o (flat_map (inode_questions g.pages m) (range_with_len 0 g.inodes))
    (flat_map (log_questions g m) (inodes_of m g.journals g.inodes)) journals.1 in
    let each = clean_each m o (log_questions g m) (inodes_of m g.journals g.inodes) inodes.1 in
    rw (same_inodes m o g journals.0 inodes.0)
    (same_map (λ inode. Clean m o (log_questions g m inode)) (log_in g m) (log_in g o) (inodes_of m g.journals g.inodes)
    (λ inode k. same_entries m o g inode k) each)

same_asked : (m o : List (List ℕ)) (g : Geometry) (q : Question) → Agrees m o (lines_asked ((q ∷ []) ++ rest_of g m)) →
    Same ((q ∷ []) ++ rest_of g m) ((q ∷ []) ++ rest_of g o)
same_asked m o g q h =
    same_both m o (q ∷ []) (q ∷ []) (rest_of g m) (rest_of g o) h (λ _. record { first = refl; asked = refl })
    (λ clean front rest. same_rest m o g rest)

same_result : (m o : List (List ℕ)) (g : Geometry) (q : Question) → Agrees m o (lines_asked ((q ∷ []) ++ rest_of g m)) →
    unless_fault (first_fault ((q ∷ []) ++ rest_of g o)) (logs_of g o) ≡ unless_fault (first_fault ((q ∷ []) ++ rest_of g m)) (logs_of g m)
same_result m o g q h =
    ap (λ (f : Option VolumeFault). unless_fault f (logs_of g o)) (same_asked m o g q h).first
    ∙ (elim (first_fault ((q ∷ []) ++ rest_of g m)) as (λ f. first_fault ((q ∷ []) ++ rest_of g m) ≡ f → unless_fault f (logs_of g o) ≡ unless_fault f (logs_of g m)) [
      | None ↦ λ e. ap Ok (same_logs m o g (clean_parts m o (q ∷ []) (rest_of g m) (e, h)).1)
      | Some f ↦ λ e. refl
    ]) refl

-- the whole
pub same_recovery : (m o : List (List ℕ)) → length o ≡ length m → Agrees m o (asked_lines m) → (asked_lines o ≡ asked_lines m) × (volume_of o ≡ volume_of m)
unfolding asked_lines volume_of
same_recovery m o size h =
    let e : line_at o 0 ≡ line_at m 0 = h.0 in
    let geometry : geometry_of o ≡ geometry_of m = ap geometry_in e in
    let first : superblock_question o ≡ superblock_question m =
    ap (λ (line : List ℕ). question 0 (superblock_fault line (length o))) e ∙ ap (λ (n : ℕ). question 0 (superblock_fault (line_at m 0) n)) size in
    let asked : lines_asked ((superblock_question o ∷ []) ++ rest_of (geometry_of o) o) ≡ lines_asked ((superblock_question m ∷ []) ++ rest_of (geometry_of m) o) =
    ap (λ (g : Geometry). lines_asked ((superblock_question o ∷ []) ++ rest_of g o)) geometry
    ∙ ap (λ (q : Question). lines_asked ((q ∷ []) ++ rest_of (geometry_of m) o)) first in
    let result : unless_fault (first_fault ((superblock_question o ∷ []) ++ rest_of (geometry_of o) o)) (logs_of (geometry_of o) o)
    ≡ unless_fault (first_fault ((superblock_question m ∷ []) ++ rest_of (geometry_of m) o)) (logs_of (geometry_of m) o) =
    ap (λ (g : Geometry). unless_fault (first_fault ((superblock_question o ∷ []) ++ rest_of g o)) (logs_of g o)) geometry
    ∙ ap (λ (q : Question). unless_fault (first_fault ((q ∷ []) ++ rest_of (geometry_of m) o)) (logs_of (geometry_of m) o)) first in
    (asked ∙ (same_asked m o (geometry_of m) (superblock_question m) h).asked, result ∙ same_result m o (geometry_of m) (superblock_question m) h)
