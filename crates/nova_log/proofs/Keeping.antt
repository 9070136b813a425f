-- Logs that are kept: what was read by fixed lines is read alike on each medium that has these.
use Rattle.std.proofs.Common.{◌≡◌, ℕ, zero, suc, ◌+◌, ◌<◌, ◌≤◌, List, [], ◌∷◌, ◌++◌, length, get_or, set, map, take, drop, refl, sym, ap, subst, ◌∙◌, arith, inl, inr}
use Rattle.std.proofs.Math.ListN.{length-set}
use Rattle.std.proofs.Math.Seq.{drop-append_seam, take-length}
use Rattle.std.proofs.lemmas.Bool.{cases_eq}
use Rattle.std.proofs.lemmas.List.{get_or-set_other, get_or-set_same, length-append, take_more_set}
use Rattle.std.specs.List.{AllByRecursion, flat_map}
use Rattle.nova_log.specs.Kept.{AreAlikeAt, IfKept, IsRead}
use Rattle.nova_log.specs.Questions.{IsThrough, Question, lines_asked}
use Rattle.nova_log.specs.Volumes.{log_in, log_questions}
use Rattle.nova_log.proofs.Agreement.{Agrees, same_entries, same_log}
use Rattle.nova_log.proofs.Questions.{items_mapped}
use Rattle.nova_log.specs.declared.inode.Inode.{Inode}
use Rattle.nova_log.specs.declared.kept.LogReading.{LogReading}
use Rattle.nova_log.specs.declared.superblock.Geometry.{Geometry}
use Rattle.nova_log.specs.declared.volume.entry.Entry.{Entry}
use Rattle.nova_log.specs.Logs.{log_of}

pub each_one : (P : ℕ → Type 0) (xs : List ℕ) → ((k : ℕ) → k < length xs → P (get_or xs k 0)) → AllByRecursion P xs
each_one P [] h = tt
each_one P (x ∷ xs) h = (h 0 (omega arith), each_one P xs (λ k less. h (suc k) (omega arith)))

agrees_on : (fixed : ℕ → Type 0) (m o : List (List ℕ)) (xs : List ℕ) → AreAlikeAt fixed m o → AllByRecursion fixed xs → Agrees m o xs
agrees_on fixed m o [] h a = tt
agrees_on fixed m o (x ∷ xs) h a = (h.lines x a.0, agrees_on fixed m o xs h a.1)

read_alike : (fixed : ℕ → Type 0) (g : Geometry) (m o : List (List ℕ)) (reading : LogReading) (log : List Entry) → AreAlikeAt fixed m o →
    AllByRecursion fixed reading.lines.items → IsRead g m reading log → IsRead g o reading log
read_alike fixed g m o reading log h f r =
    let agree : Agrees m o (lines_asked (log_questions g m reading.inode)) =
    subst (λ (xs : List ℕ). Agrees m o xs) r.through.asked (agrees_on fixed m o reading.lines.items h f) in
    let same = same_log m o g reading.inode agree in
    record {
      through = record { clean = same.first ∙ r.through.clean; asked = r.through.asked ∙ sym same.asked };
      entries = r.entries ∙ sym (same_entries m o g reading.inode (r.through.clean, agree));
      below = subst (λ (n : ℕ). AllByRecursion (λ l. l < n) reading.lines.items) (sym h.size) r.below;
    }

-- a log that was just read, and is kept
pub kept_anew : (fixed : ℕ → Type 0) (g : Geometry) (m o : List (List ℕ)) (reading : LogReading) (log : List Entry) (inode : Inode) (a b : List ℕ) →
    IsThrough (log_questions g m inode) a b → log ≡ log_in g m inode → reading.inode ≡ inode → reading.lines.items ≡ drop (length a) b →
    AllByRecursion (λ l. l < length m) reading.lines.items → AllByRecursion fixed reading.lines.items → AreAlikeAt fixed m o → IsRead g o reading log
kept_anew fixed g m o reading log inode a b t entries same lines below f h =
    let asked : reading.lines.items ≡ lines_asked (log_questions g m inode) =
    lines ∙ ap (λ (xs : List ℕ). drop (length a) xs) t.asked ∙ drop-append_seam a (lines_asked (log_questions g m inode)) in
    read_alike fixed g m o reading log h f (record {
      through = subst (λ (i : Inode). IsThrough (log_questions g m i) [] reading.lines.items) (sym same) (record { clean = t.clean; asked = asked });
      entries = entries ∙ ap (log_in g m) (sym same);
      below = below;
    })

-- a log that is kept, asked for again
pub asked_again : (g : Geometry) (m : List (List ℕ)) (reading : LogReading) (log : List Entry) (inode : Inode) (a b : List ℕ) → IsRead g m reading log → reading.inode ≡ inode →
    b ≡ a ++ reading.lines.items → IsThrough (log_questions g m inode) a b
asked_again g m reading log inode a b r same e =
    subst (λ (i : Inode). IsThrough (log_questions g m i) a b) same
    (record { clean = r.through.clean; asked = e ∙ ap (λ (xs : List ℕ). a ++ xs) r.through.asked })

pub log_again : (g : Geometry) (m : List (List ℕ)) (reading : LogReading) (log : List Entry) (inode : Inode) → IsRead g m reading log → reading.inode ≡ inode → log ≡ log_in g m inode
log_again g m reading log inode r same = r.entries ∙ ap (log_in g m) same

-- one of the logs is read
pub kept_set : (g : Geometry) (m : List (List ℕ)) (readings : List LogReading) (logs : List (List Entry)) (n : ℕ) (reading : LogReading) (log : List Entry) → n < length logs →
    ((k : ℕ) (d : LogReading) → k < length readings → IfKept g m (get_or readings k d) (log_of logs k)) → IfKept g m reading log →
    (k : ℕ) (d : LogReading) → k < length (set readings n reading) → IfKept g m (get_or (set readings n reading) k d) (log_of (set (set logs n []) n log) k)
kept_set g m readings logs n reading log there h one k d less =
    let inside : k < length readings = subst (λ (c : ℕ). k < c) (length-set readings n reading) less in
    elim (cases_eq k n) [
      | inl e ↦
          let here : n < length readings = subst (λ (i : ℕ). i < length readings) e inside in
          let there' : n < length (set logs n []) = subst (λ (c : ℕ). n < c) (sym (length-set logs n [])) there in
          subst (λ (i : ℕ). IfKept g m (get_or (set readings n reading) i d) (log_of (set (set logs n []) n log) i)) (sym e)
          (rw (get_or-set_same readings n reading d here, get_or-set_same (set logs n []) n log [] there') one)
      | inr ne ↦
          rw (get_or-set_other readings n k reading d ne, get_or-set_other (set logs n []) n k log [] ne, get_or-set_other logs n k [] [] ne) (h k d inside)
    ]

-- the same after the log is put back
pub kept_put : (g : Geometry) (m : List (List ℕ)) (readings : List LogReading) (logs left next : List (List Entry)) (n : ℕ) (reading : LogReading) (log : List Entry) →
    n < length logs → left ≡ set logs n [] → next ≡ set left n log →
    ((k : ℕ) (d : LogReading) → k < length readings → IfKept g m (get_or readings k d) (log_of logs k)) → IfKept g m reading log →
    (k : ℕ) (d : LogReading) → k < length (set readings n reading) → IfKept g m (get_or (set readings n reading) k d) (log_of next k)
kept_put g m readings logs left next n reading log there e f h one k d less =
    subst (λ (v : List (List Entry)). IfKept g m (get_or (set readings n reading) k d) (log_of v k))
    (sym (f ∙ ap (λ (v : List (List Entry)). set v n log) e)) (kept_set g m readings logs n reading log there h one k d less)

pub kept_there : (g : Geometry) (m : List (List ℕ)) (readings : List LogReading) (logs : List (List Entry)) (n : ℕ) (reading d : LogReading) (log : List Entry) →
    n < length readings → ((k : ℕ) (d : LogReading) → k < length readings → IfKept g m (get_or readings k d) (log_of logs k)) → reading ≡ get_or readings n d → log ≡ log_of logs n →
    IfKept g m reading log
kept_there g m readings logs n reading d log less h e f =
    subst (λ (x : LogReading). IfKept g m x log) (sym e) (subst (λ (l : List Entry). IfKept g m (get_or readings n d) l) (sym f) (h n d less))

-- one more log of a volume
pub logs_more : (f : Inode → List Entry) (inodes : List Inode) (n : ℕ) (d : Inode) (logs next : List (List Entry)) → n < length inodes → n < length logs →
    take n logs ≡ map f (take n inodes) → next ≡ set logs n (f (get_or inodes n d)) → take (n + 1) next ≡ map f (take (n + 1) inodes)
logs_more f inodes n d logs next less there h s =
    ap (λ (v : List (List Entry)). take (n + 1) v) s ∙ take_more_set logs n (f (get_or inodes n d)) there
    ∙ items_mapped f inodes n d (take n logs) (f (get_or inodes n d)) less h refl

-- all of them
pub logs_all : (f : Inode → List Entry) (inodes : List Inode) (logs : List (List Entry)) → length logs ≡ length inodes →
    take (length inodes) logs ≡ map f (take (length inodes) inodes) → logs ≡ map f inodes
logs_all f inodes logs size h =
    sym (take-length logs) ∙ ap (λ (n : ℕ). take n logs) size ∙ h ∙ ap (λ (is : List Inode). map f is) (take-length inodes)

pub through_all : (f : Inode → List Question) (inodes : List Inode) (n : ℕ) (a b : List ℕ) → n ≡ length inodes → IsThrough (flat_map f (take n inodes)) a b →
    IsThrough (flat_map f inodes) a b
through_all f inodes n a b e h =
    subst (λ (is : List Inode). IsThrough (flat_map f is) a b) (ap (λ (k : ℕ). take k inodes) e ∙ take-length inodes) h

pub set_twice : (logs : List (List Entry)) (n : ℕ) (x y : List Entry) → set (set logs n x) n y ≡ set logs n y
set_twice [] n x y = refl
set_twice (l ∷ logs) zero x y = refl
set_twice (l ∷ logs) (suc n) x y = ap (λ (rest : List (List Entry)). l ∷ rest) (set_twice logs n x y)

-- a log put in the place of another
pub put_log : (logs left next : List (List Entry)) (n : ℕ) (log entries : List Entry) → left ≡ set logs n [] → next ≡ set left n log → log ≡ entries → next ≡ set logs n entries
put_log logs left next n log entries e f h =
    f ∙ ap (λ (v : List (List Entry)). set v n log) e ∙ set_twice logs n [] log ∙ ap (λ (l : List Entry). set logs n l) h

pub below_named : (m n : ℕ) (xs ys : List ℕ) → m ≡ n → xs ≡ ys → AllByRecursion (λ l. l < m) xs → AllByRecursion (λ l. l < n) ys
below_named m n xs ys e f h =
    subst (λ (k : ℕ). AllByRecursion (λ l. l < k) ys) e (subst (λ (zs : List ℕ). AllByRecursion (λ l. l < m) zs) f h)

-- more were asked
pub asked_longer : (a b rest xs : List ℕ) → xs ≡ a → b ≡ a ++ rest → length xs ≤ length b
asked_longer a b rest xs e f = rw (e, f, length-append a rest) (omega arith)
