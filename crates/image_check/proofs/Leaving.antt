-- Logs that are kept on where a line may have changed.
use Rattle.std.proofs.Common.{◌≡◌, ◌≢◌, ℕ, zero, suc, ◌+◌, ◌<◌, ◌≤◌, true, false, Bool, List, [], ◌∷◌, length, get_or, set, refl, sym, ap, subst, ◌∙◌, arith, inl, inr, get_or-set_same, get_or-set_other}
use Rattle.std.proofs.lemmas.Bool.{cases_lt}
use Rattle.std.proofs.lemmas.List.{get_or-replicate}
use Rattle.std.specs.Prelude.{replicate}
use Rattle.std.specs.List.{AllByRecursion}
use Rattle.nova_log.proofs.Keeping.{kept_anew}
use Rattle.nova_log.specs.Kept.{AreAlikeAt, AreKept, IfKept, IsRead}
use Rattle.nova_log.specs.Logs.{log_of}
use Rattle.nova_log.specs.declared.kept.KeptVolume.{KeptVolume}
use Rattle.nova_log.specs.declared.kept.LogReading.{LogReading}
use Rattle.nova_log.specs.declared.superblock.Geometry.{Geometry}
use Rattle.nova_log.specs.declared.volume.entry.Entry.{Entry}
use Rattle.store_trace.proofs.Images.{length_image}
use Rattle.store_trace.specs.History.{at_moment}
use Rattle.store_trace.specs.declared.event.Event.{Event}
use Rattle.store_trace.specs.declared.event.Event.TheVariants.{Store, Clean, Fence, Begin, End}
use Rattle.verdict.proofs.Keeping.{like_next}
use Rattle.verdict.specs.CutImages.{image_at}
use Rattle.verdict.specs.Keeping.{IsUnseen}
use Rattle.verdict.specs.Numbers.{is_flagged}
use Rattle.image_check.specs.Branching.{AreKeptAt, DifferAt}

-- what is still kept of a reading was read by other lines than this one
abbrev pub IsLeft : ℕ → LogReading → LogReading → Type 0
IsLeft line new old = new.is_kept ≡ true → (new ≡ old) × AllByRecursion (λ l. l ≢ line) old.lines.items

both_all : (P Q : ℕ → Type 0) (xs : List ℕ) → AllByRecursion P xs → AllByRecursion Q xs → AllByRecursion (λ x. P x × Q x) xs
both_all P Q [] p q = tt
both_all P Q (x ∷ xs) p q = ((p.0, q.0), both_all P Q xs p.1 q.1)

-- a log that was read by other lines is read alike on the other medium
pub kept_on : (line : ℕ) (m o : List (List ℕ)) (g : Geometry) (new old : LogReading) (log : List Entry) → DifferAt line m o → IsLeft line new old →
    IfKept g m old log → IfKept g o new log
kept_on line m o g new old log differ left kept is =
    let own = left is in
    let r : IsRead g m new log = subst (λ (x : LogReading). IfKept g m x log) (sym own.0) kept is in
    kept_anew (λ l. (l < length m) × (l ≢ line)) g m o new log new.inode [] new.lines.items r.through r.entries refl refl r.below
    (both_all (λ l. l < length m) (λ l. l ≢ line) new.lines.items r.below
    (subst (λ (x : LogReading). AllByRecursion (λ l. l ≢ line) x.lines.items) (sym own.0) own.1)) differ

-- one more is left
pub left_more : (line : ℕ) (items old : List LogReading) (n : ℕ) (reading : LogReading) → n < length items →
    ((k : ℕ) (d : LogReading) → n ≤ k → get_or items k d ≡ get_or old k d) →
    ((k : ℕ) (d : LogReading) → k < n → IsLeft line (get_or items k d) (get_or old k d)) →
    ((d : LogReading) → IsLeft line reading (get_or items n d)) →
    (k : ℕ) (d : LogReading) → k < n + 1 → IsLeft line (get_or (set items n reading) k d) (get_or old k d)
left_more line items old n reading inside rest left own k d l = elim (cases_lt k n) [
  | inl less ↦
      let other : k ≢ n = omega arith in
      subst (λ (x : LogReading). IsLeft line x (get_or old k d)) (sym (get_or-set_other items n k reading d other)) (left k d less)
  | inr last ↦
      let same : n ≡ k = omega arith in
      subst (λ (i : ℕ). IsLeft line (get_or (set items n reading) i d) (get_or old i d)) same
      (subst (λ (x : LogReading). IsLeft line x (get_or old n d)) (sym (get_or-set_same items n reading d inside))
      (subst (λ (x : LogReading). IsLeft line reading x) (rest n d (omega arith)) (own d)))
]

-- those behind it are as they were
pub rest_more : (items old : List LogReading) (n : ℕ) (reading : LogReading) → ((k : ℕ) (d : LogReading) → n ≤ k → get_or items k d ≡ get_or old k d) →
    (k : ℕ) (d : LogReading) → n + 1 ≤ k → get_or (set items n reading) k d ≡ get_or old k d
rest_more items old n reading rest k d behind =
    let other : k ≢ n = omega arith in
    get_or-set_other items n k reading d other ∙ rest k d (omega arith)

-- media of one size with the same lines
same_on : (m o : List (List ℕ)) (g : Geometry) (reading : LogReading) (log : List Entry) → AreAlikeAt (λ l. l < length m) m o → IfKept g m reading log → IfKept g o reading log
same_on m o g reading log alike kept is =
    let r = kept is in
    kept_anew (λ l. l < length m) g m o reading log reading.inode [] reading.lines.items r.through r.entries refl refl r.below r.below alike

-- flags of so many lines, but for one
others : ℕ → ℕ → List Bool
others zero line = []
others (suc n) zero = false ∷ replicate n true
others (suc n) (suc line) = true ∷ others n line

other_unflagged : (n line : ℕ) → is_flagged line (others n line) ≡ false
unfolding others
other_unflagged zero line = refl
other_unflagged (suc n) zero = refl
other_unflagged (suc n) (suc line) = other_unflagged n line

other_flagged : (n line l : ℕ) → l < n → l ≢ line → is_flagged l (others n line) ≡ true
unfolding others
other_flagged zero line l less apart = absurd (omega (arith, less))
other_flagged (suc n) zero zero less apart = absurd (apart refl)
other_flagged (suc n) zero (suc l) less apart = get_or-replicate n l true false (omega (arith, less))
other_flagged (suc n) (suc line) zero less apart = refl
other_flagged (suc n) (suc line) (suc l) less apart = other_flagged n line l (omega (arith, less)) (λ e. apart (ap suc e))

-- behind a store what no reading has of its line is kept
pub kept_store : (start : List (List ℕ)) (all events : List Event) (i hart line offset width value : ℕ) (d : Event) (old new : KeptVolume) → all ≡ events → i < length events →
    get_or all i d ≡ Store hart line offset width value →
    ((medium other : List (List ℕ)) → DifferAt line medium other → AreKept medium old → AreKept other new) →
    AreKeptAt start events i old → AreKeptAt start events (i + 1) new
kept_store start all events i hart line offset width value d old new same there event leaves kept =
    let is = subst (λ (es : List Event). get_or es i d ≡ Store hart line offset width value) same event in
    let flags : List Bool = others (length start) line in
    let unseen : IsUnseen flags (get_or events i d) = subst (λ (e : Event). IsUnseen flags e) (sym is) (other_unflagged (length start) line) in
    let like = like_next start events i d flags there unseen in
    λ k within.
    let one = like.each k within in
    let before : List (List ℕ) = image_at start events i (like.of k) in
    let after : List (List ℕ) = image_at start events (i + 1) k in
    let size : length before ≡ length start = length_image start (like.of k) (at_moment events i) in
    let differ : DifferAt line before after = record {
      size = length_image start k (at_moment events (i + 1)) ∙ sym size;
      lines = λ l h. one.line l (other_flagged (length start) line l (omega (arith, h.0, size)) h.1);
    } in
    leaves before after differ (kept (like.of k) one.within)

-- an event that is no store changes no line
pub unseen_other : (event : Event) → ((h l o w v : ℕ) → event ≡ Store h l o w v → ⊥) → (flags : List Bool) → IsUnseen flags event
unseen_other (Store hart line offset width value) other flags = absurd (other hart line offset width value refl)
unseen_other (Clean hart line) other flags = tt
unseen_other (Fence hart) other flags = tt
unseen_other (Begin hart op) other flags = tt
unseen_other (End hart op) other flags = tt

-- behind any other event all is kept
pub kept_still : (start : List (List ℕ)) (all events : List Event) (i : ℕ) (d : Event) (kept : KeptVolume) → all ≡ events → i < length events →
    ((h l o w v : ℕ) → get_or all i d ≡ Store h l o w v → ⊥) → AreKeptAt start events i kept → AreKeptAt start events (i + 1) kept
kept_still start all events i d volume same there other kept =
    let flags : List Bool = replicate (length start) true in
    let unseen = subst (λ (es : List Event). IsUnseen flags (get_or es i d)) same (unseen_other (get_or all i d) other flags) in
    let like = like_next start events i d flags there unseen in
    λ k within n e inside.
    let one = like.each k within in
    let before : List (List ℕ) = image_at start events i (like.of k) in
    let after : List (List ℕ) = image_at start events (i + 1) k in
    let size : length before ≡ length start = length_image start (like.of k) (at_moment events i) in
    let alike : AreAlikeAt (λ l. l < length before) before after = record {
      size = length_image start k (at_moment events (i + 1)) ∙ sym size;
      lines = λ l h. one.line l (get_or-replicate (length start) l true false (omega (arith, h, size)));
    } in
    same_on before after volume.geometry (get_or volume.readings.items n e) (log_of volume.volume n) alike (kept (like.of k) one.within n e inside)

-- the same of a moment by other names
pub kept_as : (start medium : List (List ℕ)) (events all : List Event) (moment m : ℕ) (kept : KeptVolume) → medium ≡ start → all ≡ events → m ≡ moment →
    AreKeptAt start events moment kept → AreKeptAt medium all m kept
kept_as start medium events all moment m kept s e n h =
    subst (λ (x : List (List ℕ)). AreKeptAt x all m kept) (sym s) (subst (λ (es : List Event). AreKeptAt start es m kept) (sym e)
    (subst (λ (i : ℕ). AreKeptAt start events i kept) (sym n) h))
