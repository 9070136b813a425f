-- What a store, a clean and a fence make of a line without its past.
use Rattle.std.proofs.Common.{◌≡◌, ◌≢◌, ◌⊎◌, inl, inr, ℕ, ◌+◌, ◌<◌, ◌==◌, nat_lt, length, Bool, true, false, List, [], ◌∷◌, ◌++◌, map, bytes_eq, arith, refl, ◌∙◌, sym, ap, subst, slice_set}
use Rattle.std.specs.Prelude.{◌↔◌, filter}
use Rattle.std.specs.Bool.{Decides}
use Rattle.std.specs.List.{Contains}
use Rattle.std.specs.List.Sorted.{IsPermutation}
use Rattle.std.proofs.lemmas.Bool.{cases_Bool}
use Rattle.std.proofs.lemmas.Bool.Decides.{Decides-not, nat_tests, not_from_Decides}
use Rattle.std.proofs.lemmas.List.Elements.{Contains-append_left, Contains-append_right, Contains-push_cases}
use Rattle.std.proofs.lemmas.List.Sorted.{Contains-permutation, IsPermutation-sym}
use Rattle.std.proofs.lemmas.List.{get_or-replicate, get_or-set_other, get_or-set_same, get_or_past, length-set}
use Rattle.std.proofs.lemmas.Slice.Eq.{bytes_eq-Decides}
use Rattle.word_bits.specs.Bytes.{stored}
use Rattle.store_trace.proofs.Images.{line_after_store}
use Rattle.store_trace.proofs.Members.{contains_cases, contains_first, contains_later, from_filter, in_filter, no_members}
use Rattle.store_trace.specs.Image.{line_after}
use Rattle.store_trace.specs.Stores.{stores}
use Rattle.store_trace.specs.declared.crash_model.step.PersistenceStep.{PersistenceStep}
use Rattle.store_trace.specs.declared.crash_model.step.PersistenceStep.TheVariants.{Store, Clean, Fence}
use Rattle.schedule_states.proofs.Leaving.{clean_adds, clean_elsewhere, clean_leaves, fence_cuts, fence_takes, nothing_stored, nothing_stored_fenced, store_adds, store_adds_fenced}
use Rattle.schedule_states.specs.Contents.{MayHoldFenced}
use Rattle.schedule_states.specs.LineStates.{Has, IsKept, IsLine, IsLineState, differs_from, each, gone_with, stays_after, unfenced}
use Rattle.schedule_states.specs.declared.line_state.Content.{Content}
use Rattle.schedule_states.specs.declared.line_state.LineState.{LineState}

-- what is in a list that is mapped
pub in_map : {X Y : Type 0} (f : X → Y) (xs : List X) (x : X) → Contains xs x → Contains (map f xs) (f x)
in_map f [] x c = absurd (no_members x c)
in_map f (y ∷ ys) x c = elim (contains_cases y ys x c) [
  | inl e ↦ contains_first (f y) (map f ys) (f x) (ap f e)
  | inr d ↦ contains_later (f y) (map f ys) (f x) (in_map f ys x d)
]

pub from_map : {X Y : Type 0} (f : X → Y) (xs : List X) (y : Y) → Contains (map f xs) y → (x : X) × Contains xs x × (f x ≡ y)
from_map f [] y c = absurd (no_members y c)
from_map f (z ∷ zs) y c = elim (contains_cases (f z) (map f zs) y c) [
  | inl e ↦ (z, contains_first z zs z refl, e)
  | inr d ↦ let r : (x : _) × Contains zs x × (f x ≡ y) = from_map f zs y d in (r.0, contains_later z zs r.0 r.1, r.2)
]

same_or_other : (xs ys : List ℕ) → (xs ≡ ys) ⊎ (xs ≢ ys)
same_or_other xs ys = elim (cases_Bool (bytes_eq xs ys)) [
  | inl same ↦ inl ((bytes_eq-Decides xs ys).0 same)
  | inr other ↦ inr (not_from_Decides (bytes_eq xs ys) (bytes_eq-Decides xs ys) other)
]

-- what loads find in a line, and what else a power cut may leave of it
pub record Line : Type 0 where
  pub bytes : List ℕ
  pub others : List Content

abbrev pub line_of : LineState → Line
line_of s = record { bytes = s.bytes; others = s.others.items }

-- A store: the bytes that loads found join the contents, and those that loads find now leave them.
abbrev pub ComeOf : Line → Line → Type 0
ComeOf s after = (content : Content) → Contains after.others content
    ↔ ((content.bytes ≢ after.bytes) × (Contains s.others content ⊎ (content ≡ unfenced s.bytes)))

differs : (bytes : List ℕ) (content : Content) → Decides (differs_from bytes content) (content.bytes ≢ bytes)
differs bytes content = Decides-not (bytes_eq content.bytes bytes) (bytes_eq-Decides content.bytes bytes)

pub left_apart : (s after : Line) (kept : List Content) → kept ≡ filter (differs_from after.bytes) (s.others ++ unfenced s.bytes ∷ []) →
    IsPermutation kept after.others → ComeOf s after
left_apart s after kept is sorted content = (
  λ c.
      let from : Contains (s.others ++ unfenced s.bytes ∷ []) content × (differs_from after.bytes content ≡ true) =
      from_filter (differs_from after.bytes) (s.others ++ unfenced s.bytes ∷ []) content
      (rw is at (Contains-permutation after.others kept content (IsPermutation-sym kept after.others sorted) c)) in (
        (differs after.bytes content).0 from.1,
        elim (Contains-push_cases s.others (unfenced s.bytes) content from.0) [
          | inl before ↦ inl before
          | inr was ↦ inr (sym was)
        ],
      ),
  λ both.
      let there : Contains (s.others ++ unfenced s.bytes ∷ []) content = elim both.1 [
        | inl before ↦ Contains-append_left s.others (unfenced s.bytes ∷ []) content before
        | inr was ↦ Contains-append_right s.others (unfenced s.bytes ∷ []) content (contains_first (unfenced s.bytes) [] content (sym was))
      ] in
      Contains-permutation kept after.others content sorted
      (rw is (in_filter (differs_from after.bytes) (s.others ++ unfenced s.bytes ∷ []) content there ((differs after.bytes content).1 both.0))),
)

has_more : (keeps : Content → Bool) (s after : Line) (bytes : List ℕ) → keeps (unfenced s.bytes) ≡ true → ComeOf s after →
    Has keeps s.bytes s.others bytes → Has keeps after.bytes after.others bytes
has_more keeps s after bytes old come has = elim (same_or_other bytes after.bytes) [
  | inl is ↦ inl is
  | inr other ↦ elim has [
    | inl was ↦ inr (record {
      content = unfenced s.bytes;
      among = (come (unfenced s.bytes)).1 (λ e. other (was ∙ e), inr refl);
      kept = old;
      is = sym was;
    })
    | inr kept ↦ inr (record {
      content = kept.content;
      among = (come kept.content).1 (λ e. other (sym kept.is ∙ e), inl kept.among);
      kept = kept.kept;
      is = kept.is;
    })
  ]
]

has_no_more : (keeps : Content → Bool) (s after : Line) (bytes : List ℕ) → ComeOf s after →
    Has keeps after.bytes after.others bytes → Has keeps s.bytes s.others bytes ⊎ (bytes ≡ after.bytes)
has_no_more keeps s after bytes come has = elim has [
  | inl is ↦ inr is
  | inr kept ↦ elim ((come kept.content).0 kept.among).1 [
    | inl among ↦ inl (inr (record { content = kept.content; among = among; kept = kept.kept; is = kept.is }))
    | inr was ↦ inl (inl (sym kept.is ∙ ap (λ (x : Content). x.bytes) was))
  ]
]

stays_unfenced : (h : ℕ) (bytes : List ℕ) → h < 8 → stays_after h (unfenced bytes) ≡ true
stays_unfenced h bytes few = get_or-replicate 8 h true false few

one_of_each : (s after : Line) → ComeOf s after → ((content : Content) → Contains s.others content → content.bytes ≢ s.bytes) →
    ((one other : Content) → Contains s.others one → Contains s.others other → one.bytes ≡ other.bytes → one ≡ other) →
    (one other : Content) → Contains after.others one → Contains after.others other → one.bytes ≡ other.bytes → one ≡ other
one_of_each s after come apart distinct one other c d same = elim ((come one).0 c).1 [
  | inl before ↦ elim ((come other).0 d).1 [
    | inl too ↦ distinct one other before too same
    | inr was ↦ absurd (apart one before (same ∙ ap (λ (x : Content). x.bytes) was))
  ]
  | inr was ↦ elim ((come other).0 d).1 [
    | inl too ↦ absurd (apart other too (sym same ∙ ap (λ (x : Content). x.bytes) was))
    | inr both ↦ was ∙ sym both
  ]
]

own_count : (l o w v : ℕ) (p : List PersistenceStep) → stores l p + 1 ≡ stores l (Store l o w v ∷ p)
own_count l o w v p = grind (arith, nat_tests)

pub line_stored : (start : List ℕ) (l o w v : ℕ) (p : List PersistenceStep) (s after : Line) → IsLine start l p s.bytes s.others →
    after.bytes ≡ stored s.bytes o w v → ComeOf s after → IsLine start l (Store l o w v ∷ p) after.bytes after.others
line_stored start l o w v p s after is made come =
    let loads : after.bytes ≡ stored (line_after start l (stores l p) p) o w v = made ∙ ap (λ (xs : List ℕ). stored xs o w v) is.bytes in record {
      bytes = loads ∙ sym (line_after_store start l o w v p) ∙ ap (λ (n : ℕ). line_after start l n (Store l o w v ∷ p)) (own_count l o w v p);
      apart = λ content among. ((come content).0 among).0;
      distinct = one_of_each s after come is.apart is.distinct;
      now = λ bytes. (
        λ c. elim ((store_adds start l o w v p bytes).0 c) [
          | inl before ↦ has_more each s after bytes refl come ((is.now bytes).0 before)
          | inr added ↦ inl (added ∙ sym loads)
        ],
        λ has. (store_adds start l o w v p bytes).1 (elim (has_no_more each s after bytes come has) [
          | inl before ↦ inl ((is.now bytes).1 before)
          | inr added ↦ inr (added ∙ loads)
        ]),
      );
      fenced = λ h bytes few. (
        λ c. elim ((store_adds_fenced start l h o w v p bytes).0 c) [
          | inl before ↦ has_more (stays_after h) s after bytes (stays_unfenced h s.bytes few) come ((is.fenced h bytes few).0 before)
          | inr added ↦ inl (added ∙ sym loads)
        ],
        λ has. (store_adds_fenced start l h o w v p bytes).1 (elim (has_no_more (stays_after h) s after bytes come has) [
          | inl before ↦ inl ((is.fenced h bytes few).1 before)
          | inr added ↦ inr (added ∙ loads)
        ]),
      );
    }

-- A clean: the contents go with the next fence of its hart.
gone_own : (g : ℕ) (content : Content) → stays_after g (gone_with g content) ≡ false
gone_own g content = elim (cases_Bool (nat_lt g (length content.stays))) [
  | inl there ↦ get_or-set_same content.stays g false false (grind (arith, nat_tests, there))
  | inr not_there ↦ get_or_past (slice_set content.stays g false) g false (grind (arith, nat_tests, not_there, length-set content.stays g false))
]

gone_other : (g h : ℕ) (content : Content) → h ≢ g → stays_after h (gone_with g content) ≡ stays_after h content
gone_other g h content other = get_or-set_other content.stays g h false false other

-- what is kept of contents by a test that the clean doesn't change is kept of those after it
has_gone : (keeps : Content → Bool) (g : ℕ) (s after : Line) (bytes : List ℕ) → ((content : Content) → keeps (gone_with g content) ≡ keeps content) →
    after.bytes ≡ s.bytes → after.others ≡ map (gone_with g) s.others → Has keeps s.bytes s.others bytes ↔ Has keeps after.bytes after.others bytes
has_gone keeps g s after bytes same loads gone = (
  λ has. elim has [
    | inl is ↦ inl (is ∙ sym loads)
    | inr kept ↦ inr (record {
      content = gone_with g kept.content;
      among = rw gone (in_map (gone_with g) s.others kept.content kept.among);
      kept = same kept.content ∙ kept.kept;
      is = kept.is;
    })
  ],
  λ has. elim has [
    | inl is ↦ inl (is ∙ loads)
    | inr kept ↦
        let from : (x : Content) × Contains s.others x × (gone_with g x ≡ kept.content) =
        from_map (gone_with g) s.others kept.content (rw gone at kept.among) in
        inr (record {
          content = from.0;
          among = from.1;
          kept = sym (same from.0) ∙ ap keeps from.2 ∙ kept.kept;
          is = ap (λ (x : Content). x.bytes) from.2 ∙ kept.is;
        })
  ],
)

none_kept : (g : ℕ) (s after : Line) (bytes : List ℕ) → after.others ≡ map (gone_with g) s.others →
    ¬ IsKept (stays_after g) after.others bytes
none_kept g s after bytes gone kept =
    let from : (x : Content) × Contains s.others x × (gone_with g x ≡ kept.content) =
    from_map (gone_with g) s.others kept.content (rw gone at kept.among) in
    let both : false ≡ true = sym (gone_own g from.0) ∙ ap (stays_after g) from.2 ∙ kept.kept in
    cc

only_loads : (g : ℕ) (s after : Line) (bytes : List ℕ) → after.bytes ≡ s.bytes → after.others ≡ map (gone_with g) s.others →
    (bytes ≡ s.bytes) ↔ Has (stays_after g) after.bytes after.others bytes
only_loads g s after bytes loads gone = (
  λ is. inl (is ∙ sym loads),
  λ has. elim has [
    | inl is ↦ is ∙ loads
    | inr kept ↦ absurd (none_kept g s after bytes gone kept)
  ],
)

same_hart : (h g : ℕ) → (h ≡ g) ⊎ (h ≢ g)
same_hart h g = elim (cases_Bool (h == g)) [
  | inl same ↦ inl (grind (arith, nat_tests, same))
  | inr other ↦ inr (grind (arith, nat_tests, other))
]

own_clean : (start : List ℕ) (l g : ℕ) (p : List PersistenceStep) (s after : Line) (bytes : List ℕ) → IsLine start l p s.bytes s.others →
    after.bytes ≡ s.bytes → after.others ≡ map (gone_with g) s.others →
    MayHoldFenced start l g (Clean g l ∷ p) bytes ↔ Has (stays_after g) after.bytes after.others bytes
own_clean start l g p s after bytes is loads gone = (
  λ c. (only_loads g s after bytes loads gone).0 ((clean_leaves start l g p bytes).0 c ∙ sym is.bytes),
  λ has. (clean_leaves start l g p bytes).1 ((only_loads g s after bytes loads gone).1 has ∙ is.bytes),
)

fenced_clean : (start : List ℕ) (l g h : ℕ) (p : List PersistenceStep) (s after : Line) (bytes : List ℕ) → IsLine start l p s.bytes s.others → h < 8 →
    after.bytes ≡ s.bytes → after.others ≡ map (gone_with g) s.others →
    MayHoldFenced start l h (Clean g l ∷ p) bytes ↔ Has (stays_after h) after.bytes after.others bytes
fenced_clean start l g h p s after bytes is few loads gone = elim (same_hart h g) [
  | inl same ↦ subst (λ (k : ℕ). MayHoldFenced start l k (Clean g l ∷ p) bytes ↔ Has (stays_after k) after.bytes after.others bytes) (sym same)
      (own_clean start l g p s after bytes is loads gone)
  | inr other ↦ (
    λ c. (has_gone (stays_after h) g s after bytes (λ x. gone_other g h x other) loads gone).0
        ((is.fenced h bytes few).0 ((clean_elsewhere start l h g l p bytes (inl (λ e. other (sym e)))).0 c)),
    λ has. (clean_elsewhere start l h g l p bytes (inl (λ e. other (sym e)))).1
        ((is.fenced h bytes few).1 ((has_gone (stays_after h) g s after bytes (λ x. gone_other g h x other) loads gone).1 has)),
  )
]

pub line_cleaned : (start : List ℕ) (l g : ℕ) (p : List PersistenceStep) (s after : Line) → IsLine start l p s.bytes s.others →
    after.bytes ≡ s.bytes → after.others ≡ map (gone_with g) s.others → IsLine start l (Clean g l ∷ p) after.bytes after.others
line_cleaned start l g p s after is loads gone = record {
  bytes = loads ∙ is.bytes;
  apart = λ content among.
      let from : (x : Content) × Contains s.others x × (gone_with g x ≡ content) = from_map (gone_with g) s.others content (rw gone at among) in
      λ e. is.apart from.0 from.1 (ap (λ (x : Content). x.bytes) from.2 ∙ e ∙ loads);
  distinct = λ one other c d same.
      let a : (x : Content) × Contains s.others x × (gone_with g x ≡ one) = from_map (gone_with g) s.others one (rw gone at c) in
      let b : (x : Content) × Contains s.others x × (gone_with g x ≡ other) = from_map (gone_with g) s.others other (rw gone at d) in
      let e : a.0 ≡ b.0 = is.distinct a.0 b.0 a.1 b.1 (ap (λ (x : Content). x.bytes) a.2 ∙ same ∙ sym (ap (λ (x : Content). x.bytes) b.2)) in
      sym a.2 ∙ ap (gone_with g) e ∙ b.2;
  now = λ bytes. (
    λ c. (has_gone each g s after bytes (λ x. refl) loads gone).0 ((is.now bytes).0 ((clean_adds start l g l p bytes).0 c)),
    λ has. (clean_adds start l g l p bytes).1 ((is.now bytes).1 ((has_gone each g s after bytes (λ x. refl) loads gone).1 has)),
  );
  fenced = λ h bytes few. fenced_clean start l g h p s after bytes is few loads gone;
}

-- A fence: the contents that stay after it, and no others.
kept_by_both : (g h : ℕ) (s after : Line) (bytes : List ℕ) → (content : Content) (other : Content) → Contains s.others content →
    Contains s.others other → stays_after g content ≡ true → stays_after h other ≡ true → content ≡ other →
    after.others ≡ filter (stays_after g) s.others → content.bytes ≡ bytes → IsKept (stays_after h) after.others bytes
kept_by_both g h s after bytes content other c d one two same left is = record {
  content = content;
  among = rw left (in_filter (stays_after g) s.others content c one);
  kept = ap (stays_after h) same ∙ two;
  is = is;
}

fenced_fence : (start : List ℕ) (l g h : ℕ) (p : List PersistenceStep) (s after : Line) (bytes : List ℕ) → IsLine start l p s.bytes s.others →
    after.bytes ≡ s.bytes → after.others ≡ filter (stays_after g) s.others →
    (Has (stays_after g) s.bytes s.others bytes × Has (stays_after h) s.bytes s.others bytes) ↔ Has (stays_after h) after.bytes after.others bytes
fenced_fence start l g h p s after bytes is loads left = (
  λ both. elim both.0 [
    | inl found ↦ inl (found ∙ sym loads)
    | inr one ↦ elim both.1 [
      | inl found ↦ inl (found ∙ sym loads)
      | inr two ↦ inr (kept_by_both g h s after bytes one.content two.content one.among two.among one.kept two.kept
          (is.distinct one.content two.content one.among two.among (one.is ∙ sym two.is)) left one.is)
    ]
  ],
  λ has. elim has [
    | inl found ↦ (inl (found ∙ loads), inl (found ∙ loads))
    | inr kept ↦
        let from : Contains s.others kept.content × (stays_after g kept.content ≡ true) =
        from_filter (stays_after g) s.others kept.content (rw left at kept.among) in (
          inr (record { content = kept.content; among = from.0; kept = from.1; is = kept.is }),
          inr (record { content = kept.content; among = from.0; kept = kept.kept; is = kept.is }),
        )
  ],
)

now_fence : (g : ℕ) (s after : Line) (bytes : List ℕ) → after.bytes ≡ s.bytes → after.others ≡ filter (stays_after g) s.others →
    Has (stays_after g) s.bytes s.others bytes ↔ Has each after.bytes after.others bytes
now_fence g s after bytes loads left = (
  λ has. elim has [
    | inl found ↦ inl (found ∙ sym loads)
    | inr kept ↦ inr (record {
      content = kept.content;
      among = rw left (in_filter (stays_after g) s.others kept.content kept.among kept.kept);
      kept = refl;
      is = kept.is;
    })
  ],
  λ has. elim has [
    | inl found ↦ inl (found ∙ loads)
    | inr kept ↦
        let from : Contains s.others kept.content × (stays_after g kept.content ≡ true) =
        from_filter (stays_after g) s.others kept.content (rw left at kept.among) in
        inr (record { content = kept.content; among = from.0; kept = from.1; is = kept.is })
  ],
)

pub line_fenced : (start : List ℕ) (l g : ℕ) (p : List PersistenceStep) (s after : Line) → g < 8 → IsLine start l p s.bytes s.others →
    after.bytes ≡ s.bytes → after.others ≡ filter (stays_after g) s.others → IsLine start l (Fence g ∷ p) after.bytes after.others
line_fenced start l g p s after few is loads left = record {
  bytes = loads ∙ is.bytes;
  apart = λ content among.
      let from : Contains s.others content × (stays_after g content ≡ true) = from_filter (stays_after g) s.others content (rw left at among) in
      λ e. is.apart content from.0 (e ∙ loads);
  distinct = λ one other c d same. is.distinct one other
      (from_filter (stays_after g) s.others one (rw left at c)).0 (from_filter (stays_after g) s.others other (rw left at d)).0 same;
  now = λ bytes. (
    λ c. (now_fence g s after bytes loads left).0 ((is.fenced g bytes few).0 ((fence_takes start l g p bytes).0 c)),
    λ has. (fence_takes start l g p bytes).1 ((is.fenced g bytes few).1 ((now_fence g s after bytes loads left).1 has)),
  );
  fenced = λ h bytes some. (
    λ c.
        let both : MayHoldFenced start l g p bytes × MayHoldFenced start l h p bytes = (fence_cuts start l g h p bytes).0 c in
        (fenced_fence start l g h p s after bytes is loads left).0 ((is.fenced g bytes few).0 both.0, (is.fenced h bytes some).0 both.1),
    λ has.
        let both : Has (stays_after g) s.bytes s.others bytes × Has (stays_after h) s.bytes s.others bytes = (fenced_fence start l g h p s after bytes is loads left).1 has in
        (fence_cuts start l g h p bytes).1 ((is.fenced g bytes few).1 both.0, (is.fenced h bytes some).1 both.1),
  );
}

-- before any step
pub line_at_start : (l : ℕ) (s : Line) → s.others ≡ [] → IsLine s.bytes l [] s.bytes s.others
line_at_start l s none =
    let nothing : (keeps : Content → Bool) (bytes : List ℕ) → (bytes ≡ s.bytes) ↔ Has keeps s.bytes s.others bytes = λ keeps bytes. (
      λ is. inl is,
      λ has. elim has [ inl is ↦ is | inr kept ↦ absurd (no_members kept.content (rw none at kept.among)) ],
    ) in record {
      bytes = refl;
      apart = λ content among. absurd (no_members content (rw none at among));
      distinct = λ one other c d same. absurd (no_members one (rw none at c));
      now = λ bytes. (
        λ c. (nothing each bytes).0 ((nothing_stored s.bytes l bytes).0 c),
        λ has. (nothing_stored s.bytes l bytes).1 ((nothing each bytes).1 has),
      );
      fenced = λ h bytes few. (
        λ c. (nothing (stays_after h) bytes).0 ((nothing_stored_fenced s.bytes l h bytes).0 c),
        λ has. (nothing_stored_fenced s.bytes l h bytes).1 ((nothing (stays_after h) bytes).1 has),
      );
    }

pub at_start : (l : ℕ) (s : LineState) → s.others.items ≡ [] → IsLineState s.bytes l [] s
at_start l s none = line_at_start l (line_of s) none
