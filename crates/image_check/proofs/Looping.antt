-- One step further in the loops over events and operations.
use Rattle.std.proofs.Common.{◌≡◌, ℕ, ◌+◌, ◌<◌, ◌≤◌, Bool, true, false, cond, ◌&&◌, List, [], ◌∷◌, ◌++◌, map, length, get_or, take, refl, sym, ap, ◌∙◌, subst, Option, Some, None, append-nil}
use Rattle.std.specs.Prelude.{filter, option_and_then, IsTrue}
use Rattle.std.specs.List.{flat_map}
use Rattle.std.specs.Option.{option_map_or}
use Rattle.std.proofs.lemmas.Grind.{flat_map-append}
use Rattle.std.proofs.lemmas.List.{get_or-map, length-map, take_all, take_more}
use Rattle.std.proofs.lemmas.List.Elements.{filter-append}
use Rattle.plan.specs.Entries.{entries_of}
use Rattle.plan.specs.declared.operation.Operation.{Operation}
use Rattle.plan.specs.declared.operation.PlannedEntry.{PlannedEntry}
use Rattle.nova_log.specs.declared.volume.entry.Entry.{Entry}
use Rattle.image_check.specs.Growth.{are_within, is_longer, is_shown}
use Rattle.image_check.specs.Legal.{with_entries}
use Rattle.image_check.specs.Planned.{operation_of, planned}
use Rattle.image_check.specs.declared.legal.UnderWay.{UnderWay}
use Rattle.image_check.proofs.Growing.{grown, none_fits, with_append}
use Rattle.image_check.proofs.Judging.{flat_cond}

-- what one operation adds, where it ends
planned_some : (plan : List Operation) (op : ℕ) (o : Operation) → operation_of plan op ≡ Some o → planned plan op ≡ entries_of o
planned_some plan op o e = ap (λ (p : Option Operation). option_map_or entries_of p []) e

planned_none : (plan : List Operation) (op : ℕ) → operation_of plan op ≡ None → planned plan op ≡ []
planned_none plan op e = ap (λ (p : Option Operation). option_map_or entries_of p []) e

pub settled_planned : (plan : List Operation) (op : ℕ) (o : Operation) (v w : List (List Entry)) → operation_of plan op ≡ Some o →
    with_entries v (entries_of o) ≡ Some w → with_entries v (planned plan op) ≡ Some w
settled_planned plan op o v w e g = ap (λ (es : List PlannedEntry). with_entries v es) (planned_some plan op o e) ∙ g

pub settled_unplanned : (plan : List Operation) (op : ℕ) (v : List (List Entry)) → operation_of plan op ≡ None → with_entries v (planned plan op) ≡ Some v
settled_unplanned plan op v e = ap (λ (es : List PlannedEntry). with_entries v es) (planned_none plan op e)

pub settled_unfit : (plan : List Operation) (op : ℕ) (o : Operation) (v : List (List Entry)) → operation_of plan op ≡ Some o →
    are_within (length v) (entries_of o) ≡ false → with_entries v (planned plan op) ≡ None
settled_unfit plan op o v e f = ap (λ (es : List PlannedEntry). with_entries v es) (planned_some plan op o e) ∙ none_fits v (entries_of o) f

-- the next operation adds its entries where it is shown
shown_entries_more : (f : ℕ → List PlannedEntry) (p : ℕ → Bool) (ops : List ℕ) (i d : ℕ) → i < length ops →
    flat_map f (filter p (take (i + 1) ops)) ≡ flat_map f (filter p (take i ops)) ++ cond (p (get_or ops i d)) (f (get_or ops i d)) []
shown_entries_more f p ops i d h =
    ap (λ (os : List ℕ). flat_map f (filter p os)) (take_more ops i d h)
    ∙ ap (λ (os : List ℕ). flat_map f os) (filter-append p (take i ops) (get_or ops i d ∷ []))
    ∙ flat_map-append f (filter p (take i ops)) (filter p (get_or ops i d ∷ []))
    ∙ ap (λ (es : List PlannedEntry). flat_map f (filter p (take i ops)) ++ es)
    (flat_cond (p (get_or ops i d)) f (get_or ops i d) [] ∙ append-nil (cond (p (get_or ops i d)) (f (get_or ops i d)) []))

pub shown_more : (plan : List Operation) (v w m n : List (List Entry)) (ops : List ℕ) (i d : ℕ) → i < length ops →
    with_entries v (flat_map (planned plan) (filter (λ op. is_shown v w (planned plan op)) (take i ops))) ≡ Some m →
    with_entries m (cond (is_shown v w (planned plan (get_or ops i d))) (planned plan (get_or ops i d)) []) ≡ Some n →
    with_entries v (flat_map (planned plan) (filter (λ op. is_shown v w (planned plan op)) (take (i + 1) ops))) ≡ Some n
shown_more plan v w m n ops i d h s g =
    ap (λ (es : List PlannedEntry). with_entries v es) (shown_entries_more (planned plan) (λ op. is_shown v w (planned plan op)) ops i d h)
    ∙ with_append v (flat_map (planned plan) (filter (λ op. is_shown v w (planned plan op)) (take i ops)))
    (cond (is_shown v w (planned plan (get_or ops i d))) (planned plan (get_or ops i d)) [])
    ∙ ap (λ (p : Option (List (List Entry))). option_and_then (λ x. with_entries x (cond (is_shown v w (planned plan (get_or ops i d))) (planned plan (get_or ops i d)) [])) p) s
    ∙ g

-- the same over pending operations
pub shown_next : (plan : List Operation) (v w m n : List (List Entry)) (under : List UnderWay) (i : ℕ) (d : UnderWay) → i < length under →
    with_entries v (flat_map (planned plan) (filter (λ op. is_shown v w (planned plan op)) (take i (map (λ u. u.op) under)))) ≡ Some m →
    with_entries m (cond (is_shown v w (planned plan (get_or under i d).op)) (planned plan (get_or under i d).op) []) ≡ Some n →
    with_entries v (flat_map (planned plan) (filter (λ op. is_shown v w (planned plan op)) (take (i + 1) (map (λ u. u.op) under)))) ≡ Some n
shown_next plan v w m n under i d h s g =
    let here : get_or (map (λ u. u.op) under) i d.op ≡ (get_or under i d).op = get_or-map (λ (u : UnderWay). u.op) under i d d.op h in
    shown_more plan v w m n (map (λ u. u.op) under) i d.op (subst (λ (k : ℕ). i < k) (sym (length-map under (λ (u : UnderWay). u.op))) h) s
    (subst (λ (op : ℕ). with_entries m (cond (is_shown v w (planned plan op)) (planned plan op) []) ≡ Some n) (sym here) g)

pub shown_last : (plan : List Operation) (v w m : List (List Entry)) (under : List UnderWay) (i : ℕ) → length under ≤ i →
    with_entries v (flat_map (planned plan) (filter (λ op. is_shown v w (planned plan op)) (take i (map (λ u. u.op) under)))) ≡ Some m →
    with_entries v (flat_map (planned plan) (filter (λ op. is_shown v w (planned plan op)) (map (λ u. u.op) under))) ≡ Some m
shown_last plan v w m under i h s =
    subst (λ (ops : List ℕ). with_entries v (flat_map (planned plan) (filter (λ op. is_shown v w (planned plan op)) ops)) ≡ Some m)
    (take_all i (map (λ u. u.op) under) (subst (λ (k : ℕ). k ≤ i) (sym (length-map under (λ (u : UnderWay). u.op))) h)) s

pub same_inodes : (v m : List (List Entry)) (es : List PlannedEntry) → with_entries v es ≡ Some m → length m ≡ length v
same_inodes v m es g = (grown v m es g).inodes

-- the operation with its entries, where it is shown
first_true : (a b : Bool) → (a && b) ≡ true → a ≡ true
first_true true b e = refl
first_true false b e = absurd cc

pub shown_fits : (v w m : List (List Entry)) (es : List PlannedEntry) → length m ≡ length v → is_shown v w es ≡ true → IsTrue (are_within (length m) es)
shown_fits v w m es e t = subst (λ (n : ℕ). are_within n es ≡ true) (sym e) (first_true (are_within (length v) es) (is_longer v w es) t)

pub added_shown : (plan : List Operation) (op : ℕ) (o : Operation) (v w m n : List (List Entry)) → operation_of plan op ≡ Some o →
    is_shown v w (entries_of o) ≡ true → with_entries m (entries_of o) ≡ Some n →
    with_entries m (cond (is_shown v w (planned plan op)) (planned plan op) []) ≡ Some n
added_shown plan op o v w m n e t g =
    ap (λ (p : Option Operation). with_entries m (cond (is_shown v w (option_map_or entries_of p [])) (option_map_or entries_of p []) [])) e
    ∙ ap (λ (b : Bool). with_entries m (cond b (entries_of o) [])) t
    ∙ g

pub added_hidden : (plan : List Operation) (op : ℕ) (o : Operation) (v w m : List (List Entry)) → operation_of plan op ≡ Some o →
    is_shown v w (entries_of o) ≡ false → with_entries m (cond (is_shown v w (planned plan op)) (planned plan op) []) ≡ Some m
added_hidden plan op o v w m e f =
    ap (λ (p : Option Operation). with_entries m (cond (is_shown v w (option_map_or entries_of p [])) (option_map_or entries_of p []) [])) e
    ∙ ap (λ (b : Bool). with_entries m (cond b (entries_of o) [])) f

pub added_unplanned : (plan : List Operation) (op : ℕ) (v w m : List (List Entry)) → operation_of plan op ≡ None →
    with_entries m (cond (is_shown v w (planned plan op)) (planned plan op) []) ≡ Some m
added_unplanned plan op v w m e =
    ap (λ (p : Option Operation). with_entries m (cond (is_shown v w (option_map_or entries_of p [])) (option_map_or entries_of p []) [])) e

-- whether an operation is shown
pub shown_planned : (plan : List Operation) (op : ℕ) (o : Operation) (v w : List (List Entry)) → operation_of plan op ≡ Some o →
    is_shown v w (planned plan op) ≡ is_shown v w (entries_of o)
shown_planned plan op o v w e = ap (λ (es : List PlannedEntry). is_shown v w es) (planned_some plan op o e)

pub shown_unplanned : (plan : List Operation) (op : ℕ) (v w : List (List Entry)) → operation_of plan op ≡ None → is_shown v w (planned plan op) ≡ false
shown_unplanned plan op v w e = ap (λ (es : List PlannedEntry). is_shown v w es) (planned_none plan op e)

-- operations of which none is shown
pub none_more : (p : ℕ → Bool) (under : List UnderWay) (i : ℕ) (d : UnderWay) → i < length under →
    filter p (take i (map (λ u. u.op) under)) ≡ [] → p (get_or under i d).op ≡ false → filter p (take (i + 1) (map (λ u. u.op) under)) ≡ []
none_more p under i d h s f =
    let here : get_or (map (λ u. u.op) under) i d.op ≡ (get_or under i d).op = get_or-map (λ (u : UnderWay). u.op) under i d d.op h in
    let inside : i < length (map (λ u. u.op) under) = subst (λ (k : ℕ). i < k) (sym (length-map under (λ (u : UnderWay). u.op))) h in
    ap (filter p) (take_more (map (λ u. u.op) under) i d.op inside)
    ∙ filter-append p (take i (map (λ u. u.op) under)) (get_or (map (λ u. u.op) under) i d.op ∷ [])
    ∙ ap (λ (xs : List ℕ). xs ++ filter p (get_or (map (λ u. u.op) under) i d.op ∷ [])) s
    ∙ ap (λ (b : Bool). cond b (get_or (map (λ u. u.op) under) i d.op ∷ []) []) (ap p here ∙ f)

pub none_last : (p : ℕ → Bool) (under : List UnderWay) (i : ℕ) → length under ≤ i → filter p (take i (map (λ u. u.op) under)) ≡ [] →
    filter p (map (λ u. u.op) under) ≡ []
none_last p under i h s =
    ap (filter p) (sym (take_all i (map (λ u. u.op) under) (subst (λ (k : ℕ). k ≤ i) (sym (length-map under (λ (u : UnderWay). u.op))) h))) ∙ s
