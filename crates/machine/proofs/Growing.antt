-- Further steps of one hart at the end of a schedule.
use Rattle.std.proofs.Common.{◌≡◌, ℕ, zero, suc, ◌+◌, List, [], ◌∷◌, ◌++◌, Some, length, slice_set, replicate, sym, ap, ◌∙◌, append_assoc, append-nil, arith}
use Rattle.std.specs.List.{slice_get}
use Rattle.std.proofs.lemmas.Grind.{flat_map-append}
use Rattle.std.proofs.lemmas.List.{replicate-append-replicate}
use Rattle.machine.specs.Steps.{all_steps, steps_of}
use Rattle.machine.specs.declared.schedule.items.Step.{Step}
use Rattle.machine.specs.declared.schedule.items.Step.TheVariants.{Hart}
use Rattle.machine.specs.declared.schedule.items.Item.{Item}
use Rattle.machine.specs.declared.schedule.items.Item.TheVariants.{Steps}

pub some_is : (a b : Item) → Some a ≡ Some b → a ≡ b
some_is a b e = cc

-- an item of their own
pub first : (items : List Item) (h count : ℕ) → all_steps (items ++ Steps h count ∷ []) ≡ all_steps items ++ replicate count (Hart h)
first items h count =
    flat_map-append steps_of items (Steps h count ∷ []) ∙ ap (λ (l : List Step). all_steps items ++ l) (append-nil (replicate count (Hart h)))

-- the last item has them too
pub more : (items : List Item) (end h count others : ℕ) → slice_get items end ≡ Some (Steps h count) → length items ≡ end + 1
    → all_steps (slice_set items end (Steps h (count + others))) ≡ all_steps items ++ replicate others (Hart h)
more [] end h count others last ends = absurd (omega (arith, ends))
more (item ∷ []) zero h count others last ends =
    rw (some_is item (Steps h count) last, append-nil (replicate count (Hart h)), append-nil (replicate (count + others) (Hart h)))
    (sym (replicate-append-replicate count others (Hart h)))
more (item ∷ []) (suc end) h count others last ends = absurd (omega (arith, ends))
more (item ∷ next ∷ rest) zero h count others last ends = absurd (omega (arith, ends))
more (item ∷ next ∷ rest) (suc end) h count others last ends =
    ap (λ (l : List Step). steps_of item ++ l) (more (next ∷ rest) end h count others last (omega (arith, ends)))
    ∙ sym (append_assoc (steps_of item) (all_steps (next ∷ rest)) (replicate others (Hart h)))
