-- The window of a moment, as its parts are told of a list of numbers.
use Rattle.std.proofs.Common.{◌≡◌, ℕ, ◌<◌, ◌≤◌, List, length, get_or, sym, ap, ◌∙◌, subst, arith, Option, Some, None}
use Rattle.std.specs.Prelude.{IfSome, min}
use Rattle.std.proofs.lemmas.List.{length-map}
use Rattle.std.proofs.lemmas.Option.{slice_get-get_or, get_or_from_slice_get}
use Rattle.routine_judge.proofs.Ends.{first_within}
use Rattle.routine_judge.proofs.Spanning.{numbers_of, window_either, window_itself, window_through}
use Rattle.routine_judge.specs.Spans.{IsAloneIn, IsFirstAbove, IsHighest, NoneAbove, until_of}
use Rattle.routine_judge.specs.Windows.{IsWindow, first_end}
use Rattle.routine_judge.specs.declared.history.moments.Window.TheVariants.{Itself, Either, Through}
use Rattle.store_trace.specs.declared.event.Event.{Event}

-- there is a number of each event
pub sizes : (events : List Event) (numbers : List ℕ) → numbers ≡ numbers_of events → length numbers ≡ length events
sizes events numbers w = ap (λ (ns : List ℕ). length ns) w ∙ length-map events (until_of events)

-- a number, as an index tells it
pub told_number : (numbers : List ℕ) (b u : ℕ) → b < length numbers → u ≡ get_or numbers b u → u ≡ get_or numbers b 0
told_number numbers b u inside told = told ∙ sym (get_or_from_slice_get numbers b (get_or numbers b u) 0 (slice_get-get_or numbers b u inside))

-- the End of the operation that begins there
told_end : (events : List Event) (numbers : List ℕ) (b u e : ℕ) → numbers ≡ numbers_of events → b < length events →
    u ≡ get_or numbers b u → e ≡ min u (length events) → e ≡ min (get_or (numbers_of events) b 0) (length events)
told_end events numbers b u e w inside told ends =
    let number : u ≡ get_or (numbers_of events) b 0 = told_number numbers b u (omega (arith, inside, sizes events numbers w)) told ∙ ap (λ (ns : List ℕ). get_or ns b 0) w in
    ends ∙ ap (λ (n : ℕ). min n (length events)) number

pub told_itself : (events : List Event) (numbers : List ℕ) (m : ℕ) → numbers ≡ numbers_of events → m ≤ length events →
    NoneAbove numbers m → IsWindow events m Itself
told_itself events numbers m w there none = window_itself events m there (subst (λ (ns : List ℕ). NoneAbove ns m) w none)

pub told_either : (events : List Event) (numbers : List ℕ) (m b u e : ℕ) → numbers ≡ numbers_of events → m ≤ length events →
    IsFirstAbove numbers m b → u ≡ get_or numbers b u → e ≡ min u (length events) → IsAloneIn numbers b e → IsWindow events m (Either b e)
told_either events numbers m b u e w there f told ends alone =
    window_either events m b e there (subst (λ (ns : List ℕ). IsFirstAbove ns m b) w f)
    (told_end events numbers b u e w (omega (arith, there, f.before)) told ends) (subst (λ (ns : List ℕ). IsAloneIn ns b e) w alone)

pub told_through : (events : List Event) (numbers : List ℕ) (m b u e h l : ℕ) → numbers ≡ numbers_of events → m ≤ length events →
    IsFirstAbove numbers m b → u ≡ get_or numbers b u → e ≡ min u (length events) → ¬ IsAloneIn numbers b e → IsHighest numbers m h →
    l ≡ min h (length events) → IsWindow events m (Through b l)
told_through events numbers m b u e h l w there f told ends overlaps highest last =
    let here : e ≡ min (get_or (numbers_of events) b 0) (length events) = told_end events numbers b u e w (omega (arith, there, f.before)) told ends in
    subst (λ (n : ℕ). IsWindow events m (Through b n)) (sym last)
    (window_through events m b h there (subst (λ (ns : List ℕ). IsFirstAbove ns m b) w f)
    (λ a. overlaps (subst (λ (ns : List ℕ). IsAloneIn ns b e) (sym w) (subst (λ (n : ℕ). IsAloneIn (numbers_of events) b n) (sym here) a)))
    (subst (λ (ns : List ℕ). IsHighest ns m h) w highest))

-- the first Ends are events
pub few_ends : (events : List Event) (op : ℕ) (o : Option ℕ) → length events ≤ 65536 → o ≡ first_end events op → IfSome o (λ at. at < 65536)
few_ends events op None few e = tt
few_ends events op (Some at) few e = omega (arith, few, first_within events op at (sym e))
