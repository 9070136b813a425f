-- What was found, sorted and each kept once.
use Rattle.std.proofs.Common.{◌≡◌, ◌∙◌, ◌++◌, List, ℕ, ap, eqb}
use Rattle.std.proofs.lemmas.List.Filters.{dedup_is}
use Rattle.store_trace.specs.Marks.{begun, ended, pending}
use Rattle.unfinished.specs.Causes.{numbers_of}
use Rattle.unfinished.proofs.Loops.{others}
use Rattle.unfinished.proofs.Numbers.{are_unended}
use Rattle.unfinished.proofs.operations.unended.Goals as goal

pub returns : goal.returns
returns c =
    let events = c.args.events.now in
    let numbers : List ℕ = numbers_of c.args.planned.now in
    let first : c.deref.result.now ≡ begun events = c.deref.ensures.value ∙ c.in_ok-begun.ensures in
    let second : c.deref-2.result.now ≡ ended events = c.deref-2.ensures.value ∙ c.in_ok-ended.ensures in
    let third : c.deref-3.result.now ≡ begun events = c.deref-3.ensures.value ∙ c.in_ok-begun.ensures in
    let found : c.note_missing.new.numbers.items ≡ pending events ++ others (begun events) numbers =
    c.in_ok-note_missing.ensures
    ∙ ap (λ (l : List ℕ). l ++ others c.deref-3.result.now numbers) c.in_ok-note_pending.ensures
    ∙ ap (λ (l : List ℕ). others c.deref-2.result.now l ++ others c.deref-3.result.now numbers) first
    ∙ ap (λ (l : List ℕ). others l (begun events) ++ others c.deref-3.result.now numbers) second
    ∙ ap (λ (l : List ℕ). others (ended events) (begun events) ++ others l numbers) third in
    are_unended numbers events c.note_missing.new.numbers.items c.sort.new.self.items c.dedup.new.self.items found c.in_ok-sort.ensures.permutation
    c.in_ok-sort.ensures.sorted (dedup_is eqb c.sort.new.self.items c.dedup.new.self.items c.dedup.ensures.filtered)
