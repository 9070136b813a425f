use Rattle.std.proofs.Common.{◌≡◌, ◌∙◌, ◌<◌, Bool, ℕ, List, ap, arith, length, refl, rules, subst}
use Rattle.std.specs.Prelude.{◌↔◌, IsTrue, slice_index}
use Rattle.std.proofs.lemmas.List.{get_or_default}
use Rattle.routine_judge.proofs.OutsideAsking.{known_line}
use Rattle.routine_judge.specs.OutsideViews.{KnownView}
use Rattle.routine_judge.proofs.outside.replies.Known.has_line_of.Goals as goal

same_lines : (r : Bool) (one other x y : List ℕ) → one ≡ x → other ≡ y → (IsTrue r ↔ (one ≡ other)) → IsTrue r ↔ (x ≡ y)
same_lines r one other x y a b h =
    subst (λ (z : List ℕ). IsTrue r ↔ (x ≡ z)) b (subst (λ (z : List ℕ). IsTrue r ↔ (z ≡ other)) a h)

pub index-number-requires : goal.index-number-requires
index-number-requires g c =
    let size = c.requires.known.numbers.size in
    let there = c.requires.known.there c.args.line c.requires.named in
    let same = ap (λ (w : KnownView). length w.numbers) c.self.view_is in
    omega (arith, size, there, same)

pub line-requires : goal.line-requires
line-requires g c =
    let there = c.requires.known.there c.args.line c.requires.named in
    let size = c.requires.size in
    omega (arith, there, size)

pub returns : goal.returns
returns g c =
    let index = c.args.index.now in
    let there = c.requires.known.there c.args.line c.requires.named in
    let size = c.requires.known.numbers.size in
    let same = ap (λ (w : KnownView). length w.numbers) c.self.view_is in
    let less : c.args.line < length c.self.inside.numbers.items = omega (arith, size, there, same) in
    let test : IsTrue c.eq.result ↔ (c.line.result.now ≡ c.line-2.result.now) = search rules in
    same_lines c.eq.result c.line.result.now c.line-2.result.now _ _ c.line.ensures.value
    (known_line index.start index.start index.events c.args.self.now.numbers c.args.line _ c.line-2.result.now refl there
    (c.index-number.ensures ∙ get_or_default c.self.inside.numbers.items c.args.line c.index-number.result.now 0 less ∙ ap (λ (w : KnownView). slice_index w.numbers c.args.line) c.self.view_is) c.line-2.ensures.whole)
    test
