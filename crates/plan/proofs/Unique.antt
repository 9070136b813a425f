-- Words say one thing at most.
use Rattle.std.proofs.Common.{◌≡◌, ℕ, List, [], ◌∷◌, ◌++◌, codes, get_or, refl, sym, ◌∙◌, ap, arith, subst}
use Rattle.std.specs.List.{AllZip}
use Rattle.std.specs.Str.Parse.{digits_value}
use Rattle.nova_log.specs.declared.layout.Layout.{Layout}
use Rattle.nova_log.specs.declared.layout.Layout.TheVariants.{One, Two}
use Rattle.plan.specs.declared.operation.Action.{Action}
use Rattle.plan.specs.declared.operation.Action.TheVariants.{Append, Rename}
use Rattle.plan.specs.declared.operation.Operation.{Operation}
use Rattle.plan.proofs.Beginnings.{first_same, rest_same}
use Rattle.plan.proofs.Wordings.{keywords_differ}
use Rattle.plan.specs.Grammar.{IsNumber, Opens, SaysAction, SaysAppend, SaysCount, SaysInodes, SaysLayout, SaysOperation, SaysRename, layout_number}

pub number_unique : (a b : List ℕ) (m n : ℕ) → a ≡ b → IsNumber a m → IsNumber b n → m ≡ n
number_unique a b m n e x y = x.value ∙ ap (digits_value 10) e ∙ sym y.value

pub count_unique : (keyword other : List ℕ) (low high least most : ℕ) (words : List (List ℕ)) (m n : ℕ) → SaysCount keyword low high words m
    → SaysCount other least most words n → m ≡ n
count_unique keyword other low high least most words m n x y =
    let same : x.digits ≡ y.digits = first_same (x.digits ∷ []) x.digits y.digits [] [] refl
    (rest_same words keyword other (x.digits ∷ []) (y.digits ∷ []) x.spelled y.spelled) in
    number_unique x.digits y.digits m n same x.is_number y.is_number

append_unique : (words : List (List ℕ)) (i v j w : ℕ) → SaysAppend words i v → SaysAppend words j w → (i ≡ j) × (v ≡ w)
append_unique words i v j w x y =
    let first : x.inode_digits ≡ y.inode_digits =
    first_same words x.inode_digits y.inode_digits (x.value_digits ∷ []) (y.value_digits ∷ []) x.spelled y.spelled in
    let second : x.value_digits ≡ y.value_digits = first_same (x.value_digits ∷ []) x.value_digits y.value_digits [] [] refl
    (rest_same words x.inode_digits y.inode_digits (x.value_digits ∷ []) (y.value_digits ∷ []) x.spelled y.spelled) in
    (number_unique _ _ i j first x.inode_number y.inode_number, number_unique _ _ v w second x.value_number.is_number y.value_number.is_number)

pub record SameRename (f t : ℕ) (n : List ℕ) (v g u : ℕ) (m : List ℕ) (w : ℕ) : Type 0 where
  pub from : f ≡ g
  pub to : t ≡ u
  pub name : n ≡ m
  pub value : v ≡ w

rename_unique : (words : List (List ℕ)) (f t : ℕ) (n : List ℕ) (v g u : ℕ) (m : List ℕ) (w : ℕ) → SaysRename words f t n v → SaysRename words g u m w
    → SameRename f t n v g u m w
rename_unique words f t n v g u m w x y =
    let one = rest_same words x.from_digits y.from_digits (x.to_digits ∷ n ∷ x.value_digits ∷ []) (y.to_digits ∷ m ∷ y.value_digits ∷ []) x.spelled y.spelled in
    let two = rest_same (x.to_digits ∷ n ∷ x.value_digits ∷ []) x.to_digits y.to_digits (n ∷ x.value_digits ∷ []) (m ∷ y.value_digits ∷ []) refl one in
    let three = rest_same (n ∷ x.value_digits ∷ []) n m (x.value_digits ∷ []) (y.value_digits ∷ []) refl two in
    record {
      from = number_unique _ _ f g (first_same words x.from_digits y.from_digits _ _ x.spelled y.spelled) x.from_number y.from_number;
      to = number_unique _ _ t u (first_same (x.to_digits ∷ n ∷ x.value_digits ∷ []) x.to_digits y.to_digits _ _ refl one) x.to_number y.to_number;
      name = first_same (n ∷ x.value_digits ∷ []) n m _ _ refl two;
      value = number_unique _ _ v w (first_same (x.value_digits ∷ []) x.value_digits y.value_digits _ _ refl three) x.value_number.is_number y.value_number.is_number;
    }

action_unique : (keyword : List ℕ) (words : List (List ℕ)) (a b : Action) → SaysAction keyword words a → SaysAction keyword words b → a ≡ b
action_unique keyword words (Append i v) (Append j w) x y = let (inode, value) = append_unique words i v j w x.1 y.1 in cc
action_unique keyword words (Append i v) (Rename g u m w) x y = absurd (keywords_differ keyword x.0 y.0)
action_unique keyword words (Rename f t n v) (Append j w) x y = absurd (keywords_differ keyword y.0 x.0)
action_unique keyword words (Rename f t n v) (Rename g u m w) x y =
    let same = rename_unique words f t n v g u m w x.1 y.1 in
    let from = same.from in
    let to = same.to in
    let name = same.name in
    let value = same.value in
    cc

pub operation_of : (a b : Operation) → a.number ≡ b.number → a.action ≡ b.action → a ≡ b
operation_of a b e f = ap (λ (n : ℕ). let o : Operation = record { number = n; action = a.action } in o) e ∙ ap (λ (x : Action). let o : Operation = record { number = b.number; action = x } in o) f

pub operation_unique : (words : List (List ℕ)) (a b : Operation) → SaysOperation words a → SaysOperation words b → a ≡ b
operation_unique words a b x y =
    let one = rest_same words (codes "op") (codes "op") (x.number_digits ∷ x.keyword ∷ x.rest) (y.number_digits ∷ y.keyword ∷ y.rest) x.spelled y.spelled in
    let digits = first_same (x.number_digits ∷ x.keyword ∷ x.rest) x.number_digits y.number_digits (x.keyword ∷ x.rest) (y.keyword ∷ y.rest) refl one in
    let two = rest_same (x.number_digits ∷ x.keyword ∷ x.rest) x.number_digits y.number_digits (x.keyword ∷ x.rest) (y.keyword ∷ y.rest) refl one in
    let word = first_same (x.keyword ∷ x.rest) x.keyword y.keyword x.rest y.rest refl two in
    let rest = rest_same (x.keyword ∷ x.rest) x.keyword y.keyword x.rest y.rest refl two in
    let number : a.number ≡ b.number = number_unique _ _ a.number b.number digits x.number.is_number y.number.is_number in
    let action : a.action ≡ b.action =
    action_unique y.keyword y.rest a.action b.action
    (subst (λ (words : List (List ℕ)). SaysAction y.keyword words a.action) rest
    (subst (λ (w : List ℕ). SaysAction w x.rest a.action) word x.action)) y.action in
    operation_of a b number action

pub operations_unique : (all : List (List (List ℕ))) (a b : List Operation) → AllZip SaysOperation all a → AllZip SaysOperation all b → a ≡ b
operations_unique [] [] [] x y = refl
operations_unique [] [] (o ∷ b) x y = absurd y
operations_unique [] (o ∷ a) b x y = absurd x
operations_unique (l ∷ all) [] b x y = absurd x
operations_unique (l ∷ all) (o ∷ a) [] x y = absurd y
operations_unique (l ∷ all) (o ∷ a) (p ∷ b) x y =
    let first : o ≡ p = operation_unique l o p x.0 y.0 in
    let rest : a ≡ b = operations_unique all a b x.1 y.1 in
    cc

-- a line of the inodes is none of the layout
pub no_opening : (words : List (List ℕ)) (n : ℕ) (layout : Layout) → SaysInodes words n → SaysLayout words layout → ⊥
no_opening words n layout x y =
    let same = first_same words (codes "inodes") (codes "layout") (x.digits ∷ []) (y.digits ∷ []) x.spelled y.spelled in
    omega (arith, ap (λ (word : List ℕ). get_or word 0 0) same)

layout_unique : (a b : Layout) → layout_number a ≡ layout_number b → a ≡ b
layout_unique One One e = refl
layout_unique One Two e = absurd (omega arith)
layout_unique Two One e = absurd (omega arith)
layout_unique Two Two e = refl

-- where the line of the inodes stands, there is one layout, and the lines after are the same
pub record SameOpening (a b : Layout) (x y : List (List (List ℕ))) : Type 0 where
  pub layouts : a ≡ b
  pub rest : x ≡ y

pub tail_same : (x y : List (List ℕ)) (r s : List (List (List ℕ))) → x ∷ r ≡ y ∷ s → r ≡ s
tail_same x y r s e = cc

pub head_same : (x y : List (List ℕ)) (r s : List (List (List ℕ))) → x ∷ r ≡ y ∷ s → x ≡ y
head_same x y r s e = cc

inodes_along : (x y : List (List ℕ)) (n : ℕ) → x ≡ y → SaysInodes x n → SaysInodes y n
inodes_along x y n e s = subst (λ (words : List (List ℕ)). SaysInodes words n) e s

pub opening_unique : (a b : List (List (List ℕ))) (la lb : Layout) (i j : List (List ℕ)) (r s : List (List (List ℕ))) (m n : ℕ) → Opens a la → Opens b lb
    → SaysInodes i m → SaysInodes j n → a ++ i ∷ r ≡ b ++ j ∷ s → SameOpening la lb (i ∷ r) (j ∷ s)
opening_unique [] [] la lb i j r s m n oa ob x y e = record { layouts = oa ∙ sym ob; rest = e }
opening_unique [] (w ∷ []) la lb i j r s m n oa ob x y e = absurd (no_opening w m lb (inodes_along i w m (head_same i w r (j ∷ s) e) x) ob)
opening_unique [] (w ∷ v ∷ b) la lb i j r s m n oa ob x y e = absurd ob
opening_unique (w ∷ []) [] la lb i j r s m n oa ob x y e = absurd (no_opening w n la (inodes_along j w n (sym (head_same w j (i ∷ r) s e)) y) oa)
opening_unique (w ∷ []) (v ∷ []) la lb i j r s m n oa ob x y e = record {
  layouts = layout_unique la lb
      (count_unique (codes "layout") (codes "layout") 1 2 1 2 v (layout_number la) (layout_number lb)
      (subst (λ (words : List (List ℕ)). SaysLayout words la) (head_same w v (i ∷ r) (j ∷ s) e) oa) ob);
  rest = tail_same w v (i ∷ r) (j ∷ s) e;
}
opening_unique (w ∷ []) (v ∷ u ∷ b) la lb i j r s m n oa ob x y e = absurd ob
opening_unique (w ∷ v ∷ a) b la lb i j r s m n oa ob x y e = absurd oa

-- the line after the opening of a draft is that of the inodes, or one of the layout
pub inodes_at : (b : List (List (List ℕ))) (lb : Layout) (words j : List (List ℕ)) (r s : List (List (List ℕ))) (n : ℕ) → Opens b lb
    → SaysInodes j n → words ∷ r ≡ b ++ j ∷ s → ((l : Layout) → ¬ SaysLayout words l) → SaysInodes words n
inodes_at [] lb words j r s n ob y e none = inodes_along j words n (sym (head_same words j r s e)) y
inodes_at (w ∷ []) lb words j r s n ob y e none =
    absurd (none lb (subst (λ (words : List (List ℕ)). SaysLayout words lb) (sym (head_same words w r (j ∷ s) e)) ob))
inodes_at (w ∷ v ∷ b) lb words j r s n ob y e none = absurd ob

pub inodes_after : (b : List (List (List ℕ))) (la lb : Layout) (first words j : List (List ℕ)) (r s : List (List (List ℕ))) (n : ℕ) → SaysLayout first la
    → Opens b lb → SaysInodes j n → first ∷ words ∷ r ≡ b ++ j ∷ s → SaysInodes words n
inodes_after [] la lb first words j r s n oa ob y e = absurd (no_opening first n la (inodes_along j first n (sym (head_same first j (words ∷ r) s e)) y) oa)
inodes_after (w ∷ []) la lb first words j r s n oa ob y e =
    let rest = tail_same first w (words ∷ r) (j ∷ s) e in
    inodes_along j words n (sym (head_same words j r s rest)) y
inodes_after (w ∷ v ∷ b) la lb first words j r s n oa ob y e = absurd ob
