-- One more function of a table.
use Rattle.std.proofs.Common.{◌≡◌, ◌∙◌, ◌+◌, ◌<◌, ◌≤◌, ◌&&◌, ℕ, Bool, true, false, List, [], ◌∷◌, Option, Some, None, length, get_or, take, if◌then◌else◌, refl, sym, ap, subst, arith}
use Rattle.std.proofs.lemmas.List.{get_or-take, length-take}
use Rattle.std.proofs.lemmas.List.Sums.{fold_more}
use Rattle.std.proofs.lemmas.Option.{slice_get-get_or}
use Rattle.std.specs.Bool.{then_some}
use Rattle.std.proofs.lemmas.Bool.{and_parts, leb-true}
use Rattle.std.specs.List.{fold}
use Rattle.std.specs.Prelude.{nat_le, nat_lt, slice_get}
use Rattle.elf_file.specs.FunctionNumbers.{IsNumberAt, address_in, begins_behind}
use Rattle.elf_file.specs.FunctionSymbols.{FunctionSymbol}
use Rattle.elf_file.specs.Functions.{chosen, function_at, has_address}

and_true : (b : Bool) → (b && true) ≡ b
and_true true = refl
and_true false = refl

-- a function among the first ones of a table
got : (table : List FunctionSymbol) (m k : ℕ) (d : FunctionSymbol) → m < k → k ≤ length table → slice_get (take k table) m ≡ Some (get_or table m d)
got table m k d less within =
    slice_get-get_or (take k table) m d (omega (arith, length-take k table))
    ∙ ap (λ (f : FunctionSymbol). Some f) (get_or-take k table m d less)

inside : (table : List FunctionSymbol) (m k : ℕ) → m < k → k ≤ length table → m < length (take k table)
inside table m k less within = omega (arith, length-take k table)

next : (table : List FunctionSymbol) (pc n : ℕ) (d : FunctionSymbol) (o : Option FunctionSymbol) → n < length table → function_at (take n table) pc ≡ o
    → function_at (take (n + 1) table) pc ≡ chosen pc o (get_or table n d)
next table pc n d o within is =
    fold_more (chosen pc) None table n d within ∙ ap (λ (best : Option FunctionSymbol). chosen pc best (get_or table n d)) is

-- what is compared of two functions of the table
compared : (table : List FunctionSymbol) (pc m n : ℕ) (d : FunctionSymbol) (b : Bool) → m < length table → n < length table
    → (has_address (get_or table n d) pc && begins_behind table n (Some m)) ≡ b
    → (has_address (get_or table n d) pc && nat_lt (get_or table m d).address (get_or table n d).address) ≡ b
compared table pc m n d b there within is =
    let first : address_in (slice_get table m) ≡ (get_or table m d).address = ap address_in (slice_get-get_or table m d there) in
    let second : address_in (slice_get table n) ≡ (get_or table n d).address = ap address_in (slice_get-get_or table n d within) in
    ap (λ (a : ℕ). has_address (get_or table n d) pc && nat_lt a (get_or table n d).address) (sym first)
    ∙ ap (λ (a : ℕ). has_address (get_or table n d) pc && nat_lt (address_in (slice_get table m)) a) (sym second)
    ∙ is

below : (table : List FunctionSymbol) (m n : ℕ) → m < length (take n table) → n < length table → m < n
below table m n less within = omega (arith, length-take n table)

-- the best one stays
pub kept : (table : List FunctionSymbol) (pc n : ℕ) (d : FunctionSymbol) (best : Option ℕ) → n < length table
    → (has_address (get_or table n d) pc && begins_behind table n best) ≡ false
    → IsNumberAt (take n table) pc best → IsNumberAt (take (n + 1) table) pc best
kept table pc n d None within fails is =
    next table pc n d None within is
    ∙ ap (λ (b : Bool). then_some b (get_or table n d)) (sym (and_true (has_address (get_or table n d) pc)) ∙ fails)
kept table pc n d (Some m) within fails is =
    let less : m < n = below table m n is.0 within in
    let was : function_at (take n table) pc ≡ Some (get_or table m d) = is.1 ∙ got table m n d less (omega arith) in
    let choice : (has_address (get_or table n d) pc && nat_lt (get_or table m d).address (get_or table n d).address) ≡ false =
    compared table pc m n d false (omega arith) within fails in (
      inside table m (n + 1) (omega arith) (omega arith),
      next table pc n d (Some (get_or table m d)) within was
          ∙ ap (λ (b : Bool). if b then Some (get_or table n d) else Some (get_or table m d)) choice
          ∙ sym (got table m (n + 1) d (omega arith) (omega arith)),
    )

-- this one is better
pub taken : (table : List FunctionSymbol) (pc n : ℕ) (d : FunctionSymbol) (best : Option ℕ) → n < length table
    → (has_address (get_or table n d) pc && begins_behind table n best) ≡ true
    → IsNumberAt (take n table) pc best → IsNumberAt (take (n + 1) table) pc (Some n)
taken table pc n d None within passes is = (
  inside table n (n + 1) (omega arith) (omega arith),
  next table pc n d None within is
      ∙ ap (λ (b : Bool). then_some b (get_or table n d)) (sym (and_true (has_address (get_or table n d) pc)) ∙ passes)
      ∙ sym (got table n (n + 1) d (omega arith) (omega arith)),
)
taken table pc n d (Some m) within passes is =
    let less : m < n = below table m n is.0 within in
    let was : function_at (take n table) pc ≡ Some (get_or table m d) = is.1 ∙ got table m n d less (omega arith) in
    let choice : (has_address (get_or table n d) pc && nat_lt (get_or table m d).address (get_or table n d).address) ≡ true =
    compared table pc m n d true (omega arith) within passes in (
      inside table n (n + 1) (omega arith) (omega arith),
      next table pc n d (Some (get_or table m d)) within was
          ∙ ap (λ (b : Bool). if b then Some (get_or table n d) else Some (get_or table m d)) choice
          ∙ sym (got table n (n + 1) d (omega arith) (omega arith)),
    )

-- a function that is found has the address
abbrev HasIt : ℕ → Option FunctionSymbol → Type 0
HasIt pc None = Unit {0}
HasIt pc (Some f) = has_address f pc ≡ true

first_has : (pc : ℕ) (f : FunctionSymbol) (b : Bool) → has_address f pc ≡ b → HasIt pc (then_some b f)
first_has pc f true e = e
first_has pc f false e = tt

later_has : (pc : ℕ) (g f : FunctionSymbol) (b c : Bool) → has_address f pc ≡ b → has_address g pc ≡ true → HasIt pc (if b && c then Some f else Some g)
later_has pc g f true true e h = e
later_has pc g f true false e h = h
later_has pc g f false c e h = h

one_has : (pc : ℕ) (o : Option FunctionSymbol) (f : FunctionSymbol) → HasIt pc o → HasIt pc (chosen pc o f)
one_has pc None f h = first_has pc f (has_address f pc) refl
one_has pc (Some g) f h = later_has pc g f (has_address f pc) (nat_lt g.address f.address) refl h

all_have : (table : List FunctionSymbol) (pc : ℕ) (o : Option FunctionSymbol) → HasIt pc o → HasIt pc (fold (chosen pc) o table)
all_have [] pc o h = h
all_have (f ∷ table) pc o h = all_have table pc (chosen pc o f) (one_has pc o f h)

-- so it doesn't begin behind it
pub address_below : (table : List FunctionSymbol) (pc n : ℕ) (f : FunctionSymbol) → IsNumberAt table pc (Some n) → f ≡ get_or table n f → f.address ≤ pc
address_below table pc n f is read =
    let found : function_at table pc ≡ Some f = is.1 ∙ slice_get-get_or table n f is.0 ∙ ap (λ (g : FunctionSymbol). Some g) (sym read) in
    let has : has_address f pc ≡ true = subst (HasIt pc) found (all_have table pc None tt) in
    leb-true f.address pc (and_parts (nat_le f.address pc) (nat_lt pc (f.address + f.size)) has).0

-- the same by the two tests apart
pub kept_by_address : (table : List FunctionSymbol) (pc n : ℕ) (d : FunctionSymbol) (best : Option ℕ) → n < length table
    → has_address (get_or table n d) pc ≡ false → IsNumberAt (take n table) pc best → IsNumberAt (take (n + 1) table) pc best
kept_by_address table pc n d best within fails is =
    kept table pc n d best within (ap (λ (b : Bool). b && begins_behind table n best) fails) is

both : (a b : Bool) → a ≡ true → b ≡ true → (a && b) ≡ true
both a b x y = ap (λ (t : Bool). t && b) x ∙ y

pub kept_by_order : (table : List FunctionSymbol) (pc n : ℕ) (d : FunctionSymbol) (best : Option ℕ) → n < length table
    → has_address (get_or table n d) pc ≡ true → begins_behind table n best ≡ false
    → IsNumberAt (take n table) pc best → IsNumberAt (take (n + 1) table) pc best
kept_by_order table pc n d best within has fails is =
    kept table pc n d best within (ap (λ (t : Bool). t && begins_behind table n best) has ∙ fails) is

pub taken_by_both : (table : List FunctionSymbol) (pc n : ℕ) (d : FunctionSymbol) (best : Option ℕ) → n < length table
    → has_address (get_or table n d) pc ≡ true → begins_behind table n best ≡ true
    → IsNumberAt (take n table) pc best → IsNumberAt (take (n + 1) table) pc (Some n)
taken_by_both table pc n d best within has passes is =
    taken table pc n d best within (both (has_address (get_or table n d) pc) (begins_behind table n best) has passes) is
