-- How many steps a seat has made.
use Rattle.std.proofs.Common.{◌≡◌, ℕ, ◌+◌, ◌<◌, ◌≤◌, List, [], ◌∷◌, ◌++◌, reverse, refl, ap, ◌∙◌, arith}
use Rattle.std.proofs.lemmas.List.{reverse-append}
use Rattle.bus.specs.declared.exchange.Exchange.{Exchange}
use Rattle.bus.specs.Seats.{AreCounted, steps_in}

pub since_within : (made budget since : ℕ) (xs : List Exchange) → AreCounted made budget since xs → since ≤ made
since_within made budget since xs c = let count = c.count in omega (arith, count)

pub since_fits : (made budget since : ℕ) (xs : List Exchange) → AreCounted made budget since xs → since ≤ 500000000
since_fits made budget since xs c =
    let count = c.count in
    let within = c.within in
    let limit = c.limit in
    omega (arith, count, within, limit)

pub made_within : (made budget since : ℕ) (xs : List Exchange) → AreCounted made budget since xs → made ≤ budget
made_within made budget since xs c = c.within

-- a seat that has made no step
pub counted_start : (budget : ℕ) (xs : List Exchange) → budget ≤ 500000000 → xs ≡ [] → AreCounted 0 budget 0 (reverse xs)
counted_start budget xs limit none = record { within = omega arith; limit = limit; count = rw none refl }

-- one step more without a request
pub counted_step : (made budget since : ℕ) (xs : List Exchange) → AreCounted made budget since xs → made < budget
    → AreCounted (made + 1) budget (since + 1) xs
counted_step made budget since xs c left =
    let count = c.count in
    record { within = omega (arith, left); limit = c.limit; count = omega (arith, count) }

-- one with a request
pub counted_exchange : (made budget since : ℕ) (xs ys : List Exchange) (x : Exchange) → AreCounted made budget since (reverse xs) → made < budget
    → ys ≡ xs ++ x ∷ [] → x.steps ≡ since → AreCounted (made + 1) budget 0 (reverse ys)
counted_exchange made budget since xs ys x c left added steps =
    let count = c.count in
    let turned : reverse ys ≡ x ∷ reverse xs = ap reverse added ∙ reverse-append xs (x ∷ []) in
    let sum : made + 1 ≡ ((x.steps + 1) + steps_in (reverse xs)) + 0 = omega (arith, count, steps) in
    record { within = omega (arith, left); limit = c.limit; count = rw turned sum }
