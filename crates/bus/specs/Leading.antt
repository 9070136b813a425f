-- Where the exchanges of a seat lead its hart, by one text.
use Rattle.std.specs.Prelude.{◌≡◌, ℕ, List, [], ◌∷◌, false}
use Rattle.hart.specs.Effect.{start}
use Rattle.hart.specs.declared.state.HartState.{HartState}
use Rattle.line_memory.specs.Memory.{Memory}
use Rattle.machine.specs.Represents.{text_bytes}
use Rattle.machine.specs.Histories.{is_renewing}
use Rattle.bus.specs.declared.exchange.Exchange.{Exchange}
use Rattle.bus.specs.Agreeing.{Exchanges}
use Rattle.bus.specs.Alone.{GoesAlone}

-- an exchange by a text that isn't renewed by it
pub record ExchangesBy (text : Memory) (s : HartState) (x : Exchange) (t : HartState) : Type 0 where
  pub exchanges : Exchanges text s x t
  pub kept : is_renewing x.request ≡ false

-- from its start hart h makes these exchanges, the newest first, by one text, and is `t` right after the last
abbrev pub HasMade : Memory → ℕ → List Exchange → HartState → Type 0
HasMade text h [] t = t ≡ start h
HasMade text h (x ∷ xs) t = (s : HartState) × HasMade text h xs s × ExchangesBy text s x t

-- from its start hart h makes these exchanges, by one text, and then so many steps alone, which lead to `t`
pub record IsLed (h : ℕ) (copy : List ℕ) (xs : List Exchange) (since : ℕ) (t : HartState) : Type 0 where
  pub from : HartState
  pub made : HasMade (text_bytes copy) h xs from
  pub alone : GoesAlone (text_bytes copy) since from t
