-- What keeps a seat's own list leading to where its hart is.
use Rattle.std.proofs.Common.{◌≡◌, ℕ, ◌+◌, List, [], ◌∷◌, ◌++◌, Bool, true, false, reverse, refl, sym, ap, ◌∙◌, subst}
use Rattle.std.specs.Prelude.{◌||◌}
use Rattle.std.proofs.lemmas.List.{reverse-append}
use Rattle.hart.specs.Effect.{answered, start}
use Rattle.hart.specs.Needs.{IsSpelledBy}
use Rattle.hart.specs.declared.state.HartState.{HartState}
use Rattle.isa_table.specs.declared.instruction.Instr.{Instr}
use Rattle.machine.specs.Run.{fetched}
use Rattle.machine.specs.Represents.{text_bytes}
use Rattle.machine.specs.Histories.{is_renewing}
use Rattle.bus.specs.declared.exchange.Exchange.{Exchange}
use Rattle.bus.specs.Agreeing.{Exchanges}
use Rattle.bus.specs.Alone.{Asks, StepsAlone}
use Rattle.bus.specs.Leading.{ExchangesBy, HasMade, IsLed}
use Rattle.bus.proofs.Agreeing.{goes_more}

-- at the start
pub led_start : (h : ℕ) (copy : List ℕ) (items : List Exchange) (t : HartState) → items ≡ [] → t ≡ start h → IsLed h copy (reverse items) 0 t
led_start h copy items t none first = record {
  from = t;
  made = subst (λ (l : List Exchange). HasMade (text_bytes copy) h (reverse l) t) (sym none) first;
  alone = refl;
}

-- one step more without a request
pub led_step : (h : ℕ) (copy : List ℕ) (xs : List Exchange) (since : ℕ) (s t : HartState) → IsLed h copy xs since s
    → StepsAlone (text_bytes copy) s t → IsLed h copy xs (since + 1) t
led_step h copy xs since s t led step = record {
  from = led.from;
  made = led.made;
  alone = goes_more (text_bytes copy) since led.from s t led.alone step;
}

pub led_step_if : (renewed : Bool) (h : ℕ) (copy : List ℕ) (xs : List Exchange) (since : ℕ) (s t : HartState) → (renewed ≡ false → IsLed h copy xs since s)
    → StepsAlone (text_bytes copy) s t → renewed ≡ false → IsLed h copy xs (since + 1) t
led_step_if renewed h copy xs since s t led step none = led_step h copy xs since s t (led none) step

neither : (a b : Bool) → (a || b) ≡ false → (a ≡ false) × (b ≡ false)
neither false false none = (refl, refl)
neither false true none = absurd (cc)
neither true b none = absurd (cc)

-- one exchange more
pub led_asked : (was now : Bool) (h : ℕ) (copy after : List ℕ) (xs ys : List Exchange) (x : Exchange) (s t : HartState) (instr : Instr) (since : ℕ)
    → (was ≡ false → IsLed h copy (reverse xs) since s) → x.steps ≡ since → Asks (text_bytes copy) s x.request
    → IsSpelledBy (fetched (text_bytes copy) s.pc) instr → t ≡ answered s instr x.reply → (is_renewing x.request ≡ false → after ≡ copy)
    → ys ≡ xs ++ x ∷ [] → now ≡ (was || is_renewing x.request) → now ≡ false → IsLed h after (reverse ys) 0 t
led_asked was now h copy after xs ys x s t instr since led steps asks spelled answer kept added is none =
    let both = neither was (is_renewing x.request) (sym is ∙ none) in
    let before : IsLed h copy (reverse xs) since s = led both.0 in
    let turned : x ∷ reverse xs ≡ reverse ys = sym (ap reverse added ∙ reverse-append xs (x ∷ [])) in
    let exchanges : Exchanges (text_bytes copy) before.from x t = record {
      at = s;
      alone = rw steps before.alone;
      asks = asks;
      instr = instr;
      spelled = spelled;
      answered = answer;
    } in
    let by : ExchangesBy (text_bytes copy) before.from x t = record { exchanges = exchanges; kept = both.1 } in
    let made : HasMade (text_bytes copy) h (x ∷ reverse xs) t = (before.from, before.made, by) in
    subst (λ (c : List ℕ). IsLed h c (reverse ys) 0 t) (sym (kept both.1)) (record {
      from = t;
      made = subst (λ (l : List Exchange). HasMade (text_bytes copy) h l t) turned made;
      alone = refl;
    })
