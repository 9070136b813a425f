-- What is printed of an event, by the digits of the standard library.
use Rattle.std.specs.Prelude.{ℕ, List, ◌++◌, false, codes, decimal}
use Rattle.std.specs.Fmt.{digits}
use Rattle.store_trace.specs.declared.event.Event.{Event}
use Rattle.store_trace.specs.declared.event.Event.TheVariants.{Store, Clean, Fence, Begin, End}

abbrev pub act_printed : Event → List ℕ
act_printed (Store hart line offset width value) = codes "store l" ++ (decimal line ++ (codes "+" ++ (decimal offset
    ++ (codes " w" ++ (decimal width ++ (codes " 0x" ++ (digits 16 false value ++ codes "\n")))))))
act_printed (Clean hart line) = codes "clean l" ++ (decimal line ++ codes "\n")
act_printed (Fence hart) = codes "fence\n"
act_printed (Begin hart op) = codes "begin " ++ (decimal op ++ codes "\n")
act_printed (End hart op) = codes "end " ++ (decimal op ++ codes "\n")
