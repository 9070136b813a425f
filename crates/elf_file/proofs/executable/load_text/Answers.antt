use Rattle.std.proofs.Common.{◌≡◌, ◌-◌, ◌++◌, ℕ, List, length, ap, ◌∙◌, arith}
use Rattle.std.specs.Int.{next_multiple_of}
use Rattle.std.specs.Prelude.{replicate}
use Rattle.elf_file.proofs.Loading.{rounded_up}
use Rattle.elf_file.proofs.executable.load_text.Goals as goal

pub returns : goal.returns
returns c =
    let bytes : List ℕ = c.in_ok-text.text.items in
    let filled : c.fill_up.new.bytes.items ≡ bytes ++ replicate (c.next_multiple_of-size.result - length bytes) 0 = c.in_ok-fill_up.ensures in
    let size : c.next_multiple_of-size.result ≡ next_multiple_of (length bytes) 4 = omega arith in
    filled
    ∙ ap (λ (n : ℕ). bytes ++ replicate (n - length bytes) 0) size
    ∙ rounded_up c.args.file.now bytes c.requires.headers c.in_ok-text.ensures
