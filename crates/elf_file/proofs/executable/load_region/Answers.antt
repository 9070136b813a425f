use Rattle.std.proofs.Common.{◌≡◌, ◌+◌, ◌-◌, ◌++◌, ℕ, List, Vec, Global, length, take, drop, sym, ap, subst, ◌∙◌, arith}
use Rattle.std.specs.Prelude.{replicate}
use Rattle.elf_file.specs.Header.{header_count}
use Rattle.elf_file.proofs.Loading.{IsLoaded, IsNext, added_at, all_loaded, next_at, passed_at}
use Rattle.elf_file.proofs.executable.load_region.Goals as goal
use Rattle.elf_file.proofs.executable.load_region.Goals.{then-has_bytes_in+in_ok-append_at, else-has_bytes_in}

pub bytes-requires : goal.bytes-requires
bytes-requires c =
    (next_at c.args.file.now c.args.region (header_count c.args.file.now) c.loop-number.number c.read-header.result c.requires.region c.requires.headers (omega arith)
    c.read-header.ensures (sym c.has_bytes_in.ensures ∙ c.if-has_bytes_in.true)).in_file

pub append_at-requires : goal.append_at-requires
append_at-requires c =
    let next : IsNext c.args.file.now c.args.region c.loop-number.number c.read-header.result =
    next_at c.args.file.now c.args.region (header_count c.args.file.now) c.loop-number.number c.read-header.result c.requires.region c.requires.headers (omega arith)
    c.read-header.ensures (sym c.has_bytes_in.ensures ∙ c.if-has_bytes_in.true) in
    omega (arith, next.begins, next.behind, c.loop-number.invariant.size)

pub loop-number-preserved : goal.loop-number-preserved
loop-number-preserved c =
    let file = c.args.file.now in
    let region = c.args.region in
    let count : ℕ = header_count file in
    let header = c.read-header.result in
    let old : List ℕ = c.loop-number.bytes.items in
    let family : List ℕ → Type 0 = λ (b : List ℕ). IsLoaded file region (c.loop-number.number + 1) b in
    elim c.if-has_bytes_in.branch [
      | then-has_bytes_in+in_ok-append_at w ↦
          let front : List ℕ = old ++ replicate (header.address - region.base - length old) 0 in
          let last : c.if-has_bytes_in.bytes.items ≡ w.append_at.new.bytes.items = ap (λ (v : Vec ℕ Global). v.items) w.bytes-is in
          let appended : w.append_at.new.bytes.items ≡ front ++ w.bytes.result.now = w.in_ok-append_at.ensures in
          let more : front ++ w.bytes.result.now ≡ front ++ take header.file_size (drop header.offset file) = ap (λ (m : List ℕ). front ++ m) w.bytes.ensures in
          subst family (sym (last ∙ appended ∙ more))
          (added_at file region count c.loop-number.number old header c.requires.region c.requires.headers (omega arith)
          c.read-header.ensures (sym c.has_bytes_in.ensures ∙ w.if-has_bytes_in.true) c.loop-number.invariant)
      | else-has_bytes_in w ↦
          subst family (sym (ap (λ (v : Vec ℕ Global). v.items) w.bytes-is))
          (passed_at file region count c.loop-number.number old header c.requires.region c.requires.headers (omega arith)
          c.read-header.ensures (sym c.has_bytes_in.ensures ∙ w.if-has_bytes_in.false) c.loop-number.invariant)
    ]

pub returns : goal.returns
returns c =
    let n_is : c.loop-number.number ≡ header_count c.args.file.now = omega arith in
    let family : ℕ → Type 0 = λ (n : ℕ). IsLoaded c.args.file.now c.args.region n c.loop-number.bytes.items in
    all_loaded c.args.file.now c.args.region c.loop-number.bytes.items (subst family n_is c.loop-number.invariant)
