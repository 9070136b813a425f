use Rattle.std.proofs.Common.{◌≡◌, ◌∙◌, ◌+◌, ◌-◌, ◌++◌, ℕ, List, [], ◌∷◌, Bor, map, sym, ap, subst, arith}
use Rattle.std.proofs.lemmas.List.{map_push}
use Rattle.elf_file.specs.Forms.{entry_at}
use Rattle.elf_file.specs.Repeated.{repeated}
use Rattle.elf_file.specs.Texts.{known_path, text_from}
use Rattle.elf_file.proofs.Repeating.{goes_on, stops, with_rest}
use Rattle.elf_file.proofs.lines.forms.paths_in.Goals as goal

pub returns-in_default : goal.returns-in_default
returns-in_default c =
    stops (entry_at c.args.formats.now (text_from c.args.strings.now)) (map known_path c.loop-number.paths.items) c.loop-number._number c.args.count
    c.loop-number.rest.now _ (omega arith) c.in_default.ensures c.loop-number.invariant

pub loop-number-preserved : goal.loop-number-preserved
loop-number-preserved c =
    let read = entry_at c.args.formats.now (text_from c.args.strings.now) in
    let front : List (List ℕ) = map known_path c.loop-number.paths.items in
    let path : List ℕ = known_path c.in-Some.path in
    let pushed : map known_path c.push.new.self.items ≡ front ++ path ∷ [] =
    ap (λ (l : List (Bor (List ℕ))). map known_path l) c.in_ok-push.ensures.items ∙ map_push known_path c.loop-number.paths.items c.in-Some.path in
    subst
    (λ (l : List (List ℕ)). with_rest l (repeated read (c.args.count - (c.loop-number._number + 1)) c.in-Some.behind.now) ≡ repeated read c.args.count c.args.bytes.now)
    (sym pushed)
    (goes_on read front path c.loop-number._number c.args.count c.loop-number.rest.now c.in-Some.behind.now _ (omega arith) c.in-Some.ensures c.loop-number.invariant)
