use Rattle.std.proofs.Common.{◌∙◌, map, sym}
use Rattle.elf_file.specs.Texts.{known_path}
use Rattle.elf_file.proofs.FileTables.{empty_path, file_passed, no_numbers, no_path}
use Rattle.elf_file.proofs.lines.files.files_in.Goals as goal

pub returns-then-is_empty : goal.returns-then-is_empty
returns-then-is_empty c =
    empty_path (map known_path c.loop-path.files.items) c.loop-path.invariant.0 c.loop-path.rest.now c.in-Some.path.now c.in-Some.behind.now _
    c.loop-path.invariant.1 c.in-Some.ensures.shorter c.in-Some.ensures.found (sym c.is_empty.ensures ∙ c.if-is_empty.true) c.loop-path.invariant.2

pub returns-in_default-behind_numbers : goal.returns-in_default-behind_numbers
returns-in_default-behind_numbers c =
    no_numbers (map known_path c.loop-path.files.items) c.loop-path.invariant.0 c.loop-path.rest.now c.in-Some.path.now c.in-Some.behind.now _
    c.in-Some.ensures.found (sym c.is_empty.ensures ∙ c.if-is_empty.false) c.in_default-behind_numbers.ensures.found c.loop-path.invariant.2

pub loop-path-preserved : goal.loop-path-preserved
loop-path-preserved c =
    rw c.in_ok-push.ensures.items
    (file_passed c.loop-path.files.items c.loop-path.invariant.0 c.loop-path.rest c.in-Some.path.now c.in-Some.behind.now c.in-Some-behind_numbers.behind.now _
    c.loop-path.invariant.1 c.in-Some.ensures.shorter c.in-Some-behind_numbers.ensures.shorter c.in-Some.ensures.found
    (sym c.is_empty.ensures ∙ c.if-is_empty.false) c.in-Some-behind_numbers.ensures.found c.loop-path.invariant.2)

pub returns : goal.returns
returns c =
    no_path (map known_path c.loop-path.files.items) c.loop-path.invariant.0 c.loop-path.rest.now _ c.in_default.ensures.found c.loop-path.invariant.2
