use Rattle.elf_file.proofs.lines.numbers.+unsigned_in.Given as goal

-- proposed from what the function passes where it calls itself
abbrev pub decreases-unsigned_in : goal.decreases-unsigned_in
decreases-unsigned_in l = l.most
