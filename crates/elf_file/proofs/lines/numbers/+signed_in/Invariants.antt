use Rattle.elf_file.proofs.lines.numbers.+signed_in.Given as goal

-- proposed from what the function passes where it calls itself
abbrev pub decreases-signed_in : goal.decreases-signed_in
decreases-signed_in l = l.most
