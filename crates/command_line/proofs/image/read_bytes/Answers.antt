-- The name is there, or it isn't.
use Rattle.std.proofs.Common.{option_map, refl, string_bytes, subst, sym}
use Rattle.std.specs.Result.{result_map_both}
use Rattle.command_line.specs.ImageFiles.{ReadsBytes}
use Rattle.command_line.proofs.image.read_bytes.Goals as goal

pub returns-in-Some : goal.returns-in-Some
returns-in-Some g c =
    subst (λ name. ReadsBytes g.F.Files.read_gives (option_map string_bytes name) c.args.files.now (result_map_both (λ bytes. bytes.items) (λ failure. failure) c.read_file.result) c.read_file.new.files)
    (sym c.in-Some.is) (rw c.as_str.ensures.value at c.read_file.ensures)

pub returns-in-None : goal.returns-in-None
returns-in-None g c =
    subst (λ name. ReadsBytes g.F.Files.read_gives (option_map string_bytes name) c.args.files.now (result_map_both (λ bytes. bytes.items) (λ failure. failure) c.zero_bytes.result) c.args.files.now)
    (sym c.in-None.is) (record { value = c.zero_bytes.ensures; untouched = refl })
