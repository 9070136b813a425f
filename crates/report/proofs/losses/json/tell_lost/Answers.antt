use Rattle.std.proofs.Common.{◌≡◌, ℕ, List, ◌++◌, OnOk, codes, string_bytes, subst}
use Rattle.report.specs.Named.{due_members}
use Rattle.report.proofs.losses.json.tell_lost.Goals as goal
use Rattle.report.specs.Json.{object_end}

pub returns : goal.returns
returns c =
    let told = λ (loss : List ℕ). codes "{\"kind\":\"lost\"," ++ (due_members c.args.due ++ (loss ++ object_end)) in
    subst (λ (loss : List ℕ). OnOk c.writeln.result (string_bytes c.writeln.new.self ≡ string_bytes c.args.text.now ++ told loss))
    c.named_loss.ensures.json c.writeln.ensures.bytes
