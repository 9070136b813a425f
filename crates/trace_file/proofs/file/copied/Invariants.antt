use Rattle.std.proofs.Common.{◌≡◌, length, take}
use Rattle.trace_file.specs.Ranks.{copies_of, texts_of}
use Rattle.trace_file.proofs.file.copied.Given as goal

abbrev pub invariant-loop-text : goal.invariant-loop-text
invariant-loop-text l = record {
  texts : copies_of l.copies.items ≡ texts_of (take l.text-index l.texts);
  size : length l.copies.items ≡ l.text-index;
}
