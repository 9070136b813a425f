-- What is known of a stream of which nothing is taken.
use Rattle.std.proofs.Common.{◌∙◌, ℕ, List, Option, Some, None, Result, Ok, Err, sym}
use Rattle.std.specs.Io.KnownBytes.{Keeps, ReadConsumes}

pub kept_more : (first second third : Option (List ℕ)) → Keeps first second → Keeps second third → Keeps first third
kept_more None second third before after = tt
kept_more (Some xs) None third before after = absurd before
kept_more (Some xs) (Some ys) None before after = absurd after
kept_more (Some xs) (Some ys) (Some zs) before after = after ∙ before

-- a read after what took nothing takes what it takes of the stream at first
pub kept_read : {E : Type 0} (first second third : Option (List ℕ)) (outcome : Result ℕ E) (buffer : List ℕ)
    → Keeps first second → ReadConsumes second third outcome buffer → ReadConsumes first third outcome buffer
kept_read None second third (Ok count) buffer before read = (tt, read.1)
kept_read (Some xs) None third (Ok count) buffer before read = absurd before
kept_read (Some xs) (Some ys) None (Ok count) buffer before read = absurd read.0
kept_read (Some xs) (Some ys) (Some zs) (Ok count) buffer before read = (sym before ∙ read.0, read.1)
kept_read first second third (Err e) buffer before read = kept_more first second third before read
