-- What lanes opened, taken from one after the other.
use Rattle.std.proofs.Common.{◌≡◌, ℕ, ◌<◌, List, ◌++◌, Global, arith, cond, get_or, length, set, subst, sym}
use Rattle.std.proofs.lemmas.List.Elements.{All-append, All-set}
use Rattle.std.specs.Prelude.{All, IfOk, IfSome, Err, Ok, OnOk, Option, Result, is_ok}
use Rattle.std.specs.declared.vec.Vec.{Vec}
use Rattle.verdict.specs.Lanes.{AreLanes, AreTools, HasOpened}
use Rattle.verdict.specs.declared.branches.lanes.Lane.{Lane}
use Rattle.verdict.specs.declared.branches.pieces.Piece.{Piece}
use Rattle.verdict.specs.declared.branches.tools.Tools.{Tools}
use Rattle.verdict.proofs.Answering.{AreFrom}

-- the pieces are added, unless memory is refused
pub added : {Cause A E F : Type 0} (r : Result (Unit {0}) E) (opened : Result (Vec (Piece Cause) A) F) (theirs : Vec (Piece Cause) A) (new old : List (Piece Cause)) → opened ≡ Ok theirs →
    new ≡ cond (is_ok r) (old ++ theirs.items) old → OnOk r ((x : Vec (Piece Cause) A) × (opened ≡ Ok x) × (new ≡ old ++ x.items))
added (Ok _) opened theirs new old is e = (theirs, is, e)
added (Err _) opened theirs new old is e = tt

-- a lane that keeps its tools, among the others
pub lanes_set : {Workspace Cause : Type 0} (fits : Workspace → Type 0) (lines : ℕ) (lanes : List (Lane Workspace Cause)) (i : ℕ) (d new : Lane Workspace Cause) →
    i < length lanes → new.tools ≡ (get_or lanes i d).tools → AreLanes fits lines lanes → AreLanes fits lines (set lanes i new)
lanes_set {Workspace} {Cause} fits lines lanes i d new there same h =
    let P : Lane Workspace Cause → Type 0 = λ lane. IfSome lane.tools (AreTools fits lines) in
    let Q : Option (Tools Workspace) → Type 0 = λ tools. IfSome tools (AreTools fits lines) in
    All-set P lanes i new (subst Q (sym same) (h i d there)) h

-- all pieces are right, where those of the next lane are
pub all_taken : {Workspace Cause : Type 0} (right : Piece Cause → Type 0) (lanes : List (Lane Workspace Cause)) (i : ℕ) (d : Lane Workspace Cause) (theirs : Vec (Piece Cause) Global)
    (new old : List (Piece Cause)) → i < length lanes → (get_or lanes i d).opened ≡ Ok theirs → new ≡ old ++ theirs.items →
    AreFrom (HasOpened right) i lanes → All right old → All right new
all_taken right lanes i d theirs new old there is grown opened so_far =
    subst (All right) (sym grown) (All-append right old theirs.items so_far (subst (λ r. IfOk r (λ pieces. All right pieces.items)) is (opened i d (omega arith) there)))
