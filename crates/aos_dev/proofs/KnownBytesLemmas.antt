-- What a reader lost or a writer gained over several calls, where it is known.
use Rattle.std.proofs.Common.{ℕ, List, ◌++◌, Option, Some, None, append_assoc}
use Rattle.std.specs.Io.KnownBytes.{Keeps, Appends, Consumes}

pub Appends-Appends : (old middle new : Option (List ℕ)) (first second : List ℕ)
    → Appends old middle first → Appends middle new second → Appends old new (first ++ second)
Appends-Appends None middle new first second before after = tt
Appends-Appends (Some xs) None new first second before after = absurd before
Appends-Appends (Some xs) (Some ys) None first second before after = absurd after
Appends-Appends (Some xs) (Some ys) (Some zs) first second before after = rw (after, before, append_assoc)

pub Appends-Keeps : (old middle new : Option (List ℕ)) (piece : List ℕ)
    → Appends old middle piece → Keeps middle new → Appends old new piece
Appends-Keeps None middle new piece before after = tt
Appends-Keeps (Some xs) None new piece before after = absurd before
Appends-Keeps (Some xs) (Some ys) None piece before after = absurd after
Appends-Keeps (Some xs) (Some ys) (Some zs) piece before after = rw after before

pub Consumes-Consumes : (old middle new : Option (List ℕ)) (first second : List ℕ)
    → Consumes old middle first → Consumes middle new second → Consumes old new (first ++ second)
Consumes-Consumes None middle new first second before after = tt
Consumes-Consumes (Some xs) None new first second before after = absurd before
Consumes-Consumes (Some xs) (Some ys) None first second before after = absurd after
Consumes-Consumes (Some xs) (Some ys) (Some zs) first second before after = simp (before, after, append_assoc)

pub Consumes-Keeps : (old middle new : Option (List ℕ)) (bytes : List ℕ)
    → Consumes old middle bytes → Keeps middle new → Consumes old new bytes
Consumes-Keeps None middle new bytes before after = tt
Consumes-Keeps (Some xs) None new bytes before after = absurd before
Consumes-Keeps (Some xs) (Some ys) None bytes before after = absurd after
Consumes-Keeps (Some xs) (Some ys) (Some zs) bytes before after = rw after before
