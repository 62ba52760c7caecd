-- The quiet initializers are themselves such a set: the largest.
use Rattle.std.proofs.Common.{ℕ, List, [], ◌∷◌, Bool, IsTrue}
use Rattle.aos_typed.specs.Program.{Program}
use Rattle.aos_uses.specs.declared.uses.Use.{Use}
use Rattle.aos_uses.specs.declared.uses.Use.TheVariants.{Writes, Reads, Varies, Follows, SelfValue, Calls, Raises, Finds, Binds, Makes}
use Rattle.aos_uses.specs.Guarded.{Each, Keeps, AreQuiet, IsQuiet}
use Rattle.aos_uses.specs.Uses.{routine_uses}

module _ (p : Program) where
  -- of each such set
  abbrev OfAll : ((ℕ → Type 0) → Type 0) → Type 0
  OfAll P = (set : ℕ → Bool) → AreQuiet p (λ k. IsTrue (set k)) → P (λ k. IsTrue (set k))

  union : (j : ℕ) (u : Use) → OfAll (λ Q. Keeps p Q j u) → Keeps p (IsQuiet p) j u
  union j (Writes t x) f = tt
  union j (Reads t) f = tt
  union j (Varies t) f = tt
  union j Follows f = tt
  union j SelfValue f = λ q. f q.set q.are_quiet q.is_in
  union j Calls f = λ q. f q.set q.are_quiet q.is_in
  union j (Raises t k) f = (
    λ q. record { set = q.set; are_quiet = q.are_quiet; is_in = (f q.set q.are_quiet).0 q.is_in },
    λ n named q. record { set = q.set; are_quiet = q.are_quiet; is_in = (f q.set q.are_quiet).1 n named q.is_in },
  )
  union j (Finds t k) f = λ n named q. f q.set q.are_quiet n named q.is_in
  union j Binds f = λ q. f q.set q.are_quiet q.is_in
  union j Makes f = λ q. f q.set q.are_quiet q.is_in

  union_each : (j : ℕ) (us : List Use) → OfAll (λ Q. Each (Keeps p Q j) us) → Each (Keeps p (IsQuiet p) j) us
  union_each j [] f = tt
  union_each j (u ∷ us) f = (union j u (λ set are. (f set are).0), union_each j us (λ set are. (f set are).1))

  pub quiet_are : AreQuiet p (IsQuiet p)
  quiet_are = record {
    initial = λ n q. q.are_quiet.initial n q.is_in;
    uses = λ n r e. union_each n (routine_uses p r) (λ set are. are.uses n r e);
  }
