-- Bodies that are those of some of a program's routines, one more of them, and all.
use Rattle.std.proofs.Common.{◌≡◌, ◌<◌, ◌≤◌, ℕ, ◌+◌, List, [], ◌∷◌, ◌++◌, length, get_or, map, take, sym, ap, ◌∙◌, subst}
use Rattle.std.proofs.lemmas.List.{take_all}
use Rattle.aos_typed.specs.Program.{Program}
use Rattle.aos_typed.specs.Routines.{Routine, routines}
use Rattle.aos_code.specs.declared.image.Body.{Body}
use Rattle.aos_dispatch.specs.declared.routines.Routine.{Routine as CodeRoutine}
use Rattle.aos_dispatch.specs.Routines.{seen_routine, seen_routines}
use Rattle.aos_dispatch.proofs.Lists.{more_of, next_of}
use Rattle.aos_sim.specs.Code.{body_code}
use Rattle.aos_sim.specs.Need.{body_need}

pub record AreBodies (p : Program) (rs : List Routine) (bs : List Body) : Type 0 where
  pub code : map (λ b. b.code.items) bs ≡ map (λ r. body_code p r.own r.body) rs
  pub depths : map (λ b. b.depth) bs ≡ map (λ r. body_need r.body.statements) rs

module _ (p : Program) (rs : List CodeRoutine) (k : ℕ) (bs : List Body) where
  pub body_more : (bs' : List Body) (r : CodeRoutine) (b : Body) → k < length rs → r ≡ get_or rs k r → bs' ≡ bs ++ b ∷ [] → b.code.items ≡ body_code p (seen_routine r).own (seen_routine r).body → b.depth ≡ body_need (seen_routine r).body.statements → AreBodies p (seen_routines (take k rs)) bs → AreBodies p (seen_routines (take (k + 1) rs)) bs'
  body_more bs' r b lt at is code depth h =
      let xs = seen_routines (take k rs) in
      subst (λ l. AreBodies p l bs') (sym (next_of seen_routine rs k r lt at)) (subst (λ l. AreBodies p (xs ++ seen_routine r ∷ []) l) (sym is) (record {
        code = more_of (λ (x : Body). x.code.items) (λ (x : Routine). body_code p x.own x.body) bs xs b (seen_routine r) h.code code;
        depths = more_of (λ (x : Body). x.depth) (λ (x : Routine). body_need x.body.statements) bs xs b (seen_routine r) h.depths depth;
      }))

  pub bodies_all : length rs ≤ k → seen_routines rs ≡ routines p → AreBodies p (seen_routines (take k rs)) bs → AreBodies p (routines p) bs
  bodies_all le are h = subst (λ l. AreBodies p l bs) (ap seen_routines (take_all k rs le) ∙ are) h
