-- One arm more.
use Rattle.std.proofs.Common.{◌≡◌, List, [], ◌∷◌, ◌++◌, refl, ap}
use Rattle.aos_typed.specs.declared.tree.TArm.{TArm, out-TArm}
use Rattle.aos_typed.specs.declared.tree.TCase.{TCase, out-TCase}
use Rattle.aos_typed.specs.Program.{Arms, Arm, Cases, OfLabels}
use Rattle.aos_typed.specs.Seen.{seen_expr, seen_stats, cases_of}
use Rattle.aos_made_stat.specs.Onto.{onto}

pub onto_more : (bs : List TArm) (a : TArm) (others : Arms) → onto (bs ++ a ∷ []) others ≡ onto bs (let x = out-TArm a in Arm (seen_expr x.test) (seen_stats x.body.items) others)
onto_more [] a others = refl
onto_more (b ∷ bs) a others = let x = out-TArm b in ap (λ z. Arm (seen_expr x.test) (seen_stats x.body.items) z) (onto_more bs a others)

pub cases_more : (bs : List TCase) (a : TCase) (others : Cases) → cases_of (bs ++ a ∷ []) others ≡ cases_of bs (let x = out-TCase a in OfLabels x.labels.items (seen_stats x.body.items) others)
cases_more [] a others = refl
cases_more (b ∷ bs) a others = let x = out-TCase b in ap (λ z. OfLabels x.labels.items (seen_stats x.body.items) z) (cases_more bs a others)
