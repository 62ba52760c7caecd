-- What events make of a list of probes.
use Rattle.std.proofs.Common.{◌≡◌, ◌∙◌, List, [], ◌∷◌, ◌++◌, ap, refl, map}
use Rattle.aos_base.specs.declared.kernel.Event.{Event}
use Rattle.aos_probe.specs.Meaning.{Seen}
use Rattle.aos_probe.specs.Told.{told, after, after_all, told_all, those_left}

-- events behind others
pub after_all-append : (ds es : List Event) (ps : List Seen) → after_all (ds ++ es) ps ≡ after_all es (after_all ds ps)
after_all-append [] es ps = refl
after_all-append (d ∷ ds) es ps = after_all-append ds es (after d ps)

pub none_left : (es : List Event) → after_all es [] ≡ []
none_left [] = refl
none_left (e ∷ es) = none_left es

-- the first of the list goes on by itself
first_alone : (es : List Event) (p : Seen) (ps : List Seen) → after_all es (p ∷ ps) ≡ told_all es p ∷ after_all es ps
first_alone [] p ps = refl
first_alone (e ∷ es) p ps = first_alone es (told e p) (map (told e) ps)

pub each_folds : (es : List Event) (ps : List Seen) → after_all es ps ≡ those_left es ps
each_folds es [] = none_left es
each_folds es (p ∷ ps) = first_alone es p ps ∙ ap (λ qs. told_all es p ∷ qs) (each_folds es ps)
