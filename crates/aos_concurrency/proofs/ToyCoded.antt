-- The compiled toy shows the toy.
use Rattle.std.proofs.Common.{◌≡◌, ℕ, suc, ◌≤◌, ◌⊎◌, List, [], ◌∷◌, refl, sym, ◌∙◌, ap, subst, arith, length, drop, inl, inr, length-drop}
use Rattle.std.specs.Prelude.{Some, None, slice_get}
use Rattle.std.proofs.lemmas.Option.{slice_get_cases}
use Rattle.std.proofs.Math.Seq.{drop-cons}
use Rattle.std.proofs.Math.ListN.{drop_of_length-le}
use Rattle.aos_base.specs.declared.kernel.Did.{Did}
use Rattle.aos_base.specs.declared.kernel.Did.TheVariants.{Went}
use Rattle.aos_base.specs.Machine.{Choice, Turn}
use Rattle.aos_base.specs.Observation.{observation}
use Rattle.aos_concurrency.specs.LocalState.{Anyone}
use Rattle.aos_concurrency.specs.Simulates.{SameTurn, Simulates, Matches}
use Rattle.aos_concurrency.specs.Toy.{Command, Skip, Say, Raise, Take, Give, Until, Fork, Fail, Shared, Program, Frames, nothing_raised, whole_of, at_left, judges, first, toy, toy_turn, toy_past, toy_start, toy_run, Coded, code_of, coded, coded_turn, coded_start, coded_run, regions_past, raised}
use Rattle.aos_concurrency.proofs.Matching.{execution_matches, start_matches, observation_matches, events_match}

abbrev One : Shared → Shared → Type 0
One s t = s ≡ t

pub record Shows (s t : Shared) (w : Did) (f : Frames) (g : Coded) : Type 0 where
  pub rest : f.rest ≡ drop g.pc g.code
  pub regions : f.regions ≡ g.regions
  pub whole : f.whole ≡ g.code

-- what stands at a place, and behind it
at_place : (code : List Command) (pc : ℕ) → ((drop pc code ≡ []) × (slice_get code pc ≡ None) × (drop (suc pc) code ≡ [])) ⊎ ((c : Command) × (drop pc code ≡ c ∷ drop (suc pc) code) × (slice_get code pc ≡ Some c))
at_place code pc =
    elim (slice_get_cases code pc).1 [
      | inl r ↦ inr (r.0, drop-cons code pc r.0 r.1 ∙ ap (λ x. x ∷ drop (suc pc) code) r.3, r.2)
      | inr r ↦ inl (drop_of_length-le code r.0, r.1, (let le : length code ≤ suc pc = omega (arith, r.0) in drop_of_length-le code le))
    ]

abbrev SameTurns : Turn Shared Frames → Turn Shared Coded → Type 0
SameTurns x y = SameTurn One Shows x y

none_left : (s t : Shared) (f : Frames) (g : Coded) → s ≡ t → Shows s t Went f g → SameTurns (toy_turn s f []) (coded_turn t g None)
none_left s t f g p h = record { stores = p; frames = record { rest = h.rest; regions = h.regions; whole = h.whole }; left = refl; output = refl; begun = refl }

one_more : (s t : Shared) (f : Frames) (g : Coded) (c : Command) (rest : List Command) → s ≡ t → rest ≡ drop (suc g.pc) g.code → Shows s t Went f g → SameTurns (toy_turn s f (c ∷ rest)) (coded_turn t g (Some c))
one_more s t f g Skip rest p e h = record { stores = p; frames = record { rest = e; regions = h.regions; whole = h.whole }; left = refl; output = refl; begun = refl }
one_more s t f g (Say b) rest p e h = record { stores = p; frames = record { rest = e; regions = h.regions; whole = h.whole }; left = refl; output = refl; begun = refl }
one_more s t f g (Raise l) rest p e h = record { stores = ap (raised l) p; frames = record { rest = e; regions = h.regions; whole = h.whole }; left = refl; output = refl; begun = refl }
one_more s t f g (Take l) rest p e h = record { stores = p; frames = record { rest = h.rest; regions = h.regions; whole = h.whole }; left = refl; output = refl; begun = refl }
one_more s t f g (Give l) rest p e h = record { stores = p; frames = record { rest = h.rest; regions = h.regions; whole = h.whole }; left = refl; output = refl; begun = refl }
one_more s t f g (Until l n) rest p e h = record { stores = p; frames = record { rest = h.rest; regions = h.regions; whole = h.whole }; left = refl; output = refl; begun = refl }
one_more s t f g Fork rest p e h = record { stores = p; frames = record { rest = h.rest; regions = h.regions; whole = h.whole }; left = refl; output = refl; begun = refl }
one_more s t f g (Fail n) rest p e h = record { stores = p; frames = record { rest = h.rest; regions = h.regions; whole = h.whole }; left = refl; output = refl; begun = refl }

turns : (s t : Shared) (f : Frames) (g : Coded) → s ≡ t → Shows s t Went f g → SameTurns (toy_turn s f f.rest) (coded_turn t g (slice_get g.code g.pc))
turns s t f g p h =
    elim (at_place g.code g.pc) [
      | inl r ↦ subst (λ x. SameTurns (toy_turn s f x) (coded_turn t g (slice_get g.code g.pc))) (sym (h.rest ∙ r.0)) (subst (λ o. SameTurns (toy_turn s f []) (coded_turn t g o)) (sym r.1) (none_left s t f g p h))
      | inr r ↦ subst (λ x. SameTurns (toy_turn s f x) (coded_turn t g (slice_get g.code g.pc))) (sym (h.rest ∙ r.1)) (subst (λ o. SameTurns (toy_turn s f (r.0 ∷ drop (suc g.pc) g.code)) (coded_turn t g o)) (sym r.2) (one_more s t f g r.0 _ p refl h))
    ]

-- the first that is left is the one at the place
same_first : (s t : Shared) (w : Did) (f : Frames) (g : Coded) → Shows s t w f g → first f.rest ≡ slice_get g.code g.pc
same_first s t w f g h =
    elim (at_place g.code g.pc) [
      | inl r ↦ ap first (h.rest ∙ r.0) ∙ sym r.1
      | inr r ↦ ap first (h.rest ∙ r.1) ∙ sym r.2
    ]

pasts : (s t : Shared) (w : Did) (f : Frames) (g : Coded) → Shows s t w f g → Shows s t Went (toy_past f.rest f) ((coded).past g)
pasts s t w f g h =
    elim (at_place g.code g.pc) [
      | inl r ↦ record {
        rest = ap (λ x. (toy_past x f).rest) (h.rest ∙ r.0) ∙ h.rest ∙ r.0 ∙ sym r.2;
        regions = ap (λ x. (toy_past x f).regions) (h.rest ∙ r.0) ∙ h.regions ∙ ap (λ o. regions_past o g.regions) (sym r.1);
        whole = ap (λ x. (toy_past x f).whole) (h.rest ∙ r.0) ∙ h.whole;
      }
      | inr r ↦ record {
        rest = ap (λ x. (toy_past x f).rest) (h.rest ∙ r.1);
        regions = ap (λ x. (toy_past x f).regions) (h.rest ∙ r.1) ∙ (λ i. regions_past (sym r.2 i) (h.regions i));
        whole = ap (λ x. (toy_past x f).whole) (h.rest ∙ r.1) ∙ h.whole;
      }
    ]

pub toy_shown : Simulates One Shows Anyone toy coded
toy_shown = record {
  turn = turns;
  kept = λ s t f g p h w f' g' k. record { rest = k.rest; regions = k.regions; whole = k.whole };
  past = λ s t w f g goes p h. pasts s t w f g h;
  verdict = λ s t l c f g p h i. judges (p i) (same_first s t _ f g h i) c;
  regions = λ s t w f g may p h. h.regions;
  position = λ s t w f g may p h. ap at_left (ap length h.rest ∙ length-drop g.pc g.code);
  anew = λ s t w f g may p h. record { rest = h.whole; regions = refl; whole = h.whole };
  body = λ s t o f g p h. record { rest = ap (λ (x : Shared). x.commands) p; regions = refl; whole = ap (λ (x : Shared). x.commands) p };
  priority = λ s t o f g p h. refl;
}

module _ (p : Program) (budget : ℕ) (cs : List Choice) where
  matched : Matches One Shows Anyone (toy_run p budget cs) (coded_run p budget cs)
  matched =
      execution_matches One Shows Anyone toy coded toy_shown cs (toy_start p budget) (coded_start p budget) (λ later a l asks. tt)
      (start_matches One Shows Anyone toy coded toy_shown (nothing_raised p.forked) (nothing_raised p.forked) (whole_of p.commands) (code_of p.commands) budget refl (record { rest = refl; regions = refl; whole = refl }))

  -- for every list of commands, budget and schedule
  pub coded_seen : observation toy (toy_run p budget cs) ≡ observation coded (coded_run p budget cs)
  coded_seen = observation_matches One Shows Anyone toy coded toy_shown _ _ matched

  pub coded_told : (toy_run p budget cs).book.events ≡ (coded_run p budget cs).book.events
  coded_told = events_match One Shows Anyone toy coded toy_shown _ _ matched
