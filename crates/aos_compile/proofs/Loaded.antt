-- The modules of a program are those of the files, in load order, each under the name that its text gives it.
use Rattle.std.proofs.Common.{◌≡◌, ℕ, ◌<◌, List, [], ◌∷◌, ◌++◌, length, map, Option, Some, None, slice_get, sym, ap, ◌∙◌, append_assoc, append-nil, arith, inl, inr}
use Rattle.std.specs.List.{All}
use Rattle.std.proofs.lemmas.List.{map-append}
use Rattle.std.proofs.lemmas.List.Elements.{All-head, All-tail}
use Rattle.std.proofs.lemmas.Option.{slice_get_cases}
use Rattle.aos_base.specs.declared.text.Refusal.{Refusal}
use Rattle.aos_tree.specs.declared.module.Module.{Module as Tree}
use Rattle.aos_typed.specs.Program.{Module}
use Rattle.aos_symbols.specs.declared.breach.Breach.{Breach}
use Rattle.aos_symbols.specs.declared.env.Env.{Env}
use Rattle.aos_symbols.specs.Breaches.{first}
use Rattle.aos_symbols.specs.Outcome.{Outcome, refused, went, then, decided, passed, in_turn}
use Rattle.aos_symbols.specs.Judged.{judged}
use Rattle.aos_check_names.specs.Names.{name_breaches}
use Rattle.aos_symbols.proofs.Holds.{same_went, then_went}
use Rattle.aos_check_decl.specs.Pass.{declare}
use Rattle.aos_variables.specs.Parts.{spelling}
use Rattle.aos_compile.specs.Modules.{World, Bodies, bodies, module_of, extended, elaborated}
use Rattle.aos_reading.specs.Files.{Source}
use Rattle.aos_compile.specs.Files.{loaded}
use Rattle.aos_compile.proofs.Kept.{text_same}

-- what is refused never went
pub never_went : {A : Type 0} (r : Refusal) (a : A) → ◌≡◌ {A = Outcome A} (refused r) (went a) → ⊥
never_went r a e = cc

decided_went : {A : Type 0} (file : ℕ) (o : Option Breach) (x a : A) → decided file o x ≡ went a → x ≡ a
decided_went file None x a e = same_went x a e
decided_went file (Some b) x a e = absurd (never_went _ a e)

-- the names of the modules so far
abbrev pub names : World → List (List ℕ)
names w = map (λ m. m.name) w.modules

-- the name of a file's module
abbrev pub name_of : Option Source → List ℕ
name_of None = []
name_of (Some s) = spelling s.0 s.1.name

abbrev pub name_in : List Source → ℕ → List ℕ
name_in ss k = name_of (slice_get ss k)

extended_names : (w : World) (text : List ℕ) (m : Tree) (e : Env) (b : Bodies) → e.here.text ≡ text → names (extended w e m b) ≡ names w ++ spelling text m.name ∷ []
extended_names w text m e b is =
    map-append (λ (x : Module). x.name) w.modules (module_of e m b ∷ []) ∙ ap (λ t. names w ++ spelling t m.name ∷ []) is

elaborated_names : (a w : World) (file : ℕ) (text : List ℕ) (m : Tree) → elaborated a file text m ≡ went w → names w ≡ names a ++ spelling text m.name ∷ []
elaborated_names a w file text m is =
    let second = declare (length a.before) a.before a.types text m in
    let last : Env → Bodies → Outcome World = λ e b. went (extended a e m b) in
    let behind : Env → Outcome World = λ e. then (passed file (bodies e m)) (last e) in
    let one = then_went (passed file (judged (name_breaches text m) (tt {0}))) (λ n. then (passed file second) behind) w is in
    let two = then_went (passed file second) behind w one.2 in
    let three = then_went (passed file (bodies two.0 m)) (last two.0) w two.2 in
    let env = decided_went file (first second.breaches) second.answer two.0 two.1 in
    let same : two.0.here.text ≡ text = ap (λ (e : Env). e.here.text) (sym env) ∙ text_same (length a.before) a.before a.types text m in
    ap names (sym (same_went (extended a two.0 m three.0) w three.2)) ∙ extended_names a text m two.0 three.0 same

-- a file that there may be, behind the modules before it
abbrev load : World → ℕ → Option Source → Outcome World
load a k None = went a
load a k (Some s) = elaborated a k s.0 s.1

loaded_at : (ss : List Source) (a : World) (k : ℕ) (s : Source) → slice_get ss k ≡ Some s → loaded ss a k ≡ elaborated a k s.0 s.1
loaded_at ss a k s is = ap (load a k) is

step_names : (ss : List Source) (a b : World) (k : ℕ) → k < length ss → loaded ss a k ≡ went b → names b ≡ names a ++ name_in ss k ∷ []
step_names ss a b k lt is = elim (slice_get_cases ss k).1 [
  | inl found ↦ elaborated_names a b k found.0.0 found.0.1 (sym (loaded_at ss a k found.0 found.2) ∙ is) ∙ ap (λ o. names a ++ name_of o ∷ []) (sym found.2)
  | inr past ↦ absurd (omega (arith, past.0))
]

pub loaded_names : (ss : List Source) (order : List ℕ) (a w : World) → All (λ k. k < length ss) order → in_turn (loaded ss) a order ≡ went w → names w ≡ names a ++ map (name_in ss) order
loaded_names ss [] a w within is = ap names (sym (same_went a w is)) ∙ sym (append-nil (names a))
loaded_names ss (k ∷ ks) a w within is =
    let P : ℕ → Type 0 = λ j. j < length ss in
    let step = then_went (loaded ss a k) (λ b. in_turn (loaded ss) b ks) w is in
    loaded_names ss ks step.0 w (All-tail P k ks within) step.2 ∙ ap (λ l. l ++ map (name_in ss) ks) (step_names ss a step.0 k (All-head P k ks within) step.1)
    ∙ append_assoc (names a) (name_in ss k ∷ []) (map (name_in ss) ks)
