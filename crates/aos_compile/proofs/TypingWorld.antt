-- Worlds whose modules break no rule, and what one module more declares.
use Rattle.std.proofs.Common.{◌≡◌, ℕ, suc, ◌+◌, ◌<◌, ◌≤◌, List, [], ◌∷◌, length, map, true, All, Option, Some, None, slice_get, sum_by, zip, refl, sym, ap, ◌∙◌, subst, length-append, arith}
use Rattle.std.specs.List.{flat_map}
use Rattle.std.proofs.lemmas.Option.{none-some, same_Some, slice_get_within}
use Rattle.aos_base.specs.declared.limits.TheConstants.{MOST_SCALARS}
use Rattle.aos_tree.specs.declared.decl.Def.{Def}
use Rattle.aos_tree.specs.declared.module.Module.{Module as Tree}
use Rattle.aos_types.specs.declared.row.TypeId.{TypeId}
use Rattle.aos_types.specs.Table.{row_of, is_object}
use Rattle.aos_typed.specs.Program.{Nothing, Procedure as TypedProcedure, ObjectType}
use Rattle.aos_typed.specs.WellTyped.{AreStatements, IsProcedure}
use Rattle.aos_symbols.specs.declared.scope.Entry.{Entry}
use Rattle.aos_symbols.specs.declared.scope.Meaning.TheVariants as means
use Rattle.aos_symbols.specs.declared.home.ObjectScope.{ObjectScope}
use Rattle.aos_types.specs.declared.signature.Signature.{Signature}
use Rattle.aos_symbols.specs.declared.env.Env.{Env}
use Rattle.aos_symbols.specs.Declarations.{Procedure, procedures, methods_in, all_procedures, type_defs, single_variables, procedure_defs}
use Rattle.aos_symbols.specs.Scope.{Scope, find}
use Rattle.aos_symbols.specs.Home.{object_of}
use Rattle.aos_symbols.proofs.Each.{Each}
use Rattle.aos_symbols.proofs.Told.{get_front}
use Rattle.aos_check_expr.proofs.Opens.{some_there}
use Rattle.aos_check_decl.proofs.Typing.{AreReady, IsReady, IsHeading, IsDeclared}
use Rattle.aos_arguments.specs.Filled.{filled_texts}
use Rattle.aos_variables.specs.Parts.{first_scope, variables_of, variable_of}
use Rattle.aos_compile.specs.Modules.{World, no_modules, program_of, Bodies, procedure_of, module_of}
use Rattle.aos_compile.proofs.Keeping.{WorldKeeps, none_keep}
use Rattle.aos_compile.proofs.OwnMethods.{AreNamed, are_named}
use Rattle.aos_compile.proofs.Strings.{filled_below}
use Rattle.aos_compile.proofs.TypingHomes.{IsHome, AreHomes, home_at}
use Rattle.aos_compile.proofs.TypingLocals.{types_beside}
use Rattle.aos_compile.proofs.TypingMethods.{HasOwn}
use Rattle.aos_compile.proofs.TypingObjects.{IsShaped, IsBeside}
use Rattle.aos_compile.proofs.TypingOutlook.{outlook}
use Rattle.aos_compile.proofs.TypingProcedures.{IsSignature, heading_signature, procedures_long, signatures_are}
use Rattle.aos_compile.proofs.TypingScopes.{variables_are, procedures_are}
use Rattle.aos_compile.proofs.TypingSums.{home_scalars}
use Rattle.aos_compile.proofs.TypingTypes.{basic_ready}

-- what is typed of it
pub record AreTyped (w : World) : Type 0 where
  pub bodies : Each (λ m. AreStatements (program_of w) None m.body.statements) w.modules
  pub objects : (k : ℕ) (o : ObjectType) → slice_get w.objects k ≡ Some o → IsBeside (program_of w) k o
  pub procedures : Each (λ m. All (λ q. IsProcedure (program_of w) q × (q.of ≡ None)) m.procedures) w.modules

pub record IsWorld (w : World) : Type 0 where
  pub homes : AreHomes w.types 0 w.before w.modules
  pub count : length w.types ≡ 10 + length w.objects
  pub shapes : (k : ℕ) (o : ObjectType) → slice_get w.objects k ≡ Some o → IsShaped w.types k o
  pub own : (t : TypeId) → 10 ≤ t.0 → t.0 < length w.types → HasOwn (outlook w.before w.types) w.modules w.objects t
  pub table : AreReady w.types
  pub typed : AreTyped w
  pub scalars : sum_by (home_scalars w.types) w.before ≤ MOST_SCALARS
  pub keeps : WorldKeeps w

pub no_world : IsWorld no_modules
no_world = record {
  homes = tt;
  count = refl;
  shapes = λ k o there. absurd (none-some o there);
  own = λ t high below. absurd (omega (arith, high, below));
  table = basic_ready;
  typed = record { bodies = tt; objects = λ k o there. absurd (none-some o there); procedures = tt };
  scalars = let few : 0 ≤ MOST_SCALARS = omega arith in few;
  keeps = none_keep;
}

module _ (w : World) (sound : IsWorld w) (text : List ℕ) (m : Tree) where
  pub ready : IsReady w.before w.types
  ready = record {
    names = λ n h k s v x of at place here found means. (home_at w.types w.before w.modules sound.homes n h at).2.names k s v x of place here found means;
    objects = λ n h t o at found. let one = (home_at w.types w.before w.modules sound.homes n h at).2.objects t o found in (one.0, one.2);
    constants = λ n h k s at here. (home_at w.types w.before w.modules sound.homes n h at).2.good k s here;
    fields = λ n h at. (home_at w.types w.before w.modules sound.homes n h at).2.fields;
    table = sound.table;
  }

  module _ (e : Env) (is : IsDeclared (length w.before) w.before w.types text m e) where
    -- the numbers of variables and of procedures that its own scope names
    numbers : (v : List ℕ) (x : Entry) (k : ℕ) → find is.own v ≡ Some x → x.means ≡ means.Variable k → k < length is.own.variables
    numbers v x k found means =
        subst (λ n. k < n) (sym is.count)
        (variables_are text w.before is.numbers m v x k (ap (λ es. find (record { entries = es; constants = []; variables = [] }) v) (sym is.entries_are) ∙ found) means)

    numbers_called : (v : List ℕ) (x : Entry) (k : ℕ) → find is.own v ≡ Some x → x.means ≡ means.Procedure k → k < length (procedure_defs m.decls)
    numbers_called v x k found means =
        procedures_are text w.before is.numbers m v x k (ap (λ es. find (record { entries = es; constants = []; variables = [] }) v) (sym is.entries_are) ∙ found) means

    as_many : length (procedure_defs m.decls) ≡ length (procedures m.decls)
    as_many = by (procedure_defs m.decls) (procedures m.decls) (are_named m.decls)
      where
        by : (ds : List Def) (ps : List Procedure) → AreNamed ds ps → length ds ≡ length ps
        by [] [] are = refl
        by [] (p ∷ ps) are = absurd are
        by (d ∷ ds) [] are = absurd are
        by (d ∷ ds) (p ∷ ps) are = ap suc (by ds ps are.1)

    -- the module's procedures come first among all
    procedure_first : (j : ℕ) (q : Procedure) → slice_get (procedures m.decls) j ≡ Some q → slice_get (all_procedures m.decls) j ≡ Some q
    procedure_first j q at = get_front (procedures m.decls) _ j q at

    pub few_procedures : length (procedures m.decls) ≤ length e.here.signatures
    few_procedures = let signed = is.signatures in let long = length-append (procedures m.decls) (flat_map methods_in (type_defs m.decls)) in omega (arith, signed, long)

    headed : (j : ℕ) (q : Procedure) (s : Signature) → slice_get (procedures m.decls) j ≡ Some q → slice_get e.here.signatures j ≡ Some s → (scope : Scope) × IsHeading e.types q s scope
    headed j q s at there =
        let one = is.procedures j q (procedure_first j q at) in
        (one.scope, subst (λ (z : Signature). IsHeading e.types q z one.scope) (same_Some one.signature s (sym one.signature_is ∙ there)) one.heading)

    signed : (k : ℕ) (s : Signature) → slice_get e.here.signatures k ≡ Some s → (q : TypedProcedure) × IsSignature e.types s q
    signed k s there =
        let below = slice_get_within e.here.signatures k s there in
        let count = is.signatures in
        let q = some_there (all_procedures m.decls) k (omega (arith, below, count)) in
        let one = is.procedures k q.0 q.1 in
        let same = same_Some one.signature s (sym one.signature_is ∙ there) in
        (procedure_of text q.0 one.signature [] Nothing, subst (λ (z : Signature). IsSignature e.types z (procedure_of text q.0 one.signature [] Nothing)) same (heading_signature e.types text q.0 one.signature one.scope [] Nothing one.heading))

    pub home : (b : Bodies) → length b.procedures ≡ length (procedures m.decls) →
        ((t : TypeId) (o : ObjectScope) → object_of e.here t ≡ Some o → (0 < o.scope) × (t.0 < length e.types) × (is_object (row_of e.types t) ≡ true)) →
        ((k : ℕ) (s : Scope) (v : List ℕ) (x : Entry) (n : ℕ) → 0 < k → k < e.here.first → slice_get e.here.scopes k ≡ Some s → find s v ≡ Some x → x.means ≡ means.Variable n → n < length s.variables) →
        IsHome e.types (length w.before) e.here (module_of e m b)
    home b many placed fields =
        let made = procedures_long e.here.text e.here.scopes (first_scope m) (procedures m.decls) e.here.signatures b.procedures many few_procedures in
        record {
          scope = is.own;
          is = is.own_is;
          names = λ k s v x of place there found means. is.names k s v x of there found means;
          numbers = numbers;
          known = is.variables;
          typed =
              ap (λ (o : Option Scope). map (λ v. v.of) (map (variable_of e.here.text) (zip (single_variables m.decls) (variables_of o)))) is.own_is
              ∙ types_beside e.here.text (single_variables m.decls) is.own.variables is.count;
          more = filled_texts e;
          texts = refl;
          codes = filled_below e;
          few = is.few;
          fields = is.fields;
          good = is.constants;
          called = λ v x k found means. let less = numbers_called v x k found means in let many = as_many in omega (arith, less, many, made);
          procedures = λ k s below there.
              signatures_are e.types e.here.text e.here.scopes (first_scope m) (procedures m.decls) e.here.signatures b.procedures many headed k s (omega (arith, below, made)) there;
          signed = signed;
          objects = λ t o found. let one = is.objects t o found in let two = placed t o found in (one.0, two.0, one.1, two.1, two.2);
          inner = fields;
        }
