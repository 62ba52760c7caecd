-- What the code's program is seen as: boxes and vectors are left out, and names are their bytes.
use Rattle.std.specs.Prelude.{List, [], ◌∷◌, map, Bool, option_map}
use Rattle.std.specs.String.{string_bytes}
use Rattle.aos_typed.specs.declared.tree.TPlace.{TPlace}
use Rattle.aos_typed.specs.declared.tree.TPlace.TheVariants as place
use Rattle.aos_typed.specs.declared.tree.TExpr.{TExpr, Row_of-TArgument, end_of-TArgument, more_of-TArgument}
use Rattle.aos_typed.specs.declared.tree.TRows.{TRows}
use Rattle.aos_typed.specs.declared.tree.TRows.TheVariants as rows
use Rattle.aos_typed.specs.declared.tree.TArgument.{TArgument}
use Rattle.aos_typed.specs.declared.tree.TArgument.TheVariants as argument
use Rattle.aos_typed.specs.declared.tree.TExpr.TheVariants as expr
use Rattle.aos_typed.specs.declared.tree.TCallee.{TCallee}
use Rattle.aos_typed.specs.declared.tree.TCallee.TheVariants as callee
use Rattle.aos_typed.specs.declared.tree.OutCall.{OutCall}
use Rattle.aos_typed.specs.declared.tree.OutCall.TheVariants as call
use Rattle.aos_typed.specs.declared.tree.TStat.{TStat, Row_of-TStat, end_of-TStat, more_of-TStat, Row_of-TArm, end_of-TArm, more_of-TArm, Row_of-TCase, end_of-TCase, more_of-TCase}
use Rattle.aos_typed.specs.declared.tree.TStat.TheVariants as stat
use Rattle.aos_typed.specs.declared.tree.TArm.{TArm, out-TArm}
use Rattle.aos_typed.specs.declared.tree.TCase.{TCase, out-TCase}
use Rattle.aos_typed.specs.declared.tree.TElse.{TElse}
use Rattle.aos_typed.specs.declared.tree.TElse.TheVariants as otherwise
use Rattle.aos_typed.specs.declared.tree.TVariable.{TVariable}
use Rattle.aos_typed.specs.declared.tree.TParameter.{TParameter}
use Rattle.aos_typed.specs.declared.tree.TProcedure.{TProcedure}
use Rattle.aos_typed.specs.declared.tree.TMethod.{TMethod}
use Rattle.aos_typed.specs.declared.tree.TObject.{TObject}
use Rattle.aos_typed.specs.declared.tree.TModule.{TModule}
use Rattle.aos_typed.specs.declared.tree.Program.{Program as TProgram}
use Rattle.aos_typed.specs.Program.{Place, ModuleVar, Local, Passed, Field, Index, Of, Deref, Typed, Guarded, Rows, Known, Opened, Row, Spread, Longer, Arguments, NoMore, Scalar, Whole, Opening, Callee, Plain, Dispatched, Upper, Through, Expr, Lit, SelfRef, Read, Unary, Binary, And, Or, Element, Ord, Chr, CompareTexts, Len, LenBehind, Function, Same, Is, IsRecord, Guard, ProcedureOf, MethodOf, SameProcedure, Call, Open, Char, Int, String, Ln, Stat, Assign, Copy, PutText, If, Case, While, Repeat, Loop, Exit, For, Block, Await, Assert, Halt, Change, Perform, Return, New, Make, With, WithRecord, Out, Stats, Nothing, Then, Arms, Otherwise, Arm, Cases, NoElse, Else, OfLabels, Variable, Parameter, Body, Procedure, Method, ObjectType, Module, Program}

abbrev mutual
  pub seen_place : TPlace → Place
  seen_place (place.ModuleVar m k) = ModuleVar m k
  seen_place (place.Local k) = Local k
  seen_place (place.Passed k) = Passed k
  seen_place (place.Of' p r) = Of (seen_rows r)
  seen_place (place.Deref' p e t) = Deref (seen_expr e) t
  seen_place (place.Typed' p q t) = Typed (seen_place q) t
  seen_place (place.Guarded' p q t) = Guarded (seen_place q) t
  seen_place (place.Field' p whole t k) = Field (seen_place whole) t k
  seen_place (place.Index' p whole n t q e) = Index (seen_place whole) n t (seen_expr e)

  pub seen_rows : TRows → Rows
  seen_rows (rows.Known' p q ns) = Known (seen_place q) ns.items
  seen_rows (rows.Opened k j) = Opened k j
  seen_rows (rows.Row' p r t q e) = Row (seen_rows r) t (seen_expr e)
  seen_rows (rows.Spread' p e j) = Spread (seen_expr e) j
  seen_rows (rows.Longer' p r ns) = Longer (seen_rows r) ns.items

  pub seen_arguments : {m : _} → Row_of-TArgument m → Arguments
  seen_arguments end_of-TArgument = NoMore
  seen_arguments (more_of-TArgument a as') = seen_argument a (seen_arguments as')

  pub seen_argument : TArgument → Arguments → Arguments
  seen_argument (argument.Scalar e) more = Scalar (seen_expr e) more
  seen_argument (argument.Whole p) more = Whole (seen_place p) more
  seen_argument (argument.Opening r) more = Opening (seen_rows r) more

  pub seen_callee : TCallee → Callee
  seen_callee (callee.Plain m k) = Plain m k
  seen_callee (callee.Dispatched' p e t k) = Dispatched (seen_expr e) t k
  seen_callee (callee.Upper t k) = Upper t k
  seen_callee (callee.Through' p e t) = Through (seen_expr e) t

  pub seen_expr : TExpr → Expr
  seen_expr (expr.Lit l) = Lit l
  seen_expr expr.SelfRef = SelfRef
  seen_expr (expr.Read t p) = Read t (seen_place p)
  seen_expr (expr.Unary' op p a) = Unary op (seen_expr a)
  seen_expr (expr.Binary' op p a q b) = Binary op (seen_expr a) (seen_expr b)
  seen_expr (expr.And' p a q b) = And (seen_expr a) (seen_expr b)
  seen_expr (expr.Or' p a q b) = Or (seen_expr a) (seen_expr b)
  seen_expr (expr.Element' p a) = Element (seen_expr a)
  seen_expr (expr.Ord' p a) = Ord (seen_expr a)
  seen_expr (expr.Chr' p a) = Chr (seen_expr a)
  seen_expr (expr.CompareTexts' r p a q b) = CompareTexts r (seen_rows a) (seen_rows b)
  seen_expr (expr.Len r d) = Len (seen_rows r) d
  seen_expr (expr.LenBehind r n) = LenBehind (seen_rows r) n
  seen_expr (expr.Function' c shape row) = Function (seen_callee c) (seen_arguments row)
  seen_expr (expr.Same' p a q b) = Same (seen_expr a) (seen_expr b)
  seen_expr (expr.Is' p a t) = Is (seen_expr a) t
  seen_expr (expr.IsRecord' p q t) = IsRecord (seen_place q) t
  seen_expr (expr.Guard' p a t) = Guard (seen_expr a) t
  seen_expr (expr.ProcedureOf m k) = ProcedureOf m k
  seen_expr (expr.MethodOf' p a t k) = MethodOf (seen_expr a) t k
  seen_expr (expr.SameProcedure' p a q b) = SameProcedure (seen_expr a) (seen_expr b)

abbrev pub seen_list : List TArgument → Arguments
seen_list [] = NoMore
seen_list (a ∷ as') = seen_argument a (seen_list as')

abbrev pub seen_call : OutCall → Call
seen_call call.Open = Open
seen_call (call.Char e) = Char (seen_expr e)
seen_call (call.Int e n) = Int (seen_expr e) (seen_expr n)
seen_call (call.String r) = String (seen_rows r)
seen_call call.Ln = Ln

abbrev mutual
  pub seen_stat : TStat → Stat
  seen_stat (stat.Assign at t p e) = Assign at t (seen_place p) (seen_expr e)
  seen_stat (stat.Copy at t p q) = Copy at t (seen_place p) (seen_place q)
  seen_stat (stat.PutText at strict a b) = PutText at strict (seen_rows a) (seen_rows b)
  seen_stat (stat.If' at shapes arms shape body) = If at (seen_arms arms (seen_row body))
  seen_stat (stat.Case' at e shapes cases otherwise) = Case at (seen_expr e) (seen_cases cases (seen_else otherwise))
  seen_stat (stat.While' at e shape body) = While at (seen_expr e) (seen_row body)
  seen_stat (stat.Repeat' at shape body e) = Repeat at (seen_row body) (seen_expr e)
  seen_stat (stat.Loop' at shape body) = Loop at (seen_row body)
  seen_stat (stat.Exit at) = Exit at
  seen_stat (stat.For' at w p from to step shape body) = For at w (seen_place p) (seen_expr from.value) (seen_expr to.value) step (seen_row body)
  seen_stat (stat.Block' at exclusive shape body) = Block at exclusive (seen_row body)
  seen_stat (stat.Await at n e) = Await at n (seen_expr e)
  seen_stat (stat.Assert at e code) = Assert at (seen_expr e) code
  seen_stat (stat.Halt at code) = Halt at code
  seen_stat (stat.Change at c p e) = Change at c (seen_place p) (seen_expr e)
  seen_stat (stat.Perform at c as') = Perform at (seen_callee c) (seen_list as'.items)
  seen_stat (stat.Return at e) = Return at (option_map seen_expr e)
  seen_stat (stat.New at p t as') = New at (seen_place p) t (seen_list as'.items)
  seen_stat (stat.Make at p t ns) = Make at (seen_place p) t (map seen_expr ns.items)
  seen_stat (stat.With' at e shape body) = With at (seen_expr e) (seen_row body)
  seen_stat (stat.WithRecord' at p shape body) = WithRecord at (seen_place p) (seen_row body)
  seen_stat (stat.Out at c) = Out at (seen_call c)

  pub seen_row : {m : _} → Row_of-TStat m → Stats
  seen_row end_of-TStat = Nothing
  seen_row (more_of-TStat s ss) = Then (seen_stat s) (seen_row ss)

  -- the arms of IF before these statements, and those of CASE before its ELSE
  pub seen_arms : {m : _} → Row_of-TArm m → Stats → Arms
  seen_arms end_of-TArm otherwise = Otherwise otherwise
  seen_arms (more_of-TArm test shape body more) otherwise = Arm (seen_expr test) (seen_row body) (seen_arms more otherwise)

  pub seen_cases : {m : _} → Row_of-TCase m → Cases → Cases
  seen_cases end_of-TCase otherwise = otherwise
  seen_cases (more_of-TCase labels shape body more) otherwise = OfLabels labels.items (seen_row body) (seen_cases more otherwise)

  pub seen_else : TElse → Cases
  seen_else otherwise.Missing = NoElse
  seen_else (otherwise.Else' shape body) = Else (seen_row body)

-- a row of statements is seen as their list is
abbrev pub seen_stats : List TStat → Stats
seen_stats [] = Nothing
seen_stats (s ∷ ss) = Then (seen_stat s) (seen_stats ss)

-- a row of arms as a list, before the statements behind ELSE
abbrev pub arms_of : List TArm → Stats → Arms
arms_of [] otherwise = Otherwise otherwise
arms_of (a ∷ more) otherwise = let x = out-TArm a in Arm (seen_expr x.test) (seen_stats x.body.items) (arms_of more otherwise)

abbrev pub cases_of : List TCase → Cases → Cases
cases_of [] otherwise = otherwise
cases_of (a ∷ more) otherwise = let x = out-TCase a in OfLabels x.labels.items (seen_stats x.body.items) (cases_of more otherwise)

abbrev pub seen_variable : TVariable → Variable
seen_variable v = record { name = string_bytes v.name; of = v.of }

abbrev pub seen_parameter : TParameter → Parameter
seen_parameter p = record { name = string_bytes p.name; by_reference = p.by_reference; of = p.of }

abbrev pub seen_body : Bool → List TStat → Body
seen_body exclusive ss = record { is_exclusive = exclusive; statements = seen_stats ss }

abbrev pub seen_procedure : TProcedure → Procedure
seen_procedure p =
    record {
      name = string_bytes p.name;
      at = p.at;
      of = p.of;
      is_initializer = p.is_initializer;
      parameters = map seen_parameter p.parameters.items;
      locals = map seen_variable p.locals.items;
      result = p.result;
      body = seen_body p.is_exclusive p.body.items;
    }

abbrev pub seen_method : TMethod → Method
seen_method m = record { slot = m.slot; procedure = seen_procedure m.procedure }

abbrev pub seen_object : TObject → ObjectType
seen_object o =
    record {
      name = string_bytes o.name;
      at = o.at;
      fields = map (λ s. string_bytes s) o.fields.items;
      home = o.home;
      has_body = o.has_body;
      is_active = o.is_active;
      priority = o.priority;
      body = seen_procedure o.body;
      methods = map seen_method o.methods.items;
    }

abbrev pub seen_module : TModule → Module
seen_module m =
    record {
      name = string_bytes m.name;
      variables = map seen_variable m.variables.items;
      texts = map (λ t. t.items) m.texts.items;
      procedures = map seen_procedure m.procedures.items;
      body = seen_body m.is_exclusive m.body.items;
    }

abbrev pub seen_program : TProgram → Program
seen_program p =
    record { modules = map seen_module p.modules.items; types = p.types; objects = map seen_object p.objects.items }
