-- Values stay of their sorts, and keep their cells, as frames are put on top and objects are made.
use Rattle.std.proofs.Common.{◌≡◌, ℕ, zero, suc, Option, Some, None, refl, ap}
use Rattle.aos_base.specs.Rooted.{Made}
use Rattle.aos_types.specs.declared.row.Basic.{Basic}
use Rattle.aos_types.specs.declared.row.Basic.TheVariants as basic
use Rattle.aos_types.specs.declared.row.TypeId.{TypeId}
use Rattle.aos_types.specs.declared.row.TypeRow.{TypeRow}
use Rattle.aos_types.specs.declared.row.TypeRow.TheVariants as row
use Rattle.aos_types.specs.Table.{row_of}
use Rattle.aos_types.specs.Shape.{join}
use Rattle.aos_types.specs.World.{World, MadeAlike, Grows}
use Rattle.aos_typed.specs.Program.{Procedure, Program}
use Rattle.aos_typed.specs.Sort.{Sort, Plain, Variable, Alias, Elements, Length, variable_shape, object_shape}
use Rattle.aos_typed.specs.Location.{Location}
use Rattle.aos_typed.specs.Value.{Value, Int, Flag, Char, Set, Object, Callable, Place}
use Rattle.aos_typed.specs.Open.{first_same}
use Rattle.aos_typed.specs.Typing.{id_of_made, nested, Extends, IsBasic, Refers, IsReference, IsInstance, IsCalledBy, IsCallable, pattern_at, IsPlainly, IsPlace, OnPlace, Is, IsPlain}
use Rattle.aos_code.specs.declared.instr.Cell.TheVariants as cell
use Rattle.aos_memory_laws.specs.Shows.{AreKept}
use Rattle.aos_memory_laws.proofs.Grow.{shape_grows, cell_grows}
use Rattle.aos_sim.specs.Cells.{cell_of}

module _ (program : Program) where
  module _ (w v : World Sort) (made : MadeAlike w v) where
    refers_kept : (P : Made → Type 0) (o : ℕ) → Refers program w P o → Refers program v P o
    refers_kept P zero h = tt
    refers_kept P (suc o) h = (h.0, made (suc o) h.0 h.1, h.2, h.3)

    reference_kept : (P : Made → Type 0) (x : Value) → IsReference program w P x → IsReference program v P x
    reference_kept P (Object o) h = refers_kept P o h
    reference_kept P (Int z) h = absurd h
    reference_kept P (Flag b) h = absurd h
    reference_kept P (Char c) h = absurd h
    reference_kept P (Set s) h = absurd h
    reference_kept P (Callable p o) h = absurd h
    reference_kept P (Place p) h = absurd h

    instance_kept : (t : Option ℕ) (o : ℕ) → IsInstance program w t o → IsInstance program v t o
    instance_kept None o h = h
    instance_kept (Some t) o h = (h.0, h.1, h.2, made (suc h.0) h.1 h.3, h.4, h.5)

    called_kept : (q : Option Procedure) (n o : ℕ) → IsCalledBy program w q n o → IsCalledBy program v q n o
    called_kept q zero o h = h
    called_kept q (suc n) o h =
        record {
          home = h.home;
          procedure = h.procedure;
          there = h.there;
          formals = h.formals;
          instance = instance_kept h.procedure.of o h.instance;
        }

    callable_kept : (q : Option Procedure) (x : Value) → IsCallable program w q x → IsCallable program v q x
    callable_kept q (Callable n o) h = called_kept q n o h
    callable_kept q (Object o) h = absurd h
    callable_kept q (Int z) h = absurd h
    callable_kept q (Flag b) h = absurd h
    callable_kept q (Char c) h = absurd h
    callable_kept q (Set s) h = absurd h
    callable_kept q (Place p) h = absurd h

    plainly_kept : (t : TypeId) (r : Option TypeRow) (x : Value) → IsPlainly program w t r x → IsPlainly program v t r x
    plainly_kept t None x h = h
    plainly_kept t (Some (row.Basic b)) x h = h
    plainly_kept t (Some (row.Array n of)) x h = h
    plainly_kept t (Some (row.Open of)) x h = h
    plainly_kept t (Some (row.Record base fields)) x h = h
    plainly_kept t (Some (row.Pointer to)) x h = reference_kept (Extends program (first_same program.types to)) x h
    plainly_kept t (Some (row.Object base fields)) x h = reference_kept (Extends program t) x h
    plainly_kept t (Some (row.Procedure formals r)) x h = callable_kept (pattern_at program t) x h
    plainly_kept t (Some row.Any) x h = reference_kept (λ m. Unit {0}) x h

    plain_kept : (k : Sort) (x : Value) → IsPlain k → Is program w k x → Is program v k x
    plain_kept (Plain t) x p h = plainly_kept t (row_of program.types t) x h
    plain_kept (Variable t) x p h = absurd p
    plain_kept (Alias t) x p h = absurd p
    plain_kept (Elements t ns) x p h = absurd p
    plain_kept (Length n) x p h = absurd p

  module _ (w v : World Sort) (g : Grows w v) where
    place_kept : (k : Sort) (p : Location) → IsPlace program w k p → IsPlace program v k p
    place_kept (Plain t) p h = absurd h
    place_kept (Variable t) p h =
        record {
          extends = h.extends;
          more = h.more;
          plain = h.plain;
          there = shape_grows w v g p.root p.path (join (object_shape program.types (id_of_made p.type)) h.more) h.there;
        }
    place_kept (Alias t) p h = shape_grows w v g p.root p.path (variable_shape program.types t) h
    place_kept (Elements t ns) p h = shape_grows w v g p.root p.path (nested ns (variable_shape program.types t)) h
    place_kept (Length n) p h = absurd h

    on_place_kept : (k : Sort) (x : Value) → OnPlace (IsPlace program w k) x → OnPlace (IsPlace program v k) x
    on_place_kept k (Place p) h = place_kept k p h
    on_place_kept k (Int z) h = absurd h
    on_place_kept k (Flag b) h = absurd h
    on_place_kept k (Char c) h = absurd h
    on_place_kept k (Set s) h = absurd h
    on_place_kept k (Object o) h = absurd h
    on_place_kept k (Callable p o) h = absurd h

    is_kept : (k : Sort) (x : Value) → Is program w k x → Is program v k x
    is_kept (Plain t) x h = plainly_kept w v g.made t (row_of program.types t) x h
    is_kept (Variable t) x h = on_place_kept (Variable t) x h
    is_kept (Alias t) x h = on_place_kept (Alias t) x h
    is_kept (Elements t ns) x h = on_place_kept (Elements t ns) x h
    is_kept (Length n) x h = h

    -- a place keeps its cell
    place_cell : (k : Sort) (p : Location) → IsPlace program w k p → cell_of w (Place p) ≡ cell_of v (Place p)
    place_cell (Plain t) p h = absurd h
    place_cell (Variable t) p h = ap (λ n. cell.Place p.root n p.type) (cell_grows w v g p.root p.path (join (object_shape program.types (id_of_made p.type)) h.more) h.there)
    place_cell (Alias t) p h = ap (λ n. cell.Place p.root n p.type) (cell_grows w v g p.root p.path (variable_shape program.types t) h)
    place_cell (Elements t ns) p h = ap (λ n. cell.Place p.root n p.type) (cell_grows w v g p.root p.path (nested ns (variable_shape program.types t)) h)
    place_cell (Length n) p h = absurd h

    -- no plain value is a place
    no_basic : (b : Basic) (p : Location) → IsBasic b (Place p) → ⊥
    no_basic basic.ShortInt p h = h
    no_basic basic.Integer p h = h
    no_basic basic.LongInt p h = h
    no_basic basic.HugeInt p h = h
    no_basic basic.Boolean p h = h
    no_basic basic.Char p h = h
    no_basic basic.Set p h = h
    no_basic basic.Nil p h = absurd (cc)
    no_basic (basic.Text n) p h = absurd (cc)

    no_plain : (t : TypeId) (r : Option TypeRow) (p : Location) → IsPlainly program w t r (Place p) → ⊥
    no_plain t None p h = absurd (cc)
    no_plain t (Some (row.Basic b)) p h = no_basic b p h
    no_plain t (Some (row.Array n of)) p h = absurd (cc)
    no_plain t (Some (row.Open of)) p h = absurd (cc)
    no_plain t (Some (row.Record base fields)) p h = absurd (cc)
    no_plain t (Some (row.Pointer to)) p h = h
    no_plain t (Some (row.Object base fields)) p h = h
    no_plain t (Some (row.Procedure formals r)) p h = h
    no_plain t (Some row.Any) p h = h

    cell_kept : (k : Sort) (x : Value) → Is program w k x → cell_of w x ≡ cell_of v x
    cell_kept k (Int z) h = refl
    cell_kept k (Flag b) h = refl
    cell_kept k (Char c) h = refl
    cell_kept k (Set s) h = refl
    cell_kept k (Object o) h = refl
    cell_kept k (Callable p o) h = refl
    cell_kept (Plain t) (Place p) h = absurd (no_plain t (row_of program.types t) p h)
    cell_kept (Variable t) (Place p) h = place_cell (Variable t) p h
    cell_kept (Alias t) (Place p) h = place_cell (Alias t) p h
    cell_kept (Elements t ns) (Place p) h = place_cell (Elements t ns) p h
    cell_kept (Length n) (Place p) h = absurd (cc)

  pub values_kept : AreKept (Is program) cell_of IsPlain
  values_kept =
      record {
        is = λ w v g k x h. is_kept w v g k x h;
        plain = λ w v made k x p h. plain_kept w v made k x p h;
        cells = λ w v g k x h. cell_kept w v g k x h;
      }
