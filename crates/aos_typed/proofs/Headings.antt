-- Numbering the AWAITs of a program anew leaves all but the bodies as it was: each look-up finds the same procedure, but for its body.
use Rattle.std.proofs.Common.{◌≡◌, refl, sym, ap, subst, ◌∙◌, ℕ, zero, suc, ◌+◌, List, [], ◌∷◌, ◌++◌, length, map, fold, Bool, true, false, if◌then◌else◌, Option, Some, None, option_map, option_and_then, nat_lt, slice_get, slice_set}
use Rattle.std.proofs.lemmas.List.{map-set, map-append, length-map}
use Rattle.std.proofs.lemmas.Option.{none-some, same_Some, slice_get-map}
use Rattle.aos_types.specs.declared.row.TypeRow.{TypeRow}
use Rattle.aos_types.specs.declared.row.TypeRow.TheVariants as row
use Rattle.aos_types.specs.Table.{row_of}
use Rattle.aos_typed.specs.declared.tree.TType.{TType}
use Rattle.aos_typed.specs.declared.tree.TType.TheVariants.{Integer, Boolean, Char, Set, Any, Named}
use Rattle.aos_typed.specs.Program.{Place, ModuleVar, Local, Passed, Field, Index, Of, Deref, Typed, Guarded, Rows, Known, Opened, Row, Spread, Longer, Nothing, Body, Procedure, Method, ObjectType, Module, Program}
use Rattle.aos_typed.specs.Numbers.{id_of}
use Rattle.aos_typed.specs.Formals.{pattern_in, pattern_of}
use Rattle.aos_typed.specs.Methods.{put_at, methods_in, own_methods, base_type, on_base, or_base, nearest_by, initial_slot, initializer, slots_by, slot_of, own_procedures, methods_of, method_in}
use Rattle.aos_typed.specs.Conditions.{awaits, awaits_in_procedures, awaits_in_methods, body_renumbered, procedure_renumbered, procedures_renumbered, methods_renumbered, modules_renumbered, objects_renumbered}
use Rattle.aos_typed.specs.WellTyped.{variable_type, procedure_in, IsConstantText, IsNoConstant, AreVariables}

-- this procedure is there, with whatever body
abbrev pub Has : Option Procedure → Procedure → Type 0
Has o x = (b : Body) × (o ≡ Some (record x { body = b }))

-- modules and types once they are numbered
abbrev pub module_renumbered : (n k : ℕ) → Module → Module
module_renumbered n k x = record x { procedures = procedures_renumbered k x.procedures; body = body_renumbered n x.body }

abbrev pub object_renumbered : (n k : ℕ) → ObjectType → ObjectType
object_renumbered n k o = record o { body = procedure_renumbered n o.body; methods = methods_renumbered k o.methods }

abbrev pub program_renumbered : Program → (n k i j : ℕ) → Program
program_renumbered p n k i j = record p { modules = modules_renumbered n k p.modules; objects = objects_renumbered i j p.objects }

pub as_many_modules : (n k : ℕ) (xs : List Module) → length (modules_renumbered n k xs) ≡ length xs
as_many_modules n k [] = refl
as_many_modules n k (x ∷ xs) = ap suc (as_many_modules (n + awaits x.body) (k + awaits_in_procedures x) xs)

pub as_many_objects : (n k : ℕ) (os : List ObjectType) → length (objects_renumbered n k os) ≡ length os
as_many_objects n k [] = refl
as_many_objects n k (o ∷ os) = ap suc (as_many_objects (n + awaits o.body.body) (k + awaits_in_methods o) os)

-- what is found among them
module_at : (n k m : ℕ) (xs : List Module) (x : Module) → slice_get xs m ≡ Some x → (i : ℕ) × (j : ℕ) × (slice_get (modules_renumbered n k xs) m ≡ Some (module_renumbered i j x))
module_at n k m [] x e = absurd (none-some x e)
module_at n k zero (y ∷ ys) x e = (n, k, ap (λ (z : Module). Some (module_renumbered n k z)) (same_Some y x e))
module_at n k (suc m) (y ∷ ys) x e = module_at (n + awaits y.body) (k + awaits_in_procedures y) m ys x e

procedure_at : (k m : ℕ) (qs : List Procedure) (x : Procedure) → slice_get qs m ≡ Some x → Has (slice_get (procedures_renumbered k qs) m) x
procedure_at k m [] x e = absurd (none-some x e)
procedure_at k zero (y ∷ ys) x e = (body_renumbered k x.body, ap (λ (z : Procedure). Some (procedure_renumbered k z)) (same_Some y x e))
procedure_at k (suc m) (y ∷ ys) x e = procedure_at (k + awaits y.body) m ys x e

-- what stands beside a type, if there is one
objects_at : (n k t : ℕ) (os : List ObjectType) → (i : ℕ) × (j : ℕ) × (slice_get (objects_renumbered n k os) t ≡ option_map (object_renumbered i j) (slice_get os t))
objects_at n k t [] = (0, 0, refl)
objects_at n k zero (o ∷ os) = (n, k, refl)
objects_at n k (suc t) (o ∷ os) = objects_at (n + awaits o.body.body) (k + awaits_in_methods o) t os

-- Procedures without their bodies.

abbrev bare : Procedure → Procedure
bare x = record x { body = record { is_exclusive = false; statements = Nothing } }

-- two tables have the same procedures but for their bodies
abbrev pub AreLike : (xs ys : List Procedure) → Type 0
AreLike xs ys = map bare ys ≡ map bare xs

pub as_long : (xs ys : List Procedure) → AreLike xs ys → length ys ≡ length xs
as_long xs ys e = sym (length-map ys bare) ∙ ap length e ∙ length-map xs bare

pub like_at : (xs ys : List Procedure) (k : ℕ) (x : Procedure) → AreLike xs ys → slice_get xs k ≡ Some x → Has (slice_get ys k) x
like_at xs ys k x e is = by (slice_get ys k) (sym (slice_get-map bare ys k) ∙ ap (λ l. slice_get l k) e ∙ slice_get-map bare xs k ∙ ap (option_map bare) is)
  where
    by : (o : Option Procedure) → option_map bare o ≡ Some (bare x) → Has o x
    by None same = absurd (none-some (bare x) same)
    by (Some y) same = (y.body, ap (λ (z : Procedure). Some (record z { body = y.body })) (same_Some (bare y) (bare x) same))

put_bare : (xs : List Procedure) (k : ℕ) (x : Procedure) → map bare (put_at xs (k, x)) ≡ put_at (map bare xs) (k, bare x)
put_bare xs k x = by (nat_lt k (length xs)) ∙ ap (λ n. if nat_lt k n then slice_set (map bare xs) k (bare x) else map bare xs ++ bare x ∷ []) (sym (length-map xs bare))
  where
    by : (b : Bool) → map bare (if b then slice_set xs k x else xs ++ x ∷ []) ≡ (if b then slice_set (map bare xs) k (bare x) else map bare xs ++ bare x ∷ [])
    by true = map-set bare xs k x
    by false = map-append bare xs (x ∷ [])

pub put_like : (xs ys : List Procedure) (k : ℕ) (x : Procedure) (b : Body) → AreLike xs ys → AreLike (put_at xs (k, x)) (put_at ys (k, record x { body = b }))
put_like xs ys k x b e = put_bare ys k (record x { body = b }) ∙ ap (λ l. put_at l (k, bare x)) e ∙ sym (put_bare xs k x)

put_all : (k : ℕ) (ms : List Method) (xs ys : List Procedure) → AreLike xs ys → AreLike (fold put_at xs (map slot_of ms)) (fold put_at ys (map slot_of (methods_renumbered k ms)))
put_all k [] xs ys e = e
put_all k (m ∷ ms) xs ys e =
    let b = body_renumbered k m.procedure.body in
    put_all (k + awaits m.procedure.body) ms (put_at xs (slot_of m)) (put_at ys (m.slot, record m.procedure { body = b })) (put_like xs ys m.slot m.procedure b e)

initial_same : (k : ℕ) (ms : List Method) → initial_slot (methods_renumbered k ms) ≡ initial_slot ms
initial_same k [] = refl
initial_same k (m ∷ ms) = ap (λ o. if m.procedure.is_initializer then Some m.slot else o) (initial_same (k + awaits m.procedure.body) ms)

-- Look-ups.

module _ (p : Program) (n k i j : ℕ) where
  abbrev q : Program
  q = program_renumbered p n k i j

  pub procedure_stays : (m l : ℕ) (x : Procedure) → procedure_in p m l ≡ Some x → Has (procedure_in q m l) x
  procedure_stays m l x e = by (slice_get p.modules m) refl e
    where
      by : (o : Option Module) → slice_get p.modules m ≡ o → option_and_then (λ (y : Module). slice_get y.procedures l) o ≡ Some x → Has (procedure_in q m l) x
      by None is h = absurd (none-some x h)
      by (Some y) is h =
          let at = module_at n k m p.modules y is in
          let found = procedure_at at.1 l y.procedures x h in
          (found.0, ap (λ (o : Option Module). option_and_then (λ (z : Module). slice_get z.procedures l) o) at.2 ∙ found.1)

  abbrev of_module : ℕ → Module → Option TType
  of_module l y = option_map (λ v. v.of) (slice_get y.variables l)

  pub variable_stays : (m l : ℕ) (t : TType) → variable_type p m l ≡ Some t → variable_type q m l ≡ Some t
  variable_stays m l t e = by (slice_get p.modules m) refl e
    where
      by : (o : Option Module) → slice_get p.modules m ≡ o → option_and_then (of_module l) o ≡ Some t → variable_type q m l ≡ Some t
      by None is h = absurd (none-some t h)
      by (Some y) is h = ap (option_and_then (of_module l)) (module_at n k m p.modules y is).2 ∙ h

  pub constant_stays : (x : Place) (l : ℕ) → IsConstantText p x l → IsConstantText q x l
  constant_stays (ModuleVar m v) l h =
      let at = module_at n k m p.modules h.0 h.1 in
      (module_renumbered at.0 at.1 h.0, at.2, record { behind = h.2.behind; is = h.2.is; characters = h.2.characters; there = h.2.there; long = h.2.long })
  constant_stays (Local v) l h = h
  constant_stays (Passed v) l h = h
  constant_stays (Of r) l h = h
  constant_stays (Field x of v) l h = h
  constant_stays (Index x m of e) l h = h
  constant_stays (Deref e u) l h = h
  constant_stays (Typed x v) l h = h
  constant_stays (Guarded x v) l h = h

  no_constant_stays : (x : Place) → IsNoConstant p x → IsNoConstant q x
  no_constant_stays (ModuleVar m v) h = (h.0, variable_stays m v h.0 h.1)
  no_constant_stays x h = h

  pub variables_stay : (r : Rows) → AreVariables p r → AreVariables q r
  variables_stay (Known x ns) h = no_constant_stays x h
  variables_stay (Opened v d) h = h
  variables_stay (Row r of e) h = variables_stay r h
  variables_stay (Spread e d) h = h
  variables_stay (Longer r ns) h = variables_stay r h

  pub pattern_stays : (t : TType) (x : Procedure) → pattern_of p t ≡ Some x → Has (pattern_of q t) x
  pattern_stays (Named t) x e = by (row_of p.types (id_of (Named t))) e
    where
      beside : (o : Option ObjectType) → (a b : ℕ) → slice_get q.objects t ≡ option_map (object_renumbered a b) o → option_map (λ (y : ObjectType). y.body) o ≡ Some x
          → Has (option_map (λ (y : ObjectType). y.body) (slice_get q.objects t)) x
      beside None a b is h = absurd (none-some x h)
      beside (Some o) a b is h =
          (body_renumbered a x.body, ap (option_map (λ (y : ObjectType). y.body)) is ∙ ap (λ (z : Procedure). Some (procedure_renumbered a z)) (same_Some o.body x h))

      by : (r : Option TypeRow) → pattern_in p r t ≡ Some x → Has (pattern_in q r t) x
      by (Some (row.Procedure fs s)) h = let at = objects_at i j t p.objects in beside (slice_get p.objects t) at.0 at.1 at.2 h
      by r h = absurd (none-some x h)
  pattern_stays (Integer w) x e = absurd (none-some x e)
  pattern_stays Boolean x e = absurd (none-some x e)
  pattern_stays Char x e = absurd (none-some x e)
  pattern_stays Set x e = absurd (none-some x e)
  pattern_stays Any x e = absurd (none-some x e)

  own_renumbered : (t : ℕ) → (a : ℕ) × (own_methods q t ≡ methods_renumbered a (own_methods p t))
  own_renumbered t = let at = objects_at i j t p.objects in (at.1, ap methods_in at.2 ∙ by (slice_get p.objects t) at.0 at.1)
    where
      by : (o : Option ObjectType) (a b : ℕ) → methods_in (option_map (object_renumbered a b) o) ≡ methods_renumbered b (methods_in o)
      by None a b = refl
      by (Some o) a b = refl

  slots_like : (m t : ℕ) → AreLike (slots_by p (own_procedures p) m t) (slots_by q (own_procedures q) m t)
  slots_like zero t = refl
  slots_like (suc m) t =
      let own = own_renumbered t in
      ap (λ l. map bare (fold put_at (on_base (slots_by q (own_procedures q) m) (base_type p t)) (map slot_of l))) own.1
      ∙ put_all own.0 (own_methods p t) (on_base (slots_by p (own_procedures p) m) (base_type p t)) (on_base (slots_by q (own_procedures q) m) (base_type p t)) (by (base_type p t) (slots_like m))
    where
      by : (b : Option ℕ) → ((u : ℕ) → AreLike (slots_by p (own_procedures p) m u) (slots_by q (own_procedures q) m u))
          → AreLike (on_base (slots_by p (own_procedures p) m) b) (on_base (slots_by q (own_procedures q) m) b)
      by None each = refl
      by (Some u) each = each u

  pub methods_like : (t : ℕ) → AreLike (methods_of p t) (methods_of q t)
  methods_like t = subst (λ m. AreLike (methods_of p t) (slots_by q (own_procedures q) m t)) (sym (as_many_objects i j p.objects)) (slots_like (length p.objects) t)

  pub method_stays : (t l : ℕ) (x : Procedure) → method_in p t l ≡ Some x → Has (method_in q t l) x
  method_stays t l x e = like_at (methods_of p t) (methods_of q t) l x (methods_like t) e

  abbrev told : Program → ℕ → Option ℕ
  told r u = initial_slot (own_methods r u)

  nearest_stays : (m t : ℕ) → nearest_by q (told q) m t ≡ nearest_by p (told p) m t
  nearest_stays zero t = refl
  nearest_stays (suc m) t =
      let own = own_renumbered t in
      by (base_type p t) (nearest_stays m) (told q t) ∙ ap (λ o. or_base (nearest_by p (told p) m) o (base_type p t)) (ap initial_slot own.1 ∙ initial_same own.0 (own_methods p t))
    where
      by : (b : Option ℕ) → ((u : ℕ) → nearest_by q (told q) m u ≡ nearest_by p (told p) m u) → (o : Option ℕ) → or_base (nearest_by q (told q) m) o b ≡ or_base (nearest_by p (told p) m) o b
      by b each (Some a) = refl
      by None each None = refl
      by (Some u) each None = each u

  pub initializer_stays : (t : ℕ) → initializer q t ≡ initializer p t
  initializer_stays t = ap (λ m. nearest_by q (told q) m t) (as_many_objects i j p.objects) ∙ nearest_stays (length p.objects) t
