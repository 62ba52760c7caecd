-- An enum whose variant is matched on behind a `&mut`: what stands in it, and what it is once a field of it is written.
use Rattle.std.proofs.Common.{◌≡◌, ℕ, sym, ap, ◌∙◌}
use mathlib.Core.Option.{Option, none, some}
use denote.Enum.Declared.{Record}
use borrow.Enum.Known.{ValuesAt, at}
use borrow.Enum.Total.{values_d, values_o, values_o_at}
use borrow.Enum.Arm.{read_off}

module _ (N : Record) (k : ℕ) {g : N.D} (v : ValuesAt N.parts k) (is : g ≡ at N k v) where
  -- it is made of what is read from it
  pub made_of : g ≡ at N k (values_d N k v g)
  made_of = is ∙ ap (at N k) (sym (read_off N k v v is))

  -- and at that variant these are all of its values
  pub found : values_o N k g ≡ some (values_d N k v g)
  found = ap (values_o N k) made_of ∙ values_o_at N k (values_d N k v g)

-- with a field written it is made of its values with that one, where it has any; else it stays
module _ {V D Y : Type 0} (make : Y → V → D) where
  abbrev pub with_field : Option V → D → Y → D
  with_field none x y = x
  with_field (some v) x y = make y v

  pub written : (values : Option V) (v : V) (x : D) (y : Y) → values ≡ some v → with_field values x y ≡ make y v
  written values v x y is = ap (λ (c : Option V). with_field c x y) is
