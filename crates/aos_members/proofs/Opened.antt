-- The scopes of a type and its bases, of which some are met.
use Rattle.std.proofs.Common.{◌≡◌, ◌<◌, ◌≤◌, ℕ, ◌-◌, List, [], ◌∷◌, ◌++◌, Some, None, sym, ap, ◌∙◌, append_assoc, append-nil}
use Rattle.aos_types.specs.declared.row.TypeId.{TypeId}
use Rattle.aos_types.specs.Table.{row_of, base_of}
use Rattle.aos_symbols.specs.declared.env.Env.{Env}
use Rattle.aos_symbols.specs.declared.env.Open.{Open}
use Rattle.aos_members.specs.Members.{chain_by, object, object_path, opened}
use Rattle.aos_members.proofs.Chains.{chain_base, chain_none, chain_end}

module _ (e : Env) (t : TypeId) (n : ℕ) (met next whole : List Open) where
  pub path_step : (b : TypeId) → base_of (row_of e.types t) ≡ Some b → 0 < n → next ≡ met ++ opened e (object e t) →
      met ++ object_path e (chain_by n e.types t) ≡ whole → next ++ object_path e (chain_by (n - 1) e.types b) ≡ whole
  path_step b is some more all =
      ap (λ z. z ++ object_path e (chain_by (n - 1) e.types b)) more
      ∙ append_assoc met (opened e (object e t)) (object_path e (chain_by (n - 1) e.types b))
      ∙ ap (λ ts. met ++ object_path e ts) (sym (chain_base e.types t n b is some)) ∙ all

  last : chain_by n e.types t ≡ t ∷ [] → next ≡ met ++ opened e (object e t) → met ++ object_path e (chain_by n e.types t) ≡ whole → next ≡ whole
  last one more all =
      more ∙ ap (λ z. met ++ z) (sym (append-nil (opened e (object e t)))) ∙ ap (λ ts. met ++ object_path e ts) (sym one) ∙ all

  pub path_none : base_of (row_of e.types t) ≡ None → next ≡ met ++ opened e (object e t) →
      met ++ object_path e (chain_by n e.types t) ≡ whole → next ≡ whole
  path_none is more all = last (chain_none e.types t n is) more all

  pub path_end : n ≤ 0 → next ≡ met ++ opened e (object e t) → met ++ object_path e (chain_by n e.types t) ≡ whole → next ≡ whole
  path_end over more all = last (chain_end e.types t n over) more all
