-- The imports of one file, read one after another, and the files one after another.
use Rattle.std.proofs.Common.{◌≡◌, ℕ, ◌+◌, ◌<◌, List, [], ◌∷◌, ◌++◌, length, take, get_or, map, Bool, true, false, not, ◌||◌, Option, Some, None, Bor, Vec, Global, refl, sym, ap, ◌∙◌, arith, bytes_eq, is_some, if◌then◌else◌}
use Rattle.std.specs.List.{find, filter_map, cons_option, position}
use Rattle.std.specs.Option.{option_map, option_and_then}
use Rattle.std.proofs.lemmas.List.{append-nil, take_more, get_or-map, length-map, map-append}
use Rattle.std.proofs.lemmas.Option.{slice_get-get_or}
use Rattle.std.proofs.Math.Seq.{take-length}
use Rattle.aos_tree.specs.declared.name.Name.{Name}
use Rattle.aos_tree.specs.declared.module.Import.{Import}
use Rattle.aos_order.specs.declared.order_err.OrderErr.{OrderErr}
use Rattle.aos_order.specs.declared.order_err.OrderErr.TheVariants as err
use Rattle.aos_symbols.specs.Spelling.{word}
use Rattle.aos_order.specs.Files.{File, wanted, imported}
use Rattle.aos_order.specs.Order.{IsRefused, absence, absent, absent_in, file_of, first_absent, is_absent, is_out, names, needed, needs}
use Rattle.aos_order.proofs.Searches.{find_first, find_none, find_here, find_further, find-map, filter_map-map, filter_map_more, position-map}

-- what was read of the imports before the i-th
pub record AreRead (ns : List (List ℕ)) (text : List ℕ) (imports : List Import) (found : List ℕ) (i : ℕ) : Type 0 where
  pub given : find (λ x. is_absent ns (wanted text x)) (take i imports) ≡ None
  pub needs : found ≡ filter_map (λ x. needed ns (wanted text x)) (take i imports)

module _ (ns : List (List ℕ)) (text : List ℕ) (imports : List Import) (found : List ℕ) (i : ℕ) (d : Import) (lt : i < length imports) (before : AreRead ns text imports found i)
    (n : Name) (w : List ℕ) (is_n : n ≡ imported (get_or imports i d)) (is_w : w ≡ word text n) where
  abbrev here : Import
  here = get_or imports i d

  read : w ≡ (wanted text here).name
  read = is_w ∙ ap (word text) is_n

  absent_by : (out given : Bool) → is_out w ≡ out → is_some (file_of ns w) ≡ given → is_absent ns (wanted text here) ≡ not (out || given)
  absent_by out given is there =
      ap (λ v. not (is_out v || is_some (file_of ns v))) (sym read) ∙ ap (λ b. not (b || is_some (file_of ns w))) is ∙ ap (λ b. not (out || b)) there

  needed_by : (out : Bool) (r : Option ℕ) → is_out w ≡ out → file_of ns w ≡ r → needed ns (wanted text here) ≡ (if out then None else r)
  needed_by out r is there =
      ap (λ v. if is_out v then None else file_of ns v) (sym read) ∙ ap (λ b. if b then None else file_of ns w) is ∙ ap (λ o. if out then None else o) there

  more : (o : Option ℕ) → needed ns (wanted text here) ≡ o → found ++ cons_option o [] ≡ filter_map (λ x. needed ns (wanted text x)) (take (i + 1) imports)
  more o is =
      ap (λ l. l ++ cons_option o []) before.needs
      ∙ ap (λ r. filter_map (λ x. needed ns (wanted text x)) (take i imports) ++ cons_option r []) (sym is)
      ∙ sym (filter_map_more (λ x. needed ns (wanted text x)) imports i d lt)

  -- Out needs no file
  pub out_read : is_out w ≡ true → AreRead ns text imports found (i + 1)
  out_read out = record {
    given = find_further (λ x. is_absent ns (wanted text x)) imports i d lt before.given (absent_by true (is_some (file_of ns w)) out refl);
    needs = sym (append-nil found) ∙ more None (needed_by true (file_of ns w) out refl);
  }

  pub file_read : (k : ℕ) (new : List ℕ) → is_out w ≡ false → file_of ns w ≡ Some k → new ≡ found ++ k ∷ [] → AreRead ns text imports new (i + 1)
  file_read k new out at pushed = record {
    given = find_further (λ x. is_absent ns (wanted text x)) imports i d lt before.given (absent_by false true out (ap is_some at));
    needs = pushed ∙ more (Some k) (needed_by false (Some k) out at);
  }

  pub absent_read : (f : File) (number : ℕ) → f.imports ≡ map (wanted text) imports → is_out w ≡ false → file_of ns w ≡ None →
      option_map (absence number) (first_absent ns f) ≡ Some (number, n.pos)
  absent_read f number are out at =
      ap (λ l. option_map (absence number) (find (is_absent ns) l)) are
      ∙ ap (option_map (absence number)) (find-map (wanted text) (is_absent ns) imports
      ∙ ap (option_map (wanted text)) (find_here (λ x. is_absent ns (wanted text x)) imports i d lt before.given (absent_by false false out (ap is_some at))))
      ∙ ap (λ m. Some (number, m.pos)) (sym is_n)

-- all imports of a file are read
module _ (ns : List (List ℕ)) (text : List ℕ) (imports : List Import) (found : List ℕ) (f : File) (are : f.imports ≡ map (wanted text) imports) (all : AreRead ns text imports found (length imports)) where
  pub all_given : first_absent ns f ≡ None
  all_given =
      ap (find (is_absent ns)) are ∙ find-map (wanted text) (is_absent ns) imports
      ∙ ap (option_map (wanted text)) (ap (find (λ x. is_absent ns (wanted text x))) (sym (take-length imports)) ∙ all.given)

  pub all_needs : found ≡ filter_map (needed ns) f.imports
  all_needs =
      all.needs ∙ ap (filter_map (λ x. needed ns (wanted text x))) (take-length imports)
      ∙ sym (filter_map-map (wanted text) (needed ns) imports) ∙ ap (filter_map (needed ns)) (sym are)

-- the key of a word in a table of words
pub key_of : (ks : List (Bor (List ℕ))) (w : List ℕ) → position (λ k. bytes_eq w k.now) ks ≡ file_of (map (λ k. k.now) ks) w
key_of ks w = sym (position-map (λ k. k.now) (bytes_eq w) ks)

some_of : {X Y : Type 0} (f : X → Y) (o : Option X) (y : Y) → option_map f o ≡ Some y → is_some o ≡ true
some_of f (Some x) y e = refl
some_of f None y e = cc

module _ (all : List File) where
  abbrev pub AreGiven : ℕ → Type 0
  AreGiven i = (j : ℕ) → j < i → absent_in all j ≡ None

  pub absent_at : (i : ℕ) (f : File) → i < length all → get_or all i f ≡ f → absent_in all i ≡ first_absent (names all) f
  absent_at i f lt is = ap (option_and_then (first_absent (names all))) (slice_get-get_or all i f lt ∙ ap Some is)

  pub needs_more : (i : ℕ) (f : File) (old new : List (Vec ℕ Global)) (v : Vec ℕ Global) → i < length all → get_or all i f ≡ f →
      map (λ v. v.items) old ≡ take i (needs all) → v.items ≡ filter_map (needed (names all)) f.imports → new ≡ old ++ v ∷ [] →
      map (λ v. v.items) new ≡ take (i + 1) (needs all)
  needs_more i f old new v lt is before items pushed =
      let within : i < length (needs all) = omega (arith, length-map all (λ f. filter_map (needed (names all)) f.imports)) in
      ap (map (λ v. v.items)) pushed ∙ map-append (λ v. v.items) old (v ∷ []) ∙ ap (λ l. l ++ v.items ∷ []) before
      ∙ ap (λ n. take i (needs all) ++ n ∷ [])
      (items ∙ ap (λ g. filter_map (needed (names all)) g.imports) (sym is)
      ∙ sym (get_or-map (λ f. filter_map (needed (names all)) f.imports) all i f [] lt))
      ∙ sym (take_more (needs all) i [] within)

  pub none_absent : AreGiven (length all) → absent all ≡ None
  none_absent given =
      ap (option_and_then (λ k. option_map (absence k) (absent_in all k)))
      (find_none (λ k. is_some (absent_in all k)) (length all) (λ j lt. ap is_some (given j lt)))

  pub refused_here : (i : ℕ) (e : OrderErr) → i < length all → AreGiven i → IsRefused None (option_map (absence i) (absent_in all i)) e → IsRefused None (absent all) e
  refused_here i (err.Twice a b) lt given h = h
  refused_here i (err.Cycle left) lt given h = h
  refused_here i err.NoMemory lt given h = h
  refused_here i (err.Absent k at) lt given h =
      ap (option_and_then (λ j. option_map (absence j) (absent_in all j)))
      (find_first (λ j. is_some (absent_in all j)) (length all) i lt (some_of (absence i) (absent_in all i) (k, at) h) (λ j le. ap is_some (given j le)))
      ∙ h
