-- The code of a search, half by half, and its jumps, which are told where the arms begin.
use Rattle.std.proofs.Common.{◌≡◌, Option, ℕ, zero, suc, ◌+◌, ◌-◌, ◌/◌, ◌<◌, ◌≤◌, Bool, true, false, if◌then◌else◌, List, [], ◌∷◌, ◌++◌, length, get_or, map, take, drop, refl, sym, ap, ◌∙◌, arith, append_assoc, length-append}
use Rattle.std.specs.Prelude.{slice_set}
use Rattle.std.specs.Ordering.{int_eq}
use Rattle.std.proofs.Math.Seq.{set-append_seam}
use Rattle.std.proofs.lemmas.List.{map-append, drop_more, take_at, drop_at}
use Rattle.aos_base.specs.declared.number.Relation.TheVariants.{Less}
use Rattle.aos_base.specs.declared.operator.Binary.TheVariants.{Cmp}
use Rattle.aos_typed.specs.declared.tree.LabelRange.{LabelRange}
use Rattle.aos_typed.specs.declared.tree.LabelRow.{LabelRow}
use Rattle.aos_typed.specs.declared.tree.TCase.{TCase, out-TCase}
use Rattle.aos_typed.specs.declared.tree.TElse.{TElse}
use Rattle.aos_typed.specs.declared.tree.TElse.TheVariants as otherwise
use Rattle.aos_typed.specs.Program.{Cases, NoElse, Else, OfLabels, Procedure, Program}
use Rattle.aos_typed.specs.Seen.{seen_else, cases_of}
use Rattle.aos_code.specs.declared.instr.Instr.{Instr}
use Rattle.aos_code.specs.declared.instr.Instr.TheVariants as i
use Rattle.aos_code.specs.declared.instr.Kind.TheVariants.{N}
use Rattle.aos_sim.specs.Search.{rows_to, rows_from, arms_in, in_order, Search, Nowhere, At, Split, lowest, halved, search_of, one_code, range_code, label_code, search_size, search_code}
use Rattle.aos_sim.specs.Code.{Within, Ways, stats_code, cases_code, arm_place}
use Rattle.aos_sim.proofs.Sizes.{way, search_length, cases_length}
use Rattle.aos_emit_stat.specs.Places.{places_from, place_in, led}
use Rattle.aos_emit_expr.specs.Pending.{pending_exit, pending_end}
use Rattle.aos_emit_stat.specs.Redirect.{redirect_behind}
use Rattle.aos_emit_stat.proofs.Patch.{ended}
use Rattle.aos_emit_stat.proofs.Pending.{cases_known}

-- what the search in so many rows is

pub none_halved : (deep : ℕ) (rows : List LabelRow) → length rows ≤ 0 → halved deep rows ≡ Nowhere
none_halved deep [] le = refl
none_halved deep (r ∷ rows) le = absurd (omega arith)

pub flat_halved : (rows : List LabelRow) → 1 < length rows → halved zero rows ≡ Nowhere
flat_halved [] lt = absurd (omega arith)
flat_halved (r ∷ []) lt = absurd (omega arith)
flat_halved (r ∷ s ∷ rows) lt = refl

pub one_halved : (deep : ℕ) (rows : List LabelRow) (d : LabelRow) → length rows ≡ 1 → halved deep rows ≡ At (get_or rows 0 d)
one_halved deep [] d e = absurd (omega arith)
one_halved deep (r ∷ []) d e = refl
one_halved deep (r ∷ s ∷ rows) d e = absurd (omega arith)

pub more_halved : (deep half : ℕ) (rows : List LabelRow) (d : LabelRow) → 1 < length rows → half ≡ length rows / 2 → halved (suc deep) rows ≡ Split (get_or rows half d).labels.low (halved deep (take half rows)) (halved deep (drop half rows))
more_halved deep half [] d lt e = absurd (omega arith)
more_halved deep half (r ∷ []) d lt e = absurd (omega arith)
more_halved deep half (r ∷ s ∷ rows) d lt e =
    let all = r ∷ s ∷ rows in
    let within : half < length all = omega (arith, lt, e) in
    ap (λ n. Split (lowest (drop n all) r.labels.low) (halved deep (take n all)) (halved deep (drop n all))) (sym e)
    ∙ ap (λ l. Split (lowest l r.labels.low) (halved deep (take half all)) (halved deep (drop half all))) (drop_more all half d within)

-- the jumps to the numbers of arms lead to their places
label_led : (f : ℕ → ℕ) (r : LabelRange) (level at hit : ℕ) → map (led f) (label_code r level at hit) ≡ label_code r level at (f hit)
label_led f r level at hit = by (int_eq r.low r.high)
  where
    by : (b : Bool) → map (led f) (if b then one_code r.low level at hit else range_code r level at hit) ≡ (if b then one_code r.low level at (f hit) else range_code r level at (f hit))
    by true = refl
    by false = refl

pub search_led : (f place : ℕ → ℕ) (other : ℕ) (t : Search) (level at : ℕ) → map (led f) (search_code place other t level at) ≡ search_code (λ n. f (place n)) other t level at
search_led f place other Nowhere level at = refl
search_led f place other (At r) level at =
    map-append (led f) (label_code r.labels level at (place r.arm)) (i.Jump (place other) ∷ [])
    ∙ ap (λ l. l ++ i.Jump (f (place other)) ∷ []) (label_led f r.labels level at (place r.arm))
search_led f place other (Split middle below above) level at =
    let front = i.Kept level N ∷ i.Num middle ∷ i.Binary (Cmp Less) ∷ i.JumpFalse (at + 4 + search_size below) ∷ [] in
    let lower = search_code place other below level (at + 4) in
    let upper = search_code place other above level (at + 4 + search_size below) in
    ap (λ l. front ++ l) (map-append (led f) lower upper ∙ (λ j. search_led f place other below level (at + 4) j ++ search_led f place other above level (at + 4 + search_size below) j))

module _ (program : Program) (own : Option Procedure) where
  pub placed : (other : ℕ) (cases : Cases) (at : ℕ) (w : Ways) (level n : ℕ) → place_in other (places_from program own cases at w level) n ≡ arm_place program own cases at w level n
  placed other NoElse at w level zero = refl
  placed other NoElse at w level (suc n) = refl
  placed other (Else ss) at w level zero = refl
  placed other (Else ss) at w level (suc n) = refl
  placed other (OfLabels rs ss cases) at w level zero = refl
  placed other (OfLabels rs ss cases) at w level (suc n) = placed at cases (at + length (stats_code program own ss at w level) + 1) w level n

-- a place by its number, and the last one past them
pub place_there : (other : ℕ) (ps : List ℕ) (n d : ℕ) → n < length ps → place_in other ps n ≡ get_or ps n d
place_there other [] n d lt = absurd (omega arith)
place_there other (p ∷ ps) zero d lt = refl
place_there other (p ∷ ps) (suc n) d lt = place_there p ps n d (omega arith)

pub place_last : (other : ℕ) (ps : List ℕ) (n d : ℕ) → 0 < length ps → length ps ≤ n → place_in other ps n ≡ get_or ps (length ps - 1) d
place_last other [] n d lt le = absurd (omega arith)
place_last other (p ∷ ps) zero d lt le = absurd (omega arith)
place_last other (p ∷ []) (suc n) d lt le = refl
place_last other (p ∷ q ∷ ps) (suc n) d lt le =
    let next : suc (length (q ∷ ps) - 1) ≡ length (p ∷ q ∷ ps) - 1 = omega arith in
    place_last p (q ∷ ps) n d (omega arith) (omega arith) ∙ ap (λ k. get_or (p ∷ q ∷ ps) k d) next

pub place_none : (other : ℕ) (ps : List ℕ) (n : ℕ) → length ps ≤ 0 → other ≡ place_in other ps n
place_none other [] n le = refl
place_none other (p ∷ ps) n le = absurd (omega arith)

-- two halves of a search; the jump over the lower one is written when that is there
pub halves : (base c1 c2 c3 : List Instr) (a b x : Instr) (lower upper : ℕ → List Instr) (n1 n2 size : ℕ) → c1 ≡ base ++ a ∷ b ∷ x ∷ i.JumpFalse 0 ∷ [] → c2 ≡ c1 ++ lower (length c1) → n1 ≡ length base + 3 → n2 ≡ length c2 → length (lower (length base + 4)) ≡ size → let c = slice_set c2 n1 (i.JumpFalse n2) in c3 ≡ c ++ upper (length c) → c3 ≡ base ++ a ∷ b ∷ x ∷ i.JumpFalse (length base + 4 + size) ∷ (lower (length base + 4) ++ upper (length base + 4 + size))
halves base c1 c2 c3 a b x lower upper n1 n2 size e1 e2 m1 m2 long e3 =
    let test = a ∷ b ∷ x ∷ [] in
    let at = length base + 4 in
    let l1 = ap length e1 ∙ length-append base (a ∷ b ∷ x ∷ i.JumpFalse 0 ∷ []) in
    let p1 : length c1 ≡ at = omega (arith, l1) in
    let low = lower at in
    let f2 = e2 ∙ ap (λ n. c1 ++ lower n) p1 in
    let l2 = ap length f2 ∙ length-append c1 low in
    let p2 : n2 ≡ at + size = omega (arith, m2, l2, p1, long) in
    let place : n1 ≡ length (base ++ test) = omega (arith, m1, length-append base test) in
    let all : c2 ≡ (base ++ test) ++ i.JumpFalse 0 ∷ low = f2 ∙ ap (λ l. l ++ low) e1 ∙ append_assoc base (a ∷ b ∷ x ∷ i.JumpFalse 0 ∷ []) low ∙ sym (append_assoc base test (i.JumpFalse 0 ∷ low)) in
    let front = a ∷ b ∷ x ∷ i.JumpFalse (at + size) ∷ low in
    let set : slice_set c2 n1 (i.JumpFalse n2) ≡ base ++ front =
    (λ j. slice_set (all j) (place j) (i.JumpFalse (p2 j)))
    ∙ set-append_seam (base ++ test) (i.JumpFalse 0) low (i.JumpFalse (at + size))
    ∙ append_assoc base test (i.JumpFalse (at + size) ∷ low) in
    let end : length (base ++ front) ≡ at + size = omega (arith, length-append base front, long) in
    e3 ∙ ap (λ l. l ++ upper (length l)) set ∙ ap (λ n. (base ++ front) ++ upper n) end ∙ append_assoc base front (upper (at + size))

-- ELSE has no labels
pub else_rows : (arm : ℕ) (cases : List TCase) (o : TElse) → rows_from arm (cases_of cases (seen_else o)) ≡ rows_from arm (cases_of cases NoElse)
else_rows arm [] otherwise.Missing = refl
else_rows arm [] (otherwise.Else' shape body) = refl
else_rows arm (c ∷ cases) o = ap (λ l. rows_to arm (out-TCase c).labels.items ++ l) (else_rows (suc arm) cases o)

pub else_arms : (cases : List TCase) (o : TElse) → arms_in (cases_of cases (seen_else o)) ≡ length cases
else_arms [] otherwise.Missing = refl
else_arms [] (otherwise.Else' shape body) = refl
else_arms (c ∷ cases) o = ap suc (else_arms cases o)

pub else_place : (p : Program) (own : Option Procedure) (o : TElse) (at : ℕ) (w : Ways) (level : ℕ) → places_from p own (seen_else o) at w level ≡ at ∷ []
else_place p own otherwise.Missing at w level = refl
else_place p own (otherwise.Else' shape body) at w level = refl

-- a search that leads to the numbers of arms, the arms behind it, whose end is told first, and then their places
pub searched : (p : Program) (own : Option Procedure) (u : Within) (all : Cases) (base c1 c2 c3 now part rest : List Instr) (rows : List LabelRow) (places : List ℕ) (deep from first end other len d : ℕ) → rows ≡ in_order (rows_from 0 all) → deep ≡ length rows → other ≡ arms_in all → from ≡ length base → c1 ≡ base ++ search_code (λ n. n) other (halved deep rows) d (length base) → first ≡ length c1 → c2 ≡ c1 ++ cases_code p own all (length c1) pending_end (way u pending_exit) d → places ≡ places_from p own all (length c1) (way u pending_exit) d → end ≡ length c2 → length c2 < 4294967294 → c3 ≡ redirect_behind first pending_end end c2 → now ≡ c3 → len ≡ length c3 → part ≡ map (led (place_in 0 places)) (take (first - from) (drop from now)) → let begin = length base + search_size (search_of all) in take len ((take from now ++ (part ++ drop (first - from) (drop from now))) ++ rest) ≡ base ++ (search_code (arm_place p own all begin (way u pending_exit) d) (arms_in all) (search_of all) d (length base) ++ cases_code p own all begin (begin + length (cases_code p own all begin 0 (way u pending_exit) d)) (way u pending_exit) d)
searched p own u all base c1 c2 c3 now part rest rows places deep from first end other len d er ed eo ef e1 e2 e3 ep en few e4 e5 el part_is =
    let t = search_of all in
    let at = length base in
    let s = search_code (λ n. n) (arms_in all) t d at in
    let begin = at + search_size t in
    let arms : ℕ → List Instr = λ n. cases_code p own all begin n (way u pending_exit) d in
    let last = begin + length (arms 0) in
    let size = search_length (λ n. n) (arms_in all) t d at in
    let depth : deep ≡ length (in_order (rows_from 0 all)) = ed ∙ ap length er in
    let found : c1 ≡ base ++ s = e1 ∙ (λ j. base ++ search_code (λ n. n) (eo j) (halved (depth j) (er j)) d at) in
    let l1 = ap length found ∙ length-append base s in
    let here : length c1 ≡ begin = omega (arith, l1, size) in
    let pending : c2 ≡ c1 ++ arms pending_end = e3 ∙ ap (λ n. c1 ++ cases_code p own all n pending_end (way u pending_exit) d) here in
    let l2 = ap length pending ∙ length-append c1 (arms pending_end) in
    let same = cases_length p own all begin pending_end 0 u pending_exit pending_exit d in
    let below : begin + length (arms pending_end) < 4294967294 = omega (arith, few, l2, here) in
    let to : end ≡ last = omega (arith, en, l2, here, same) in
    let told : c3 ≡ base ++ (s ++ arms last) =
    e4 ∙ ended c1 c2 arms pending_end first end pending e2 (cases_known p own pending_end end all begin u pending_exit d refl below)
    ∙ (λ j. found j ++ arms (to j)) ∙ append_assoc base s (arms last) in
    let all_now = e5 ∙ told in
    let placed_at : (n : ℕ) → place_in 0 places n ≡ arm_place p own all begin (way u pending_exit) d n =
    λ n. ap (λ l. place_in 0 l n) (ep ∙ ap (λ k. places_from p own all k (way u pending_exit) d) here) ∙ placed p own 0 all begin (way u pending_exit) d n in
    let led_there : map (led (place_in 0 places)) s ≡ search_code (arm_place p own all begin (way u pending_exit) d) (arms_in all) t d at =
    search_led (place_in 0 places) (λ n. n) (arms_in all) t d at ∙ (λ j. search_code (λ n. placed_at n j) (arms_in all) t d at) in
    let long : length s ≡ first - from = omega (arith, ef, e2, here, size) in
    let behind : drop from now ≡ s ++ arms last = ap (drop from) all_now ∙ drop_at base (s ++ arms last) from (sym ef) in
    let part_there : part ≡ search_code (arm_place p own all begin (way u pending_exit) d) (arms_in all) t d at =
    part_is ∙ ap (λ l. map (led (place_in 0 places)) (take (first - from) l)) behind ∙ ap (map (led (place_in 0 places))) (take_at s (arms last) (first - from) long) ∙ led_there in
    let whole = search_code (arm_place p own all begin (way u pending_exit) d) (arms_in all) t d at ++ arms last in
    let written : take from now ++ (part ++ drop (first - from) (drop from now)) ≡ base ++ whole =
    (λ j. take from (all_now j) ++ (part_there j ++ drop (first - from) (behind j)))
    ∙ (λ j. take_at base (s ++ arms last) from (sym ef) j ++ (search_code (arm_place p own all begin (way u pending_exit) d) (arms_in all) t d at ++ drop_at s (arms last) (first - from) long j)) in
    let count : length (base ++ whole) ≡ len =
    omega (arith, el, ap length told, length-append base (s ++ arms last), length-append s (arms last), length-append base whole, length-append (search_code (arm_place p own all begin (way u pending_exit) d) (arms_in all) t d at) (arms last), search_length (arm_place p own all begin (way u pending_exit) d) (arms_in all) t d at, size) in
    ap (λ l. take len (l ++ rest)) written ∙ take_at (base ++ whole) rest len count
