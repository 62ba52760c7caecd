-- The numbers of any command that words are lie in their ranges.
use Rattle.std.proofs.Common.{◌≡◌, ◌&&◌, ℕ, Bool, true, false, List, [], ◌∷◌, Option, Some, None, IfSome, Result, Ok, Err, IfOk, length, nat_le, option_map, option_and_then, if◌then◌else◌, codes, arith, refl, subst}
use Rattle.std.specs.Prelude.{⊤}
use Rattle.std.specs.Str.{bytes_eq}
use Rattle.std.specs.Str.Parse.{digits_value}
use Rattle.std.proofs.lemmas.Bool.{and_parts, leb-true}
use Rattle.clap.specs.Simple.{App}
use Rattle.clap.specs.Walk.{Row, Text, all_of, first_of}
use Rattle.aos_words.specs.declared.command.WordsErr.{WordsErr}
use Rattle.aos_words.specs.declared.command.Command.{Command as Given}
use Rattle.aos_words.specs.Forms.{run_form, replay_form, files_form, gen_form}
use Rattle.aos_words.specs.Number.{is_number, number_in}
use Rattle.aos_words.specs.Shown.{AnswersBy, command_in}
use Rattle.aos_words.specs.Words.{Words, Run, Replay, Check, List_, Gen, most_workers, most_budget, default_budget, most_files, most_pairs, number_or, workers_of, budget_of, is_set, few, files_of, pairs_of, run_of, replay_of, check_of, list_of, gen_of, taken, by, command_by, command_of, IsWithin, AreFew, IsInRange}

-- Options

any : {A : Type 0} (o : Option A) → IfSome o (λ _. ⊤)
any None = tt
any (Some x) = tt

some_if : {A : Type 0} (P : A → Type 0) (b : Bool) (x : A) → (b ≡ true → P x) → IfSome (if b then Some x else None) P
some_if P true x k = k refl
some_if P false x k = tt

either : {A : Type 0} (P : A → Type 0) (b : Bool) (x y : Option A) → IfSome x P → IfSome y P → IfSome (if b then x else y) P
either P true x y h k = h
either P false x y h k = k

and_then : {A B : Type 0} (P : A → Type 0) (Q : B → Type 0) (f : A → Option B) (o : Option A) → IfSome o P → ((x : A) → P x → IfSome (f x) Q) → IfSome (option_and_then f o) Q
and_then P Q f None h k = tt
and_then P Q f (Some x) h k = k x h

mapped : {A B : Type 0} (P : A → Type 0) (Q : B → Type 0) (f : A → B) (o : Option A) → IfSome o P → ((x : A) → P x → Q (f x)) → IfSome (option_map f o) Q
mapped P Q f None h k = tt
mapped P Q f (Some x) h k = k x h

-- Numbers and files

within : (least most n : ℕ) → (nat_le least n && nat_le n most) ≡ true → IsWithin least most n
within least most n e =
    let range = and_parts (nat_le least n) (nat_le n most) e in
    (leb-true least n range.0, leb-true n most range.1)

number : (least most : ℕ) (word : List ℕ) → IfSome (number_in least most word) (IsWithin least most)
number least most word =
    let n = digits_value 10 word in
    let fits = nat_le least n && nat_le n most in
    some_if (IsWithin least most) (is_number word && fits) n (λ e. within least most n (and_parts (is_number word) fits e).1)

number_or_default : (least most default : ℕ) (given : Option Text) → IsWithin least most default → IfSome (number_or least most default given) (IsWithin least most)
number_or_default least most default None h = h
number_or_default least most default (Some word) h = number least most word

workers : (rows : List Row) → IfSome (workers_of rows) (IsWithin 1 most_workers)
workers rows = number_or_default 1 most_workers 1 (first_of (codes "workers") rows) (omega arith, omega arith)

budget : (rows : List Row) → IfSome (budget_of rows) (IsWithin 1 most_budget)
budget rows = number_or_default 1 most_budget default_budget (first_of (codes "budget") rows) (omega arith, omega arith)

pairs : (rows : List Row) → IfSome (pairs_of rows) (IsWithin 1 most_pairs)
pairs rows =
    and_then (λ _. ⊤) (IsWithin 1 most_pairs) (number_in 1 most_pairs) (first_of (codes "N") rows) (any (first_of (codes "N") rows)) (λ word _. number 1 most_pairs word)

few_files : (files : Words) → IfSome (few files) AreFew
few_files files = some_if AreFew (nat_le 1 (length files) && nat_le (length files) most_files) files (λ e. within 1 most_files (length files) e)

files : (rows : List Row) → IfSome (files_of rows) AreFew
files rows = and_then (λ _. ⊤) AreFew few (all_of (codes "FILE") rows) (any (all_of (codes "FILE") rows)) (λ fs _. few_files fs)

-- Commands

run : (rows : List Row) → IfSome (run_of rows) IsInRange
run rows =
    and_then (IsWithin 1 most_workers) IsInRange _ (workers_of rows) (workers rows)
    (λ n w. and_then (IsWithin 1 most_budget) IsInRange _ (budget_of rows) (budget rows)
    (λ m b. mapped AreFew IsInRange (λ fs. Run n m (is_set (codes "log") rows) fs) (files_of rows) (files rows)
    (λ fs f. record { workers_in = w; budget_in = b; files_in = f })))

replay : (rows : List Row) → IfSome (replay_of rows) IsInRange
replay rows =
    and_then (λ _. ⊤) IsInRange _ (first_of (codes "script") rows) (any (first_of (codes "script") rows))
    (λ script _. mapped AreFew IsInRange (λ fs. Replay script (is_set (codes "watch") rows) fs) (files_of rows) (files rows) (λ fs f. f))

generate : (rows : List Row) → IfSome (gen_of rows) IsInRange
generate rows =
    and_then (IsWithin 1 most_workers) IsInRange _ (workers_of rows) (workers rows)
    (λ n w. mapped (IsWithin 1 most_pairs) IsInRange (λ m. Gen n m) (pairs_of rows) (pairs rows) (λ m p. record { workers_in = w; pairs_in = p }))

by_form : {A : Type 0} (P : A → Type 0) (form : App) (made : List Row → Option A) (words : Words) → ((rows : List Row) → IfSome (made rows) P) → IfSome (by form made words) P
by_form P form made words k = and_then (λ _. ⊤) P made (taken form words) (any (taken form words)) (λ rows _. k rows)

check : (words : Words) → IfSome (check_of words) IsInRange
check words =
    let form = files_form (codes "check") in
    mapped AreFew IsInRange (λ fs. Check fs) (by form files_of words) (by_form AreFew form files_of words files) (λ fs f. f)

list : (words : Words) → IfSome (list_of words) IsInRange
list words =
    let form = files_form (codes "list") in
    mapped AreFew IsInRange (λ fs. List_ fs) (by form files_of words) (by_form AreFew form files_of words files) (λ fs f. f)

by_name : (name : List ℕ) (words : Words) → IfSome (command_by name words) IsInRange
by_name name words =
    either IsInRange (bytes_eq name (codes "run")) _ _ (by_form IsInRange run_form run_of words run)
    (either IsInRange (bytes_eq name (codes "replay")) _ _ (by_form IsInRange replay_form replay_of words replay)
    (either IsInRange (bytes_eq name (codes "check")) _ _ (check words)
    (either IsInRange (bytes_eq name (codes "list")) _ _ (list words)
    (either IsInRange (bytes_eq name (codes "gen")) _ None (by_form IsInRange gen_form gen_of words generate) tt))))

in_range : (words : Words) → IfSome (command_of words) IsInRange
in_range [] = tt
in_range (name ∷ others) = by_name name (name ∷ others)

-- so those of one that was read
pub read_in_range : (words : Words) (r : Result Given WordsErr) → AnswersBy command_in (command_of words) r → IfOk r (λ c. IsInRange (command_in c))
read_in_range words (Ok c) e = subst (λ o. IfSome o IsInRange) e (in_range words)
read_in_range words (Err e) h = tt
