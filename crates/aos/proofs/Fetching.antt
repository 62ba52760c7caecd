-- Files that are fetched one after another.
use Rattle.std.proofs.Common.{◌≡◌, ℕ, suc, ◌+◌, ◌<◌, ◌≤◌, List, [], ◌∷◌, ◌++◌, length, take, drop, get_or, Option, Some, None, Bool, true, false, refl, sym, ap, ◌∙◌, subst, append_assoc}
use Rattle.std.specs.Prelude.{if◌then◌else◌, IsSomeAnd, IfSome, nat_le, All, Vec}
use Rattle.std.specs.declared.alloc.Global.{Global}
use Rattle.std.specs.Borrow.{Bor}
use Rattle.std.proofs.lemmas.Bool.{lt-leb}
use Rattle.std.proofs.lemmas.List.{take_more, map-append, take-append-drop}
use Rattle.std.proofs.lemmas.List.Elements.{All-nil, All-cons}
use Rattle.aos_dev.specs.Shelf.{Named, text_of}
use Rattle.aos_dev.proofs.CountLemmas.{stays_then_rose}
use Rattle.aos.specs.declared.answer.Answer.{Answer}
use Rattle.aos.specs.declared.fetch.FetchedFile.{FetchedFile}
use Rattle.aos.specs.declared.fetch.FetchedFile.TheVariants.{Text as FileText, Stopped as FileStopped}
use Rattle.aos.specs.declared.fetch.FetchedFiles.{FetchedFiles}
use Rattle.aos.specs.declared.fetch.FetchedFiles.TheVariants.{Texts as FilesTexts, Stopped as FilesStopped}
use Rattle.aos_report.specs.Texts.{refusal_text, unread_text, too_long_text}
use Rattle.aos.specs.Call.{ShelfUse, ProbesUse, ShelfFailed}
use Rattle.aos_words.specs.Words.{Words, Command, borrowed, AreFew, Asks}
use Rattle.aos.specs.Wanted.{Wanted, wanted_files, IsWanted, text_file, text_files, text_limit}
use Rattle.aos.specs.Fetched.{Fetched, Texts, NoFile, LongFile, with_text, fetch_one, fetch_all, AreWithin, Fetches, AreHad, Had}
use Rattle.aos.specs.Cause.{Cause, unread, absent, too_long, whole}
use Rattle.aos.specs.Shown.{IsAnswer, texts_of, AreTexts, StopsBy, by_fault, by_absence, by_length, IsFetched, AreFetched}

-- the texts of some files, and what came of the files behind them
abbrev with_texts : List (List ℕ) → Fetched → Fetched
with_texts [] f = f
with_texts (text ∷ texts) f = with_text text (with_texts texts f)

abbrev behind : Fetched → Fetched → Fetched
behind (Texts texts) f = with_texts texts f
behind (NoFile file) f = NoFile file
behind (LongFile file most) f = LongFile file most

with_text_behind : (text : List ℕ) (a b : Fetched) → with_text text (behind a b) ≡ behind (with_text text a) b
with_text_behind text (Texts texts) b = refl
with_text_behind text (NoFile file) b = refl
with_text_behind text (LongFile file most) b = refl

one_behind : (w : Wanted) (o : Option (List ℕ)) (a b : Fetched) → fetch_one w o (behind a b) ≡ behind (fetch_one w o a) b
one_behind w None a b = refl
one_behind w (Some text) a b = by_length_of (nat_le (length text) w.most)
  where
    by_length_of : (q : Bool) → (if q then with_text text (behind a b) else LongFile w.file w.most) ≡ behind (if q then with_text text a else LongFile w.file w.most) b
    by_length_of true = with_text_behind text a b
    by_length_of false = refl

-- files, and others behind them
fetch_all-append : (ts : List Named) (xs ys : List Wanted) → fetch_all ts (xs ++ ys) ≡ behind (fetch_all ts xs) (fetch_all ts ys)
fetch_all-append ts [] ys = refl
fetch_all-append ts (w ∷ ws) ys =
    ap (fetch_one w (text_of ts w.file)) (fetch_all-append ts ws ys)
    ∙ one_behind w (text_of ts w.file) (fetch_all ts ws) (fetch_all ts ys)

with_texts-texts : (xs ys : List (List ℕ)) → with_texts xs (Texts ys) ≡ Texts (xs ++ ys)
with_texts-texts [] ys = refl
with_texts-texts (x ∷ xs) ys = ap (with_text x) (with_texts-texts xs ys)

with_texts-none : (xs : List (List ℕ)) (file : List ℕ) → with_texts xs (NoFile file) ≡ NoFile file
with_texts-none [] file = refl
with_texts-none (x ∷ xs) file = ap (with_text x) (with_texts-none xs file)

with_texts-long : (xs : List (List ℕ)) (file : List ℕ) (most : ℕ) → with_texts xs (LongFile file most) ≡ LongFile file most
with_texts-long [] file most = refl
with_texts-long (x ∷ xs) file most = ap (with_text x) (with_texts-long xs file most)

-- where the shelf tells its texts
told : (texts : Option (List Named)) (P Q : List Named → Type 0) → ((ts : List Named) → P ts → Q ts) → IfSome texts P → IfSome texts Q
told None P Q f h = tt
told (Some ts) P Q f h = f ts h

told_both : (texts : Option (List Named)) (P Q R : List Named → Type 0) → ((ts : List Named) → P ts → Q ts → R ts) → IfSome texts P → IfSome texts Q → IfSome texts R
told_both None P Q R f h k = tt
told_both (Some ts) P Q R f h k = f ts h k

AreWithin-append : (ws vs : List Wanted) (xs ys : List (List ℕ)) → AreWithin ws xs → AreWithin vs ys → AreWithin (ws ++ vs) (xs ++ ys)
AreWithin-append [] vs [] ys h k = k
AreWithin-append [] vs (x ∷ xs) ys h k = absurd h
AreWithin-append (w ∷ ws) vs [] ys h k = absurd h
AreWithin-append (w ∷ ws) vs (x ∷ xs) ys h k = (h.0, AreWithin-append ws vs xs ys h.1 k)

module _ (texts : Option (List Named)) where
  pub none_had : Had texts [] []
  none_had = record { told = none texts; fits = tt }
    where
      none : (o : Option (List Named)) → Fetches o [] (Texts [])
      none None = tt
      none (Some ts) = refl

  none_before : AreHad texts []
  none_before = none texts
    where
      none : (o : Option (List Named)) → AreHad o []
      none None = tt
      none (Some ts) = ([], refl)

  -- behind files that are had
  then_fetches : (ws vs : List Wanted) (xs : List (List ℕ)) (f : Fetched) → Fetches texts ws (Texts xs) → Fetches texts vs f → Fetches texts (ws ++ vs) (with_texts xs f)
  then_fetches ws vs xs f h k = told_both texts _ _ _ (λ ts e e'. fetch_all-append ts ws vs ∙ ap (λ a. behind a (fetch_all ts vs)) e ∙ ap (with_texts xs) e') h k

  pub Had-append : (ws vs : List Wanted) (xs ys : List (List ℕ)) → Had texts ws xs → Had texts vs ys → Had texts (ws ++ vs) (xs ++ ys)
  Had-append ws vs xs ys h k = record {
    told = subst (Fetches texts (ws ++ vs)) (with_texts-texts xs ys) (then_fetches ws vs xs (Texts ys) h.told k.told);
    fits = AreWithin-append ws vs xs ys h.fits k.fits;
  }

  then_had : (ws vs : List Wanted) (xs : List (List ℕ)) → Fetches texts ws (Texts xs) → AreHad texts vs → AreHad texts (ws ++ vs)
  then_had ws vs xs h k = told_both texts _ _ _ (λ ts e e'. (xs ++ e'.0, fetch_all-append ts ws vs ∙ ap (λ a. behind a (fetch_all ts vs)) e ∙ ap (with_texts xs) e'.1 ∙ with_texts-texts xs e'.0)) h k

module _ (shelf : ShelfUse) where
  -- files that stop, in front of others
  pub stops_before : (ws vs : List Wanted) {status : ℕ} {out err : List ℕ} → StopsBy shelf ws status out err → StopsBy shelf (ws ++ vs) status out err
  stops_before ws vs (by_fault {w} is had f) =
      by_fault (record { before = is.before; others = is.others ++ vs; order = ap (λ l. l ++ vs) is.order ∙ append_assoc is.before (w ∷ is.others) vs }) had f
  stops_before ws vs (by_absence {w} is h) =
      by_absence (record { before = is.before; others = is.others ++ vs; order = ap (λ l. l ++ vs) is.order ∙ append_assoc is.before (w ∷ is.others) vs })
      (told shelf.texts _ _ (λ ts e. fetch_all-append ts ws vs ∙ ap (λ a. behind a (fetch_all ts vs)) e) h)
  stops_before ws vs (by_length {w} is h) =
      by_length (record { before = is.before; others = is.others ++ vs; order = ap (λ l. l ++ vs) is.order ∙ append_assoc is.before (w ∷ is.others) vs })
      (told shelf.texts _ _ (λ ts e. fetch_all-append ts ws vs ∙ ap (λ a. behind a (fetch_all ts vs)) e) h)

  -- files that stop, behind files that are had
  pub stops_behind : (ws vs : List Wanted) (xs : List (List ℕ)) {status : ℕ} {out err : List ℕ} → Had shelf.texts ws xs → StopsBy shelf vs status out err → StopsBy shelf (ws ++ vs) status out err
  stops_behind ws vs xs k (by_fault {w} is had f) =
      by_fault (record { before = ws ++ is.before; others = is.others; order = ap (λ l. ws ++ l) is.order ∙ sym (append_assoc ws is.before (w ∷ is.others)) })
      (then_had shelf.texts ws is.before xs k.told had) f
  stops_behind ws vs xs k (by_absence {w} is h) =
      by_absence (record { before = ws ++ is.before; others = is.others; order = ap (λ l. ws ++ l) is.order ∙ sym (append_assoc ws is.before (w ∷ is.others)) })
      (subst (Fetches shelf.texts (ws ++ vs)) (with_texts-none xs w.file) (then_fetches shelf.texts ws vs xs (NoFile w.file) k.told h))
  stops_behind ws vs xs k (by_length {w} is h) =
      by_length (record { before = ws ++ is.before; others = is.others; order = ap (λ l. ws ++ l) is.order ∙ sym (append_assoc ws is.before (w ∷ is.others)) })
      (subst (Fetches shelf.texts (ws ++ vs)) (with_texts-long xs w.file w.most) (then_fetches shelf.texts ws vs xs (LongFile w.file w.most) k.told h))

  -- the cause of an answer where the files that the words ask for stop
  pub stops_cause : (words : Words) (c : Command) {probes : ProbesUse} {status : ℕ} {out err : List ℕ} → StopsBy shelf (wanted_files c) status out err → Asks words c → Cause words shelf probes status out err
  stops_cause words c (by_fault is had f) asks = unread asks is had f
  stops_cause words c (by_absence is h) asks = absent asks is h
  stops_cause words c (by_length is h) asks = too_long asks is h

-- a fetch behind others that didn't fail
pub stops_later : (texts : Option (List Named)) (old mid new : ℕ) (ws : List Wanted) {status : ℕ} {out err : List ℕ} → old ≤ mid → StopsBy (record { texts = texts; faults_before = mid; faults_after = new }) ws status out err → StopsBy (record { texts = texts; faults_before = old; faults_after = new }) ws status out err
stops_later texts old mid new ws le (by_fault is had f) = by_fault is had (stays_then_rose old mid new le f)
stops_later texts old mid new ws le (by_absence is h) = by_absence is h
stops_later texts old mid new ws le (by_length is h) = by_length is h

-- One file

module _ (shelf : ShelfUse) (w : Wanted) where
  abbrev alone : IsWanted (w ∷ []) w
  alone = record { before = []; others = []; order = refl }

  pub fails_alone : ShelfFailed shelf → StopsBy shelf (w ∷ []) 6 [] (unread_text w.file)
  fails_alone f = by_fault alone (none_before shelf.texts) f

  pub lacks_it : IfSome shelf.texts (λ ts. text_of ts w.file ≡ None) → StopsBy shelf (w ∷ []) 1 [] (refusal_text w.file 1 whole)
  lacks_it h = by_absence alone (told shelf.texts _ _ (λ ts e. ap (λ o. fetch_one w o (Texts [])) e) h)

  pub exceeds_it : IfSome shelf.texts (λ ts. IsSomeAnd (text_of ts w.file) (λ text. w.most < length text)) → StopsBy shelf (w ∷ []) 6 [] (too_long_text w.file w.most)
  exceeds_it h = by_length alone (told shelf.texts _ _ (λ ts e. by_text (text_of ts w.file) e) h)
    where
      by_text : (o : Option (List ℕ)) → IsSomeAnd o (λ text. w.most < length text) → fetch_one w o (Texts []) ≡ LongFile w.file w.most
      by_text None e = absurd e
      by_text (Some text) lt = ap (λ q. if q then with_text text (Texts []) else LongFile w.file w.most) (lt-leb (length text) w.most lt)

  -- what came of it
  pub came_text : (r : FetchedFile) (v : Vec ℕ Global) → IsFetched shelf w r → r ≡ FileText v → Had shelf.texts (w ∷ []) (v.items ∷ [])
  came_text r v h e = subst (λ x. IsFetched shelf w x) e h

  pub came_stopped : (r : FetchedFile) (a : Answer) → IsFetched shelf w r → r ≡ FileStopped a → StopsBy shelf (w ∷ []) a.status a.out.items a.err.items
  came_stopped r a h e = subst (λ x. IsFetched shelf w x) e h

-- an answer that tells how the files stop
pub stops_along : (shelf : ShelfUse) (ws : List Wanted) (a : Answer) (status : ℕ) (out err err' : List ℕ) → IsAnswer a status out err → err ≡ err' → StopsBy shelf ws status out err' → StopsBy shelf ws a.status a.out.items a.err.items
stops_along shelf ws a status out err err' is same h =
    subst (λ x. StopsBy shelf ws x a.out.items a.err.items) (sym is.status_is)
    (subst (λ x. StopsBy shelf ws status x a.err.items) (sym is.out_is)
    (subst (λ x. StopsBy shelf ws status out x) (sym (is.err_is ∙ same)) h))

-- All files

module _ (shelf : ShelfUse) (ws : List Wanted) where
  pub all_came : (r : FetchedFiles) (v : Vec (Vec ℕ Global) Global) → AreFetched shelf ws r → r ≡ FilesTexts v → Had shelf.texts ws (texts_of v.items)
  all_came r v h e = subst (λ x. AreFetched shelf ws x) e h

  pub one_stopped : (r : FetchedFiles) (a : Answer) → AreFetched shelf ws r → r ≡ FilesStopped a → StopsBy shelf ws a.status a.out.items a.err.items
  one_stopped r a h e = subst (λ x. AreFetched shelf ws x) e h

module _ (files : List (Bor (List ℕ))) where
  abbrev wanted : List (Bor (List ℕ)) → List Wanted
  wanted fs = text_files (borrowed fs)

  -- the files so far, and one more
  pub wanted_more : (k : ℕ) (file : Bor (List ℕ)) → k < length files → file ≡ get_or files k file → wanted (take (k + 1) files) ≡ wanted (take k files) ++ text_file file.now ∷ []
  wanted_more k file lt at =
      ap wanted (take_more files k file lt ∙ ap (λ f. take k files ++ f ∷ []) (sym at))
      ∙ ap text_files (map-append (λ (w : Bor (List ℕ)). w.now) (take k files) (file ∷ []))
      ∙ map-append text_file (borrowed (take k files)) (file.now ∷ [])

  pub wanted_all : (k : ℕ) → wanted (take k files) ++ wanted (drop k files) ≡ wanted files
  wanted_all k =
      sym (map-append text_file (borrowed (take k files)) (borrowed (drop k files)))
      ∙ ap text_files (sym (map-append (λ (w : Bor (List ℕ)). w.now) (take k files) (drop k files)) ∙ ap borrowed (take-append-drop k files))

  -- one more of the files is had
  pub had_more : (texts : Option (List Named)) (k : ℕ) (file : Bor (List ℕ)) (xs : List (Vec ℕ Global)) (x : Vec ℕ Global) → k < length files → file ≡ get_or files k file → Had texts (wanted (take k files)) (texts_of xs) → Had texts (text_file file.now ∷ []) (x.items ∷ []) → Had texts (wanted (take (k + 1) files)) (texts_of (xs ++ x ∷ []))
  had_more texts k file xs x lt at h more =
      subst (λ ws. Had texts ws (texts_of (xs ++ x ∷ []))) (sym (wanted_more k file lt at))
      (subst (Had texts (wanted (take k files) ++ text_file file.now ∷ [])) (sym (map-append (λ t. t.items) xs (x ∷ [])))
      (Had-append texts (wanted (take k files)) (text_file file.now ∷ []) (texts_of xs) (x.items ∷ []) h more))

  -- one of the files stops, and those before it are had
  pub stops_at : (shelf : ShelfUse) (k : ℕ) (file : Bor (List ℕ)) (xs : List (Vec ℕ Global)) {status : ℕ} {out err : List ℕ} → k < length files → file ≡ get_or files k file → Had shelf.texts (wanted (take k files)) (texts_of xs) → StopsBy shelf (text_file file.now ∷ []) status out err → StopsBy shelf (wanted files) status out err
  stops_at shelf k file xs {status} {out} {err} lt at h stop =
      subst (λ ws. StopsBy shelf ws status out err) (wanted_all (k + 1))
      (stops_before shelf (wanted (take (k + 1) files)) (wanted (drop (k + 1) files))
      (subst (λ ws. StopsBy shelf ws status out err) (sym (wanted_more k file lt at))
      (stops_behind shelf (wanted (take k files)) (text_file file.now ∷ []) (texts_of xs) h stop)))

-- The texts that are had

-- are as many as the files
count_within : (files : Words) (xs : List (Vec ℕ Global)) → AreWithin (text_files files) (texts_of xs) → length xs ≡ length files
count_within [] [] h = refl
count_within [] (x ∷ xs) h = absurd h
count_within (w ∷ ws) [] h = absurd h
count_within (w ∷ ws) (x ∷ xs) h = ap suc (count_within ws xs h.1)

-- and each has no more bytes than it may have
limits_within : (files : Words) (xs : List (Vec ℕ Global)) → AreWithin (text_files files) (texts_of xs) → All (λ t. length t.items ≤ text_limit) xs
limits_within [] [] h = All-nil (λ t. length t.items ≤ text_limit)
limits_within [] (x ∷ xs) h = absurd h
limits_within (w ∷ ws) [] h = absurd h
limits_within (w ∷ ws) (x ∷ xs) h = All-cons (λ t. length t.items ≤ text_limit) x xs h.0 (limits_within ws xs h.1)

-- so they may be compiled
pub are_texts : (texts : Option (List Named)) (files : Words) (xs : List (Vec ℕ Global)) → AreFew files → Had texts (text_files files) (texts_of xs) → AreTexts xs
are_texts texts files xs few h =
    let count = sym (count_within files xs h.fits) in
    record {
      some = subst (λ (n : ℕ). 1 ≤ n) count few.0;
      few = subst (λ (n : ℕ). n ≤ 64) count few.1;
      limits = limits_within files xs h.fits;
    }
