-- Answers that show an image's run: for proofs and private functions alone.
use Rattle.std.specs.Prelude.{◌≡◌, ◌≢◌, ℕ, ◌≤◌, ◌^◌, List, [], ◌∷◌, ◌++◌, length, map, All, Bool}
use Rattle.std.specs.Prelude.{string_bytes, Vec}
use Rattle.std.specs.declared.alloc.Global.{Global}
use Rattle.aos_base.specs.declared.text.Refusal.{Refusal}
use Rattle.aos_base.specs.declared.kernel.Event.{Event}
use Rattle.aos_base.specs.declared.kernel.Outcome.TheVariants.{Going}
use Rattle.aos_base.specs.declared.kernel.Sched.{Sched}
use Rattle.aos_base.specs.Book.{Where, TrapRow}
use Rattle.aos_base.specs.Machine.{Choice, execution}
use Rattle.aos_base.specs.Observation.{WaitRow, Observation, observation}
use Rattle.aos_base.specs.Schedule.{choices, IsEntry}
use Rattle.aos_code.specs.declared.image.Image.{Image}
use Rattle.aos_code.specs.declared.image.ModuleDesc.{ModuleDesc}
use Rattle.aos_code.specs.declared.report.CallRec.{CallRec}
use Rattle.aos_code.specs.declared.report.TrapRec.{TrapRec}
use Rattle.aos_code.specs.declared.report.WaitRec.{WaitRec}
use Rattle.aos_code.specs.Machine.{machine, first_state}
use Rattle.aos_typed.specs.Program.{Program}
use Rattle.aos_typed.specs.Seen.{seen_program}
use Rattle.aos_typed.specs.declared.tree.Program.{Program as TProgram}
use Rattle.aos_sim.specs.Shows.{Shows}
use Rattle.aos_symbols.specs.Outcome.{went, refused}
use Rattle.aos_compile.specs.Elaborates.{ComesTo, names_of}
use Rattle.aos_kernel.specs.Run.{Run as KernelRun, state_of}
use Rattle.aos_cell.specs.Bound.{IsPreempted}
use Rattle.aos_report.specs.Texts.{refusal_text, unread_text, too_long_text}
use Rattle.aos_script.specs.declared.script.Script.{Script}
use Rattle.aos_script.specs.Listing.{choices_of}
use Rattle.aos_words.specs.Words.{Words, Command, Check, List_, Asks, most_workers, most_budget, IsWithin}
use Rattle.aos.specs.declared.answer.Answer.{Answer}
use Rattle.aos.specs.declared.run.Setting.{Setting}
use Rattle.aos.specs.declared.compiled.Compiled.{Compiled}
use Rattle.aos.specs.declared.compiled.Compiled.TheVariants.{Went, Stopped}
use Rattle.aos.specs.declared.telling.Telling.{Telling}
use Rattle.aos.specs.declared.telling.Telling.TheVariants.{Locals, Layout}
use Rattle.aos.specs.declared.fetch.FetchedFile.{FetchedFile}
use Rattle.aos.specs.declared.fetch.FetchedFile.TheVariants.{Text as FileText}
use Rattle.aos.specs.declared.fetch.FetchedFile.TheVariants.{Stopped as FileStopped}
use Rattle.aos.specs.declared.fetch.FetchedFiles.{FetchedFiles}
use Rattle.aos.specs.declared.fetch.FetchedFiles.TheVariants.{Texts as FilesTexts}
use Rattle.aos.specs.declared.fetch.FetchedFiles.TheVariants.{Stopped as FilesStopped}
use Rattle.aos.specs.Call.{ShelfUse, SinkUse, ProbesUse, ShelfFailed, GotWhole}
use Rattle.aos.specs.Wanted.{Wanted, wanted_files, IsWanted, name_of, text_limit}
use Rattle.aos.specs.Fetched.{NoFile, LongFile, Fetches, AreHad, Had}
use Rattle.aos.specs.Report.{report, run_report, replay_report}
use Rattle.aos.specs.Seen.{script_of}
use Rattle.aos.specs.Told.{IsToldBy}
use Rattle.aos.specs.Watched.{Watched, watch_text}
use Rattle.aos.specs.Cause.{Runs, IsCompiled, Cause, PutInPart, whole}

-- What is seen of an image and of a kernel

-- the observation of the image's execution under a schedule, with a budget
unfoldable pub image_seen_of : Image → ℕ → List Choice → Observation
image_seen_of image budget schedule =
    observation (machine image) (execution (machine image) schedule (first_state image budget))

-- that under some schedule of so many workers, as `Seen` says it of a program
pub record SeenOf (workers budget : ℕ) (image : Image) (o : Observation) : Type 0 where
  pub schedule : List Sched
  pub entries : All (IsEntry workers) schedule
  pub preempted : (w : ℕ)
      → IsPreempted (machine image) w (choices schedule) 0 (first_state image budget)
  pub over : o.outcome ≢ Going
  pub seen : o ≡ image_seen_of image budget (choices schedule)

-- that under a script, with its budget
abbrev pub image_replay_of : Image → Script → Observation
image_replay_of image s = image_seen_of image s.budget (choices_of s)

-- the events of the image's execution under a script, with its budget
unfoldable pub image_events_of : Image → Script → List Event
image_events_of image s =
    (execution (machine image) (choices_of s) (first_state image s.budget)).book.events

-- the observation of a kernel's state
unfoldable pub kernel_seen_of : KernelRun → Observation
kernel_seen_of r = observation (machine r.image) (state_of r)

-- the names of an image's modules
abbrev pub module_names : List ModuleDesc → List (List ℕ)
module_names modules = map (λ d. string_bytes d.name) modules

abbrev pub names_in : Image → List (List ℕ)
names_in image = module_names image.modules.items

-- a call that led to a trap, and a trap, as the kernel tells them
abbrev pub where_of : CallRec → Where
where_of c = record { module_ = c.module; pos = c.pos }

abbrev pub row_of : TrapRec → TrapRow
row_of t =
    record {
      number = t.number;
      code = t.code;
      activity = t.activity;
      at = record { module_ = t.module; pos = t.pos };
      restart = t.restart;
      calls = map where_of t.calls;
    }

-- one who waits, as the kernel tells it
abbrev pub wait_row_of : WaitRec → WaitRow
wait_row_of w =
    record {
      activity = w.activity;
      lock = w.lock;
      awaits = w.awaits;
      at = record { module_ = w.module; pos = w.pos };
    }

-- a kernel can be made for the setting
pub record IsSet (s : Setting) : Type 0 where
  pub workers_in : IsWithin 1 most_workers s.workers
  pub budget_in : IsWithin 1 most_budget s.budget

-- the script of a kernel's log
abbrev pub script_in : KernelRun → Script
script_in r = script_of r.workers r.budget r.log

-- a kernel can be made for the script, and each of its entries is of a worker of it
pub record IsReady (s : Script) : Type 0 where
  pub workers : (1 ≤ s.workers) × (s.workers ≤ 16)
  pub budget : (1 ≤ s.budget) × (s.budget ≤ 1000000000)
  pub entries : All (IsEntry s.workers) s.runs
  pub few : length s.runs ≤ 134217728

-- Answers

-- an answer has this status and these texts
pub record IsAnswer (a : Answer) (status : ℕ) (out err : List ℕ) : Type 0 where
  pub status_is : a.status ≡ status
  pub out_is : a.out.items ≡ out
  pub err_is : a.err.items ≡ err

-- it shows a run of an image by so many workers with a budget, and its log where that is wanted
pub record ShowsRun (workers budget : ℕ) (log : Bool) (image : Image) (a : Answer) : Type 0 where
  pub observation : Observation
  pub seen : SeenOf workers budget image observation
  pub status : a.status ≡ observation.status
  pub out : a.out.items ≡ observation.output
  pub err : a.err.items
      ≡ run_report log (names_in image) (script_of workers budget seen.schedule) observation

-- what a kernel tells
pub record TellsOf (r : KernelRun) (a : Answer) : Type 0 where
  pub status : a.status ≡ (kernel_seen_of r).status
  pub out : a.out.items ≡ (kernel_seen_of r).output
  pub err : a.err.items ≡ report (names_in r.image) r.budget (kernel_seen_of r)

-- the same, and the log where that is wanted, each entry of which is of a worker
pub record TellsLog (log : Bool) (r : KernelRun) (a : Answer) : Type 0 where
  pub entries : All (IsEntry r.workers) r.log
  pub status : a.status ≡ (kernel_seen_of r).status
  pub out : a.out.items ≡ (kernel_seen_of r).output
  pub err : a.err.items ≡ run_report log (names_in r.image) (script_in r) (kernel_seen_of r)

-- the run is that by the script, whose events the probes were told where they watch
pub record ShowsReplayOf (image : Image) (s : Script) (watch : Bool) (probes : ProbesUse)
    (a : Answer) : Type 0 where
  pub status : a.status ≡ (image_replay_of image s).status
  pub out : a.out.items ≡ (image_replay_of image s).output
  pub err : a.err.items
      ≡ replay_report (names_in image) s (image_replay_of image s) ++ watch_text watch probes
  pub watched : Watched watch (image_events_of image s) probes

-- an answer that has a cause
abbrev pub Causes : Words → ShelfUse → ProbesUse → Answer → Type 0
Causes words shelf probes a = Cause words shelf probes a.status a.out.items a.err.items

-- it has one wherever the words are this command
abbrev pub ServesWith : Command → ShelfUse → ProbesUse → Answer → Type 0
ServesWith c shelf probes a = (words : Words) → Asks words c → Causes words shelf probes a

-- whatever becomes of the probes
abbrev pub Serves : Command → ShelfUse → Answer → Type 0
Serves c shelf a = (probes : ProbesUse) → ServesWith c shelf probes a

-- and the files that it wants have these texts
abbrev pub ServesTexts : Command → List (List ℕ) → Answer → Type 0
ServesTexts c all a =
    (shelf : ShelfUse) → Had shelf.texts (wanted_files c) all → Serves c shelf a

abbrev pub ServesTextsWith : Command → List (List ℕ) → ProbesUse → Answer → Type 0
ServesTextsWith c all probes a =
    (shelf : ShelfUse) → Had shelf.texts (wanted_files c) all → ServesWith c shelf probes a

-- it has one wherever the words are a command that so runs the modules of files that have these texts
abbrev pub ServesRun : Setting → (files : Words) → (texts : List (List ℕ)) → Answer → Type 0
ServesRun s files texts a =
    (words : Words) (shelf : ShelfUse) (probes : ProbesUse)
    → Runs words shelf s.workers s.budget s.log files texts → Causes words shelf probes a

-- texts as lists of bytes
abbrev pub texts_of : List (Vec ℕ Global) → List (List ℕ)
texts_of texts = map (λ t. t.items) texts

-- texts that may be compiled
pub record AreTexts (texts : List (Vec ℕ Global)) : Type 0 where
  pub some : 1 ≤ length texts
  pub few : length texts ≤ 64
  pub limits : All (λ t. length t.items ≤ text_limit) texts

-- an image of the texts' program
pub record IsImageOf (texts : List (List ℕ)) (p : Program) (image : Image) : Type 0 where
  pub comes : ComesTo texts (went p)
  pub compiled : IsCompiled p
  pub shows : Shows p image
  pub names : names_in image ≡ names_of p

-- an answer that tells the refusal of texts
pub record TellsRefusal (files : Words) (texts : List (List ℕ)) (a : Answer) : Type 0 where
  pub refusal : Refusal
  pub comes : ComesTo texts (refused refusal)
  pub is : IsAnswer a 1 [] (refusal_text (name_of files refusal.file) refusal.rule refusal.pos)

-- a program whose numbers have room
pub record IsSmall (program : TProgram) : Type 0 where
  pub modules : length program.modules.items ≤ 64
  pub objects : length program.objects.items ≤ 2 ^ 26

-- what came of compiling the texts of these files
abbrev pub ComesOf : (files : Words) → (texts : List (List ℕ)) → Compiled → Type 0
ComesOf files texts (Went program image) =
    IsImageOf texts (seen_program program) image × IsSmall program
ComesOf files texts (Stopped a) = TellsRefusal files texts a

-- the command that asks for this to be told of the modules of these files
abbrev pub asks_for : Telling → Words → Command
asks_for Locals files = Check files
asks_for Layout files = List_ files

-- an answer that tells such a text alone
pub record TellsText (Such : List ℕ → Type 0) (a : Answer) : Type 0 where
  pub text : List ℕ
  pub such : Such text
  pub is : IsAnswer a 0 text []

-- one that tells this of a program
abbrev pub TellsOfProgram : Telling → Program → Answer → Type 0
TellsOfProgram what p a = TellsText (λ text. (files : Words) → IsToldBy (asks_for what files) p text) a

-- what wanted files come to where one of them isn't had
pub data StopsBy (shelf : ShelfUse) (files : List Wanted)
    : (status : ℕ) → (out err : List ℕ) → Type 0 where
  by_fault : {w : Wanted} → (is : IsWanted files w) → AreHad shelf.texts is.before
      → ShelfFailed shelf → StopsBy shelf files 6 [] (unread_text w.file)
  by_absence : {w : Wanted} → IsWanted files w → Fetches shelf.texts files (NoFile w.file)
      → StopsBy shelf files 1 [] (refusal_text w.file 1 whole)
  by_length : {w : Wanted} → IsWanted files w
      → Fetches shelf.texts files (LongFile w.file w.most)
      → StopsBy shelf files 6 [] (too_long_text w.file w.most)

-- what came of fetching a file: its text, or an answer with its cause
abbrev pub IsFetched : ShelfUse → Wanted → FetchedFile → Type 0
IsFetched shelf w (FileText text) = Had shelf.texts (w ∷ []) (text.items ∷ [])
IsFetched shelf w (FileStopped a) = StopsBy shelf (w ∷ []) a.status a.out.items a.err.items

-- what came of fetching files, one after another
abbrev pub AreFetched : ShelfUse → List Wanted → FetchedFiles → Type 0
AreFetched shelf files (FilesTexts texts) = Had shelf.texts files (texts_of texts.items)
AreFetched shelf files (FilesStopped a) = StopsBy shelf files a.status a.out.items a.err.items

-- the sinks got an answer's whole texts, and this is its status
pub record IsWhole (a : Answer) (status : ℕ) (out err : SinkUse) : Type 0 where
  pub same : status ≡ a.status
  pub on_out : GotWhole out a.out.items
  pub on_err : GotWhole err a.err.items

-- a sink failed while an answer's texts were put
abbrev pub IsStopped : Answer → (out err : SinkUse) → Type 0
IsStopped a out err = PutInPart out err a.out.items a.err.items
