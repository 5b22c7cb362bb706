-- What a run's status says of how it ended.
use Rattle.std.proofs.Common.{◌≡◌, ◌≢◌, ◌<◌, ◌⊎◌, ⊎_elim, inl, inr, ℕ, List, Some, refl, sym, ◌∙◌, ap, subst, arith}
use Rattle.vl_disk.specs.Faults.{Rose}
use Rattle.vl_disk.specs.declared.name.Name.{Name}
use Rattle.vl_io.specs.declared.sink.Sink as sink
use Rattle.vl_script_model.specs.Endings.{Culprit, TheDisk, TheSource, TheSink, CountsFaultsOf, culprit_of, status_of}
use Rattle.vl_script_model.specs.Runs.{IsFront}
use Rattle.vl_script_model.specs.Steps.{Finishes}
use Rattle.vl_script_model.specs.declared.ending.Ending.{Ending}
use Rattle.vl_script_model.specs.declared.fails.Refusal.{Refusal}
use Rattle.vl_script_model.specs.declared.ending.Ending.TheVariants.{Complete, BadLine, BadWords, DiskFault, ReaderFault}
use Rattle.vl_script_model.specs.declared.ending.Ending.TheVariants.{Refused, Damaged, NoMemory, ReadFault, WriteFault}
use Rattle.vl_script_model.specs.declared.ending.Ending.TheVariants.{AnswerCut, Stopped}

-- the status of an ending by an object
abbrev pub StatusBy : Culprit → ℕ → Type 0
StatusBy who n = (ending : Ending) → (status_of ending ≡ n → culprit_of ending ≡ who) × (culprit_of ending ≡ who → status_of ending ≡ n)

-- Status 3 is that of the disk's fault, and of a read's.
pub fault_status : (ending : Ending) → status_of ending ≡ 3 → (culprit_of ending ≡ TheDisk) ⊎ (ending ≡ ReaderFault)
fault_status Complete e = absurd (cc)
fault_status BadLine e = absurd (cc)
fault_status BadWords e = absurd (cc)
fault_status DiskFault e = inl refl
fault_status ReaderFault e = inr refl
fault_status (Refused refusal) e = absurd (cc)
fault_status (Damaged name place) e = absurd (cc)
fault_status NoMemory e = absurd (cc)
fault_status ReadFault e = absurd (cc)
fault_status WriteFault e = absurd (cc)
fault_status AnswerCut e = absurd (cc)
fault_status Stopped e = inl refl

disk_status : (ending : Ending) → culprit_of ending ≡ TheDisk → status_of ending ≡ 3
disk_status DiskFault e = refl
disk_status Stopped e = refl
disk_status Complete e = absurd (cc)
disk_status BadLine e = absurd (cc)
disk_status BadWords e = absurd (cc)
disk_status ReaderFault e = absurd (cc)
disk_status (Refused refusal) e = absurd (cc)
disk_status (Damaged name place) e = absurd (cc)
disk_status NoMemory e = absurd (cc)
disk_status ReadFault e = absurd (cc)
disk_status WriteFault e = absurd (cc)
disk_status AnswerCut e = absurd (cc)

pub source_status : StatusBy TheSource 6
source_status Complete = (λ e. cc, λ e. cc)
source_status BadLine = (λ e. cc, λ e. cc)
source_status BadWords = (λ e. cc, λ e. cc)
source_status DiskFault = (λ e. cc, λ e. cc)
source_status ReaderFault = (λ e. cc, λ e. cc)
source_status (Refused refusal) = (λ e. cc, λ e. cc)
source_status (Damaged name place) = (λ e. cc, λ e. cc)
source_status NoMemory = (λ e. cc, λ e. cc)
source_status ReadFault = (λ e. refl, λ e. refl)
source_status WriteFault = (λ e. cc, λ e. cc)
source_status AnswerCut = (λ e. cc, λ e. cc)
source_status Stopped = (λ e. cc, λ e. cc)

pub sink_status : StatusBy TheSink 7
sink_status Complete = (λ e. cc, λ e. cc)
sink_status BadLine = (λ e. cc, λ e. cc)
sink_status BadWords = (λ e. cc, λ e. cc)
sink_status DiskFault = (λ e. cc, λ e. cc)
sink_status ReaderFault = (λ e. cc, λ e. cc)
sink_status (Refused refusal) = (λ e. cc, λ e. cc)
sink_status (Damaged name place) = (λ e. cc, λ e. cc)
sink_status NoMemory = (λ e. cc, λ e. cc)
sink_status ReadFault = (λ e. cc, λ e. cc)
sink_status WriteFault = (λ e. refl, λ e. refl)
sink_status AnswerCut = (λ e. refl, λ e. refl)
sink_status Stopped = (λ e. cc, λ e. cc)

pub is_refused : (ending : Ending) → status_of ending ≡ 4
    → ((refusal : Refusal) × (ending ≡ Refused refusal)) ⊎ ((name : Name) × (place : ℕ) × (ending ≡ Damaged name place))
is_refused Complete e = absurd (cc)
is_refused BadLine e = absurd (cc)
is_refused BadWords e = absurd (cc)
is_refused DiskFault e = absurd (cc)
is_refused ReaderFault e = absurd (cc)
is_refused (Refused refusal) e = inl (refusal, refl)
is_refused (Damaged name place) e = inr (name, place, refl)
is_refused NoMemory e = absurd (cc)
is_refused ReadFault e = absurd (cc)
is_refused WriteFault e = absurd (cc)
is_refused AnswerCut e = absurd (cc)
is_refused Stopped e = absurd (cc)

pub is_bad_words : (ending : Ending) → status_of ending ≡ 2 → ending ≡ BadWords
is_bad_words Complete e = cc
is_bad_words BadLine e = cc
is_bad_words BadWords e = refl
is_bad_words DiskFault e = cc
is_bad_words ReaderFault e = cc
is_bad_words (Refused refusal) e = cc
is_bad_words (Damaged name place) e = cc
is_bad_words NoMemory e = cc
is_bad_words ReadFault e = cc
is_bad_words WriteFault e = cc
is_bad_words AnswerCut e = cc
is_bad_words Stopped e = cc

same : (a b : Culprit) → Some a ≡ Some b → a ≡ b
same a b e = cc

cut : (ending : Ending) → Some ending ≡ Some WriteFault → status_of ending ≡ 7
cut ending e = let is : ending ≡ WriteFault = cc in ap status_of is

module _ (who : Culprit) (n : ℕ) (by : StatusBy who n) (ending : Ending) (before now : ℕ)
    (counts : CountsFaultsOf who (Some ending) before now) where
  -- the object failed where the run ended by it
  pub rose_by : status_of ending ≡ n → Rose before now
  rose_by is = counts.rose (ap Some ((by ending).0 is))

  -- and counted nothing where it ended otherwise, and the last line could be put
  pub steady_by : status_of ending ≢ n → status_of ending ≢ 7 → now ≡ before
  steady_by other whole = counts.steady (λ e. other ((by ending).1 (same (culprit_of ending) who e))) (λ e. whole (cut ending e))

-- so it is with the disk
module _ (ending : Ending) (before now : ℕ) (counts : CountsFaultsOf TheDisk (Some ending) before now) where
  pub rose_or_unread : status_of ending ≡ 3 → Rose before now ⊎ (ending ≡ ReaderFault)
  rose_or_unread is = ⊎_elim
      (λ (by : culprit_of ending ≡ TheDisk). inl (counts.rose (ap Some by)))
      (λ (unread : ending ≡ ReaderFault). inr unread)
      (fault_status ending is)

  pub disk_steady : status_of ending ≢ 3 → status_of ending ≢ 7 → now ≡ before
  disk_steady other whole = counts.steady (λ e. other (disk_status ending (same (culprit_of ending) TheDisk e))) (λ e. whole (cut ending e))

-- ---- words that aren't plain

module _ {K : Type 0} (g : sink.Ghosts K) (old new : K) (line : List ℕ) (result : Ending)
    (finishes : Finishes g old new line BadWords result) where
  -- the run ends by them or by the sink
  pub refused_status : (n : ℕ) → n ≢ 2 → n ≢ 7 → status_of result ≡ n → ⊥
  refused_status n two seven is = ⊎_elim
      (λ (whole : (result ≡ BadWords) × (finishes.printed ≡ line) × (g.faults new ≡ g.faults old)). two (sym is ∙ ap status_of whole.0))
      (λ (cut : (result ≡ WriteFault) × IsFront finishes.printed line × Rose (g.faults old) (g.faults new)). seven
      (sym is ∙ ap status_of cut.0))
      finishes.how

  pub refused_rose : status_of result ≡ 7 → Rose (g.faults old) (g.faults new)
  refused_rose is = ⊎_elim
      (λ (whole : (result ≡ BadWords) × (finishes.printed ≡ line) × (g.faults new ≡ g.faults old)). absurd
      (apart (sym (ap status_of whole.0) ∙ is)))
      (λ (cut : (result ≡ WriteFault) × IsFront finishes.printed line × Rose (g.faults old) (g.faults new)). cut.2)
      finishes.how
    where
      apart : ◌≡◌ {A = ℕ} 2 7 → ⊥
      apart e = omega arith

  pub refused_steady : status_of result < 6 → g.faults new ≡ g.faults old
  refused_steady less = ⊎_elim
      (λ (whole : (result ≡ BadWords) × (finishes.printed ≡ line) × (g.faults new ≡ g.faults old)). whole.2)
      (λ (cut : (result ≡ WriteFault) × IsFront finishes.printed line × Rose (g.faults old) (g.faults new)). absurd
      (past (subst (λ (n : ℕ). n < 6) (ap status_of cut.0) less)))
      finishes.how
    where
      past : 7 < 6 → ⊥
      past lt = omega arith
