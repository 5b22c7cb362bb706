-- Where each commit in a list of steps is a lease, the key tells how many there were.
use Rattle.std.proofs.Common.{◌≡◌, ℕ, ◌+◌, ◌*◌, ◌<◌, ◌≤◌, Bool, true, false, List, [], ◌∷◌, ◌++◌, length}
use Rattle.std.proofs.Common.{refl, ap, sym, ◌∙◌, subst, append-nil, append_assoc, length-append, arith}
use Rattle.std.proofs.lemmas.Bool.{false≢true}
use Rattle.std.specs.FinMap.{entries, from_sorted, get}
use Rattle.std.specs.List.{AllByRecursion}
use Rattle.std.specs.Prelude.{Option, Some}
use Rattle.vl_drive.specs.Steps.{Origin, history_by, is_put}
use Rattle.vl_engine_model.specs.LockHistory.{commits_of, put_after}
use Rattle.vl_engine_model.specs.declared.lock_history.LockEntry.{LockEntry}
use Rattle.vl_engine_model.specs.declared.lock_history.LockStep.{LockStep}
use Rattle.vl_engine_model.specs.declared.lock_history.LockStep.TheVariants.{Begun, Changed, Ended, JobEnded, PassEnded}
use Rattle.vl_engine_model.specs.declared.lock_history.LockStep.TheVariants.{Picked, Planned, Put}
use Rattle.vl_engine_model.specs.laws.LockHistoryLaws.{commits_of-append, history_of-same}
use Rattle.vl_model.specs.History.{History, last_number, value_at, value_left}
use Rattle.vl_model.specs.Keys.{Stored, Writes}
use Rattle.vl_sequence.specs.Counted.{AreLeased, LeasesNext}
use Rattle.vl_sequence.specs.Leases.{IsLease, OnlyLeases, number_in, value_behind}
use Rattle.vl_sequence.specs.Sequences.{lease_writes}
use Rattle.vl_sequence.specs.Takings.{first_value}
use Rattle.vl_sequence.specs.laws.LeaseLaws.{some_same, value_behind-more}
use Rattle.vl_sequence.specs.laws.TakingLaws.{behind_first, reads_back, wrote}

module _ (key : List ℕ) where
  only_one : (old : Option Stored) (ws : List Writes) (w : Writes) → OnlyLeases key old ws
      → IsLease (value_behind key old ws) (get w key) → OnlyLeases key old (ws ++ w ∷ [])
  only_one old [] w only is = (is, tt)
  only_one old (x ∷ ws) w only is = (only.0, only_one (value_left old (get x key)) ws w only.1 is)

no_commit : (step : LockStep) → is_put step ≡ false → put_after step [] ≡ []
no_commit (Begun ticket number) none = refl
no_commit (Put ticket number writes) none = absurd (false≢true (sym none))
no_commit (Ended ticket) none = refl
no_commit Planned none = refl
no_commit JobEnded none = refl
no_commit Picked none = refl
no_commit PassEnded none = refl
no_commit Changed none = refl

-- The key tells 1 and what the commits leased, and they are leases only.
pub record Tells (key : List ℕ) (first : Option Stored) (lease : ℕ) (h : History) : Type 0 where
  pub told : number_in (value_at h (last_number h) key) ≡ Some (1 + length h.commits * lease)
  pub only : OnlyLeases key first h.commits

module _ (o : Origin) (key : List ℕ) (lease : ℕ) (least : 1 ≤ lease) where
  abbrev pub TellsBy : List LockEntry → Type 0
  TellsBy list = Tells key (first_value o key) lease (history_by o list)

  tells_none : number_in (first_value o key) ≡ Some 1 → TellsBy []
  tells_none told = record {
    told = ap number_in (sym (behind_first key o [])) ∙ told ∙ ap Some (omega arith);
    only = tt;
  }

  tells_same : (done : List LockEntry) (e : LockEntry) → is_put e.step ≡ false → TellsBy done → TellsBy (done ++ e ∷ [])
  tells_same done e none tells =
      subst (Tells key (first_value o key) lease) (sym (history_of-same o.base o.number done e (no_commit e.step none))) tells

  tells_one : (done : List LockEntry) (e : LockEntry) → LeasesNext o key lease done e → TellsBy done → TellsBy (done ++ e ∷ [])
  tells_one done e next tells = record {
    told = ap number_in (sym (behind_first key o (done ++ e ∷ [])) ∙ ap (value_behind key old) all
        ∙ value_behind-more key old (commits_of done) (written ∷ []) ∙ ap (value_left before) (wrote key end))
        ∙ reads_back key before end next.fits ∙ ap Some end_is;
    only = subst (OnlyLeases key old) (sym all) (only_one key old (commits_of done) written tells.only
        (subst (IsLease before) (sym (wrote key end))
        (record { first = next.first; end = end; told = told; tells = reads_back key before end next.fits; more = omega (arith, least) })));
  }
    where
      old : Option Stored
      old = first_value o key

      before : Option Stored
      before = value_behind key old (commits_of done)

      end : ℕ
      end = next.first + lease

      written : Writes
      written = from_sorted (entries (lease_writes key end))

      all : commits_of (done ++ e ∷ []) ≡ commits_of done ++ written ∷ []
      all = commits_of-append done (e ∷ []) ∙ ap (λ (step : LockStep). commits_of done ++ put_after step []) next.puts

      told : number_in before ≡ Some next.first
      told = ap number_in (behind_first key o done) ∙ next.told

      end_is : end ≡ 1 + length (commits_of (done ++ e ∷ [])) * lease
      end_is =
          let first_is = some_same next.first (1 + length (commits_of done) * lease) (sym next.told ∙ tells.told) in
          let long : length (commits_of (done ++ e ∷ [])) ≡ length (commits_of done) + 1 =
          ap length all ∙ length-append (commits_of done) (written ∷ []) in
          let times : length (commits_of (done ++ e ∷ [])) * lease ≡ (length (commits_of done) + 1) * lease = ap (λ (n : ℕ). n * lease) long in
          omega (arith, first_is, times)

all_at : (P : LockEntry → Type 0) (before : List LockEntry) (e : LockEntry) (after : List LockEntry)
    → AllByRecursion P (before ++ e ∷ after) → P e
all_at P [] e after all = all.0
all_at P (b ∷ before) e after all = all_at P before e after all.1

-- each commit in the list is of a session below `clients`, and a lease
module _ (o : Origin) (key : List ℕ) (lease clients : ℕ) (least : 1 ≤ lease) (list : List LockEntry)
    (leased : (client : ℕ) → client < clients → AreLeased o key lease client list)
    (sessions : AllByRecursion (λ (e : LockEntry). e.session < clients) list) where
  tells_step : (done : List LockEntry) (e : LockEntry) (rest : List LockEntry) → list ≡ done ++ e ∷ rest
      → TellsBy o key lease least done → TellsBy o key lease least (done ++ e ∷ [])
  tells_step done e rest is tells = by (is_put e.step) refl
    where
      by : (b : Bool) → is_put e.step ≡ b → TellsBy o key lease least (done ++ e ∷ [])
      by true puts =
          let less = all_at (λ (d : LockEntry). d.session < clients) done e rest
          (subst (AllByRecursion (λ (d : LockEntry). d.session < clients)) is sessions) in
          tells_one o key lease least done e (leased e.session less done e rest is refl puts) tells
      by false none = tells_same o key lease least done e none tells

  tells_rest : (done rest : List LockEntry) → list ≡ done ++ rest → TellsBy o key lease least done → TellsBy o key lease least list
  tells_rest done [] is tells = subst (TellsBy o key lease least) (sym (is ∙ append-nil done)) tells
  tells_rest done (e ∷ rest) is tells =
      tells_rest (done ++ e ∷ []) rest (is ∙ sym (append_assoc done (e ∷ []) rest)) (tells_step done e rest is tells)

  pub all_told : number_in (first_value o key) ≡ Some 1 → TellsBy o key lease least list
  all_told told = tells_rest [] list refl (tells_none o key lease least told)
