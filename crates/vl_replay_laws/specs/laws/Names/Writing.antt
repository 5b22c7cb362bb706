-- What is written through a name.
use Rattle.std.proofs.Common.{◌≡◌, ℕ, ◌==◌, Bool, true, false, cond, ◌&&◌, not, List, [], ◌∷◌, ◌++◌, length, refl, ap}
use Rattle.std.proofs.Common.{sym, ◌∙◌, subst, sum_by, ◌+◌, arith}
use Rattle.std.specs.Prelude.{Option, None, Some, Ok, Err, Result, IfOk, OnOk, nat_le}
use Rattle.std.specs.Bool.{⊤}
use Rattle.std.specs.FinMap.{entries, entries-insert, insert, len-entries, put}
use Rattle.std.specs.Cmp.Lexicographic.{nat_list_cmp_total}
use Rattle.std.proofs.lemmas.Bool.Decides.{nat_tests}
use Rattle.vl_reads.specs.Past.{beginning}
use Rattle.vl_reads.specs.Reading.{OnlyWrites}
use Rattle.vl_version.specs.LiesOver.{IsInMemory}
use Rattle.vl_engine_laws.specs.Represents.{IsLive}
use Rattle.vl_reads.specs.Sees.{Sees, asked}
use Rattle.vl_reads.specs.declared.txn.Txn.{Txn}
use Rattle.vl_engine_model.specs.AtAnswer.{Beginning}
use Rattle.vl_engine_model.specs.Rulings.Commit.{Transaction as ATxn}
use Rattle.vl_engine_model.specs.Store.Commits.{Changes, history_in}
use Rattle.vl_engine_model.specs.Store.Lines as store_lines
use Rattle.vl_engine_model.specs.Store.Lines.{Name}
use Rattle.vl_engine_model.specs.Store.Reading.{is_small_enough, write_by}
use Rattle.vl_engine_model.specs.Store.Things as store
use Rattle.vl_engine_model.specs.Store.Things.{ATransaction, Step, named, only, thing_in, with_thing}
use Rattle.vl_model.specs.Formats.{log_format}
use Rattle.vl_model.specs.Keys.{Writes, is_value_length, key_cmp, value_bytes}
use Rattle.vl_model.specs.Limits.{max_key_bytes, max_transaction_bytes, max_transaction_keys}
use Rattle.vl_model.specs.declared.change.Change.{Change}
use Rattle.vl_txn.specs.Refusals.{IsWritten, fits_transaction, refused_write}
use Rattle.vl_txn.specs.declared.set_fail.SetFail.{SetFail}
use Rattle.vl_txn.specs.declared.set_fail.SetFail.TheVariants.{EmptyKey, KeyTooLong, NoMemory, TooBig, ValueTooLong}
use Rattle.vl_script_model.specs.Sequential.{IsPrinted, without_lengths}
use Rattle.vl_replay_laws.specs.Standing.{IsTaken, IsTransaction, ReadsNoTable, Stand, write_answer}
use Rattle.vl_replay_laws.specs.declared.open.Open.{Open}
use Rattle.vl_replay_laws.specs.declared.open.Thing.TheVariants.{Transaction}
use Rattle.vl_replay_laws.specs.laws.Names.Reading.{named_again, put_back, stand_alike}

-- the first limit that a write passes, by the tests of it
abbrev tested : (empty short_key short_value fits : Bool) → Option SetFail
tested empty short_key short_value fits =
    cond empty (Some EmptyKey)
    (cond (not short_key) (Some KeyTooLong) (cond (not short_value) (Some ValueTooLong) (cond fits None (Some TooBig))))

pub some_byte : (n : ℕ) → nat_le 1 n ≡ not (n == 0)
some_byte n = grind (arith, nat_tests)

-- both count alike whether a transaction may have these writes
same_fit : (writes : Writes) (key : List ℕ) (change : Change)
    → is_small_enough (put key_cmp key change (entries writes)) ≡ fits_transaction (insert writes key change)
same_fit writes key change =
    ap is_small_enough (sym (entries-insert nat_list_cmp_total writes key change))
    ∙ ap (λ (n : ℕ). nat_le n max_transaction_keys && nat_le
    (sum_by (λ (write : List ℕ × Change). length write.0 + length (value_bytes write.1))
    (entries (insert writes key change))) max_transaction_bytes)
    (sym (len-entries (insert writes key change)))

module _ (s : store.State) (name : Name) (key : List ℕ) (change : Change) (t : ATxn) (b : Beginning) where
  -- the step of a write that is made
  abbrev pub made : Step
  made = record {
    answer = store_lines.Done;
    state = with_thing s s.layout name (ATransaction (record t { writes = put key_cmp key change t.writes }) b);
    calls = 0;
  }

  -- by what refuses it
  abbrev pub step_where : Option SetFail → Step
  step_where None = made
  step_where (Some EmptyKey) = only store_lines.Invalid s
  step_where (Some KeyTooLong) = only store_lines.Invalid s
  step_where (Some ValueTooLong) = only store_lines.Invalid s
  step_where (Some TooBig) = only store_lines.TooBig s
  step_where (Some NoMemory) = only store_lines.Invalid s

  by_tests : (a k v f : Bool)
      → cond (not ((not a && k) && v)) (only store_lines.Invalid s) (cond f made (only store_lines.TooBig s)) ≡ step_where (tested a k v f)
  by_tests true k v f = refl
  by_tests false false v f = refl
  by_tests false true false f = refl
  by_tests false true true false = refl
  by_tests false true true true = refl

  pub write_is : (writes : Writes) → entries writes ≡ t.writes
      → write_by s name key change (Some (ATransaction t b)) ≡ step_where (refused_write writes key change)
  write_is writes same =
      let n = length key in
      let short = nat_le n max_key_bytes in
      let value = is_value_length log_format (length (value_bytes change)) in
      ap (λ (e : Bool). cond (not ((e && short) && value)) (only store_lines.Invalid s)
      (cond (is_small_enough (put key_cmp key change t.writes)) made (only store_lines.TooBig s))) (some_byte n)
      ∙ ap (λ (f : Bool). cond (not ((not (n == 0) && short) && value)) (only store_lines.Invalid s)
      (cond f made (only store_lines.TooBig s)))
      (ap (λ (own : Changes). is_small_enough (put key_cmp key change own)) (sym same) ∙ same_fit writes key change)
      ∙ by_tests (n == 0) short value (fits_transaction (insert writes key change))

module _ {H R : Type 0} (bytes : H → Option (List ℕ)) (s : store.State) (os left : List (Open H R))
    (stand : Stand bytes os s.things (history_in s.commits) s.layout) (name : Name) (txn new : Txn H R)
    (taken : IsTaken os left name (Some (Transaction txn))) (key : List ℕ) (change : Change) (keeps : OnlyWrites txn new)
    (t : ATxn) (b : Beginning) (there : thing_in s.things name ≡ Some (ATransaction t b))
    (is : IsTransaction bytes txn t (history_in s.commits) s.layout) (began : beginning txn.past ≡ b)
    (sees : Sees bytes new (history_in s.commits) t.reads) where
  abbrev writing : Step
  writing = write_by s name key change (thing_in s.things name)

  abbrev behind : List (Open H R)
  behind = left ++ record { name = name; thing = Transaction new } ∷ []

  -- how it is told, and what the names stand for then
  pub record WritesSo (result : Result ⊤ SetFail) : Type 0 where
    pub told : IfOk (write_answer result) (λ answer. IsPrinted answer writing.answer)
    pub names : OnOk (write_answer result) (Stand bytes behind writing.state.things (history_in s.commits) s.layout)

  step_is : writing ≡ step_where s name key change t b (refused_write txn.writes key change)
  step_is = ap (write_by s name key change) there ∙ write_is s name key change t b txn.writes (ap (λ (u : ATxn). u.writes) is.same)

  asked_then : (writes : Changes) → entries new.writes ≡ writes → asked new t.reads ≡ record t { writes = writes }
  asked_then writes same =
      ap (λ (x : Txn H R). record (asked x t.reads) { writes = entries new.writes }) keeps
      ∙ ap (λ (u : ATxn). record u { writes = entries new.writes }) is.same ∙ ap (λ (w : Changes). record t { writes = w }) same

  corresponds : (writes : Changes) → entries new.writes ≡ writes
      → IsTransaction bytes new (record t { writes = writes }) (history_in s.commits) s.layout
  corresponds writes same = record {
    same = asked_then writes same;
    sees = sees;
    live = subst (λ (x : Txn H R). IsLive s.layout x.ticket x.number) (sym keeps) is.live;
    near = subst (λ (x : Txn H R). ReadsNoTable x.ticket s.layout → IsInMemory x.version) (sym keeps) is.near;
  }

  began_then : beginning new.past ≡ b
  began_then = ap (λ (x : Txn H R). beginning x.past) keeps ∙ began

  made_names : new.writes ≡ insert txn.writes key change → Stand bytes behind (made s name key change t b).state.things
      (history_in s.commits) s.layout
  made_names made_is =
      let more : entries new.writes ≡ put key_cmp key change t.writes =
      ap (λ (w : Writes). entries w) made_is ∙ entries-insert nat_list_cmp_total txn.writes key change
      ∙ ap (λ (u : ATxn). put key_cmp key change u.writes) is.same in
      put_back bytes (history_in s.commits) s.layout os left s.things name (Transaction txn) (Transaction new) (ATransaction t b)
      (ATransaction (record t { writes = put key_cmp key change t.writes }) b) stand taken there refl (corresponds _ more, began_then)

  refused_names : new.writes ≡ txn.writes → Stand bytes behind s.things (history_in s.commits) s.layout
  refused_names same =
      let own : entries new.writes ≡ t.writes = ap (λ (w : Writes). entries w) same ∙ ap (λ (u : ATxn). u.writes) is.same in
      stand_alike bytes (history_in s.commits) s.layout behind (named name (ATransaction t b) s.things) s.things
      (named_again s.things name (ATransaction t b) there)
      (put_back bytes (history_in s.commits) s.layout os left s.things name (Transaction txn) (Transaction new)
      (ATransaction t b) (ATransaction t b) stand taken there refl (corresponds _ own, began_then))

  pub writes_so : (result : Result ⊤ SetFail) → IsWritten txn.writes key change new.writes result → WritesSo result
  writes_so result written = of result written
    where
      by : (why : Option SetFail) → refused_write txn.writes key change ≡ why → writing ≡ step_where s name key change t b why
      by why refused = step_is ∙ ap (step_where s name key change t b) refused

      names_by : (x : Step) → writing ≡ x → Stand bytes behind x.state.things (history_in s.commits) s.layout
          → Stand bytes behind writing.state.things (history_in s.commits) s.layout
      names_by x same names = subst (λ (y : Step). Stand bytes behind y.state.things (history_in s.commits) s.layout) (sym same) names

      of : (result : Result ⊤ SetFail) → IsWritten txn.writes key change new.writes result → WritesSo result
      of (Ok done) (fine, so) = record {
        told = sym (ap (λ (x : Step). without_lengths x.answer) (by None fine));
        names = names_by
            (made s name key change t b) (by None fine) (made_names so);
      }
      of (Err EmptyKey) (why, so) = record {
        told = sym (ap (λ (x : Step). without_lengths x.answer) (by (Some EmptyKey) why));
        names = names_by
            (only store_lines.Invalid s) (by (Some EmptyKey) why) (refused_names so);
      }
      of (Err KeyTooLong) (why, so) = record {
        told = sym (ap (λ (x : Step). without_lengths x.answer) (by (Some KeyTooLong) why));
        names = names_by
            (only store_lines.Invalid s) (by (Some KeyTooLong) why) (refused_names so);
      }
      of (Err ValueTooLong) (why, so) = record {
        told = sym (ap (λ (x : Step). without_lengths x.answer) (by (Some ValueTooLong) why));
        names = names_by
            (only store_lines.Invalid s) (by (Some ValueTooLong) why) (refused_names so);
      }
      of (Err TooBig) (why, so) = record {
        told = sym (ap (λ (x : Step). without_lengths x.answer) (by (Some TooBig) why));
        names = names_by
            (only store_lines.TooBig s) (by (Some TooBig) why) (refused_names so);
      }
      of (Err NoMemory) (fine, so) = record { told = tt; names = tt }
