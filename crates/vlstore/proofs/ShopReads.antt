-- What a shop reads and writes in a transaction.
use Rattle.std.proofs.Common.{◌≡◌, ℕ, Bool, true, cond, List, [], ◌∷◌, ◌++◌, length, refl, sym, ap, ◌∙◌, subst}
use Rattle.std.specs.FinMap.{get, insert}
use Rattle.std.specs.Prelude.{IfOk, IsOk, None, OnOk, Option, Result, Ok, Err, Some, is_some, nat_le, ⊤}
use Rattle.vl_disk.specs.Faults.{HasCause, NoneCounted}
use Rattle.vl_disk.specs.laws.Counting.{none_rose}
use Rattle.vl_reads.specs.Reading.{IsRefusedBy, IsSound, ReadFailed}
use Rattle.vl_reads.specs.declared.fails.ReadFail.{ReadFail}
use Rattle.vl_reads.specs.declared.fails.ReadFail.TheVariants as why
use Rattle.vl_model.specs.History.{value_left}
use Rattle.vl_model.specs.Keys.{Stored, Writes, is_key_length}
use Rattle.vl_model.specs.Limits.{max_key_bytes}
use Rattle.vl_model.specs.Reads.{KeyRead, Read}
use Rattle.vl_model.specs.declared.change.Change.{Change}
use Rattle.vl_txn.specs.Reads.{with_get}
use Rattle.vl_txn.specs.Refusals.{IsWritten, refused_key, refused_write}
use Rattle.vl_txn.specs.declared.key_fail.KeyFail.{KeyFail}
use Rattle.vl_txn.specs.declared.key_fail.KeyFail.TheVariants.{EmptyKey, KeyTooLong}
use Rattle.vl_txn.specs.declared.set_fail.SetFail.{SetFail}
use Rattle.vl_txn.specs.declared.set_fail.SetFail.TheVariants as set_fails
use Rattle.vlstore.specs.Shops.{IsOnlyWant, IsOnlyWantOfSet}
use Rattle.vlstore.proofs.KeyLengths.{key_within, short_key, some_key}

-- ---- lawful keys

key_taken : (key : List ℕ) → is_key_length (length key) ≡ true → refused_key key ≡ None
key_taken key lawful =
    let within = key_within (length key) lawful in
    ap (λ (b : Bool). cond b (Some EmptyKey) (cond (nat_le (length key) max_key_bytes) None (Some KeyTooLong)))
    (some_key (length key) within.0)
    ∙ ap (λ (b : Bool). cond b None (Some KeyTooLong)) (short_key (length key) within.1)

not_both : (o : Option KeyFail) (k : KeyFail) → o ≡ None → o ≡ Some k → ⊥
not_both o k none some = let no : None ≡ Some k = sym none ∙ some in absurd cc

-- only memory may be wanting
pub read_sound : {T : Type 0} (key : List ℕ) (before now : ℕ) (r : Result T ReadFail) → is_key_length (length key) ≡ true
    → IsRefusedBy (refused_key key) r → HasCause before now (ReadFailed r) → NoneCounted now → IsSound r → IsOnlyWant r
read_sound key before now (Ok answer) lawful refused cause none sound = tt
read_sound key before now (Err why.EmptyKey) lawful refused cause none sound =
    not_both (refused_key key) EmptyKey (key_taken key lawful) refused
read_sound key before now (Err why.KeyTooLong) lawful refused cause none sound =
    not_both (refused_key key) KeyTooLong (key_taken key lawful) refused
read_sound key before now (Err why.NoMemory) lawful refused cause none sound = tt
read_sound key before now (Err (why.Disk name)) lawful refused cause none sound = none_rose before now none (cause.rose tt)
read_sound key before now (Err (why.Damaged name place)) lawful refused cause none sound = sound tt

-- ---- a key that isn't written

pub unwritten_value : (value : Option Stored) (own : Option Change) → own ≡ None → value_left value own ≡ value
unwritten_value value own none = ap (value_left value) none

pub unwritten_read : (own : Writes) (reads : List Read) (key : List ℕ) (value : Option Stored) → get own key ≡ None
    → with_get own reads key value ≡ reads ++ KeyRead key value ∷ []
unwritten_read own reads key value none =
    ap (λ (o : Option Change). cond (is_some o) reads (reads ++ KeyRead key value ∷ [])) none

-- ---- writes

set_both : (o : Option SetFail) (k : SetFail) → o ≡ None → o ≡ Some k → ⊥
set_both o k none some = let no : None ≡ Some k = sym none ∙ some in absurd cc

pub set_sound : (old new : Writes) (key : List ℕ) (change : Change) (r : Result ⊤ SetFail) → refused_write old key change ≡ None
    → IsWritten old key change new r → IsOnlyWantOfSet r
set_sound old new key change (Ok done) none written = tt
set_sound old new key change (Err set_fails.EmptyKey) none written = set_both (refused_write old key change) set_fails.EmptyKey none written.0
set_sound old new key change (Err set_fails.KeyTooLong) none written = set_both (refused_write old key change) set_fails.KeyTooLong none written.0
set_sound old new key change (Err set_fails.ValueTooLong) none written =
    set_both (refused_write old key change) set_fails.ValueTooLong none written.0
set_sound old new key change (Err set_fails.TooBig) none written = set_both (refused_write old key change) set_fails.TooBig none written.0
set_sound old new key change (Err set_fails.NoMemory) none written = tt

pub set_done : (old new : Writes) (key : List ℕ) (change : Change) (r : Result ⊤ SetFail) → IsWritten old key change new r
    → OnOk r (new ≡ insert old key change)
set_done old new key change (Ok done) written = written.1
set_done old new key change (Err why) written = tt

pub on_ok : (P : Type 0) {E F : Type 0} (r : Result ⊤ E) (s : Result ⊤ F) → (IsOk r → s ≡ Ok tt) → OnOk s P → OnOk r P
on_ok P (Ok done) s same is = subst (λ (x : Result ⊤ _). OnOk x P) (same refl) is
on_ok P (Err why) s same is = tt

-- what is seen behind a read of a key that isn't written
pub seen_then : (P : List Read → Type 0) (reads : List Read) (key : List ℕ) (value : Option Stored) {E : Type 0}
    (r : Result (Option Stored) E) → IfOk r (λ answer. answer ≡ value) → {now : List Read} → now ≡ reads ++ KeyRead key value ∷ []
    → OnOk r (P now) → IfOk r (λ answer. P (reads ++ KeyRead key answer ∷ []))
seen_then P reads key value (Ok answer) is same seen =
    subst (λ (v : Option Stored). P (reads ++ KeyRead key v ∷ [])) (sym is) (subst P same seen)
seen_then P reads key value (Err why) is same seen = tt
