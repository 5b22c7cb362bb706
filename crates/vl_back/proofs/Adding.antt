-- Entries that a cursor gives, added to a table one by one, each at its placement.
use Rattle.std.proofs.Common.{◌≡◌, ◌≤◌, ◌↔◌, ℕ, List, [], ◌∷◌, ◌++◌, length, refl, sym, ap, subst, ◌∙◌, arith, append_assoc, append-nil}
use Rattle.std.specs.Prelude.{map, Option, None, Some, Result, Ok, Err, IsErrAnd, IsErrOf}
use Rattle.vl_back.proofs.Coming.{may_come, spellable_at}
use Rattle.vl_back.specs.Failing.{add_failed}
use Rattle.vl_back.specs.Tables.{AreSpellable, IsSpellable}
use Rattle.vl_back.specs.declared.stage_fail.StageFail.{StageFail}
use Rattle.vl_back.specs.declared.stage_fail.StageFail.TheVariants as why
use Rattle.vl_table.specs.body.Entries.{IsEntry}
use Rattle.vl_model.specs.Cursors.{Gives}
use Rattle.vl_model.specs.Placement.{placed}
use Rattle.vl_model.specs.declared.entry.Entry.{Entry}
use Rattle.vl_model.specs.Formats.{table_format}
use Rattle.vl_table.specs.writer.Writing.{Appended, IsWriting, MayCome}
use Rattle.vl_table.specs.declared.writer.add_fail.AddFail.{AddFail}
use Rattle.vl_table.specs.declared.writer.add_fail.AddFail.TheVariants as add
use Rattle.vl_table.specs.declared.writer.table_writer.TableWriter.{TableWriter}

-- Of the entries that were left some were added behind others, and the rest is left.
pub record AddsFront (number : ℕ) (es left : List Entry) (now : Option (List Entry)) (writer : TableWriter) (given : List ℕ)
    : Type 0 where
  pub front : List Entry
  pub rest : List Entry
  pub left_is : left ≡ front ++ rest
  pub now_is : now ≡ Some rest
  pub writing : IsWriting writer number (es ++ map placed front) given

map_more : (es : List Entry) (e : Entry) → map placed (es ++ e ∷ []) ≡ map placed es ++ placed e ∷ []
map_more [] e = refl
map_more (f ∷ fs) e = ap (λ l. placed f ∷ l) (map_more fs e)

map_both : (es fs : List Entry) → map placed (es ++ fs) ≡ map placed es ++ map placed fs
map_both [] fs = refl
map_both (e ∷ es) fs = ap (λ l. placed e ∷ l) (map_both es fs)

-- what may come isn't refused
pub not_refused : {A : Type 0} (fail : AddFail) (P : Type 0) → P → (IsErrOf {T = A} (Err fail) add.NotLawful ↔ (P → ⊥))
    → add_failed fail ≡ why.NotLawful → ⊥
not_refused add.NoMemory P p iff is = cc
not_refused add.TooLong P p iff is = cc
not_refused add.NotLawful P p iff is = iff.0 refl p

-- before the first of them
pub adds_none : (number : ℕ) (es left : List Entry) (now : Option (List Entry)) (writer : TableWriter) (given : List ℕ)
    → now ≡ Some left → IsWriting writer number es given → AddsFront number es left now writer given
adds_none number es left now writer given is writing = record {
  front = [];
  rest = left;
  left_is = refl;
  now_is = is;
  writing = subst (λ l. IsWriting writer number l given) (sym (append-nil es)) writing;
}

module _ (number : ℕ) (es left : List Entry) (before now : Option (List Entry)) (writer : TableWriter) (given : List ℕ)
    (so : AddsFront number es left before writer given) where
  -- one more
  pub adds_next : (e p : Entry) → p ≡ placed e → (after : TableWriter) (given_now : List ℕ) → Gives before now (Some e)
      → Appended given given_now (λ piece. IsWriting after number ((es ++ map placed so.front) ++ p ∷ []) (given ++ piece))
      → AddsFront number es left now after given_now
  adds_next e p is after given_now gives added =
      let next = gives so.rest so.now_is in
      record {
        front = so.front ++ e ∷ [];
        rest = next.0;
        left_is = so.left_is ∙ ap (λ l. so.front ++ l) next.1 ∙ sym (append_assoc so.front (e ∷ []) next.0);
        now_is = next.2;
        writing = subst (λ l. IsWriting after number l given_now)
            (ap (λ q. (es ++ map placed so.front) ++ q ∷ []) is ∙ append_assoc es (map placed so.front) (placed e ∷ [])
            ∙ ap (λ l. es ++ l) (sym (map_more so.front e)))
            (subst (λ l. IsWriting after number ((es ++ map placed so.front) ++ p ∷ []) l) (sym added.1) added.2);
      }

  -- where a table may have all of them, this one may come
  pub next_may_come : (e p : Entry) → p ≡ placed e → (IsSpellable p → IsEntry table_format p) → Gives before now (Some e)
      → AreSpellable (es ++ map placed left) → MayCome (es ++ map placed so.front) p
  next_may_come e p is fits gives spellable =
      let next = gives so.rest so.now_is in
      let front = es ++ map placed so.front in
      let parts : AreSpellable (front ++ placed e ∷ map placed next.0) =
      subst AreSpellable
      (ap (λ l. es ++ map placed l) (so.left_is ∙ ap (λ l. so.front ++ l) next.1) ∙ ap (λ l. es ++ l) (map_both so.front (e ∷ next.0))
      ∙ sym (append_assoc es (map placed so.front) (placed e ∷ map placed next.0)))
      spellable in
      let entry : IsEntry table_format p =
      fits (subst IsSpellable (sym is) (spellable_at front (placed e) (map placed next.0) parts.each)) in
      subst (MayCome front) (sym is)
      (may_come front (placed e) (map placed next.0) parts (subst (IsEntry table_format) is entry))

  -- and no more
  pub adds_all : Gives before now None → IsWriting writer number (es ++ map placed left) given
  adds_all gives =
      let done = gives so.rest so.now_is in
      subst (λ l. IsWriting writer number (es ++ map placed l) given)
      (sym (so.left_is ∙ ap (λ l. so.front ++ l) done.0 ∙ append-nil so.front)) so.writing

-- Of the entries that were left the first was given: it, and then those that are left now, are all of them.
module _ (es : List Entry) (first : Entry) (before now : Option (List Entry)) (told : before ≡ Some es)
    (gives : Gives before now (Some first)) where
  abbrev pub rest_of : List Entry
  rest_of = (gives es told).0

  pub now_told : now ≡ Some rest_of
  now_told = (gives es told).2

  pub all_placed : (placed first ∷ []) ++ map placed rest_of ≡ map placed es
  all_placed = ap (map placed) (sym (gives es told).1)

  -- the table that was begun with it
  pub begun_with : (number : ℕ) (p : Entry) → p ≡ placed first → (writer : TableWriter) (start header given : List ℕ) → start ≡ []
      → given ≡ start ++ header → IsWriting writer number (p ∷ []) header → IsWriting writer number (placed first ∷ []) given
  begun_with number p is writer start header given none starts writing =
      subst (IsWriting writer number (placed first ∷ [])) (sym (starts ∙ ap (λ l. l ++ header) none))
      (subst (λ e. IsWriting writer number (e ∷ []) header) is writing)

  pub first_may_come : (p : Entry) → p ≡ placed first → (IsSpellable p → IsEntry table_format p) → AreSpellable (map placed es)
      → IsEntry table_format p
  first_may_come p is fits spellable =
      fits (subst IsSpellable (sym is) ((subst AreSpellable (sym all_placed) spellable).each.0))

-- none was left
pub none_tabled : (es : List Entry) (before now : Option (List Entry)) → before ≡ Some es → Gives before now None
    → AreSpellable (map placed es) → ⊥
none_tabled es before now told gives spellable =
    let some : 1 ≤ length (map placed es) = spellable.some in
    let short : length (map placed es) ≡ 0 = ap (λ l. length (map placed l)) (gives es told).0 in
    omega (arith, some, short)

-- ---- faults

err_same : {B : Type 0} (a b : StageFail) → IsErrOf {T = B} (Err a) b → a ≡ b
err_same a b e = cc

-- want of memory isn't a refusal
pub no_memory : {B : Type 0} (result : Result B StageFail) → IsErrAnd result (λ f. f ≡ why.NoMemory) → IsErrOf result why.NotLawful → ⊥
no_memory (Ok x) and not = cc
no_memory (Err f) and not = apart (sym and ∙ err_same f why.NotLawful not)
  where
    apart : why.NoMemory ≡ why.NotLawful → ⊥
    apart e = cc

-- an entry that may come isn't refused
pub add_fault : {A B : Type 0} (fail : AddFail) (result : Result B StageFail) → IsErrAnd result (λ f. f ≡ add_failed fail)
    → (P : Type 0) → P
    → (IsErrOf {T = A} (Err fail) add.NotLawful ↔ (P → ⊥)) → IsErrOf result why.NotLawful → ⊥
add_fault fail (Ok x) and P p iff not = cc
add_fault fail (Err f) and P p iff not = not_refused fail P p iff (sym and ∙ err_same f why.NotLawful not)

abbrev err_of : (A : Type 0) → StageFail → Result A StageFail
err_of A e = Err e

-- the same failure, in another result
pub same_fault : {A B : Type 0} (e : StageFail) (result : Result B StageFail) → IsErrAnd result (λ f. f ≡ e)
    → (IsErrOf {T = A} (Err e) why.NotLawful → ⊥) → IsErrOf result why.NotLawful → ⊥
same_fault e (Ok x) and not is = cc
same_fault {A} e (Err f) and not is = not (ap (err_of A) (sym and ∙ err_same f why.NotLawful is))
