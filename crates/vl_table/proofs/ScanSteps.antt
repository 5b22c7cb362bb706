-- A block's entries are read one after the other.
use Rattle.std.specs.Prelude.{◌≡◌, ◌<◌, ◌+◌, ℕ, Bool, List, [], ◌∷◌, ◌++◌, Option, Some}
use Rattle.std.specs.Option.{option_map}
use Rattle.std.proofs.Common.{sym, subst}
use Rattle.vl_model.specs.declared.entry.Entry.{Entry}
use Rattle.vl_table.specs.declared.body.entry_ref.EntryRef.{EntryRef}
use Rattle.vl_table.specs.laws.BlockLaws.{entry_is_some}
use Rattle.vl_table.specs.body.Blocks.{walked}
use Rattle.vl_table.specs.body.Entries.{entry_bytes, entry_of, IsEntry}
use Rattle.vl_table.specs.body.Lists.{IsNext, IsRun}
use Rattle.vl_table.specs.body.Lists.{last_item}
use Rattle.vl_table.specs.laws.ListLaws.{SoFar, cut, goes_on, last-push, not_next}

-- so many entries were read, and the last of them is this
pub record UnderWay (tested : Bool) (format : ℕ) (bytes : List ℕ) (total count : ℕ) (last : Option EntryRef) (rest : List ℕ) : Type 0 where
  pub taken : List Entry
  pub so_far : SoFar (walked tested format) bytes total count taken rest
  pub last_is : last_item taken ≡ option_map entry_of last

unfoldable pub reads_one : (tested : Bool) (format : ℕ) (bytes : List ℕ) (total count : ℕ) (last : Option EntryRef) (rest : List ℕ)
    (e : EntryRef) (after : List ℕ)
    → UnderWay tested format bytes total count last rest → IsEntry format (entry_of e) → rest ≡ entry_bytes format (entry_of e) ++ after
    → IsNext (walked tested format) (option_map entry_of last) (entry_of e) → UnderWay tested format bytes total (count + 1) (Some e) after
reads_one tested format bytes total count last rest e after u lawful spelled follows = record {
  taken = u.taken ++ entry_of e ∷ [];
  so_far = goes_on (walked tested format) bytes total count u.taken rest (entry_of e) after u.so_far
      (entry_is_some format (entry_of e)) lawful spelled
      (subst (λ (o : Option Entry). IsNext (walked tested format) o (entry_of e)) (sym u.last_is) follows);
  last_is = last-push u.taken (entry_of e);
}

pub cut_short : (tested : Bool) (format : ℕ) (bytes : List ℕ) (total count : ℕ) (last : Option EntryRef) (rest : List ℕ)
    → UnderWay tested format bytes total count last rest → count < total
    → ((e : Entry) (after : List ℕ) → IsEntry format e → rest ≡ entry_bytes format e ++ after → ⊥)
    → (es : List Entry) → IsRun (walked tested format) bytes total es → ⊥
cut_short tested format bytes total count last rest u less none es run = cut (walked tested format) bytes total count u.taken rest
    u.so_far less none es run

pub out_of_order : (tested : Bool) (format : ℕ) (bytes : List ℕ) (total count : ℕ) (last : Option EntryRef) (rest : List ℕ) (e : EntryRef) (after : List ℕ)
    → UnderWay tested format bytes total count last rest → IsEntry format (entry_of e) → rest ≡ entry_bytes format (entry_of e) ++ after
    → (IsNext (walked tested format) (option_map entry_of last) (entry_of e) → ⊥)
    → (es : List Entry) → IsRun (walked tested format) bytes total es → ⊥
out_of_order tested format bytes total count last rest e after u lawful spelled apart es run =
    not_next (walked tested format) bytes total count u.taken rest (entry_of e) after u.so_far (entry_is_some format (entry_of e)) lawful spelled
    (λ follows. apart (subst (λ (o : Option Entry). IsNext (walked tested format) o (entry_of e)) u.last_is follows)) es run
