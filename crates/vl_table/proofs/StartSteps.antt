-- Where entries begin is found one by one.
use Rattle.std.specs.Prelude.{◌≡◌, ◌+◌, ◌-◌, ◌*◌, ◌<◌, ◌≤◌, ℕ, Bool, zero, suc, List, [], ◌∷◌, ◌++◌, Option, None, Some}
use Rattle.std.specs.Prelude.{drop, length, slice_set, take}
use Rattle.std.specs.Option.{option_map}
use Rattle.std.proofs.Common.{sym, ap, subst, refl, ◌∙◌, arith, length-append}
use Rattle.std.proofs.lemmas.List.{drop_at}
use Rattle.vl_model.specs.declared.entry.Entry.{Entry}
use Rattle.vl_table.specs.declared.body.entry_ref.EntryRef.{EntryRef}
use Rattle.vl_table.specs.body.Blocks.{walked}
use Rattle.vl_table.specs.body.Entries.{entry_bytes, entry_of, IsEntry}
use Rattle.vl_table.specs.body.Lists.{IsNext, IsRun, items_bytes}
use Rattle.vl_table.specs.body.Starts.{AreStarts, StartsAt}
use Rattle.vl_table.specs.laws.BlockLaws.{entries-few}
use Rattle.vl_table.specs.laws.ListLaws.{done}
use Rattle.vl_table.specs.laws.WalkedLaws.{walked_bytes}
use Rattle.vl_table.proofs.ScanSteps.{UnderWay, reads_one}

-- so many entries were read, of which the last is this, and it is known where they begin
pub record Finding (tested : Bool) (format : ℕ) (bytes : List ℕ) (total count : ℕ) (starts : List ℕ) (last : Option EntryRef) (rest : List ℕ) : Type 0 where
  pub under_way : UnderWay tested format bytes total count last rest
  pub found : AreStarts format bytes (take count starts) under_way.taken

starts-push : (format : ℕ) (bytes places : List ℕ) (es : List Entry) (place : ℕ) (e : Entry) → AreStarts format bytes places es
    → StartsAt format bytes place e → AreStarts format bytes (places ++ place ∷ []) (es ++ e ∷ [])
starts-push format bytes [] [] place e are here = (here, tt)
starts-push format bytes [] (f ∷ fs) place e are here = absurd are
starts-push format bytes (p ∷ ps) [] place e are here = absurd are
starts-push format bytes (p ∷ ps) (f ∷ fs) place e are here = (are.0, starts-push format bytes ps fs place e are.1 here)

module _ (tested : Bool) (format : ℕ) (bytes : List ℕ) (total count : ℕ) (starts : List ℕ) (last : Option EntryRef) (rest : List ℕ)
    (f : Finding tested format bytes total count starts last rest) where
  pub rest-within : length rest ≤ length bytes
  rest-within = omega (arith, ap length f.under_way.so_far.spelled, length-append (items_bytes (walked tested format) f.under_way.taken) rest)

  module _ (e : Entry) (after : List ℕ) (lawful : IsEntry format e) (here : rest ≡ entry_bytes format e ++ after) where
    -- there are so few that each has room
    pub has_room : 12 * (count + 1) ≤ length bytes
    has_room =
        omega (
          arith,
          ap length f.under_way.so_far.spelled,
          length-append (items_bytes (walked tested format) f.under_way.taken) rest,
          ap length here,
          length-append (entry_bytes format e) after,
          ap length (walked_bytes tested format f.under_way.taken),
          entries-few format f.under_way.taken f.under_way.so_far.each,
          entries-few format (e ∷ []) (lawful, tt),
          length-append (entry_bytes format e) [],
          f.under_way.so_far.counted,
        )

    starts_here : StartsAt format bytes (length bytes - length rest) e
    starts_here = record {
      rest = after;
      spelled =
          ap (drop (length bytes - length rest)) f.under_way.so_far.spelled
          ∙ drop_at (items_bytes (walked tested format) f.under_way.taken) rest (length bytes - length rest)
          (omega (arith, ap length f.under_way.so_far.spelled, length-append (items_bytes (walked tested format) f.under_way.taken) rest))
          ∙ here;
    }

-- one more is found
pub finds_one : (tested : Bool) (format : ℕ) (bytes : List ℕ) (total count : ℕ) (starts new : List ℕ) (last : Option EntryRef)
    (rest : List ℕ) (e : EntryRef) (after : List ℕ)
    → Finding tested format bytes total count starts last rest → IsEntry format (entry_of e) → rest ≡ entry_bytes format (entry_of e) ++ after
    → IsNext (walked tested format) (option_map entry_of last) (entry_of e)
    → take (count + 1) new ≡ take count starts ++ (length bytes - length rest) ∷ []
    → Finding tested format bytes total (count + 1) new (Some e) after
unfolding reads_one
finds_one tested format bytes total count starts new last rest e after f lawful here follows put = record {
  under_way = reads_one tested format bytes total count last rest e after f.under_way lawful here follows;
  found = subst (λ (l : List ℕ). AreStarts format bytes l (f.under_way.taken ++ entry_of e ∷ [])) (sym put)
      (starts-push format bytes (take count starts) f.under_way.taken (length bytes - length rest) (entry_of e) f.found
      (starts_here tested format bytes total count starts last rest f (entry_of e) after lawful here));
}

pub all_found : (tested : Bool) (format : ℕ) (bytes : List ℕ) (total count : ℕ) (starts : List ℕ) (last : Option EntryRef) (rest : List ℕ)
    → Finding tested format bytes total count starts last rest → count ≡ total → length rest ≡ 0
    → (es : List Entry) × IsRun (walked tested format) bytes total es × AreStarts format bytes (take total starts) es
all_found tested format bytes total count starts last rest f all empty = (
  f.under_way.taken,
  done (walked tested format) bytes total count f.under_way.taken rest f.under_way.so_far all empty,
  subst (λ (n : ℕ). AreStarts format bytes (take n starts) f.under_way.taken) all f.found,
)

pub few_found : (tested : Bool) (format : ℕ) (bytes : List ℕ) (total count : ℕ) (starts : List ℕ) (last : Option EntryRef) (rest : List ℕ)
    → Finding tested format bytes total count starts last rest → 12 * count ≤ length bytes
few_found tested format bytes total count starts last rest f =
    omega (
      arith,
      ap length f.under_way.so_far.spelled,
      length-append (items_bytes (walked tested format) f.under_way.taken) rest,
      ap length (walked_bytes tested format f.under_way.taken),
      entries-few format f.under_way.taken f.under_way.so_far.each,
      f.under_way.so_far.counted,
    )

-- none is found yet
pub none_found : (tested : Bool) (format : ℕ) (bytes : List ℕ) (total : ℕ) (starts : List ℕ) → Finding tested format bytes total 0 starts None bytes
none_found tested format bytes total starts = record {
  under_way = record {
    taken = [];
    so_far = record {
      counted = refl;
      each = tt;
      ordered = tt;
      spelled = refl;
      behind = λ all run. record { later = all; split = refl; each = run.each; spelled = run.spelled };
    };
    last_is = refl;
  };
  found = tt;
}

-- one place more
pub take_put : (starts : List ℕ) (i place : ℕ) → i < length starts → take (i + 1) (slice_set starts i place) ≡ take i starts ++ place ∷ []
take_put [] i place within = absurd (omega arith)
take_put (s ∷ starts) zero place within = refl
take_put (s ∷ starts) (suc i) place within =
    ap (λ (n : ℕ). take n (s ∷ slice_set starts i place)) (one_more i) ∙ ap (λ (l : List ℕ). s ∷ l) (take_put starts i place (omega arith))
  where
    one_more : (n : ℕ) → suc n + 1 ≡ suc (n + 1)
    one_more n = omega arith
