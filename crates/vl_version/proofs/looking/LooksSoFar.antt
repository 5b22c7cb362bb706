-- A look-up in several tables, table by table.
use Rattle.std.specs.Prelude.{◌≡◌, ℕ, List, ◌++◌, Option, Result, Ok, Err}
use Rattle.std.specs.Option.{option_map}
use Rattle.std.proofs.Common.{sym, subst}
use Rattle.vl_model.specs.declared.entry.Entry.{Entry}
use Rattle.vl_table.specs.body.Founds.{found_of}
use Rattle.vl_table.specs.declared.body.found.Found.{Found}
use Rattle.vl_table.specs.Kept.{Files}
use Rattle.vl_table.specs.KeptBlocks.{AreKept}
use Rattle.vl_table.specs.declared.block_reader.BlockReader.{BlockReader}
use Rattle.vl_disk.specs.declared.read_fault.ReadFault.{ReadFault}
use Rattle.vl_table.specs.declared.table.Table.{Table}
use Rattle.vl_version.specs.levels.LookedUp.{LooksInAll, LooksOn, LooksThrough}
use Rattle.vl_version.specs.declared.levels.look.Look.{Look}
use Rattle.vl_version.proofs.looking.LookSteps.{fails_on, goes_on}
use Rattle.vl_version.proofs.looking.Through.{in_all-append, in_all-front, through-append}

-- in these tables was looked, and this counts so far
pub record SoFar {H R : Type 0} (bytes_of : H → Option (List ℕ)) (files : Files) (ts : List (Table H))
    (Lawful Laid : Type 0) (look : Look) (key : List ℕ)
    (first : Option Entry) (before now : ℕ) (reader : BlockReader R) (best : Option Found) : Type 0 where
  pub kept : AreKept files reader
  pub answer : LooksOn bytes_of ts Lawful look key first before now (Ok best)
  pub looks : Laid → LooksThrough bytes_of look key first ts (option_map (found_of key) best)

module _ {H R : Type 0} (bytes_of : H → Option (List ℕ)) (files : Files) (A L : Type 0) (look : Look) (key : List ℕ)
    (first : Option Entry) (ts us : List (Table H))
    (before mid now : ℕ) (old : BlockReader R) (best : Option Found)
    (so : SoFar bytes_of files ts A L look key first before mid old best) where
  -- in more tables too
  pub looks_on : (all : List (Table H)) (B M : Type 0) (new : BlockReader R) (x : Option Found) → all ≡ ts ++ us
      → (A → B) → (L → M) → AreKept files new
      → LooksOn bytes_of us B look key (option_map (found_of key) best) mid now (Ok x)
      → (M → LooksThrough bytes_of look key (option_map (found_of key) best) us (option_map (found_of key) x))
      → SoFar bytes_of files all A L look key first before now new x
  looks_on all B M new x parts f g kept answer looks = record {
    kept = kept;
    answer = subst (λ (l : List (Table H)). LooksOn bytes_of l A look key first before now (Ok x)) (sym parts)
        (goes_on bytes_of look key ts us A B A first before mid now best (Ok x) (λ a. a) f so.answer answer);
    looks = λ laid. subst (λ (l : List (Table H)). LooksThrough bytes_of look key first l (option_map (found_of key) x)) (sym parts)
        (through-append bytes_of look key ts us first (option_map (found_of key) best) (option_map (found_of key) x)
        (so.looks laid) (looks (g laid)));
  }

  -- there it fails
  pub fails_there : (more all : List (Table H)) (B : Type 0) (e : ReadFault) (r : Result (Option Found) ReadFault)
      → all ≡ (ts ++ us) ++ more → r ≡ Err e → (A → B)
      → LooksOn bytes_of us B look key (option_map (found_of key) best) mid now (Err e) → LooksOn bytes_of all A look key first before now r
  fails_there more all B e r parts is f answer =
      subst (λ (l : List (Table H)). LooksOn bytes_of l A look key first before now r) (sym parts)
      (subst (λ (s : Result (Option Found) ReadFault). LooksOn bytes_of ((ts ++ us) ++ more) A look key first before now s) (sym is)
      (fails_on bytes_of look key (ts ++ us) more A A first before now e (λ a. a)
      (goes_on bytes_of look key ts us A B A first before mid now best (Err e) (λ a. a) f so.answer answer)))

  -- and that was the first table on which it did
  pub stops_there : (more all : List (Table H)) (M : Type 0) (e : ReadFault) (r : Result (Option Found) ReadFault)
      → all ≡ (ts ++ us) ++ more → r ≡ Err e → (L → M)
      → (M → LooksInAll bytes_of look key (option_map (found_of key) best) us (Err e)) → L → LooksInAll bytes_of look key first all r
  stops_there more all M e r parts is f looks laid =
      subst (λ (l : List (Table H)). LooksInAll bytes_of look key first l r) (sym parts)
      (subst (λ (s : Result (Option Found) ReadFault). LooksInAll bytes_of look key first ((ts ++ us) ++ more) s) (sym is)
      (in_all-front bytes_of look key (ts ++ us) more first e
      (in_all-append bytes_of look key ts us first (option_map (found_of key) best) (Err e) (so.looks laid) (looks (f laid)))))
