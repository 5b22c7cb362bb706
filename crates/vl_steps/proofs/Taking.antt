-- How the disk comes to have the files of a merge's tables, one by one.
use Rattle.std.specs.Prelude.{◌≡◌, ◌≢◌, ◌⊎◌, ℕ, Bool, ◌≤◌, get_or, true, false, ◌||◌, ◌==◌, List, [], ◌∷◌, ◌++◌}
use Rattle.std.specs.Prelude.{length, map, Option, None, Some, IsSome, IsTrue, Result, Ok, Err, IfErr, IsErrAnd, refl}
use Rattle.std.specs.List.{AllByRecursion, AllZip, remove}
use Rattle.std.specs.Option.{ForSome, option_map, unwrap_or}
use Rattle.std.proofs.Common.{sym, ap, subst, ◌∙◌, arith, inl, inr, ⊎_elim, append_assoc}
use Rattle.std.proofs.lemmas.Bool.Decides.{nat_tests}
use Rattle.vl_compact.specs.Laid.{AreTablesOf}
use Rattle.vl_compact.specs.Replacing.{AreReady}
use Rattle.vl_compact.specs.declared.files.Synced.{Synced}
use Rattle.vl_compact.specs.declared.ready.ReadyLevels.{ReadyLevels}
use Rattle.vl_disk.specs.Calls.{ChangesNothing}
use Rattle.vl_disk.specs.Disk.{IsChangedBy, IsFree, Stands}
use Rattle.vl_disk.specs.DiskState.{DiskState, File, file_at, new_file}
use Rattle.vl_disk.specs.Lending.{Adopts, WhileAdopting, adopted}
use Rattle.vl_disk.specs.Moments.{While, passes_then, past_of}
use Rattle.vl_disk.specs.Spare.{SameSpareElsewhere, Spare, UsesHold}
use Rattle.vl_disk.specs.declared.name.Name.TheVariants.{Manifest, Table as table_name}
use Rattle.vl_disk.specs.declared.name.Name.{Name}
use Rattle.vl_disk.specs.declared.watched.Watched.{Ghosts}
use Rattle.vl_disk.specs.declared.writer.Writer.{Ghosts as Writers}
use Rattle.vl_disk.specs.laws.NameMap.{get_inserted, get_inserted_other}
use Rattle.vl_disk.specs.laws.Standing.{holds_after}
use Rattle.vl_steps.specs.Taking.{IsHeldTable, MayTake, MayTakeAll, PutsAll, StopsTaking, Takes, TakesBack}
use Rattle.vl_steps.specs.Taking.{WhileTaking, file_in, file_of_table, with_files}
use Rattle.vl_engine_model.specs.declared.job.Target.{Target}
use Rattle.vl_engine_model.specs.declared.table.Table as laid
use Rattle.vl_model.specs.Numbers.{has}
use Rattle.vl_table.specs.declared.table.Table.{Table}

some_same : (a b : DiskState) → Some a ≡ Some b → a ≡ b
some_same a b e = cc

none_some : (a : DiskState) → None ≡ Some a → ⊥
none_some a e = cc

not_some : IsSome {T = File} None → ⊥
not_some e = cc

pub other_name : (n m : ℕ) → Manifest n ≡ table_name m → ⊥
other_name n m e = cc

pub table_same : (n m : ℕ) → table_name n ≡ table_name m → n ≡ m
table_same n m e = cc

pub no_error : false ≡ true → ⊥
no_error e = cc

-- what an error that is passed on says
pub passed_on : {T : Type 0} (P : Name → Type 0) (result : Result T Name) (name : Name) → IsErrAnd result (λ f. f ≡ name) → P name
    → IfErr result P
passed_on P (Ok x) name is so = tt
passed_on P (Err f) name is so = subst P (sym is) so

-- the first of some is taken out
pub first_out : {A : Type 0} (xs : List A) (x : A) → 1 ≤ length xs → x ≡ get_or xs 0 x → xs ≡ x ∷ remove xs 0
first_out [] x some is = absurd (omega (arith, some))
first_out (y ∷ ys) x some is = ap (λ z. z ∷ ys) (sym is)

-- ---- one file

module _ (name : Name) (file : Option File) (old new : Option DiskState) where
  pub changed_once : ForSome old (λ disk. ForSome file (λ f. new ≡ Some (adopted name f disk))) → (old ≡ None → new ≡ None)
      → ForSome old (λ _. IsSome file) → IsChangedBy (adopted name (file_in file)) old new
  changed_once taken untold tells = by old file refl refl
    where
      by : (o : Option DiskState) → (f : Option File) → old ≡ o → file ≡ f → IsChangedBy (adopted name (file_in file)) old new
      by None f is there = untold is ∙ sym (ap (option_map (adopted name (file_in file))) is)
      by (Some disk) None is there = absurd (not_some (subst IsSome there (tells disk is)))
      by (Some disk) (Some f) is there = taken disk is f there
          ∙ sym (ap (option_map (adopted name (file_in file))) is ∙ ap (λ (o : Option File). Some (adopted name (file_in o) disk)) there)

  pub stands_once : IsChangedBy (adopted name (file_in file)) old new → ForSome new (Stands name)
  stands_once changed disk is = by old refl
    where
      by : (o : Option DiskState) → old ≡ o → Stands name disk
      by None none = absurd (none_some disk (sym (changed ∙ ap (option_map (adopted name (file_in file))) none) ∙ is))
      by (Some before) was =
          let same = some_same (adopted name (file_in file) before) disk
          (sym (changed ∙ ap (option_map (adopted name (file_in file))) was) ∙ is) in
          subst (Stands name) same (subst IsSome (sym (get_inserted before.standing name (file_in file))) refl)

  adopting : (disk now : DiskState) → IsSome file → WhileAdopting name file disk now
      → (now ≡ disk) ⊎ (now ≡ adopted name (file_in file) disk)
  adopting disk now tells during = ⊎_elim (λ (is : now ≡ disk). inl is)
      (λ (is : ForSome file (λ f. now ≡ adopted name f disk)). inr (by file refl is)) during
    where
      by : (f : Option File) → file ≡ f → ForSome file (λ f. now ≡ adopted name f disk) → now ≡ adopted name (file_in file) disk
      by None there is = absurd (not_some (subst IsSome there tells))
      by (Some f) there is = is f there ∙ sym (ap (λ (o : Option File). adopted name (file_in o) disk) there)

-- what is held of it has its bytes
pub held_bytes : (name : Name) (file : File) (old new : Option DiskState) → IsChangedBy (adopted name file) old new
    → (held : Option (List ℕ)) → ForSome new (λ disk. held ≡ Some (file_at disk name).bytes)
    → ForSome old (λ _. held ≡ Some file.bytes)
held_bytes name file old new changed held so disk is =
    so (adopted name file disk) (changed ∙ ap (option_map (adopted name file)) is)
    ∙ ap (λ (o : Option File). Some (unwrap_or o new_file).bytes) (get_inserted disk.standing name file)

-- ---- a step

module _ {D W : Type 0} (g : Ghosts D) (w : Writers W) {s : _} (t : Synced W s) (old mid new : D) (may : MayTake g w old t) where
  abbrev name : Name
  name = table_name t.number

  module _ (adopts : Adopts g name (w.file t.writer) old mid) where
    pub taken : IsChangedBy (adopted name (file_of_table w t)) (g.told old) (g.told mid)
    taken = changed_once name (w.file t.writer) (g.told old) (g.told mid) adopts.adopted adopts.untold may.tells

    pub taken_stands : ForSome (g.told mid) (Stands name)
    taken_stands = stands_once name (w.file t.writer) (g.told old) (g.told mid) taken

    module _ {failed : Type 0} (held : ChangesNothing g mid new failed) (uses : UsesHold name (g.spare mid) (g.spare new)) where
      pub takes_one : Takes g w (t ∷ []) old new
      takes_one = record {
        changed = held.told ∙ taken;
        calls = held.calls ∙ adopts.calls;
        time = passes_then (past_of g old) (past_of g mid) (past_of g new)
            (While (g.told old) (WhileAdopting name (w.file t.writer))) (While (g.told mid) (λ disk now. now ≡ disk))
            (While (g.told old) (WhileTaking w (t ∷ []))) adopts.time held.time
            (λ now during disk is. adopting name (w.file t.writer) (g.told old) (g.told mid) disk now (may.tells disk is) (during disk is))
            (λ now during disk is. inr (during (adopted name (file_of_table w t) disk)
            (taken ∙ ap (option_map (adopted name (file_of_table w t))) is)));
        manifests = λ n. uses.elsewhere (Manifest n) (other_name n t.number) ∙ adopts.spare.elsewhere (Manifest n) (other_name n t.number);
        others = λ n apart. uses.elsewhere (table_name n) (λ e. apart.0 (table_same n t.number e))
            ∙ adopts.spare.elsewhere (table_name n) (λ e. apart.0 (table_same n t.number e));
      }

      pub one_elsewhere : SameSpareElsewhere name (g.spare old) (g.spare new)
      one_elsewhere other apart = uses.elsewhere other apart ∙ adopts.spare.elsewhere other apart

-- ---- one behind others

module _ {W : Type 0} (w : Writers W) {s : _} where
  pub with_more : (ts us : List (Synced W s)) (disk : DiskState) → with_files w (ts ++ us) disk ≡ with_files w us (with_files w ts disk)
  with_more [] us disk = refl
  with_more (t ∷ ts) us disk = with_more ts us (adopted (table_name t.number) (file_of_table w t) disk)

  pub while_front : (ts us : List (Synced W s)) (disk now : DiskState) → WhileTaking w ts disk now → WhileTaking w (ts ++ us) disk now
  while_front [] [] disk now is = is
  while_front [] (u ∷ us) disk now is = inl is
  while_front (t ∷ ts) us disk now during = ⊎_elim
      (λ (is : now ≡ disk). inl is)
      (λ (later : WhileTaking w ts (adopted (table_name t.number) (file_of_table w t) disk) now).
      inr (while_front ts us (adopted (table_name t.number) (file_of_table w t) disk) now later)) during

  pub while_behind : (ts us : List (Synced W s)) (disk now : DiskState) → WhileTaking w us (with_files w ts disk) now
      → WhileTaking w (ts ++ us) disk now
  while_behind [] us disk now during = during
  while_behind (t ∷ ts) us disk now during = inr (while_behind ts us (adopted (table_name t.number) (file_of_table w t) disk) now during)

module _ {D W : Type 0} (g : Ghosts D) (w : Writers W) {s : _} where
  pub takes_none : (disk : D) → Takes g w {s = s} [] disk disk
  takes_none disk = record {
    changed = same (g.told disk);
    calls = refl;
    time = record {
      later = omega arith;
      nothing_else = λ t state earlier was. inl was;
      keeps = λ t state earlier was. was;
      as_planned = λ stop plan. plan;
      steady = λ was. was;
    };
    manifests = λ n. refl;
    others = λ n apart. refl;
  }
    where
      same : (o : Option DiskState) → o ≡ option_map (λ d. d) o
      same None = refl
      same (Some d) = refl

  pub takes_more : (ts us : List (Synced W s)) (old mid new : D) → Takes g w ts old mid → Takes g w us mid new
      → Takes g w (ts ++ us) old new
  takes_more ts us old mid new first second = record {
    changed = second.changed ∙ ap (option_map (with_files w us)) first.changed ∙ both (g.told old);
    calls = second.calls ∙ first.calls;
    time = passes_then (past_of g old) (past_of g mid) (past_of g new) (While (g.told old) (WhileTaking w ts))
        (While (g.told mid) (WhileTaking w us)) (While (g.told old) (WhileTaking w (ts ++ us))) first.time second.time
        (λ now during disk is. while_front w ts us disk now (during disk is))
        (λ now during disk is. while_behind w ts us disk now
        (during (with_files w ts disk) (first.changed ∙ ap (option_map (with_files w ts)) is)));
    manifests = λ n. second.manifests n ∙ first.manifests n;
    others = λ n apart. let parts = both_apart n ts apart in second.others n parts.1 ∙ first.others n parts.0;
  }
    where
      both_apart : (n : ℕ) (xs : List (Synced W s)) → AllByRecursion (λ (t : Synced W s). n ≢ t.number) (xs ++ us)
          → AllByRecursion (λ (t : Synced W s). n ≢ t.number) xs × AllByRecursion (λ (t : Synced W s). n ≢ t.number) us
      both_apart n [] apart = (tt, apart)
      both_apart n (x ∷ xs) apart = let rest = both_apart n xs apart.1 in ((apart.0, rest.0), rest.1)

      both : (o : Option DiskState) → option_map (with_files w us) (option_map (with_files w ts) o) ≡ option_map (with_files w (ts ++ us)) o
      both None = refl
      both (Some disk) = ap (λ (d : DiskState). Some d) (sym (with_more w ts us disk))

  -- ---- the files that are left

  -- a file that may be taken back still may where another one was
  module _ (t : Synced W s) (old new : D) (takes : Takes g w (t ∷ []) old new)
      (elsewhere : SameSpareElsewhere (table_name t.number) (g.spare old) (g.spare new)) where
    still_may : (u : Synced W s) → table_name u.number ≢ table_name t.number → MayTake g w old u → MayTake g w new u
    still_may u apart may = record {
      room = subst (λ (sp : Spare). IsTrue sp.adopt) (sym (elsewhere (table_name u.number) apart)) may.room;
      free = λ disk is. by_free (g.told old) refl disk is;
      tells = λ disk is. by_tells (g.told old) refl disk is;
    }
      where
        change : DiskState → DiskState
        change = adopted (table_name t.number) (file_of_table w t)

        by_free : (o : Option DiskState) → g.told old ≡ o → (disk : DiskState) → g.told new ≡ Some disk → IsFree (table_name u.number) disk
        by_free None was disk is = absurd (none_some disk (sym (takes.changed ∙ ap (option_map change) was) ∙ is))
        by_free (Some before) was disk is =
            subst (IsFree (table_name u.number)) (some_same (change before) disk (sym (takes.changed ∙ ap (option_map change) was) ∙ is))
            (get_inserted_other before.standing (table_name t.number) (file_of_table w t) (table_name u.number) apart ∙ may.free before was)

        by_tells : (o : Option DiskState) → g.told old ≡ o → (disk : DiskState) → g.told new ≡ Some disk → IsSome (w.file u.writer)
        by_tells None was disk is = absurd (none_some disk (sym (takes.changed ∙ ap (option_map change) was) ∙ is))
        by_tells (Some before) was disk is = may.tells before was

    each_still : (us : List (Synced W s)) → has t.number (map (λ (u : Synced W s). u.number) us) ≡ false
        → AllByRecursion (MayTake g w old) us → AllByRecursion (MayTake g w new) us
    each_still [] none may = tt
    each_still (u ∷ us) none may = (
      still_may u (λ e. not_both (u.number == t.number) refl (has t.number (map (λ (v : Synced W s). v.number) us)) none
          (table_same u.number t.number e)) may.0,
      each_still us (rest (u.number == t.number) (has t.number (map (λ (v : Synced W s). v.number) us)) none) may.1,
    )
      where
        not_both : (b : Bool) → (u.number == t.number) ≡ b → (c : Bool) → (b || c) ≡ false → u.number ≡ t.number → ⊥
        not_both true is c off same = (let no : true ≡ false = off in cc)
        not_both false is c off same = grind (arith, nat_tests, is, same)

        rest : (b c : Bool) → (b || c) ≡ false → c ≡ false
        rest true c off = absurd (let no : true ≡ false = off in cc)
        rest false c off = off

    pub all_still : (us : List (Synced W s)) → MayTakeAll g w old (t ∷ us) → MayTakeAll g w new us
    all_still us may = record { each = each_still us may.distinct.0 may.each.1; distinct = may.distinct.1 }

  -- ---- manifests

  manifest_stands : (ts : List (Synced W s)) (n : ℕ) (disk : DiskState) → Stands (Manifest n) disk
      → Stands (Manifest n) (with_files w ts disk)
  manifest_stands [] n disk stands = stands
  manifest_stands (t ∷ ts) n disk stands = manifest_stands ts n (adopted (table_name t.number) (file_of_table w t) disk)
      (subst IsSome (sym (get_inserted_other disk.standing (table_name t.number) (file_of_table w t) (Manifest n)
      (other_name n t.number))) stands)

  -- they stand as before
  pub manifest_still : (ts : List (Synced W s)) (n : ℕ) (old new : D) → Takes g w ts old new
      → ForSome (g.told old) (Stands (Manifest n)) → ForSome (g.told new) (Stands (Manifest n))
  manifest_still ts n old new takes = holds_after (with_files w ts) (g.told old) (g.told new) (Stands (Manifest n)) (Stands (Manifest n))
      takes.changed (λ disk stands. manifest_stands ts n disk stands)

-- ---- in memory

module _ {H : Type 0} (bytes : H → Option (List ℕ)) where
  pub puts_none : (levels : ReadyLevels H) → PutsAll bytes levels [] levels
  puts_none levels target inputs first ls new [] ready are =
      subst (λ (ts : List laid.Table). AreReady bytes target inputs first ls ts levels) (sym (nil_behind new)) ready
    where
      nil_behind : (ts : List laid.Table) → ts ++ [] ≡ ts
      nil_behind [] = refl
      nil_behind (u ∷ ts) = ap (λ (vs : List laid.Table). u ∷ vs) (nil_behind ts)
  puts_none levels target inputs first ls new (u ∷ outs) ready are = absurd are

  pub puts_one : (before after : ReadyLevels H) (table : Table H)
      → ((target : Target) (inputs : List ℕ) (first : Option (List ℕ)) (ls : List (List laid.Table)) (new : List laid.Table)
      (u : laid.Table) → AreReady bytes target inputs first ls new before → AreTablesOf bytes (table ∷ []) (u ∷ [])
      → AreReady bytes target inputs first ls (new ++ u ∷ []) after)
      → PutsAll bytes before (table ∷ []) after
  puts_one before after table put target inputs first ls new [] ready are = absurd are
  puts_one before after table put target inputs first ls new (u ∷ []) ready are = put target inputs first ls new u ready are
  puts_one before after table put target inputs first ls new (u ∷ v ∷ outs) ready are = absurd are.1

  pub puts_more : (before mid after : ReadyLevels H) (ts us : List (Table H)) → PutsAll bytes before ts mid → PutsAll bytes mid us after
      → PutsAll bytes before (ts ++ us) after
  puts_more before mid after ts us first_ones second target inputs first ls new outs ready are =
      let (fs, bs, outs_are, both) = parted ts us outs are in
      subst (λ (os : List laid.Table). AreReady bytes target inputs first ls os after)
      (append_assoc new fs bs ∙ ap (λ (os : List laid.Table). new ++ os) (sym outs_are))
      (second target inputs first ls (new ++ fs) bs (first_ones target inputs first ls new fs ready both.0) both.1)
    where
      parted : (ts us : List (Table H)) (outs : List laid.Table) → AreTablesOf bytes (ts ++ us) outs
          → (fs : List laid.Table) × (bs : List laid.Table) × (outs ≡ fs ++ bs) × (AreTablesOf bytes ts fs × AreTablesOf bytes us bs)
      parted [] us outs are = ([], outs, refl, (tt, are))
      parted (t ∷ ts) us [] are = absurd are
      parted (t ∷ ts) us (o ∷ outs) are =
          let (fs, bs, is, both) = parted ts us outs are.1 in
          (o ∷ fs, bs, ap (λ (os : List laid.Table). o ∷ os) is, ((are.0, both.0), both.1))

-- ---- both

module _ {D H W : Type 0} (g : Ghosts D) (bytes : H → Option (List ℕ)) (w : Writers W) {s : _} where
  -- told at the beginning, where it is told later
  earlier : (ts : List (Synced W s)) (old mid : D) (P : Type 0) → Takes g w ts old mid → ForSome (g.told mid) (λ _. P)
      → ForSome (g.told old) (λ _. P)
  earlier ts old mid P takes so disk is = so (with_files w ts disk) (takes.changed ∙ ap (option_map (with_files w ts)) is)

  held_earlier : (ts : List (Synced W s)) (old mid : D) → Takes g w ts old mid → (tables : List (Table H)) (us : List (Synced W s))
      → AllZip (IsHeldTable bytes w (g.told mid)) tables us → AllZip (IsHeldTable bytes w (g.told old)) tables us
  held_earlier ts old mid takes [] [] held = tt
  held_earlier ts old mid takes [] (u ∷ us) held = held
  held_earlier ts old mid takes (t ∷ tables) [] held = held
  held_earlier ts old mid takes (t ∷ tables) (u ∷ us) held = (
    record {
      shape = held.0.shape;
      held = earlier ts old mid (bytes t.held ≡ Some (file_of_table w u).bytes) takes held.0.held;
    },
    held_earlier ts old mid takes tables us held.1,
  )

  zip_more : (R : Table H → Synced W s → Type 0) (ts us : List (Table H)) (xs ys : List (Synced W s)) → AllZip R ts xs → AllZip R us ys
      → AllZip R (ts ++ us) (xs ++ ys)
  zip_more R [] us [] ys first second = second
  zip_more R [] us (x ∷ xs) ys first second = absurd first
  zip_more R (t ∷ ts) us [] ys first second = absurd first
  zip_more R (t ∷ ts) us (x ∷ xs) ys first second = (first.0, zip_more R ts us xs ys first.1 second)

  -- before the first
  pub takes_back_none : (made : List (Synced W s)) (disk : D) (levels : ReadyLevels H)
      → TakesBack g bytes w made made disk disk levels levels
  takes_back_none made disk levels = record {
    front = [];
    made_are = refl;
    takes = takes_none g w disk;
    tables = [];
    held = tt;
    puts = puts_none bytes levels;
  }

  -- and with one more
  pub takes_back_more : (made : List (Synced W s)) (t : Synced W s) (left : List (Synced W s)) (old mid new : D)
      (before between after : ReadyLevels H) → TakesBack g bytes w made (t ∷ left) old mid before between
      → TakesBack g bytes w (t ∷ []) [] mid new between after → TakesBack g bytes w made left old new before after
  takes_back_more made t left old mid new before between after so_far more =
      let one : more.front ≡ t ∷ [] = alone more.front more.made_are in
      record {
        front = so_far.front ++ t ∷ [];
        made_are = so_far.made_are ∙ sym (append_assoc so_far.front (t ∷ []) left);
        takes = takes_more g w so_far.front (t ∷ []) old mid new so_far.takes
            (subst (λ (ts : List (Synced W s)). Takes g w ts mid new) one more.takes);
        tables = so_far.tables ++ more.tables;
        held = zip_more (IsHeldTable bytes w (g.told old)) so_far.tables more.tables so_far.front (t ∷ []) so_far.held
            (held_earlier so_far.front old mid so_far.takes more.tables (t ∷ [])
            (subst (λ (ts : List (Synced W s)). AllZip (IsHeldTable bytes w (g.told mid)) more.tables ts) one more.held));
        puts = puts_more bytes before between after so_far.tables more.tables so_far.puts more.puts;
      }
    where
      alone : (ts : List (Synced W s)) → t ∷ [] ≡ ts ++ [] → ts ≡ t ∷ []
      alone ts is = sym (is ∙ nil_behind ts)
        where
          nil_behind : (us : List (Synced W s)) → us ++ [] ≡ us
          nil_behind [] = refl
          nil_behind (u ∷ us) = ap (λ (vs : List (Synced W s)). u ∷ vs) (nil_behind us)

  -- It failed at one.
  pub stops_taking : (made : List (Synced W s)) (t : Synced W s) (left : List (Synced W s)) (old mid new : D)
      (before between : ReadyLevels H) (name : Name) → TakesBack g bytes w made (t ∷ left) old mid before between
      → Takes g w (t ∷ []) mid new → name ≡ table_name t.number → StopsTaking g w made old new name
  stops_taking made t left old mid new before between _ so_far one is = record {
    before = so_far.front;
    at = t;
    left = left;
    made_are = so_far.made_are;
    name_is = is;
    takes = takes_more g w so_far.front (t ∷ []) old mid new so_far.takes one;
  }
