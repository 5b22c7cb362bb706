-- What tables tell where they are asked one behind the other.
use Rattle.std.specs.Prelude.{◌≡◌, ℕ, zero, suc, ◌+◌, ◌<◌, ◌≤◌, Bool, true, false, ◌&&◌, List, [], ◌∷◌, ◌++◌, length}
use Rattle.std.specs.Prelude.{get_or, take, drop, IfErr, IfOk, Option, Some, None, Result, Ok, Err}
use Rattle.std.specs.List.{prefix_len, slice_get}
use Rattle.std.specs.Option.{option_map}
use Rattle.std.proofs.Common.{refl, ap, sym, subst, ◌∙◌, arith, append-nil, cond}
use Rattle.vl_model.specs.Cutting.{joined}
use Rattle.vl_table.specs.body.Founds.{found_of}
use Rattle.vl_table.specs.declared.body.found.Found.{Found}
use Rattle.vl_disk.specs.Faults.{HasCause}
use Rattle.vl_model.specs.declared.entry.Entry.{Entry}
use Rattle.vl_model.specs.Lookups.{IsParted}
use Rattle.vl_table.specs.Answers.{Failed}
use Rattle.vl_table.specs.CursorParts.{MayFailOn}
use Rattle.vl_table.specs.Kept.{Files}
use Rattle.vl_table.specs.KeptBlocks.{AreKept, ReadsOf}
use Rattle.vl_table.specs.OfTables.{AreOf}
use Rattle.vl_table.specs.declared.block_reader.BlockReader.{BlockReader}
use Rattle.vl_disk.specs.declared.read_fault.ReadFault.{ReadFault}
use Rattle.vl_disk.specs.declared.read_fault.ReadFault.TheVariants.{NoMemory, Disk, Damaged}
use Rattle.vl_table.specs.declared.table.Table.{Table}
use Rattle.vl_version.specs.Bases.{is_input}
use Rattle.vl_version.specs.levels.LevelTables.{AreApart, ends_before}
use Rattle.vl_version.specs.levels.LookedUp.{LooksOn, NamesAsked}
use Rattle.vl_version.specs.levels.Looks.{better, sought}
use Rattle.vl_version.specs.levels.Marks.{Tells, TellsFirst, first_mark, is_passed, mark_if, mark_of, or_mark}
use Rattle.vl_version.specs.declared.levels.mark.Asked.{Asked}
use Rattle.vl_version.proofs.looking.LevelLaws.{level-parted}
use Rattle.vl_version.proofs.looking.LookLaws.{better-none}
use Rattle.vl_version.proofs.looking.Parts.{split_at}
use Rattle.vl_version.proofs.looking.ReadsOfSome.{read_back, read_front}
use Rattle.vl_version.proofs.marking.MarkLaws.{level_marked, or-none, parts_of}

no_failure : (now : ℕ) → HasCause now now ⊥
no_failure now = record { later = omega arith; rose = λ failed. absurd failed; steady = λ steady. refl }

-- ---- places in lists

get-front : {X : Type 0} (xs ys : List X) (i : ℕ) (x : X) → slice_get xs i ≡ Some x → slice_get (xs ++ ys) i ≡ Some x
get-front [] ys i x is = absurd cc
get-front (a ∷ xs) ys zero x is = is
get-front (a ∷ xs) ys (suc i) x is = get-front xs ys i x is

none_more : (i : ℕ) → i ≡ 0 + i
none_more i = omega arith

one_first : (n i : ℕ) → suc (n + i) ≡ suc n + i
one_first n i = omega arith

get-back : {X : Type 0} (xs ys : List X) (i : ℕ) (x : X) → slice_get ys i ≡ Some x → slice_get (xs ++ ys) (length xs + i) ≡ Some x
get-back {X} [] ys i x is = subst (λ (n : ℕ). slice_get ys n ≡ Some x) (none_more i) is
get-back {X} (a ∷ xs) ys i x is =
    subst (λ (n : ℕ). slice_get (a ∷ (xs ++ ys)) n ≡ Some x) (one_first (length xs) i) (get-back xs ys i x is)

module _ {H : Type 0} (bytes_of : H → Option (List ℕ)) where
  -- ---- faults

  -- a fault of one of some tables is one of more tables
  pub fails-front : (ts us : List (Table H)) (e : ReadFault) → MayFailOn bytes_of ts e → MayFailOn bytes_of (ts ++ us) e
  fails-front ts us NoMemory fails = tt
  fails-front ts us (Disk name) fails = (fails.0, fails.1, get-front ts us fails.0 fails.1 fails.2, fails.3)
  fails-front ts us (Damaged name place) fails = (fails.0, fails.1, get-front ts us fails.0 fails.1 fails.2, fails.3, fails.4)

  pub fails-back : (ts us : List (Table H)) (e : ReadFault) → MayFailOn bytes_of us e → MayFailOn bytes_of (ts ++ us) e
  fails-back ts us NoMemory fails = tt
  fails-back ts us (Disk name) fails = (length ts + fails.0, fails.1, get-back ts us fails.0 fails.1 fails.2, fails.3)
  fails-back ts us (Damaged name place) fails =
      (length ts + fails.0, fails.1, get-back ts us fails.0 fails.1 fails.2, fails.3, fails.4)

  get-middle : (front back : List (Table H)) (t : Table H) → slice_get (front ++ t ∷ back) (length front) ≡ Some t
  get-middle [] back t = refl
  get-middle (u ∷ front) back t = get-middle front back t

  -- a fault that names a table that was asked is one of these tables
  pub names_fail : (ts : List (Table H)) (key : List ℕ) (e : ReadFault) → NamesAsked bytes_of ts key (Err e) → MayFailOn bytes_of ts e
  names_fail ts key NoMemory names = tt
  names_fail ts key (Disk name) names = (
    length names.asked.front,
    names.table,
    ap (λ (l : List (Table H)). slice_get l (length names.asked.front)) names.asked.among
        ∙ get-middle names.asked.front names.asked.back names.table,
    names.named,
  )
  names_fail ts key (Damaged name place) names = (
    length names.asked.front,
    names.table,
    ap (λ (l : List (Table H)). slice_get l (length names.asked.front)) names.asked.among
        ∙ get-middle names.asked.front names.asked.back names.table,
    names.named,
    names.why,
  )

  module _ {R : Type 0} (faults : R → ℕ) where
    -- ---- one question behind the other

    module _ {S U : Type 0} (ts : List (Table H)) (L : Type 0) (good : List (List Entry) → S → Type 0)
        (other : List (List Entry) → U → Type 0) (old new : BlockReader R) where
      -- what was asked failed
      pub fails_alike : (e : ReadFault) → Tells bytes_of faults ts L good old new (Err e)
          → Tells bytes_of faults ts L other old new (Err e)
      fails_alike e told = record
          { cause = by e told.cause; kept = told.kept; fault = told.fault; answer = λ files reads lawful ess are. tt }
        where
          by : (e : ReadFault) → HasCause (faults old.reader) (faults new.reader) (Failed {T = S} (Err e))
              → HasCause (faults old.reader) (faults new.reader) (Failed {T = U} (Err e))
          by NoMemory cause = cause
          by (Disk name) cause = cause
          by (Damaged name place) cause = cause

      -- what was answered says something else too
      pub says_too : (x : S) (y : U) → ((ess : List (List Entry)) → good ess x → other ess y)
          → Tells bytes_of faults ts L good old new (Ok x) → Tells bytes_of faults ts L other old new (Ok y)
      says_too x y says told = record {
        cause = told.cause;
        kept = told.kept;
        fault = λ files reads. tt;
        answer = λ files reads lawful ess are. says ess (told.answer files reads lawful ess are);
      }

      pub fails_so : (e : ReadFault) (r : Result U ReadFault) → r ≡ Err e → Tells bytes_of faults ts L good old new (Err e)
          → Tells bytes_of faults ts L other old new r
      fails_so e r is told = subst (λ (s : Result U ReadFault). Tells bytes_of faults ts L other old new s) (sym is) (fails_alike e told)

    module _ {S T : Type 0} (ts : List (Table H)) (L : Type 0) (good : List (List Entry) → S → Type 0)
        (next : List (List Entry) → T → Type 0) (old mid new : BlockReader R) where
      -- what is asked next
      pub asks_next : (x : S) (r : Result T ReadFault) → Tells bytes_of faults ts L good old mid (Ok x)
          → Tells bytes_of faults ts L next mid new r
          → Tells bytes_of faults ts L (λ ess y. good ess x × next ess y) old new r
      asks_next x r first second = record {
        cause = subst (λ (n : ℕ). HasCause n (faults new.reader) (Failed r)) (first.cause.steady (λ failed. failed)) second.cause;
        kept = λ files reads. second.kept files (record { kept = first.kept files reads; told = reads.told });
        fault = λ files reads. second.fault files (record { kept = first.kept files reads; told = reads.told });
        answer = λ files reads lawful ess are.
            both (good ess x) (next ess) r (first.answer files reads lawful ess are)
            (second.answer files (record { kept = first.kept files reads; told = reads.told }) lawful ess are);
      }
        where
          both : (P : Type 0) (Q : T → Type 0) (r : Result T ReadFault) → P → IfOk r Q → IfOk r (λ y. P × Q y)
          both P Q (Ok y) p q = (p, q)
          both P Q (Err e) p q = tt

    -- ---- more tables

    module _ (asked : Asked) where
      -- no table was asked yet
      pub none_asked : (L : Type 0) (b : BlockReader R) → TellsFirst bytes_of faults asked [] L b b (Ok None)
      none_asked L b = record {
        cause = no_failure (faults b.reader);
        kept = λ files reads. reads.kept;
        fault = λ files reads. tt;
        answer = λ files reads lawful ess are. refl;
      }

      module _ (ts us : List (Table H)) (A B C : Type 0) (old mid new : BlockReader R) where
        -- where the first ones have no such entry the others are asked
        pub goes_on : (r : Result (Option Bool) ReadFault) → (C → A) → (C → B) → TellsFirst bytes_of faults asked ts A old mid (Ok None)
            → TellsFirst bytes_of faults asked us B mid new r → TellsFirst bytes_of faults asked (ts ++ us) C old new r
        goes_on r f g first second = record {
          cause = subst (λ (n : ℕ). HasCause n (faults new.reader) (Failed r)) (first.cause.steady (λ failed. failed)) second.cause;
          kept = λ files reads. second.kept files (behind files reads);
          fault = λ files reads. fault r (second.fault files (behind files reads));
          answer = λ files reads lawful ess are.
              let parts = parts_of asked bytes_of ts us ess are in
              answer (first_mark asked us parts.back) ess r (parts.first
              ∙ ap (λ (m : Option Bool). or_mark m (first_mark asked us parts.back))
              (sym (first.answer files (read_front bytes_of files old ts us reads) (f lawful) parts.front parts.are)))
              (second.answer files (behind files reads) (g lawful) parts.back parts.are_behind);
        }
          where
            behind : (files : Files) → ReadsOf bytes_of files old (ts ++ us) → ReadsOf bytes_of files mid us
            behind files reads = record {
              kept = first.kept files (read_front bytes_of files old ts us reads);
              told = (read_back bytes_of files old ts us reads).told;
            }

            fault : (r : Result (Option Bool) ReadFault) → IfErr r (MayFailOn bytes_of us) → IfErr r (MayFailOn bytes_of (ts ++ us))
            fault (Ok m) fails = tt
            fault (Err e) fails = fails-back ts us e fails

            answer : (m : Option Bool) (ess : List (List Entry)) (r : Result (Option Bool) ReadFault) → first_mark asked (ts ++ us) ess ≡ m
                → IfOk r (λ found. found ≡ m) → IfOk r (λ found. found ≡ first_mark asked (ts ++ us) ess)
            answer m ess (Ok found) is told = told ∙ sym is
            answer m ess (Err e) is told = tt

        -- where they have one, or fail, the others aren't asked
        pub stops : (r : Result (Option Bool) ReadFault) → (C → A) → ((r ≡ Ok None) → ⊥) → TellsFirst bytes_of faults asked ts A old new r
            → TellsFirst bytes_of faults asked (ts ++ us) C old new r
        stops r f some first = record {
          cause = first.cause;
          kept = λ files reads. first.kept files (read_front bytes_of files old ts us reads);
          fault = λ files reads. fault r (first.fault files (read_front bytes_of files old ts us reads));
          answer = λ files reads lawful ess are.
              let parts = parts_of asked bytes_of ts us ess are in
              answer (first_mark asked ts parts.front) ess (first_mark asked us parts.back) r some parts.first
              (first.answer files (read_front bytes_of files old ts us reads) (f lawful) parts.front parts.are);
        }
          where
            fault : (r : Result (Option Bool) ReadFault) → IfErr r (MayFailOn bytes_of ts) → IfErr r (MayFailOn bytes_of (ts ++ us))
            fault (Ok m) fails = tt
            fault (Err e) fails = fails-front ts us e fails

            answer : (m : Option Bool) (ess : List (List Entry)) (later : Option Bool)
                (r : Result (Option Bool) ReadFault) → ((r ≡ Ok None) → ⊥)
                → first_mark asked (ts ++ us) ess ≡ or_mark m later
                → IfOk r (λ found. found ≡ m) → IfOk r (λ found. found ≡ first_mark asked (ts ++ us) ess)
            answer m ess later (Ok None) some is told = absurd (some refl)
            answer m ess later (Ok (Some input)) some is told = sym (is ∙ ap (λ (m : Option Bool). or_mark m later) (sym told))
            answer m ess later (Err e) some is told = tt

      module _ (ts us : List (Table H)) (A C : Type 0) (old new : BlockReader R) (f : C → A) where
        pub finds_before : (m : Option Bool) (input : Bool) → m ≡ Some input → TellsFirst bytes_of faults asked ts A old new (Ok m)
            → TellsFirst bytes_of faults asked (ts ++ us) C old new (Ok (Some input))
        finds_before m input some told =
            stops ts us A A C old new new (Ok (Some input)) f (λ is. cc)
            (subst (λ (x : Option Bool). TellsFirst bytes_of faults asked ts A old new (Ok x)) some told)

        pub fails_before : (e : ReadFault) (r : Result (Option Bool) ReadFault) → r ≡ Err e
            → TellsFirst bytes_of faults asked ts A old new (Err e)
            → TellsFirst bytes_of faults asked (ts ++ us) C old new r
        fails_before e r is told =
            subst (λ (s : Result (Option Bool) ReadFault). TellsFirst bytes_of faults asked (ts ++ us) C old new s) (sym is)
            (stops ts us A A C old new new (Err e) f (λ is. cc) told)

      -- ---- tables one behind the other

      module _ (front us all : List (Table H)) (A B C : Type 0) (old mid new : BlockReader R) (f : C → A) (g : C → B)
          (so_far : TellsFirst bytes_of faults asked front A old mid (Ok None)) where
        -- the next ones have no such entry either
        pub none_there : (m : Option Bool) → all ≡ front ++ us → m ≡ None → TellsFirst bytes_of faults asked us B mid new (Ok m)
            → TellsFirst bytes_of faults asked all C old new (Ok None)
        none_there m parts none told =
            subst (λ (l : List (Table H)). TellsFirst bytes_of faults asked l C old new (Ok None)) (sym parts)
            (goes_on front us A B C old mid new (Ok None) f g so_far
            (subst (λ (x : Option Bool). TellsFirst bytes_of faults asked us B mid new (Ok x)) none told))

        -- they have one,
        pub found_there : (back : List (Table H)) (m : Option Bool) (input : Bool) → all ≡ (front ++ us) ++ back → m ≡ Some input
            → TellsFirst bytes_of faults asked us B mid new (Ok m) → TellsFirst bytes_of faults asked all C old new (Ok (Some input))
        found_there back m input parts some told =
            subst (λ (l : List (Table H)). TellsFirst bytes_of faults asked l C old new (Ok (Some input))) (sym parts)
            (stops (front ++ us) back C B C old mid new (Ok (Some input)) (λ c. c) (λ is. cc)
            (goes_on front us A B C old mid new (Ok (Some input)) f g so_far
            (subst (λ (x : Option Bool). TellsFirst bytes_of faults asked us B mid new (Ok x)) some told)))

        -- or fail
        pub failed_there : (back : List (Table H)) (e : ReadFault) (r : Result (Option Bool) ReadFault)
            → all ≡ (front ++ us) ++ back → r ≡ Err e
            → TellsFirst bytes_of faults asked us B mid new (Err e) → TellsFirst bytes_of faults asked all C old new r
        failed_there back e r parts is told =
            subst (λ (l : List (Table H)). TellsFirst bytes_of faults asked l C old new r) (sym parts)
            (subst (λ (s : Result (Option Bool) ReadFault). TellsFirst bytes_of faults asked ((front ++ us) ++ back) C old new s) (sym is)
            (stops (front ++ us) back C B C old mid new (Err e) (λ c. c) (λ is. cc)
            (goes_on front us A B C old mid new (Err e) f g so_far told)))

      -- ---- one table

      module _ (t : Table H) where
        -- it isn't asked
        pub passed : (b : BlockReader R) (input p : Bool) → input ≡ is_input asked.inputs.now t → p ≡ (asked.outside && input) → p ≡ true
            → TellsFirst bytes_of faults asked (t ∷ []) (Unit {0}) b b (Ok None)
        passed b input p as_input is passes = record {
          cause = no_failure (faults b.reader);
          kept = λ files reads. reads.kept;
          fault = λ files reads. tt;
          answer = λ files reads lawful ess are. by ess;
        }
          where
            skips : is_passed asked t ≡ true
            skips = ap (λ (b : Bool). asked.outside && b) (sym as_input) ∙ sym is ∙ passes

            by : (ess : List (List Entry)) → None ≡ first_mark asked (t ∷ []) ess
            by [] = refl
            by (es ∷ ess) = sym (ap (λ (b : Bool).
                or_mark (cond b None (mark_if (is_input asked.inputs.now t) (sought asked.look asked.key.now es))) None) skips)

        module _ (old new : BlockReader R) (input p : Bool) (as_input : input ≡ is_input asked.inputs.now t)
            (is : p ≡ (asked.outside && input))
            (goes : p ≡ false) (kept : (files : Files) → ReadsOf bytes_of files old (t ∷ []) → AreKept files new) where
          goes_by : is_passed asked t ≡ false
          goes_by = ap (λ (b : Bool). asked.outside && b) (sym as_input) ∙ sym is ∙ goes

          -- it was looked in
          pub looked_in : (found : Option Found) (m : Option Bool) → HasCause (faults old.reader) (faults new.reader) ⊥
              → ((files : Files) → ReadsOf bytes_of files old (t ∷ [])
              → LooksOn bytes_of (t ∷ []) (Unit {0}) asked.look asked.key.now None (faults old.reader) (faults new.reader) (Ok found))
              → m ≡ mark_if input (option_map (found_of asked.key.now) found)
              → TellsFirst bytes_of faults asked (t ∷ []) (Unit {0}) old new (Ok m)
          looked_in found m cause looks marks = record {
            cause = cause;
            kept = kept;
            fault = λ files reads. tt;
            answer = λ files reads lawful ess are. by ess are ((looks files reads).answer tt ess are);
          }
            where
              by : (ess : List (List Entry)) → AreOf bytes_of (t ∷ []) ess
                  → option_map (found_of asked.key.now) found ≡ better asked.look None (sought asked.look asked.key.now (joined ess))
                  → m ≡ first_mark asked (t ∷ []) ess
              by [] are so = absurd are
              by (es ∷ ess) are so =
                  marks ∙ ap (λ (b : Bool). mark_if b (option_map (found_of asked.key.now) found)) as_input
                  ∙ ap (mark_if (is_input asked.inputs.now t))
                  (so ∙ better-none asked.look (sought asked.look asked.key.now (joined (es ∷ ess)))
                  ∙ ap (sought asked.look asked.key.now) (whole es ess are.1))
                  ∙ sym (or-none (mark_if (is_input asked.inputs.now t) (sought asked.look asked.key.now es)))
                  ∙ sym (ap (λ (b : Bool). or_mark
                  (cond b None (mark_if (is_input asked.inputs.now t) (sought asked.look asked.key.now es))) None) goes_by)
                where
                  whole : (es : List Entry) (ess : List (List Entry)) → AreOf bytes_of [] ess → joined (es ∷ ess) ≡ es
                  whole es [] are = append-nil es
                  whole es (fs ∷ ess) are = absurd are

          -- it failed
          pub failed_in : (e : ReadFault) (r : Result (Option Bool) ReadFault) → r ≡ Err e
              → HasCause (faults old.reader) (faults new.reader) (Failed {T = Option Found} (Err e))
              → ((files : Files) → ReadsOf bytes_of files old (t ∷ [])
              → LooksOn bytes_of (t ∷ []) (Unit {0}) asked.look asked.key.now None (faults old.reader) (faults new.reader) (Err e))
              → TellsFirst bytes_of faults asked (t ∷ []) (Unit {0}) old new r
          failed_in e r is cause looks =
              subst (λ (s : Result (Option Bool) ReadFault). TellsFirst bytes_of faults asked (t ∷ []) (Unit {0}) old
              new s) (sym is) (record {
                cause = by e cause;
                kept = kept;
                fault = λ files reads. names_fail (t ∷ []) asked.key.now e (looks files reads).fault;
                answer = λ files reads lawful ess are. tt;
              })
            where
              by : (e : ReadFault) → HasCause (faults old.reader) (faults new.reader) (Failed {T = Option Found} (Err e))
                  → HasCause (faults old.reader) (faults new.reader) (Failed {T = Option Bool} (Err e))
              by NoMemory cause = cause
              by (Disk name) cause = cause
              by (Damaged name place) cause = cause

      -- ---- a level

      -- all its tables end before the key
      pub level_past : (ts : List (Table H)) (b : BlockReader R) (at : ℕ)
          → (IsParted (ends_before asked.key.now) ts → at ≡ prefix_len (ends_before asked.key.now) ts)
          → length ts ≤ at → TellsFirst bytes_of faults asked ts (AreApart ts) b b (Ok None)
      level_past ts b at is past = record {
        cause = no_failure (faults b.reader);
        kept = λ files reads. reads.kept;
        fault = λ files reads. tt;
        answer = λ files reads apart ess are.
            let marked = level_marked asked bytes_of ts ess apart are in
            let here = is (level-parted bytes_of asked.key.now ts ess apart are) in
            sym (marked.past (omega (arith, past, here)));
      }

      -- the first that doesn't is asked
      pub level_asked : (ts : List (Table H)) (t : Table H) (old new : BlockReader R) (at : ℕ) (r : Result (Option Bool) ReadFault)
          → (IsParted (ends_before asked.key.now) ts → at ≡ prefix_len (ends_before asked.key.now) ts) → at < length ts → t ≡ get_or ts at t
          → TellsFirst bytes_of faults asked (t ∷ []) (Unit {0}) old new r → TellsFirst bytes_of faults asked ts (AreApart ts) old new r
      level_asked ts t old new at r first within is one = record {
        cause = one.cause;
        kept = λ files reads. one.kept files (here files reads);
        fault = λ files reads. fault r (one.fault files (here files reads));
        answer = λ files reads apart ess are.
            let marked = level_marked asked bytes_of ts ess apart are in
            let same = first (level-parted bytes_of asked.key.now ts ess apart are) in
            let there = marked.here t (omega (arith, within, same)) (is ∙ ap (λ (n : ℕ). get_or ts n t) same) in
            answer (first_mark asked (t ∷ []) (there.entries ∷ [])) ess r (there.first ∙ sym (or-none (mark_of asked t there.entries)))
            (one.answer files (here files reads) tt (there.entries ∷ []) (there.is, tt));
      }
        where
          parts : ts ≡ (take at ts ++ t ∷ []) ++ drop (suc at) ts
          parts = split_at ts at t within is

          here : (files : Files) → ReadsOf bytes_of files old ts → ReadsOf bytes_of files old (t ∷ [])
          here files reads = read_back bytes_of files old (take at ts) (t ∷ [])
              (read_front bytes_of files old (take at ts ++ t ∷ []) (drop (suc at) ts)
              (subst (λ (l : List (Table H)). ReadsOf bytes_of files old l) parts reads))

          fault : (r : Result (Option Bool) ReadFault) → IfErr r (MayFailOn bytes_of (t ∷ [])) → IfErr r (MayFailOn bytes_of ts)
          fault (Ok m) fails = tt
          fault (Err e) fails = subst (λ (l : List (Table H)). MayFailOn bytes_of l e) (sym parts)
              (fails-front (take at ts ++ t ∷ []) (drop (suc at) ts) e (fails-back (take at ts) (t ∷ []) e fails))

          answer : (m : Option Bool) (ess : List (List Entry)) (r : Result (Option Bool) ReadFault) → first_mark asked ts ess ≡ m
              → IfOk r (λ found. found ≡ m) → IfOk r (λ found. found ≡ first_mark asked ts ess)
          answer m ess (Ok found) is told = told ∙ sym is
          answer m ess (Err e) is told = tt
