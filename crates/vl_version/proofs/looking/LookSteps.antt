-- A look-up in tables, one more table at a time.
use Rattle.std.specs.Prelude.{◌≡◌, ◌<◌, ◌≤◌, ℕ, suc, Bool, true, false, List, [], ◌∷◌, ◌++◌, length, get_or, take}
use Rattle.std.specs.Prelude.{drop, Option, None, Result, Ok, Err}
use Rattle.std.specs.List.{prefix_len}
use Rattle.std.specs.Option.{option_map}
use Rattle.std.proofs.Common.{refl, ap, sym, subst, ◌∙◌, append_assoc, append-nil, arith}
use Rattle.vl_model.specs.declared.entry.Entry.{Entry}
use Rattle.vl_table.specs.body.Bytes.{greatest_version, table_bytes}
use Rattle.vl_model.specs.Cutting.{joined}
use Rattle.vl_table.specs.body.Footer.{Foot}
use Rattle.vl_table.specs.body.Founds.{found_of}
use Rattle.vl_table.specs.declared.body.found.Found.{Found}
use Rattle.vl_model.specs.Lookups.{IsParted}
use Rattle.vl_disk.specs.Faults.{HasCause}
use Rattle.vl_disk.specs.declared.name.Name.{Name}
use Rattle.vl_table.specs.Answers.{Answers, Failed, IsAnswer}
use Rattle.vl_table.specs.MayHold.{may_hold}
use Rattle.vl_table.specs.Seeks.{IsBadBlock}
use Rattle.vl_table.specs.Tables.{IsOf, number_of, shape_of}
use Rattle.vl_table.specs.laws.TrueBlocks.{no_bad_block}
use Rattle.vl_disk.specs.declared.read_fault.ReadFault.{ReadFault}
use Rattle.vl_disk.specs.declared.read_fault.ReadFault.TheVariants.{NoMemory, Disk, Damaged}
use Rattle.vl_table.specs.declared.table.Table.{Table}
use Rattle.vl_table.specs.OfTables.{AreOf}
use Rattle.vl_version.specs.levels.LevelTables.{AreApart, ends_before}
use Rattle.vl_version.specs.levels.LookedUp.{LookedUp, IsAsked, IsDamagedAt, IsFaultOf, LooksOn, NamesAsked}
use Rattle.vl_version.specs.levels.Looks.{better, is_wanted, sought}
use Rattle.vl_version.specs.declared.levels.look.Look.{Look}
use Rattle.vl_version.proofs.looking.LevelLaws.{level_cut, level-parted}
use Rattle.vl_version.proofs.looking.LookLaws.{better-assoc, better-none, none-better, sought-append, sought-middle, sought-none, unwanted}
use Rattle.vl_version.proofs.looking.Parts.{split_at}

no_failure : (now : ℕ) → HasCause now now ⊥
no_failure now = record { later = omega arith; rose = λ failed. absurd failed; steady = λ steady. refl }

module _ {H : Type 0} (bytes_of : H → Option (List ℕ)) where
  moved : (good other : Option Found → Type 0) (bad : ℕ → Type 0) (r : Result (Option Found) ReadFault)
      → ((x : Option Found) → good x → other x)
      → ((place : ℕ) → bad place → ⊥) → IsAnswer good bad r → IsAnswer other (λ place. ⊥) r
  moved good other bad (Ok x) f g is = f x is
  moved good other bad (Err NoMemory) f g is = tt
  moved good other bad (Err (Disk name)) f g is = tt
  moved good other bad (Err (Damaged name place)) f g is = g place is

  fault_moved : (good other : Option Found → Type 0) (e : ReadFault) → IsAnswer good (λ place. ⊥) (Err e)
      → IsAnswer other (λ place. ⊥) (Err e)
  fault_moved good other NoMemory is = tt
  fault_moved good other (Disk name) is = tt
  fault_moved good other (Damaged name place) is = absurd is

  -- ---- more tables

  -- the entries of tables end to end are those of both parts
  pub record AreBoth (ts us : List (Table H)) (ess : List (List Entry)) : Type 0 where
    pub front : List (List Entry)
    pub back : List (List Entry)
    pub whole : joined ess ≡ joined front ++ joined back
    pub are : AreOf bytes_of ts front
    pub are_behind : AreOf bytes_of us back

  pub both_of : (ts us : List (Table H)) (ess : List (List Entry)) → AreOf bytes_of (ts ++ us) ess → AreBoth ts us ess
  both_of [] us ess are = record { front = []; back = ess; whole = refl; are = tt; are_behind = are }
  both_of (t ∷ ts) us [] are = absurd are
  both_of (t ∷ ts) us (es ∷ ess) are =
      let rest = both_of ts us ess are.1 in
      record {
        front = es ∷ rest.front;
        back = rest.back;
        whole = ap (λ (l : List Entry). es ++ l) rest.whole ∙ sym (append_assoc es (joined rest.front) (joined rest.back));
        are = (are.0, rest.are);
        are_behind = rest.are_behind;
      }

  fault-front : (ts us : List (Table H)) (key : List ℕ) (name : Name) (P : Table H → Type 0)
      → IsFaultOf bytes_of ts key name P → IsFaultOf bytes_of (ts ++ us) key name P
  fault-front ts us key name P f = record {
    table = f.table;
    asked = record {
      front = f.asked.front;
      back = f.asked.back ++ us;
      among = ap (λ (l : List (Table H)). l ++ us) f.asked.among ∙ append_assoc f.asked.front (f.table ∷ f.asked.back) us;
      holds = f.asked.holds;
    };
    named = f.named;
    why = f.why;
  }

  fault-back : (ts us : List (Table H)) (key : List ℕ) (name : Name) (P : Table H → Type 0)
      → IsFaultOf bytes_of us key name P → IsFaultOf bytes_of (ts ++ us) key name P
  fault-back ts us key name P f = record {
    table = f.table;
    asked = record {
      front = ts ++ f.asked.front;
      back = f.asked.back;
      among = ap (λ (l : List (Table H)). ts ++ l) f.asked.among ∙ sym (append_assoc ts f.asked.front (f.table ∷ f.asked.back));
      holds = f.asked.holds;
    };
    named = f.named;
    why = f.why;
  }

  names-front : (ts us : List (Table H)) (key : List ℕ) (r : Result (Option Found) ReadFault)
      → NamesAsked bytes_of ts key r → NamesAsked bytes_of (ts ++ us) key r
  names-front ts us key (Ok found) f = tt
  names-front ts us key (Err NoMemory) f = tt
  names-front ts us key (Err (Disk name)) f = fault-front ts us key name (λ t. Unit {0}) f
  names-front ts us key (Err (Damaged name place)) f = fault-front ts us key name (IsDamagedAt bytes_of place) f

  names-back : (ts us : List (Table H)) (key : List ℕ) (r : Result (Option Found) ReadFault)
      → NamesAsked bytes_of us key r → NamesAsked bytes_of (ts ++ us) key r
  names-back ts us key (Ok found) f = tt
  names-back ts us key (Err NoMemory) f = tt
  names-back ts us key (Err (Disk name)) f = fault-back ts us key name (λ t. Unit {0}) f
  names-back ts us key (Err (Damaged name place)) f = fault-back ts us key name (IsDamagedAt bytes_of place) f

  module _ (look : Look) (key : List ℕ) where
    -- no table was asked yet
    pub starts : (Lawful : Type 0) (best : Option Entry) (x : Option Found) (now : ℕ) → option_map (found_of key) x ≡ best
        → LooksOn bytes_of [] Lawful look key best now now (Ok x)
    starts Lawful best x now is = record { cause = no_failure now; fault = tt; answer = λ lawful ess are. by ess are }
      where
        by : (ess : List (List Entry)) → AreOf bytes_of [] ess
            → option_map (found_of key) x ≡ better look best (sought look key (joined ess))
        by [] are = is ∙ sym (none-better look best) ∙ sym (ap (better look best) (sought-none look key [] tt))
        by (es ∷ ess) are = absurd are

    -- behind what these tables gave others are asked
    pub goes_on : (ts us : List (Table H)) (A B C : Type 0) (best : Option Entry) (before mid now : ℕ)
        (x : Option Found) (r : Result (Option Found) ReadFault)
        → (C → A) → (C → B) → LooksOn bytes_of ts A look key best before mid (Ok x)
        → LooksOn bytes_of us B look key (option_map (found_of key) x) mid now r → LooksOn bytes_of (ts ++ us) C look key best before now r
    goes_on ts us A B C best before mid now x r f g first second = record {
      cause = subst (λ (n : ℕ). HasCause n now (Failed r)) (first.cause.steady (λ failed. failed)) second.cause;
      fault = names-back ts us key r second.fault;
      answer = λ lawful ess are.
          let both = both_of ts us ess are in
          moved (λ y. option_map (found_of key) y ≡ better look (option_map (found_of key) x) (sought look key (joined both.back)))
          (λ y. option_map (found_of key) y ≡ better look best (sought look key (joined ess))) (λ place. ⊥) r
          (λ y is.
          is ∙ ap (λ (o : Option Entry). better look o (sought look key (joined both.back))) (first.answer (f lawful) both.front both.are)
          ∙ better-assoc look best (sought look key (joined both.front)) (sought look key (joined both.back))
          ∙ ap (better look best) (sym (ap (sought look key) both.whole ∙ sought-append look key (joined both.front) (joined both.back))))
          (λ place none. none) (second.answer (g lawful) both.back both.are_behind);
    }

    -- where one fails none behind it is asked
    pub fails_on : (ts more : List (Table H)) (A C : Type 0) (best : Option Entry) (before now : ℕ) (e : ReadFault) → (C → A)
        → LooksOn bytes_of ts A look key best before now (Err e) → LooksOn bytes_of (ts ++ more) C look key best before now (Err e)
    fails_on ts more A C best before now e f one = record {
      cause = one.cause;
      fault = names-front ts more key (Err e) one.fault;
      answer = λ lawful ess are.
          let both = both_of ts more ess are in
          fault_moved (λ y. option_map (found_of key) y ≡ better look best (sought look key (joined both.front)))
          (λ y. option_map (found_of key) y ≡ better look best (sought look key (joined ess))) e
          (one.answer (f lawful) both.front both.are);
    }

    -- where nothing was found before
    pub looked_up : (ts : List (Table H)) (Lawful : Type 0) (before now : ℕ) (r s : Result (Option Found) ReadFault) → s ≡ r
        → LooksOn bytes_of ts Lawful look key None before now r → LookedUp bytes_of ts Lawful (sought look key) key before now s
    looked_up ts Lawful before now r s same on = subst (LookedUp bytes_of ts Lawful (sought look key) key before now) (sym same) (record {
      cause = on.cause;
      fault = on.fault;
      answer = λ lawful ess are.
          moved (λ y. option_map (found_of key) y ≡ better look None (sought look key (joined ess)))
          (λ y. option_map (found_of key) y ≡ sought look key (joined ess)) (λ place. ⊥) r
          (λ y is. is ∙ better-none look (sought look key (joined ess))) (λ place none. none) (on.answer lawful ess are);
    })

    -- ---- one table

    module _ (t : Table H) (best : Option Entry) where
      greatest_is : (es : List Entry) → IsOf bytes_of t es → (shape_of t).footer.greatest ≡ greatest_version es
      greatest_is es is = ap (λ (f : Foot). f.head.greatest) is.shape.foot

      -- it isn't wanted
      pub skips : (Lawful : Type 0) (x : Option Found) (now : ℕ) → option_map (found_of key) x ≡ best
          → is_wanted look best (shape_of t).footer.greatest ≡ false
          → LooksOn bytes_of (t ∷ []) Lawful look key best now now (Ok x)
      skips Lawful x now is refused = record { cause = no_failure now; fault = tt; answer = λ lawful ess are. by ess are }
        where
          by : (ess : List (List Entry)) → AreOf bytes_of (t ∷ []) ess
              → option_map (found_of key) x ≡ better look best (sought look key (joined ess))
          by [] are = absurd are
          by (es ∷ []) are =
              is ∙ sym (unwanted look key best es (shape_of t).footer.greatest (greatest_is es are.0) refused)
              ∙ sym (ap (λ (l : List Entry). better look best (sought look key l)) (append-nil es))
          by (es ∷ fs ∷ ess) are = absurd are.1

      -- it is asked
      abbrev pub IsUnread : Result (Option Found) ReadFault → Type 0
      IsUnread r = may_hold key (shape_of t) ≡ false → r ≡ Ok None

      asked : (r : Result (Option Found) ReadFault) (e : ReadFault) → r ≡ Err e → IsUnread r → IsAsked bytes_of (t ∷ []) key t
      asked r e fault unread = record { front = []; back = []; among = refl; holds = by (may_hold key (shape_of t)) refl }
        where
          by : (b : Bool) → may_hold key (shape_of t) ≡ b → may_hold key (shape_of t) ≡ true
          by true is = is
          by false is = let none = unread is in absurd cc

      -- and answers
      pub asks : (Lawful : Type 0) (before now : ℕ) (older x : Option Found)
          → option_map (found_of key) x ≡ better look best (option_map (found_of key) older)
          → Answers {T = Option Found} before now (number_of t) (bytes_of t.held)
          (λ bytes found. (es : List Entry) → IsOf bytes_of t es → option_map (found_of key) found ≡ sought look key es)
          (IsBadBlock (shape_of t)) (Ok older)
          → LooksOn bytes_of (t ∷ []) Lawful look key best before now (Ok x)
      asks Lawful before now older x is a = record { cause = a.cause; fault = tt; answer = λ lawful ess are. by ess are }
        where
          by : (ess : List (List Entry)) → AreOf bytes_of (t ∷ []) ess
              → option_map (found_of key) x ≡ better look best (sought look key (joined ess))
          by [] are = absurd are
          by (es ∷ []) are =
              is ∙ ap (better look best)
              (a.answer (table_bytes (shape_of t).format (number_of t) es) are.0.told es are.0 ∙ sym (ap (sought look key) (append-nil es)))
          by (es ∷ fs ∷ ess) are = absurd are.1

      -- or fails
      pub asks_in_vain : (Lawful : Type 0) (before now : ℕ) (e : ReadFault) → IsUnread (Err e)
          → Answers {T = Option Found} before now (number_of t) (bytes_of t.held)
          (λ bytes found. (es : List Entry) → IsOf bytes_of t es → option_map (found_of key) found ≡ sought look key es)
          (IsBadBlock (shape_of t)) (Err e)
          → LooksOn bytes_of (t ∷ []) Lawful look key best before now (Err e)
      asks_in_vain Lawful before now e unread a = record
          { cause = a.cause; fault = named e unread a; answer = λ lawful ess are. by ess are }
        where
          named : (e : ReadFault) → IsUnread (Err e)
              → Answers {T = Option Found} before now (number_of t) (bytes_of t.held)
              (λ bytes found. (es : List Entry) → IsOf bytes_of t es
              → option_map (found_of key) found ≡ sought look key es) (IsBadBlock (shape_of t)) (Err e)
              → NamesAsked bytes_of (t ∷ []) key (Err e)
          named NoMemory unread a = tt
          named (Disk name) unread a = record
              { table = t; asked = asked (Err (Disk name)) (Disk name) refl unread; named = a.named; why = tt }
          named (Damaged name place) unread a =
              record {
                table = t;
                asked = asked (Err (Damaged name place)) (Damaged name place) refl unread;
                named = a.named;
                why = a.answer;
              }

          fault : (e : ReadFault) (bytes : List ℕ) (P Q : Option Found → Type 0) → ((place : ℕ) → IsBadBlock (shape_of t) bytes place → ⊥)
              → IsAnswer P (IsBadBlock (shape_of t) bytes) (Err e) → IsAnswer Q (λ place. ⊥) (Err e)
          fault NoMemory bytes P Q f is = tt
          fault (Disk name) bytes P Q f is = tt
          fault (Damaged name place) bytes P Q f is = f place is

          by : (ess : List (List Entry)) → AreOf bytes_of (t ∷ []) ess
              → IsAnswer (λ y. option_map (found_of key) y ≡ better look best (sought look key (joined ess))) (λ place. ⊥) (Err e)
          by [] are = absurd are
          by (es ∷ []) are =
              let bytes = table_bytes (shape_of t).format (number_of t) es in
              fault e bytes (λ found. (fs : List Entry) → IsOf bytes_of t fs → option_map (found_of key) found ≡ sought look key fs)
              (λ y. option_map (found_of key) y ≡ better look best (sought look key (joined (es ∷ []))))
              (λ place bad. no_bad_block bytes_of t es place are.0 bad)
              (a.answer bytes are.0.told)
          by (es ∷ fs ∷ ess) are = absurd are.1

    -- ---- a level whose tables are apart

    -- all its tables end before the key
    pub level_past : (ts : List (Table H)) (best : Option Entry) (x : Option Found) (now at : ℕ) → option_map (found_of key) x ≡ best
        → (IsParted (ends_before key) ts → at ≡ prefix_len (ends_before key) ts) → length ts ≤ at
        → LooksOn bytes_of ts (AreApart ts) look key best now now (Ok x)
    level_past ts best x now at is first past = record {
      cause = no_failure now;
      fault = tt;
      answer = λ apart ess are.
          let cut = level_cut bytes_of key ts ess apart are in
          let here = first (level-parted bytes_of key ts ess apart are) in
          is ∙ sym (none-better look best)
          ∙ sym (ap (better look best) (sought-none look key (joined ess) (cut.past (omega (arith, past, here)))));
    }

    -- the first that doesn't is asked
    pub level_asks : (ts : List (Table H)) (t : Table H) (B : Type 0) (best : Option Entry) (before now at : ℕ)
        (r : Result (Option Found) ReadFault)
        → (IsParted (ends_before key) ts → at ≡ prefix_len (ends_before key) ts) → at < length ts → t ≡ get_or ts at t → (AreApart ts → B)
        → LooksOn bytes_of (t ∷ []) B look key best before now r → LooksOn bytes_of ts (AreApart ts) look key best before now r
    level_asks ts t B best before now at r first within is f one = record {
      cause = one.cause;
      fault = subst (λ (l : List (Table H)). NamesAsked bytes_of l key r) (sym (split_at ts at t within is))
          (names-front (take at ts ++ t ∷ []) (drop (suc at) ts) key r (names-back (take at ts) (t ∷ []) key r one.fault));
      answer = λ apart ess are.
          let cut = level_cut bytes_of key ts ess apart are in
          let same = first (level-parted bytes_of key ts ess apart are) in
          let here = cut.here t (omega (arith, within, same)) (is ∙ ap (λ (n : ℕ). get_or ts n t) same) in
          moved (λ y. option_map (found_of key) y ≡ better look best (sought look key (joined (here.entries ∷ []))))
          (λ y. option_map (found_of key) y ≡ better look best (sought look key (joined ess))) (λ place. ⊥) r
          (λ y found. found ∙ ap (better look best) (ap (sought look key) (append-nil here.entries)
          ∙ sym (ap (sought look key) here.split ∙ sought-middle look key here.front here.entries here.back here.before here.behind)))
          (λ place none. none) (one.answer (f apart) (here.entries ∷ []) (here.is, tt));
    }
