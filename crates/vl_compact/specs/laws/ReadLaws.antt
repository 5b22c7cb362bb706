-- Up to where a job has read its inputs, behind each of its calls.
use Rattle.std.proofs.Common.{◌≡◌, ℕ, Bool, true, false, List, [], ◌∷◌, ◌++◌, refl, sym, subst, ◌∙◌, Option, None, Some}
use Rattle.vl_compact.specs.Progress.{HasRead, IsNew, IsNextOf}
use Rattle.vl_compact.specs.Stops.{AreReadWhole, InputsReadBy, InputsReadOn, InputsReadTo, InputsReadUpTo, MayStopIn, last_of}
use Rattle.vl_compact.specs.Walking.{is_behind}
use Rattle.vl_compact.specs.declared.inputs.Inputs.{Inputs}
use Rattle.vl_compact.specs.declared.job.Job.{Job}
use Rattle.vl_compact.specs.declared.next.Next.{Next}
use Rattle.vl_compact.specs.laws.BehindLaws.{behind_later}
use Rattle.vl_disk.specs.declared.read_fault.ReadFault.{ReadFault}
use Rattle.vl_merge.specs.Standing.{IsUpward}
use Rattle.vl_model.specs.declared.entry.Entry.{Entry}
use Rattle.vl_model.specs.declared.way.Way.TheVariants.{Up}
use Rattle.vl_table.specs.declared.table.Table.{Table}

-- what comes behind an entry that is behind a key is behind it too
pub behind_upward : (at : Option (List ℕ)) → IsUpward Up (is_behind at)
behind_upward at = λ e f behind later. behind_later at e f later behind

last_more : (at : Option (List ℕ)) (keys : List (List ℕ)) (key : List ℕ) → last_of at (keys ++ key ∷ []) ≡ Some key
last_more at [] key = refl
last_more at (k ∷ keys) key = last_more (Some k) keys key

module _ {H : Type 0} (bytes : H → Option (List ℕ)) (ts : List (Table H)) where
  read_more : (at : Option (List ℕ)) (keys : List (List ℕ)) (key : List ℕ) → InputsReadBy bytes at keys ts
      → InputsReadUpTo bytes (last_of at keys) (Some key) ts → InputsReadBy bytes at (keys ++ key ∷ []) ts
  read_more at [] key read here = (here, tt)
  read_more at (k ∷ keys) key read here = (read.0, read_more (Some k) keys key read.1 here)

  -- one step more
  pub read_further : (at to : Option (List ℕ)) (key : List ℕ) → InputsReadOn bytes at to ts → InputsReadUpTo bytes to (Some key) ts
      → InputsReadOn bytes at (Some key) ts
  read_further at to key on here = record {
    keys = on.keys ++ key ∷ [];
    ends = sym (last_more at on.keys key);
    read = read_more at on.keys key on.read (subst (λ (o : Option (List ℕ)). InputsReadUpTo bytes o (Some key) ts) on.ends here);
  }

module _ {V H W : Type 0} {g : _} (bytes : H → Option (List ℕ)) where
  -- one that has made nothing yet has read nothing
  pub new_read : (job : Job V H W g) → IsNew job → HasRead bytes job
  new_read job new = record {
    on = record { keys = []; ends = new.after; read = tt };
    rest = λ is. absurd (let no : true ≡ false = sym is ∙ new.ended in cc);
  }

  -- a job that goes on with the same inputs behind the same key has read as much
  pub read_alike : (old new : Job V H W g) → new.after ≡ old.after → new.inputs ≡ old.inputs → new.ended ≡ old.ended
      → HasRead bytes old → HasRead bytes new
  read_alike old new after inputs ended read = record {
    on = subst (λ (o : Option (List ℕ)). InputsReadOn bytes None o new.inputs.tables.items) (sym after)
        (subst (λ (i : Inputs H). InputsReadOn bytes None old.after i.tables.items) (sym inputs) read.on);
    rest = λ is. subst (λ (o : Option (List ℕ)). InputsReadTo bytes o (λ _. false) new.inputs.tables.items) (sym after)
        (subst (λ (i : Inputs H). InputsReadTo bytes old.after (λ _. false) i.tables.items) (sym inputs) (read.rest (sym ended ∙ is)));
  }

  -- and goes on with what the other went on with
  pub next_alike : {C : Type 0} (stands_to : C → (Entry → Bool) → Type 0) (may_fail : C → ReadFault → Type 0) (old new : Job V H W g)
      (next : Next C) → new.after ≡ old.after → new.inputs ≡ old.inputs → new.ended ≡ old.ended
      → IsNextOf stands_to may_fail bytes old next → IsNextOf stands_to may_fail bytes new next
  next_alike stands_to may_fail old new next after inputs ended is = record {
    going = ended ∙ is.going;
    may_stop = λ fault may. subst (λ (o : Option (List ℕ)). MayStopIn bytes o new.inputs.tables.items fault) (sym after)
        (subst (λ (i : Inputs H). MayStopIn bytes old.after i.tables.items fault) (sym inputs) (is.may_stop fault may));
    stands = λ is_met upward read. subst (λ (o : Option (List ℕ)). InputsReadTo bytes o is_met new.inputs.tables.items) (sym after)
        (subst (λ (i : Inputs H). InputsReadTo bytes old.after is_met i.tables.items) (sym inputs) (is.stands is_met upward read));
  }

  -- one that has made a table more has read up to its last key
  pub read_filled : (old new : Job V H W g) (key : List ℕ) → new.after ≡ Some key → new.inputs ≡ old.inputs → new.ended ≡ old.ended
      → old.ended ≡ false → InputsReadUpTo bytes old.after (Some key) old.inputs.tables.items → HasRead bytes old → HasRead bytes new
  read_filled old new key after inputs ended going here read = record {
    on = subst (λ (o : Option (List ℕ)). InputsReadOn bytes None o new.inputs.tables.items) (sym after)
        (subst (λ (i : Inputs H). InputsReadOn bytes None (Some key) i.tables.items) (sym inputs)
        (read_further bytes old.inputs.tables.items None old.after key read.on here));
    rest = λ is. absurd (let no : true ≡ false = sym is ∙ ended ∙ going in cc);
  }

  -- one that has ended has read all
  pub read_whole : (job : Job V H W g) → HasRead bytes job → job.ended ≡ true → AreReadWhole bytes job.inputs.tables.items
  read_whole job read ended = record { to = job.after; on = read.on; rest = read.rest ended }
