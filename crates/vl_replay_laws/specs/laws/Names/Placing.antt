-- What a name stands for is changed in its place: the names stand then as if it had been taken out and put back.
use Rattle.std.proofs.Common.{◌≡◌, ◌+◌, ℕ, zero, suc, Bool, true, false, true≢false, cond, List, [], ◌∷◌, ◌++◌, refl}
use Rattle.std.proofs.Common.{ap, sym, ◌∙◌, subst, ⊎_elim}
use Rattle.std.specs.Prelude.{Option, None, Some, Result, Ok, Err, slice_index_or, slice_set}
use Rattle.std.specs.Option.{option_map}
use Rattle.std.specs.Ordering.{eq_by_cmp}
use Rattle.vl_disk.specs.DiskState.{DiskState}
use Rattle.vl_engine_laws.specs.declared.kept.Core.{Core}
use Rattle.vl_engine_model.specs.Store.Lines.{Name}
use Rattle.vl_engine_model.specs.Store.Things as store
use Rattle.vl_engine_model.specs.Store.Lines as store_lines
use Rattle.vl_engine_model.specs.Relocation.{Candidate, Pass}
use Rattle.vl_engine_model.specs.Store.Things.{AJob, APass, Step, only, thing_of}
use Rattle.vl_engine_model.specs.Jobs.{Made}
use Rattle.vl_engine_model.specs.declared.job.Job.{Job}
use Rattle.vl_engine_model.specs.declared.layout.Layout.{Layout}
use Rattle.vl_model.specs.History.{History}
use Rattle.vl_model.specs.Keys.{key_cmp}
use Rattle.vl_replay_laws.specs.Replaying.{MakesStep, StandsIn}
use Rattle.vl_script_model.specs.Sequential.{State}
use Rattle.vl_replay_laws.specs.Standing.{AreOnce, Corresponds, IsTaken, Stand, open_in, place_of}
use Rattle.vl_script_model.specs.declared.fails.Halt.{Halt}
use Rattle.vl_replay_laws.specs.declared.open.Open.{Open}
use Rattle.vl_replay_laws.specs.declared.open.Thing.{Thing}
use Rattle.vl_script.specs.declared.answer.Answer.{Answer}
use Rattle.vl_script.specs.declared.answer.Answer.TheVariants as answers
use Rattle.vl_replay_laws.specs.laws.Names.Lookups.{behind_some, named_so, on_false, on_true, open_beside, open_put}
use Rattle.vl_replay_laws.specs.laws.Names.Lookups.{other_name, own_name, place_none, place_there, taken, taken_none}
use Rattle.vl_replay_laws.specs.laws.Names.Lookups.{without_open}
use Rattle.vl_replay_laws.specs.laws.Names.Making.{unknown_makes}
use Rattle.vl_replay_laws.specs.laws.Names.Standings.{same_or_not}

module _ {H R : Type 0} where
  -- The name stands for this, and the others for what they did.
  pub record IsChanged (old new : List (Open H R)) (name : Name) (thing : Thing H R) : Type 0 where
    pub found : open_in new name ≡ Some thing
    pub others : (other : Name) → (other ≡ name → ⊥) → open_in new other ≡ open_in old other
    pub once : AreOnce new

  changed_here : (name : Name) (p o : Open H R) (os : List (Open H R)) → o.name ≡ name → eq_by_cmp key_cmp name p.name ≡ true
      → AreOnce (p ∷ os) → IsChanged (p ∷ os) (o ∷ os) name o.thing
  changed_here name p o os own is once =
      let one : name ≡ p.name = named_so name p.name is in
      record {
        found = on_true (eq_by_cmp key_cmp name o.name) (Some o.thing) (open_in os name)
            (subst (λ (n : Name). eq_by_cmp key_cmp name n ≡ true) (sym own) (own_name name));
        others = λ other apart.
            on_false (eq_by_cmp key_cmp other o.name) (Some o.thing) (open_in os other)
            (other_name other o.name (λ same. apart (same ∙ own)))
            ∙ sym (on_false (eq_by_cmp key_cmp other p.name) (Some p.thing) (open_in os other)
            (other_name other p.name (λ same. apart (same ∙ sym one))));
        once = (subst (λ (n : Name). open_in os n ≡ None) (sym (own ∙ one)) once.0, once.1);
      }

  changed_behind : (name : Name) (p : Open H R) (os new : List (Open H R)) (thing : Thing H R) → eq_by_cmp key_cmp name p.name ≡ false
      → open_in os p.name ≡ None → IsChanged os new name thing → IsChanged (p ∷ os) (p ∷ new) name thing
  changed_behind name p os new thing is none later = record {
    found = on_false (eq_by_cmp key_cmp name p.name) (Some p.thing) (open_in new name) is ∙ later.found;
    others = λ other apart. ap (λ (x : Option (Thing H R)). cond (eq_by_cmp key_cmp other p.name) (Some p.thing) x)
        (later.others other apart);
    once = (
      later.others p.name (λ same. true≢false (sym (own_name name) ∙ ap (eq_by_cmp key_cmp name) (sym same) ∙ is)) ∙ none,
      later.once,
    );
  }

  -- Another thing of the same name stands at its place.
  pub changed_at : (name : Name) (os : List (Open H R)) (at : ℕ) (o : Open H R) → o.name ≡ name → place_of name os ≡ Some at
      → AreOnce os → IsChanged os (slice_set os at o) name o.thing
  changed_at name [] at o own is once = absurd cc
  changed_at name (p ∷ os) at o own is once = of (eq_by_cmp key_cmp name p.name) refl at is
      (λ n there. changed_at name os n o own there once.1)
    where
      of : (b : Bool) → eq_by_cmp key_cmp name p.name ≡ b → (at : ℕ)
          → cond b (Some 0) (option_map (λ n. n + 1) (place_of name os)) ≡ Some at
          → ((n : ℕ) → place_of name os ≡ Some n → IsChanged os (slice_set os n o) name o.thing)
          → IsChanged (p ∷ os) (slice_set (p ∷ os) at o) name o.thing
      of true test zero place later = changed_here name p o os own test once
      of true test (suc n) place later = absurd cc
      of false test at place later =
          let (n, there, same) = behind_some (place_of name os) at place in
          subst (λ (k : ℕ). IsChanged (p ∷ os) (slice_set (p ∷ os) k o) name o.thing) (sym same)
          (changed_behind name p os (slice_set os n o) o.thing test once.0 (later n there))

  -- what stands at a name's place has that name
  pub place_named : (name : Name) (os : List (Open H R)) (at : ℕ) → place_of name os ≡ Some at → (d : Open H R)
      → (slice_index_or os at d).name ≡ name
  place_named name [] at is d = absurd cc
  place_named name (o ∷ os) at is d = of (eq_by_cmp key_cmp name o.name) refl at is (λ n there. place_named name os n there d)
    where
      of : (b : Bool) → eq_by_cmp key_cmp name o.name ≡ b → (at : ℕ)
          → cond b (Some 0) (option_map (λ n. n + 1) (place_of name os)) ≡ Some at
          → ((n : ℕ) → place_of name os ≡ Some n → (slice_index_or os n d).name ≡ name) → (slice_index_or (o ∷ os) at d).name ≡ name
      of true test zero place later = sym (named_so name o.name test)
      of true test (suc n) place later = absurd cc
      of false test at place later =
          let (n, there, same) = behind_some (place_of name os) at place in
          subst (λ (k : ℕ). (slice_index_or (o ∷ os) k d).name ≡ name) (sym same) (later n there)

  -- what is found as if it had been taken out, and put back behind the others
  pub found_alike : (name : Name) (os new : List (Open H R)) (thing : Thing H R) → AreOnce os → IsChanged os new name thing
      → (other : Name) → open_in (without_open name os ++ record { name = name; thing = thing } ∷ []) other ≡ open_in new other
  found_alike name os new thing once changed other =
      let o : Open H R = record { name = name; thing = thing } in
      let out = taken name os once in
      ⊎_elim
      (λ (same : other ≡ name). subst (λ (q : Name). open_in (without_open name os ++ o ∷ []) q ≡ open_in new q) (sym same)
      (open_put (without_open name os) o out.none ∙ sym changed.found))
      (λ (apart : other ≡ name → ⊥). open_beside (without_open name os) o other apart ∙ out.others other apart
      ∙ sym (changed.others other apart))
      (same_or_not other name)

  -- ---- what stands so

  module _ (bytes : H → Option (List ℕ)) (os new : List (Open H R)) (alike : (q : Name) → open_in os q ≡ open_in new q)
      (once : AreOnce new) where
    pub stand_as : (ts : List (Name × store.Thing)) (h : History) (l : Layout) → Stand bytes os ts h l → Stand bytes new ts h l
    stand_as ts h l stand = record {
      each = λ q. subst (λ (x : Option (Thing H R)). Corresponds bytes h l x (store.thing_in ts q)) (alike q) (stand.each q);
      once = once;
      apart = stand.apart;
    }

    pub makes_as : (seen : Option DiskState) (core : Core H) (s : State) (x : Step) (result : Result Answer Halt)
        → MakesStep bytes seen core os s x result → MakesStep bytes seen core new s x result
    makes_as seen core s x (Ok answer) (is, stands) = (
      is,
      record {
        engine = stands.engine;
        names = stand_as x.state.things _ _ stands.names;
        sound = stands.sound;
        held = stands.held;
        running = stands.running;
        fits = stands.fits;
        within = stands.within;
      },
    )
    makes_as seen core s x (Err halt) makes = tt

-- ---- in the words of the functions that look a name up, and change what stands there

module _ {H R : Type 0} (bytes : H → Option (List ℕ)) (seen : Option DiskState) (core : Core H) (os : List (Open H R))
    (s : State) (stands : StandsIn bytes seen core os s)
    -- the names as the call had them, and the name as it had it
    (slice : List (Open H R)) (value : slice ≡ os) (q name : Name) (same : q ≡ name) where
  place_is : (found : Option ℕ) → place_of q slice ≡ found → place_of name os ≡ found
  place_is found is = sym (ap (λ (n : Name). place_of n os) same) ∙ sym (ap (place_of q) value) ∙ is

  -- the name isn't in use
  pub free_returns : place_of q slice ≡ None → (x : Option store.Thing → Step) → x None ≡ only (store_lines.Unknown name) s.store
      → ((job : Job) (made : Made) → x (Some (AJob job made)) ≡ only (store_lines.Unknown name) s.store)
      → ((pass : Pass) (batch : Option (List Candidate)) → x (Some (APass pass batch)) ≡ only (store_lines.Unknown name) s.store)
      → MakesStep bytes seen core os s (x (thing_of s.store name)) (Ok (answers.Unknown name))
  free_returns is x unknown merge passes =
      unknown_makes bytes seen core os s stands os name
      (taken_none name os stands.names.once (place_none name os (place_is None is))) x unknown merge passes

  module _ (at : ℕ) (is : place_of q slice ≡ Some at) (o : Open H R) (there : o ≡ slice_index_or os at o) where
    -- what stands there, as if it had been taken out
    pub out_of_place : (thing : Thing H R) → o.thing ≡ thing → IsTaken os (without_open name os) name (Some thing)
    out_of_place thing thing_is =
        let (left, found, within) = place_there name os at (place_is (Some at) is) in
        subst (λ (x : Option (Thing H R)). IsTaken os (without_open name os) name x)
        (found o ∙ ap (λ (p : Open H R). Some p.thing) (sym there) ∙ ap (λ (x : Thing H R). Some x) thing_is)
        (taken name os stands.names.once)

    -- another thing in its place, as if that had been put back
    pub in_place : (new : Thing H R) (x y : Step) (told result : Result Answer Halt) → x ≡ y → result ≡ told
        → MakesStep bytes seen core (without_open name os ++ record { name = name; thing = new } ∷ []) s x told
        → MakesStep bytes seen core (slice_set os at (record { name = o.name; thing = new })) s y result
    in_place new x y told result same_step same_result makes =
        let p : Open H R = record { name = o.name; thing = new } in
        let named : o.name ≡ name = ap (λ (w : Open H R). w.name) there ∙ place_named name os at (place_is (Some at) is) o in
        let changed = changed_at name os at p named (place_is (Some at) is) stands.names.once in
        subst (λ (r : Result Answer Halt). MakesStep bytes seen core (slice_set os at p) s y r) (sym same_result)
        (subst (λ (z : Step). MakesStep bytes seen core (slice_set os at p) s z told) same_step
        (makes_as bytes (without_open name os ++ record { name = name; thing = new } ∷ []) (slice_set os at p)
        (found_alike name os (slice_set os at p) new stands.names.once changed) changed.once seen core s x told makes))

    -- the same thing, as if that had been put back
    pub still_in_place : (thing : Thing H R) → o.thing ≡ thing → (x : Step) (result : Result Answer Halt)
        → MakesStep bytes seen core (without_open name os ++ record { name = name; thing = thing } ∷ []) s x result
        → MakesStep bytes seen core (slice_set os at (record { name = o.name; thing = o.thing })) s x result
    still_in_place thing thing_is x result makes =
        subst (λ (t : Thing H R). MakesStep bytes seen core (slice_set os at (record { name = o.name; thing = t })) s x
        result) (sym thing_is)
        (in_place thing x x result result refl refl makes)
