-- How a walk over the inputs goes on, entry by entry.
use Rattle.std.proofs.Common.{◌≡◌, ℕ, ◌+◌, Bool, true, false, not, ◌&&◌, ◌||◌, List, [], ◌∷◌, ◌++◌, refl, ap, sym}
use Rattle.std.proofs.Common.{subst, ◌∙◌, append_assoc, Option, Some, None}
use Rattle.std.specs.Prelude.{nat_le, if◌then◌else◌}
use Rattle.vl_compact.specs.Keeps.{AreRulesOf, GivesNext, Passes, Stage, Walked, fate_by, fate_of, is_kept, noted, place_in, stage}
use Rattle.vl_compact.specs.Keys.{all_named}
use Rattle.vl_compact.specs.Walking.{Place, comes_again, is_hidden, is_let_go, is_old, is_spent, is_spent_alone}
use Rattle.vl_compact.specs.Walking.{place_of, seen_before, spent, walk}
use Rattle.vl_compact.specs.declared.last.Last.{Last}
use Rattle.vl_compact.specs.declared.rules.Fate.{Fate}
use Rattle.vl_compact.specs.declared.rules.Rules.{Rules}
use Rattle.vl_engine_model.specs.Merging.{if_so}
use Rattle.vl_engine_model.specs.declared.job.Job.{Job}
use Rattle.vl_model.specs.Merging.{IsAlong, IsFirst}
use Rattle.vl_model.specs.Conflicts.{Named}
use Rattle.vl_model.specs.Cursors.{Gives}
use Rattle.vl_model.specs.declared.entry.Entry.{Entry}
use Rattle.vl_model.specs.declared.way.Way.TheVariants.{Up}

-- ---- one entry

kept_by : (old hidden needless : Bool) → not (hidden || (old || needless)) ≡ is_kept (fate_by old hidden needless)
kept_by true true s = refl
kept_by true false s = refl
kept_by false true s = refl
kept_by false false true = refl
kept_by false false false = refl

noted_by : (old hidden needless : Bool) (e : Entry) (es : List Entry)
    → all_named (if_so (not hidden && (not old && needless)) e es) ≡ noted (fate_by old hidden needless) e ++ all_named es
noted_by true true s e es = refl
noted_by true false s e es = refl
noted_by false true s e es = refl
noted_by false false true e es = refl
noted_by false false false e es = refl

pub again : (j : Job) (at : Option Place) (e : Entry) (found : List Named) → comes_again at e ≡ true → Passes j at at e found found false
again j at e found is = record {
  walked = λ es. ap (λ b. if b then walk j at es else if_so (not (is_let_go j (seen_before at e) e)) e
      (walk j (Some (place_of j.floor at e)) es)) is;
  found_are = λ es. ap (λ b. found ++ all_named (if b then spent j at es
      else if_so (is_spent_alone j (seen_before at e) e) e (spent j (Some (place_of j.floor at e)) es))) is;
}

pub passes : (j : Job) (at now : Option Place) (e : Entry) (found found_now : List Named) (fate : Fate) (kept : Bool)
    → comes_again at e ≡ false → fate ≡ fate_of j (seen_before at e) e → now ≡ Some (place_of j.floor at e)
    → found_now ≡ found ++ noted fate e → kept ≡ is_kept fate → Passes j at now e found found_now kept
passes j at now e found found_now fate kept first fate_is now_is found_is kept_is =
    let seen : ℕ = seen_before at e in
    let place : Option Place = Some (place_of j.floor at e) in
    record {
      walked = λ es.
          ap (λ b. if b then walk j at es else if_so (not (is_let_go j seen e)) e (walk j place es)) first
          ∙ ap (λ b. if_so b e (walk j place es))
          (kept_by (is_old j seen e) (is_hidden j e) (is_spent j e) ∙ ap is_kept (sym fate_is) ∙ sym kept_is)
          ∙ ap (λ p. if_so kept e (walk j p es)) (sym now_is);
      found_are = λ es.
          ap (λ b. found ++ all_named (if b then spent j at es else if_so (is_spent_alone j seen e) e (spent j place es))) first
          ∙ ap (λ ns. found ++ ns) (noted_by (is_old j seen e) (is_hidden j e) (is_spent j e) e (spent j place es)
          ∙ ap (λ f. noted f e ++ all_named (spent j place es)) (sym fate_is)
          ∙ ap (λ p. noted fate e ++ all_named (spent j p es)) (sym now_is))
          ∙ sym (append_assoc found (noted fate e) (all_named (spent j now es)))
          ∙ ap (λ ns. ns ++ all_named (spent j now es)) (sym found_is);
    }

abbrev place_with : List ℕ → ℕ → ℕ → Place
place_with key version seen = record { key = key; version = version; seen = seen }

same_place : (k l : List ℕ) (v w s t : ℕ) → k ≡ l → v ≡ w → s ≡ t → place_with k v s ≡ place_with l w t
same_place k l v w s t keys versions counts =
    ap (λ x. place_with x v s) keys ∙ ap (λ x. place_with l x s) versions ∙ ap (place_with l w) counts

-- where it is once an entry came
pub placed : (rules : Rules) (j : Job) → AreRulesOf rules j → (at : Option Place) (e : Entry) (last : Last) (seen : ℕ)
    → seen ≡ seen_before at e → last.key ≡ e.key → last.version ≡ e.version
    → last.seen ≡ seen + (if nat_le e.version rules.floor then 1 else 0) → place_in (Some last) ≡ Some (place_of j.floor at e)
placed rules j are at e last seen seen_is key version count =
    ap (λ (p : Place). Some p) (same_place last.key e.key last.version e.version last.seen (place_of j.floor at e).seen key version
    (count ∙ ap (λ n. n + (if nat_le e.version rules.floor then 1 else 0)) seen_is
    ∙ ap (λ f. seen_before at e + (if nat_le e.version f then 1 else 0)) are.floor))

-- ---- many

pub starts : (j : Job) (last : Option Last) (left : List Entry) (found : List Named) (now : Option (List Entry)) → now ≡ Some left
    → Walked j (stage last left found) last now found
starts j last left found now is = record
    { rest = left; left_is = is; goes = record { kept = refl; found_are = refl; along = λ along. along; from = λ e first. first } }

module _ (j : Job) (old : Stage) (last : Option Last) (left : Option (List Entry)) (found : List Named)
    (so : Walked j old last left found) where
  module _ (last_now : Option Last) (left_now : Option (List Entry)) (found_now : List Named) (e : Entry)
      (gives : Gives left left_now (Some e)) where
    abbrev rest_now : List Entry
    rest_now = (gives so.rest so.left_is).0

    split : so.rest ≡ e ∷ rest_now
    split = (gives so.rest so.left_is).1

    found_on : (kept : Bool) → Passes j (place_in last) (place_in last_now) e found found_now kept
        → old.found ++ all_named (spent j old.place old.left) ≡ found_now ++ all_named (spent j (place_in last_now) rest_now)
    found_on kept p = so.goes.found_are ∙ ap (λ es. found ++ all_named (spent j (place_in last) es)) split ∙ p.found_are rest_now

    kept_on : (kept : Bool) → Passes j (place_in last) (place_in last_now) e found found_now kept
        → walk j old.place old.left ≡ if_so kept e (walk j (place_in last_now) rest_now)
    kept_on kept p = so.goes.kept ∙ ap (walk j (place_in last)) split ∙ p.walked rest_now

    -- one entry was passed
    pub walks_on : Passes j (place_in last) (place_in last_now) e found found_now false → Walked j old last_now left_now found_now
    walks_on p = record {
      rest = rest_now;
      left_is = (gives so.rest so.left_is).2;
      goes = record {
        kept = kept_on false p;
        found_are = found_on false p;
        along = λ along. (subst (IsAlong Up) split (so.goes.along along)).1;
        from = λ f first. (subst (IsFirst Up f) split (so.goes.from f first)).1;
      };
    }

    -- one is kept
    pub gives_it : Passes j (place_in last) (place_in last_now) e found found_now true
        → GivesNext j old last_now left_now found_now (Some e)
    gives_it p = record {
      rest = rest_now;
      left_is = (gives so.rest so.left_is).2;
      goes = record {
        kept = kept_on true p;
        found_are = found_on true p;
        along = λ along. subst (IsAlong Up) split (so.goes.along along);
        from = λ f first. subst (IsFirst Up f) split (so.goes.from f first);
      };
      none = tt;
    }

  -- none is left
  pub gives_none : (left_now : Option (List Entry)) → Gives left left_now None → GivesNext j old last left_now found None
  gives_none left_now gives =
      let ends = gives so.rest so.left_is in
      record {
        rest = [];
        left_is = ends.1;
        goes = record {
          kept = so.goes.kept ∙ ap (walk j (place_in last)) ends.0;
          found_are = so.goes.found_are ∙ ap (λ es. found ++ all_named (spent j (place_in last) es)) ends.0;
          along = λ along. tt;
          from = λ f first. tt;
        };
        none = refl;
      }

-- what was given from the beginning on, where nothing came yet and nothing was found
pub begins : (j : Job) (last at : Option Last) (left : List Entry) (none found : List Named) (now : Option (List Entry))
    (next given : Option Entry) → last ≡ None → none ≡ [] → given ≡ next → GivesNext j (stage last left none) at now found given
    → GivesNext j (stage None left []) at now found next
begins j last at left none found now next given first nothing is n =
    subst (λ (o : Option Entry). GivesNext j (stage None left []) at now found o) is
    (subst (λ (ns : List Named). GivesNext j (stage None left ns) at now found given) nothing
    (subst (λ (o : Option Last). GivesNext j (stage o left none) at now found given) first n))
