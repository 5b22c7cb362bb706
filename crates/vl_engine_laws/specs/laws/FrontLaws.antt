-- What is kept of what lives and of the last commits is that of the layout: at a start, and behind a begin, an end and a
-- commit.
use Rattle.std.specs.Prelude.{◌≡◌, ◌≤◌, ℕ, ◌+◌, Bool, true, false, nat_le, nat_lt, List, [], ◌∷◌, length, Option, None, Some, refl}
use Rattle.std.specs.FinMap.{find, from_sorted, get}
use Rattle.std.specs.Option.{option_map}
use Rattle.std.proofs.Common.{sym, ap, subst, ◌∙◌, cond, length-append, arith}
use Rattle.std.proofs.lemmas.Bool.Decides.{nat_tests}
use Rattle.vl_conflict.specs.Recent.{Remembers, since}
use Rattle.vl_engine_laws.specs.Represents.{IsFront}
use Rattle.vl_engine_laws.specs.laws.LiveLaws.{live_begun, live_ended, same_floor}
use Rattle.vl_engine_model.specs.Ruling.{ended, pin_of}
use Rattle.vl_engine_model.specs.Rulings.Begin.{begun}
use Rattle.vl_engine_model.specs.Rulings.Commit.{Transaction, committed}
use Rattle.vl_engine_model.specs.Sources.{floor}
use Rattle.vl_engine_model.specs.Tickets.{free_ticket, tickets_of}
use Rattle.vl_engine_model.specs.declared.layout.Layout.{Layout}
use Rattle.vl_engine_model.specs.declared.live.Live.{Live}
use Rattle.vl_engine_model.specs.laws.LowShows.{floor-begun}
use Rattle.vl_engine_model_laws.specs.Live.{IsLivedIn}
use Rattle.vl_engine_model_laws.specs.laws.Floors.{floor-committed, floor-ended}
use Rattle.vl_engine_model_laws.specs.laws.Lives.{live-begun, live-committed, live-ended}
use Rattle.vl_model.specs.Conflicts.{Named}
use Rattle.vl_model.specs.History.{History, last_naming, last_number, newer, with_commit}
use Rattle.vl_model.specs.Keys.{Writes, key_cmp}
use Rattle.vl_model.specs.Limits.{max_live}
use Rattle.vl_model.specs.declared.change.Change.{Change}
use Rattle.vl_oracle.specs.LiveTickets as oracle
use Rattle.vl_oracle.specs.LiveTickets.{LiveTickets, floor_of}

-- ---- what is remembered

since-higher : (floor higher : ℕ) (o : Option ℕ) → floor ≤ higher → since higher o ≡ since higher (since floor o)
since-higher floor higher None le = refl
since-higher floor higher (Some n) le = by (nat_lt floor n) refl
  where
    by : (b : Bool) → nat_lt floor n ≡ b → cond (nat_lt higher n) (Some n) None ≡ since higher (cond b (Some n) None)
    by true is = refl
    by false is =
        let above : nat_lt higher n ≡ false = grind (arith, nat_tests, is, le) in
        ap (λ (b : Bool). cond b (Some n) None) above

-- What is remembered from a floor on is so from each higher one on.
pub remembers_higher : (low high : ℕ) (h : History) (named : List Named) → low ≤ high → Remembers low h named
    → Remembers high h named
remembers_higher low high h named le remembers = record {
  rising = remembers.rising;
  last = λ key.
      since-higher low high (find key_cmp key named) le ∙ ap (since high) (remembers.last key)
      ∙ sym (since-higher low high (last_naming (h.first + 1) h.commits key) le);
}

nothing_above : (floor k : ℕ) (ws : List Writes) (key : List ℕ) → k + length ws ≤ floor + 1
    → since floor (last_naming k ws key) ≡ None
nothing_above floor k [] key le = refl
nothing_above floor k (w ∷ ws) key le =
    by (get w key) (last_naming (k + 1) ws key) (nothing_above floor (k + 1) ws key (omega (arith, le)))
  where
    by : (change : Option Change) (later : Option ℕ) → since floor later ≡ None
        → since floor (newer (option_map (λ c. k) change) later) ≡ None
    by change (Some n) none = none
    by None None none = refl
    by (Some c) None none =
        let up_to : nat_lt floor k ≡ false = grind (arith, nat_tests, le) in
        ap (λ (b : Bool). cond b (Some k) None) up_to

-- From the last number on there is nothing to remember.
pub nothing_remembered : (floor : ℕ) (h : History) → last_number h ≤ floor → Remembers floor h []
nothing_remembered floor h le = record {
  rising = refl;
  last = λ key. sym (nothing_above floor (h.first + 1) h.commits key (omega (arith, le)));
}

-- ---- all of it

-- where nothing lives
pub front_started : (h : History) (l : Layout) (live : LiveTickets) → l.live ≡ [] → live.last ≡ last_number h
    → live.tickets ≡ [] → IsFront live [] h l
front_started h l live none last nothing =
    subst (λ (xs : List Live). IsFront live [] h (record l { live = xs })) (sym none) (record {
      last = last;
      live_are = nothing;
      lived = record { rising = tt; known = tt; few = omega arith };
      readable = omega arith;
      remembers = nothing_remembered (last_number h) h (omega arith);
    })

module _ (live : LiveTickets) (named : List Named) (h : History) (l : Layout) (is : IsFront live named h l) where
  -- behind a begin,
  pub front_begun : nat_le max_live (length l.live) ≡ false
      → IsFront (oracle.begun live) named h (begun l (free_ticket (tickets_of l.live)) (last_number h))
  front_begun room =
      let ticket = free_ticket (tickets_of l.live) in
      let new : Live = record { ticket = ticket; number = last_number h; pin = pin_of l } in
      let same : floor (begun l ticket (last_number h)) h ≡ floor l h =
      floor-begun l (begun l ticket (last_number h)) h new refl refl in
      let first = is.readable in
      record {
        last = is.last;
        live_are = live_begun live l h is.live_are is.last is.lived;
        lived = live-begun l h is.lived room;
        readable = omega (arith, first, same);
        remembers = subst (λ (n : ℕ). Remembers n h named) (sym same) is.remembers;
      }

  -- behind an end, whether or not it had the ticket,
  pub front_ended : (ticket : ℕ) → IsFront (oracle.ended ticket live) named h (ended ticket l)
  front_ended ticket =
      let up = floor-ended l h ticket in
      let first = is.readable in
      record {
        last = is.last;
        live_are = live_ended live l h is.live_are ticket;
        lived = live-ended l h is.lived ticket;
        readable = omega (arith, first, up);
        remembers = remembers_higher (floor l h) (floor (ended ticket l) h) h named up is.remembers;
      }

  -- and behind a commit, from whose floor on it is remembered.
  pub front_committed : (t : Transaction) (after : LiveTickets) (named_then : List Named)
      → after.last ≡ last_number h + 1 → after.tickets ≡ (oracle.ended t.ticket live).tickets
      → Remembers (floor_of after) (with_commit h (from_sorted t.writes)) named_then
      → IsFront after named_then (with_commit h (from_sorted t.writes)) (committed l h t).layout
  front_committed t after named_then last tickets remembers =
      let up = floor-committed l h t.ticket (from_sorted t.writes) in
      let first = is.readable in
      record {
        last = last_is;
        live_are = live_is;
        lived = lived_then;
        readable = omega (arith, first, up);
        remembers = subst (λ (n : ℕ). Remembers n (with_commit h (from_sorted t.writes)) named_then)
            (same_floor after (committed l h t).layout (with_commit h (from_sorted t.writes)) last_is live_is lived_then)
            remembers;
      }
    where
      last_is : after.last ≡ last_number (with_commit h (from_sorted t.writes))
      last_is = omega (arith, last, length-append h.commits (from_sorted t.writes ∷ []))

      live_is : after.tickets ≡ tickets_of (committed l h t).layout.live
      live_is = tickets ∙ live_ended live l h is.live_are t.ticket

      lived_then : IsLivedIn (committed l h t).layout (with_commit h (from_sorted t.writes))
      lived_then = live-committed (ended t.ticket l) (committed l h t).layout h (from_sorted t.writes) refl
          (live-ended l h is.lived t.ticket)

-- The same of an oracle that is known, and of what is remembered from its floor on.
pub front_known : (live : LiveTickets) (named : List Named) (h : History) (l : Layout) → IsFront live named h l
    → (now : LiveTickets) (named_now : List Named) → now ≡ live → Remembers (floor_of now) h named_now
    → IsFront now named_now h l
front_known live named h l is now named_now same remembers =
    let last = ap (λ (o : LiveTickets). o.last) same ∙ is.last in
    let live_are = ap (λ (o : LiveTickets). o.tickets) same ∙ is.live_are in
    record {
      last = last;
      live_are = live_are;
      lived = is.lived;
      readable = is.readable;
      remembers = subst (λ (n : ℕ). Remembers n h named_now) (same_floor now l h last live_are is.lived) remembers;
    }
