-- What an engine stands for in memory, behind a begin, an end, a commit and a halt.
use Rattle.std.specs.Prelude.{◌≡◌, ℕ, ◌+◌, false, nat_le, List, ◌++◌, length, Option, Some, T}
use Rattle.std.specs.FinMap.{from_sorted, is_sorted}
use Rattle.std.specs.Option.{option_map}
use Rattle.std.proofs.Common.{sym, ap, subst, ◌∙◌}
use Rattle.vl_back.specs.declared.back.Back.{Back}
use Rattle.vl_disk.specs.declared.name.Name.{Name}
use Rattle.vl_engine_laws.specs.laws.Halted.{tidy_halted}
use Rattle.vl_engine_laws.specs.Laid.{HasLayout}
use Rattle.vl_engine_laws.specs.Pointed.{layout_logs}
use Rattle.vl_engine_laws.specs.Represents.{Fronts, IsFront, StandsFor, file_of}
use Rattle.vl_engine_laws.specs.declared.kept.Core.{Core}
use Rattle.vl_engine_laws.specs.laws.FrontLaws.{front_begun, front_committed, front_ended, front_known}
use Rattle.vl_engine_laws.specs.laws.RulingLaws.{DecidesAs, IsAccepted}
use Rattle.vl_engine_laws.specs.laws.SparedRulings.{committed_spares}
use Rattle.vl_engine_laws.specs.laws.SparedSteps.{spares_begun, spares_ended}
use Rattle.vl_engine_laws.specs.laws.VersionLaws.{laid_committed, laid_halted, laid_live, next_entries}
use Rattle.vl_front.specs.Front.{Knows, SameLog}
use Rattle.vl_engine_model.specs.Ruling.{Ruling, ended, halted_at}
use Rattle.vl_engine_model.specs.Rulings.Begin.{begun}
use Rattle.vl_engine_model.specs.Rulings.Commit.{CommitAnswer, Transaction, committed}
use Rattle.vl_engine_model.specs.Tickets.{free_ticket, tickets_of}
use Rattle.vl_engine_model.specs.Tidy.{IsRuledTidy, IsTidy}
use Rattle.vl_engine_model.specs.declared.layout.Layout.{Layout}
use Rattle.vl_engine_model_laws.specs.laws.TidyRulings.{commit_tidy}
use Rattle.vl_engine_model_laws.specs.laws.TidySteps.{tidy_begun, tidy_ended}
use Rattle.vl_model.specs.Entries.{in_order}
use Rattle.vl_model.specs.History.{History, last_number, with_commit}
use Rattle.vl_model.specs.Keys.{key_cmp}
use Rattle.vl_model.specs.Limits.{max_live}
use Rattle.vl_oracle.specs.LiveTickets as oracle
use Rattle.vl_oracle.specs.LiveTickets.{LiveTickets}
use Rattle.vl_seglog.specs.declared.active.ActiveLog.{ActiveLog}
use Rattle.vl_version.specs.declared.version.Version.{Version}

-- ---- what decides

module _ {H : Type 0} (core : Core H) (h : History) (l : Layout) (is : Fronts core h l) where
  -- the decision on a commit is the ruling's
  pub decides_as : DecidesAs core.front h l
  decides_as = record {
    last = is.front.last;
    long = is.length_is;
    format = is.format;
    room = is.room;
    halted = is.halted;
  }

  module _ (after : Core H) (same : SameLog core.front after.front) (back : after.back ≡ core.back)
      (knows : Knows after.front h) where
    -- behind a begin,
    pub fronts_begun : after.front.oracle ≡ oracle.begun core.front.oracle → nat_le max_live (length l.live) ≡ false
        → Fronts after h (begun l (free_ticket (tickets_of l.live)) (last_number h))
    fronts_begun live room =
        let x = begun l (free_ticket (tickets_of l.live)) (last_number h) in
        record {
          front = front_known (oracle.begun core.front.oracle) core.front.recent.named h x
              (front_begun core.front.oracle core.front.recent.named h l is.front room)
              after.front.oracle after.front.recent.named live knows.remembers;
          number = ap (λ (a : ActiveLog). a.number) same.log ∙ is.number;
          length_is = ap (λ (a : ActiveLog). a.length) same.log ∙ is.length_is;
          format = is.format;
          room = same.room ∙ is.room;
          roomy = is.roomy;
          halted = ap (option_map file_of) same.halted ∙ is.halted;
          version = ap (λ (b : Back). b.epoch) back ∙ is.version;
          keep = ap (λ (b : Back). b.state.keep) back ∙ is.keep;
          since = ap (λ (b : Back). b.state.since) back ∙ is.since;
        }

    -- and an end
    pub fronts_ended : (ticket : ℕ) → after.front.oracle ≡ oracle.ended ticket core.front.oracle
        → Fronts after h (ended ticket l)
    fronts_ended ticket live = record {
      front = front_known (oracle.ended ticket core.front.oracle) core.front.recent.named h (ended ticket l)
          (front_ended core.front.oracle core.front.recent.named h l is.front ticket)
          after.front.oracle after.front.recent.named live knows.remembers;
      number = ap (λ (a : ActiveLog). a.number) same.log ∙ is.number;
      length_is = ap (λ (a : ActiveLog). a.length) same.log ∙ is.length_is;
      format = is.format;
      room = same.room ∙ is.room;
      roomy = is.roomy;
      halted = ap (option_map file_of) same.halted ∙ is.halted;
      version = ap (λ (b : Back). b.epoch) back ∙ is.version;
      keep = ap (λ (b : Back). b.state.keep) back ∙ is.keep;
      since = ap (λ (b : Back). b.state.since) back ∙ is.since;
    }

  -- behind a commit, whose frame the log got,
  pub fronts_committed : (t : Transaction) (after : Core H)
      → after.front.oracle ≡ oracle.ended t.ticket (oracle.advanced (core.front.oracle.last + 1) core.front.oracle)
      → Knows after.front (with_commit h (from_sorted t.writes)) → after.front.log.number ≡ core.front.log.number
      → after.front.log.length ≡ (committed l h t).layout.active.length → after.front.room ≡ core.front.room
      → after.front.halted ≡ core.front.halted → after.back ≡ core.back
      → Fronts after (with_commit h (from_sorted t.writes)) (committed l h t).layout
  fronts_committed t after live knows number long room halted back = record {
    front = front_committed core.front.oracle core.front.recent.named h l is.front t after.front.oracle
        after.front.recent.named
        (ap (λ (o : LiveTickets). o.last) live ∙ ap (λ (n : ℕ). n + 1) is.front.last)
        (ap (λ (o : LiveTickets). o.tickets) live) knows.remembers;
    number = number ∙ is.number;
    length_is = long;
    format = is.format;
    room = room ∙ is.room;
    roomy = is.roomy;
    halted = ap (option_map file_of) halted ∙ is.halted;
    version = ap (λ (b : Back). b.epoch) back ∙ is.version;
    keep = ap (λ (b : Back). b.state.keep) back ∙ is.keep;
    since = ap (λ (b : Back). b.state.since) back ∙ is.since;
  }

-- and behind a halt
pub fronts_halted : {H : Type 0} (core after : Core H) (h : History) (l : Layout) (name : Name) → Fronts core h l
    → after.front.oracle ≡ core.front.oracle → after.front.recent.named ≡ core.front.recent.named
    → after.front.log ≡ core.front.log → after.front.room ≡ core.front.room → after.front.halted ≡ Some name
    → after.back ≡ core.back → Fronts after h (halted_at (file_of name) l)
fronts_halted core after h l name is live named log room halted back = record {
  front = subst (λ ns. IsFront after.front.oracle ns h (halted_at (file_of name) l)) (sym named)
      (subst (λ (o : LiveTickets). IsFront o core.front.recent.named h (halted_at (file_of name) l)) (sym live) (record {
        last = is.front.last;
        live_are = is.front.live_are;
        lived = record { rising = is.front.lived.rising; known = is.front.lived.known; few = is.front.lived.few };
        readable = is.front.readable;
        remembers = is.front.remembers;
      }));
  number = ap (λ (a : ActiveLog). a.number) log ∙ is.number;
  length_is = ap (λ (a : ActiveLog). a.length) log ∙ is.length_is;
  format = is.format;
  room = room ∙ is.room;
  roomy = is.roomy;
  halted = ap (option_map file_of) halted;
  version = ap (λ (b : Back). b.epoch) back ∙ is.version;
  keep = ap (λ (b : Back). b.state.keep) back ∙ is.keep;
  since = ap (λ (b : Back). b.state.since) back ∙ is.since;
}

-- ---- and what is read

module _ {H : Type 0} (bytes : H → Option (List ℕ)) (core after : Core H) (h : History) (l : Layout)
    (is : StandsFor bytes core h l) where
  module _ (same : after.version ≡ core.version) where
    has_still : HasLayout bytes after.version l
    has_still = subst (λ (v : Version H). HasLayout bytes v l) (sym same) is.has

    pub stands_begun : Fronts after h (begun l (free_ticket (tickets_of l.live)) (last_number h))
        → StandsFor bytes after h (begun l (free_ticket (tickets_of l.live)) (last_number h))
    stands_begun fronts =
        let ticket = free_ticket (tickets_of l.live) in
        record {
          fronts = fronts;
          has = laid_live bytes after.version l has_still (begun l ticket (last_number h)).live;
          tidy = tidy_begun (layout_logs l) l h is.tidy ticket;
          spared = spares_begun l h ticket is.spared;
        }

    pub stands_ended : (ticket : ℕ) → Fronts after h (ended ticket l) → StandsFor bytes after h (ended ticket l)
    stands_ended ticket fronts = record {
      fronts = fronts;
      has = laid_live bytes after.version l has_still (ended ticket l).live;
      tidy = tidy_ended (layout_logs l) l h is.tidy ticket;
      spared = spares_ended l h ticket is.spared;
    }

    pub stands_halted : (name : Name) → Fronts after h (halted_at (file_of name) l)
        → StandsFor bytes after h (halted_at (file_of name) l)
    stands_halted name fronts = record {
      fronts = fronts;
      has = laid_halted bytes after.version l has_still (file_of name);
      tidy = tidy_halted (file_of name) (layout_logs l) l h is.tidy;
      spared = is.spared;
    }

  -- Behind a commit that was accepted.
  module _ (t : Transaction) (rising : T (is_sorted key_cmp t.writes)) (accepted : IsAccepted l h t) where
    pub tidy_then : IsTidy (layout_logs l) (committed l h t).layout (with_commit h (from_sorted t.writes))
    tidy_then = subst (λ (r : Ruling CommitAnswer). IsRuledTidy (layout_logs l) r) accepted.ruling
        (commit_tidy (layout_logs l) l h is.tidy t rising)

    pub stands_committed : Fronts after (with_commit h (from_sorted t.writes)) (committed l h t).layout
        → after.version.behind ≡ core.version.behind
        → after.version.active.entries ≡ in_order (next_entries l h t ++ core.version.active.entries)
        → StandsFor bytes after (with_commit h (from_sorted t.writes)) (committed l h t).layout
    stands_committed fronts behind more = record {
      fronts = fronts;
      has = laid_committed bytes core.version l is.has after.version h t is.tidy.true_logs.0 behind more;
      tidy = tidy_then;
      spared = committed_spares l h is.spared t rising;
    }
