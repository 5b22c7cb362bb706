-- What stands behind a log's header is read frame by frame.
use Rattle.std.proofs.Common.{◌≡◌, ℕ, ◌+◌, ◌-◌, ◌<◌, ◌^◌, true, List, [], ◌∷◌, ◌++◌, length, map, reverse, refl, sym}
use Rattle.std.proofs.Common.{ap, ◌∙◌, arith, append_assoc}
use Rattle.std.specs.Prelude.{Result, Ok, Err}
use Rattle.std.specs.List.{sum_by}
use Rattle.std.proofs.lemmas.List.{append-nil, map-append, reverse-append}
use Rattle.std.proofs.lemmas.List.Sums.{sum_by-cons}
use Rattle.vl_frame.specs.laws.RunLaws.{UnderWay, begins, ends, goes_on, shorter}
use Rattle.vl_frame.specs.Runs.{StandsAt, StandsNone}
use Rattle.vl_engine_model.specs.Logs.{frame_entries, logged_entries}
use Rattle.vl_model.specs.Frames.{frame_length}
use Rattle.vl_model.specs.declared.entry.Entry.{Entry}
use Rattle.vl_model.specs.declared.log_frame.LogFrame.{LogFrame}
use Rattle.vl_recover.specs.declared.found.Content.{Content}
use Rattle.vl_recover.specs.opening.ReadLogs.{HasFrameMore, HasFrames, HasNothing, IsContent, counted_frame_on, entries_in, entry_of}
use Rattle.vl_recover.specs.opening.Stages.{on_ok}
use Rattle.vl_recover.specs.opening.Walk.{counted, counted_frame, has_some}
use Rattle.vl_recover.proofs.opening.Filling.{frame_entries-read}
use Rattle.vl_seglog.specs.Frames.{frames_end, frames_grammar}
use Rattle.vl_seglog.specs.Placed.{IsFrameAt}
use Rattle.vl_seglog.specs.Reading.{frame_of}
use Rattle.vl_seglog.specs.laws.FrameLaws.{frames_end-more, length-item_frame}
use Rattle.vl_seglog.specs.declared.frame.Frame.{Frame}
use Rattle.vl_seglog.specs.declared.frame.ReadRecord.{ReadRecord}

-- ---- one record more

-- the entries of records, the last one's first, when those of the last were put
pub one_put : (before left : List ReadRecord) (all now : List Entry) (r : ReadRecord) (records : List ReadRecord) (entries : List Entry)
    → left ≡ before ++ r ∷ [] → now ≡ all ++ entry_of r ∷ []
    → all ++ reverse (map entry_of left) ≡ entries ++ reverse (map entry_of records)
    → now ++ reverse (map entry_of before) ≡ entries ++ reverse (map entry_of records)
one_put before left all now r records entries last is so =
    let turned : reverse (map entry_of left) ≡ entry_of r ∷ reverse (map entry_of before) =
    ap (λ (rs : List ReadRecord). reverse (map entry_of rs)) last ∙ ap reverse (map-append entry_of before (r ∷ []))
    ∙ reverse-append (map entry_of before) (entry_of r ∷ []) in
    ap (λ (es : List Entry). es ++ reverse (map entry_of before)) is
    ∙ append_assoc all (entry_of r ∷ []) (reverse (map entry_of before))
    ∙ ap (λ (es : List Entry). all ++ es) (sym turned) ∙ so

-- ---- one frame more

counted-more : (format n place : ℕ) (fs : List LogFrame) (f : LogFrame)
    → counted format n place (fs ++ f ∷ []) ≡ counted_frame_on (counted format n place fs) (place + sum_by (frame_length format) fs) f
counted-more format n place [] f =
    let here : place ≡ place + 0 = omega arith in
    stays (counted_frame n place f) ∙ ap (λ (p : ℕ). counted_frame n p f) here
  where
    stays : (w : Result ℕ ℕ) → on_ok (λ m. Ok m) w ≡ w
    stays (Ok m) = refl
    stays (Err p) = refl
counted-more format n place (g ∷ fs) f =
    let after = place + frame_length format g in
    let there : after + sum_by (frame_length format) fs ≡ place + sum_by (frame_length format) (g ∷ fs) =
    omega (arith, sum_by-cons (frame_length format) g fs) in
    by (counted_frame n place g) (λ m. counted-more format m after fs f
    ∙ ap (λ (p : ℕ). counted_frame_on (counted format m after fs) p f) there)
  where
    by : (w : Result ℕ ℕ)
        → ((m : ℕ) → counted format m (place + frame_length format g) (fs ++ f ∷ [])
        ≡ counted_frame_on (counted format m (place + frame_length format g) fs) (place + sum_by (frame_length format) (g ∷ fs)) f)
        → on_ok (λ m. counted format m (place + frame_length format g) (fs ++ f ∷ [])) w
        ≡ counted_frame_on (on_ok (λ m. counted format m (place + frame_length format g) fs) w)
        (place + sum_by (frame_length format) (g ∷ fs)) f
    by (Ok m) rest = rest m
    by (Err p) rest = refl

logged-more : (format log place : ℕ) (fs : List LogFrame) (f : LogFrame)
    → logged_entries format log place (fs ++ f ∷ [])
    ≡ frame_entries format log (place + sum_by (frame_length format) fs) f ++ logged_entries format log place fs
logged-more format log place [] f =
    let here : place ≡ place + 0 = omega arith in
    ap (λ (p : ℕ). frame_entries format log p f) here
    ∙ sym (append-nil (frame_entries format log (place + 0) f))
logged-more format log place (g ∷ fs) f =
    let after = place + frame_length format g in
    let there : after + sum_by (frame_length format) fs ≡ place + sum_by (frame_length format) (g ∷ fs) =
    omega (arith, sum_by-cons (frame_length format) g fs) in
    ap (λ (es : List Entry). es ++ frame_entries format log place g)
    (logged-more format log after fs f
    ∙ ap (λ (p : ℕ). frame_entries format log p f ++ logged_entries format log after fs) there)
    ∙ append_assoc (frame_entries format log (place + sum_by (frame_length format) (g ∷ fs)) f)
    (logged_entries format log after fs) (frame_entries format log place g)

some-more : (fs : List LogFrame) (f : LogFrame) → has_some (fs ++ f ∷ []) ≡ true
some-more [] f = refl
some-more (g ∷ fs) f = refl

module _ (format log before : ℕ) where
  pub none_held : (c : Content) → HasNothing 16 before c → HasFrames format log before [] c
  none_held c is = record { end_is = is.end_is; count_is = is.count_is; entries_are = is.entries_are; some = is.none }

  pub one_held : (fs : List LogFrame) (old new : Content) (f : Frame) → HasFrames format log before fs old
      → IsFrameAt format log old.end f → HasFrameMore old f new → HasFrames format log before (fs ++ frame_of f ∷ []) new
  one_held fs old new f so at more =
      let place : f.place ≡ 16 + sum_by (frame_length format) fs = at.place_is ∙ so.end_is in
      record {
        end_is = more.end_is ∙ ap (λ (n : ℕ). n + f.length) place
            ∙ ap (λ (n : ℕ). frames_end format fs + n) at.length_is ∙ sym (frames_end-more format fs (frame_of f));
        count_is = more.count_is ∙ ap (λ (w : Result ℕ ℕ). counted_frame_on w f.place (frame_of f)) so.count_is
            ∙ ap (λ (p : ℕ). counted_frame_on (counted format before 16 fs) p (frame_of f)) place
            ∙ sym (counted-more format before 16 fs (frame_of f));
        entries_are =
            let said : entries_in f.said ≡ frame_entries format log (16 + sum_by (frame_length format) fs) (frame_of f) =
            frame_entries-read format log old.end f at
            ∙ ap (λ (p : ℕ). frame_entries format log p (frame_of f)) so.end_is in
            more.entries_are
            ∙ ap (λ (es : List Entry). es ++ reverse (entries_in f.said)) so.entries_are
            ∙ ap (λ (es : List Entry). reverse (logged_entries format log 16 fs) ++ reverse es) said
            ∙ sym (reverse-append (frame_entries format log (16 + sum_by (frame_length format) fs) (frame_of f))
            (logged_entries format log 16 fs))
            ∙ ap reverse (sym (logged-more format log 16 fs (frame_of f)));
        some = more.some ∙ sym (some-more fs (frame_of f));
      }

-- ---- all of them

-- the bytes are read up to the rest
pub record IsReadUpTo (format log before : ℕ) (bytes rest : List ℕ) (c : Content) : Type 0 where
  pub frames : List LogFrame
  pub under_way : UnderWay (frames_grammar format) log 16 bytes frames rest
  pub place : c.end ≡ 16 + (length bytes - length rest)
  pub has : HasFrames format log before frames c

module _ (format log before : ℕ) (bytes : List ℕ) where
  pub none_read : (c : Content) → HasNothing 16 before c → IsReadUpTo format log before bytes bytes c
  none_read c is = record {
    frames = [];
    under_way = begins (frames_grammar format) log 16 bytes;
    place = let none = is.end_is in omega (arith, none);
    has = none_held format log before c is;
  }

  -- the next frame stands before the end of the bytes
  pub next_within : (rest : List ℕ) (c : Content) (f : Frame) (after : List ℕ) → IsReadUpTo format log before bytes rest c
      → 16 + length bytes < 2 ^ 64 → StandsAt (frames_grammar format) log c.end rest (frame_of f) after
      → IsFrameAt format log c.end f → f.place + f.length < 2 ^ 64
  next_within rest c f after so fits stands at =
      let less = shorter (frames_grammar format) log c.end rest (frame_of f) after stands in
      let within = so.under_way.within in
      let place = so.place in
      omega (arith, at.place_is, at.length_is, less.0, length-item_frame format log c.end (frame_of f), within, place, fits)

  pub one_read : (rest : List ℕ) (old new : Content) (f : Frame) (after : List ℕ) → IsReadUpTo format log before bytes rest old
      → StandsAt (frames_grammar format) log old.end rest (frame_of f) after → IsFrameAt format log old.end f
      → HasFrameMore old f new → IsReadUpTo format log before bytes after new
  one_read rest old new f after so stands at more =
      let less = shorter (frames_grammar format) log old.end rest (frame_of f) after stands in
      let within = so.under_way.within in
      let place = so.place in
      record {
        frames = so.frames ++ frame_of f ∷ [];
        under_way = goes_on (frames_grammar format) log 16 bytes so.frames rest old.end (frame_of f) after so.under_way so.place stands;
        place = omega (
          arith,
          more.end_is,
          at.place_is,
          at.length_is,
          less.0,
          length-item_frame format log old.end
              (frame_of f),
          within,
          place,
        );
        has = one_held format log before so.frames old new f so.has at more;
      }

  pub all_read : (rest : List ℕ) (c : Content) → IsReadUpTo format log before bytes rest c
      → StandsNone (frames_grammar format) log c.end rest → IsContent format log before bytes c
  all_read rest c so none = record {
    frames = so.frames;
    reads = ends (frames_grammar format) log 16 bytes so.frames rest c.end so.under_way so.place none;
    has = so.has;
  }
