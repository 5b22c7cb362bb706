-- A fault of one stage of an opening is a fault of the whole.
use Rattle.std.specs.Prelude.{◌≡◌, ℕ, List, Option, Some, Ok, Err}
use Rattle.vl_table.specs.body.Footer.{Foot, foot_of}
use Rattle.vl_table.specs.declared.body.footer.Footer.{Footer}
use Rattle.vl_table.specs.declared.body.footer_head.FramePlace.{FramePlace}
use Rattle.vl_table.specs.declared.body.index.BlockPlace.{BlockPlace}
use Rattle.vl_table.specs.Answers.{Answers}
use Rattle.vl_table.specs.Begun.{IsBegun}
use Rattle.vl_table.specs.Opening.{IsDamaged, StandsFooter, StandsIndex, no_place}
use Rattle.vl_table.specs.OpeningParts.{NoFilter, NoFooter, NoIndex, NoParts, NotLedTo, with_footer, without_filter}
use Rattle.vl_disk.specs.declared.read_fault.ReadFault.{ReadFault}
use Rattle.vl_table.proofs.AnswerSteps.{and_then, fails}
use Rattle.vl_table.proofs.Stages.{IsPlace, NoHeader, NoPlace}

-- of reading the filter behind the index
pub filter_fails : {V W T : Type 0} (places : V → List BlockPlace) (a b c number : ℕ) (told : Option (List ℕ))
    (f : Foot) (p : FramePlace) (blocks : V) (e : ReadFault)
    (read : List ℕ → W → Type 0) (good : List ℕ → T → Type 0) → f.head.filter ≡ Some p
    → Answers {T = V} a b number told
    (λ bytes v. StandsIndex number bytes f.head.index_place f.head.index_length (places v))
    (NoIndex number f.head.index_place f.head.index_length) (Ok blocks)
    → Answers {T = W} b c number told read (NoFilter number p) (Err e) → Answers {T = T} a c number told good (NotLedTo number f) (Err e)
filter_fails {V = V} places a b c number told f p blocks e read good named first second =
    and_then a b c number told (λ bytes (v : V). StandsIndex number bytes f.head.index_place f.head.index_length (places v)) good good
    (NoIndex number f.head.index_place f.head.index_length) (NoFilter number p) (NotLedTo number f) blocks (Err e)
    (λ bytes told_is is x fine. fine) (λ bytes told_is is damage none. without_filter (places blocks) is p named none) first
    (fails b c number told read good (NoFilter number p) (NoFilter number p) e (λ bytes told_is damage none. none) second)

-- of reading what the footer leads to
pub led_fails : {S T : Type 0} (a b c format number place : ℕ) (told : Option (List ℕ)) (footer : Footer) (e : ReadFault)
    (read : List ℕ → S → Type 0) (good : List ℕ → T → Type 0)
    → Answers {T = Footer} a b number told (λ bytes f. StandsFooter format number bytes place (foot_of f))
    (NoFooter format number place) (Ok footer)
    → Answers {T = S} b c number told read (NotLedTo number (foot_of footer)) (Err e)
    → Answers {T = T} a c number told good (NoParts format number place) (Err e)
led_fails a b c format number place told footer e read good first second =
    and_then a b c number told (λ bytes (f : Footer). StandsFooter format number bytes place (foot_of f)) good good
    (NoFooter format number place) (NotLedTo number (foot_of footer)) (NoParts format number place) footer (Err e)
    (λ bytes told_is is x fine. fine) (λ bytes told_is is damage none. with_footer (foot_of footer) is none) first
    (fails b c number told read good (NotLedTo number (foot_of footer)) (NotLedTo number (foot_of footer)) e
    (λ bytes told_is damage none. none) second)

-- of reading the footer's place
pub place_fails : {T : Type 0} (a b c format number : ℕ) (told : Option (List ℕ)) (e : ReadFault) (good : List ℕ → T → Type 0)
    → Answers {T = ℕ} a b number told (λ bytes f. IsBegun f number bytes) (NoHeader number) (Ok format)
    → Answers {T = ℕ} b c number told IsPlace NoPlace (Err e) → Answers {T = T} a c number told good (IsDamaged number) (Err e)
place_fails a b c format number told e good first second =
    and_then a b c number told (λ bytes (f : ℕ). IsBegun f number bytes) good good (NoHeader number) NoPlace
    (IsDamaged number) format (Err e)
    (λ bytes told_is is x fine. fine) (λ bytes told_is begun damage none. no_place format begun none.0 none.1) first
    (fails b c number told IsPlace good NoPlace NoPlace e (λ bytes told_is damage none. none) second)
