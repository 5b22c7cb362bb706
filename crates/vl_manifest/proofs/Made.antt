-- A manifest is made behind the memory for it.
use Rattle.std.proofs.Common.{◌≡◌, ℕ, List, [], ◌∷◌, length, refl, ap, subst, ◌∙◌}
use Rattle.std.specs.Prelude.{true, false, Result, Ok, Err, is_err}
use Rattle.std.specs.Option.{option_map}
use Rattle.vl_disk.specs.declared.errors.Failed.{Failed}
use Rattle.vl_disk.specs.declared.name.Name.TheVariants as names
use Rattle.vl_disk.specs.declared.watched.Watched.{Ghosts}
use Rattle.vl_disk.specs.Calls.{ChangesNothing}
use Rattle.vl_disk.specs.Crash.{Unchanged}
use Rattle.vl_disk.specs.Faults.{HasCause, after_calls}
use Rattle.vl_disk.specs.MadeFile.{Makes, TellsPart, WhileMaking, made, not_there}
use Rattle.vl_disk.specs.Moments.{Elapses, While, passes_then, past_of}
use Rattle.vl_disk.specs.Spare.{SameSpareElsewhere}
use Rattle.vl_manifest.specs.declared.edit.Edit.{Edit}
use Rattle.vl_manifest.specs.declared.fails.IoFail.TheVariants.{Disk}
use Rattle.vl_model.specs.Formats.{manifest_format}
use Rattle.vl_frame.specs.Runs.{HasFrame}
use Rattle.vl_manifest.specs.Grammar.{edits_grammar}
use Rattle.vl_manifest.specs.Making.{MakesManifest, new_manifest}
use Rattle.vl_manifest.specs.Manifest.{ReadsManifest}

false_true : false ≡ true → ⊥
false_true e = cc

true_false : true ≡ false → ⊥
true_false e = cc

pub same_length : (len : ℕ) (items bytes : List ℕ) → len ≡ length items → items ≡ bytes
    → len ≡ length bytes
same_length len items bytes is same = is ∙ ap length same

module _ {D : Type 0} (g : Ghosts D) (number : ℕ) (edits : List Edit) (old mid new : D)
    (no_change : ChangesNothing g old mid ⊥) (room : SameSpareElsewhere (names.Manifest number) (g.spare old) (g.spare mid)) where
  steady : g.faults mid ≡ g.faults old
  steady = no_change.cause.steady (λ no. no)

  time : Elapses g mid new (WhileMaking (names.Manifest number) (new_manifest number edits))
      → Elapses g old new (WhileMaking (names.Manifest number) (new_manifest number edits))
  time making = passes_then (past_of g old) (past_of g mid) (past_of g new)
      (While (g.told old) Unchanged) (While (g.told mid) (WhileMaking (names.Manifest number) (new_manifest number edits)))
      (While (g.told old) (WhileMaking (names.Manifest number) (new_manifest number edits))) no_change.time making
      (λ state before disk is. not_there (before disk is)) (λ state meanwhile disk is. meanwhile disk (no_change.told ∙ is))

  has_frame : ReadsManifest manifest_format number (new_manifest number edits) (edits ∷ [])
      → HasFrame (edits_grammar manifest_format) edits
  has_frame reads = record { lawful = reads.reads.1.lawful; short = reads.reads.1.short }

  -- it was made
  pub was_made : (result : Result Unit Failed) (len : ℕ) → is_err result ≡ false → len ≡ length (new_manifest number edits)
      → ReadsManifest manifest_format number (new_manifest number edits) (edits ∷ [])
      → Makes g (names.Manifest number) (new_manifest number edits) mid new result
      → MakesManifest g number edits old new (Ok (record { number = number; length = len }))
  was_made (Ok u) len went e reads makes = record {
    answer = record {
      log_is = ap (λ (n : ℕ). record { number = number; length = n }) e;
      reads = reads;
      file = makes.made ∙ ap (option_map (made (names.Manifest number) (new_manifest number edits))) no_change.told;
      stands = makes.stands;
      calls = makes.calls ∙ ap (after_calls 3) no_change.calls;
    };
    frame = has_frame reads;
    time = time makes.time;
    cause = subst (λ (n : ℕ). HasCause n (g.faults new) ⊥) steady (record {
      later = makes.cause.later;
      rose = λ no. absurd no;
      steady = λ fine. makes.cause.steady (λ failed. false_true failed);
    });
    spare = λ other apart. makes.spare other apart ∙ room other apart;
  }
  was_made (Err fail) len went e reads makes = absurd (true_false went)

  -- the disk failed
  pub was_broken : (result : Result Unit Failed) → is_err result ≡ true
      → ReadsManifest manifest_format number (new_manifest number edits) (edits ∷ [])
      → Makes g (names.Manifest number) (new_manifest number edits) mid new result
      → MakesManifest g number edits old new (Err (Disk (names.Manifest number)))
  was_broken (Ok u) failed reads makes = absurd (false_true failed)
  was_broken (Err fail) failed reads makes = record {
    answer = record {
      name_is = refl;
      part = subst (λ told. TellsPart (names.Manifest number) (new_manifest number edits) told (g.told new)) no_change.told makes.failed;
      stops = (makes.stops.0, makes.stops.1, makes.stops.2, makes.stops.3 ∙ ap (after_calls makes.stops.0) no_change.calls);
    };
    frame = has_frame reads;
    time = time makes.time;
    cause = subst (λ (n : ℕ). HasCause n (g.faults new) (Unit {0})) steady (record {
      later = makes.cause.later;
      rose = λ fault. makes.cause.rose refl;
      steady = λ fine. absurd (fine tt);
    });
    spare = λ other apart. makes.spare other apart ∙ room other apart;
  }
