-- Where a generator is among its lines.
use Rattle.std.specs.Prelude.{ℕ, suc, List, [], ◌∷◌, ◌++◌, codes, drop}
use Rattle.vl_script.specs.declared.line.Line.{Line}
use Rattle.vl_script.specs.declared.line.Line.TheVariants as lines
use Rattle.vl_script.specs.declared.generator.at.At.{At}
use Rattle.vl_script.specs.declared.generator.at.Step.{Step}
use Rattle.vl_script.specs.declared.generator.at.Step.TheVariants.{Begin, Write, Commit, Rotate, Flush, Plan, Install, Sweep}
use Rattle.vl_script.specs.declared.generator.at.Step.TheVariants.{Pick, Batch, Move, EndPass, View, Scan, EndView, Stats, End}
use Rattle.vl_script.specs.Generator.{batch_lines, last_lines, lines_behind, pass_lines, round_lines, upkeep_lines, write_line}

-- the lines from a step of a round on, with those of the later rounds
abbrev pub lines_from : Step → (round x : ℕ) → List Line → List Line
lines_from Begin round x later = round_lines round x ++ later
lines_from Write round x later = write_line round x ∷ lines.Commit (codes "t") ∷ upkeep_lines round ++ later
lines_from Commit round x later = lines.Commit (codes "t") ∷ upkeep_lines round ++ later
lines_from Rotate round x later =
    lines.Rotate ∷ lines.Flush ∷ lines.Plan (codes "j") ∷ lines.Install (codes "j") ∷ lines.Sweep ∷ pass_lines round ++ later
lines_from Flush round x later =
    lines.Flush ∷ lines.Plan (codes "j") ∷ lines.Install (codes "j") ∷ lines.Sweep ∷ pass_lines round ++ later
lines_from Plan round x later = lines.Plan (codes "j") ∷ lines.Install (codes "j") ∷ lines.Sweep ∷ pass_lines round ++ later
lines_from Install round x later = lines.Install (codes "j") ∷ lines.Sweep ∷ pass_lines round ++ later
lines_from Sweep round x later = lines.Sweep ∷ pass_lines round ++ later
lines_from Pick round x later = lines.Pick (codes "g") 30 ∷ batch_lines 8 ++ later
lines_from (Batch more) round x later = batch_lines (suc more) ++ later
lines_from (Move more) round x later = lines.Move (codes "g") ∷ batch_lines more ++ later
lines_from EndPass round x later = batch_lines 0 ++ later
lines_from View round x later = last_lines
lines_from Scan round x later = drop 1 last_lines
lines_from EndView round x later = drop 2 last_lines
lines_from Stats round x later = drop 3 last_lines
lines_from End round x later = []

-- all lines from there on
abbrev pub lines_at : At → List Line
lines_at at = lines_from at.step at.round at.number (lines_behind at.left at.round at.number)
