use Rattle.vlstore.proofs.marks.mark_of.Given as goal

abbrev pub ghosts-mark : goal.ghosts-mark
ghosts-mark g a = record { origin = g.origin }
