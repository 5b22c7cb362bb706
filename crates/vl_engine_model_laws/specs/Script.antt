-- A worked script: a key is set and deleted, and a merge drops the deletion.
use Rattle.std.specs.Prelude.{ℕ, List, [], ◌∷◌, ◌++◌, replicate}
use Rattle.vl_engine_model.specs.Store.Dispatch.{new_store, state_behind}
use Rattle.vl_engine_model.specs.Store.Lines.{Line, Begin, Commit, Delete, Flush, Install, Plan, Rotate, Set}
use Rattle.vl_engine_model.specs.Store.Things.{State}

-- the names of a transaction and of a job
abbrev pub t : List ℕ
t = 0x74 ∷ []

abbrev pub j : List ℕ
j = 0x6a ∷ []

-- a transaction of one write, whose memtable becomes a table
abbrev pub in_a_table : Line → List Line
in_a_table write = Begin t ∷ write ∷ Commit t ∷ Rotate ∷ Flush ∷ []

-- the deletion is the second commit
abbrev pub merged_deletion : List Line
merged_deletion =
    in_a_table (Set t (0x61 ∷ []) (replicate 65 0xaa)) ++ in_a_table (Delete t (0x61 ∷ []))
    ++ in_a_table (Set t (0x62 ∷ []) (1 ∷ [])) ++ in_a_table (Set t (0x63 ∷ []) (1 ∷ [])) ++ Plan j ∷ Install j ∷ []

-- what a new store, whose logs may have a gibibyte, is behind it
abbrev pub behind_the_merge : State
behind_the_merge = state_behind (new_store 1073741824) merged_deletion
