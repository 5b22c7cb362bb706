-- Each scan of the language asks for a row.
use Rattle.std.proofs.Common.{◌≡◌, ◌≤◌, ℕ, Bool, true, false, cond, List, [], ◌∷◌, refl, subst, arith}
use Rattle.std.proofs.lemmas.Bool.Decides.{nat_tests}
use Rattle.std.specs.Prelude.{Option, None, Some, ◌==◌, codes, if◌then◌else◌, nat_le, length}
use Rattle.std.specs.Option.{option_map}
use Rattle.std.specs.Str.{bytes_eq}
use Rattle.vl_model.specs.declared.way.Way.{Way}
use Rattle.vl_model.specs.declared.way.Way.TheVariants.{Up, Down}
use Rattle.vl_script_model.specs.Asking.{AsksForRow}
use Rattle.vl_script.specs.Script.{◌>>=◌, alone, get_at_of, ident_alone, ident_and_key, ident_and_number, ident_and_two, keep_of}
use Rattle.vl_script.specs.Script.{line_of, line_of_words, longest_line, named_key, scan_of, set_of, with_number, words_of}
use Rattle.vl_script.specs.Numbers.{number_of}
use Rattle.vl_script.specs.declared.line.Line.{Line}
use Rattle.vl_script.specs.declared.line.Line.TheVariants.{Begin, View, Get, Set, SetTagged, GetTagged, GetAt, Scan}
use Rattle.vl_script.specs.declared.line.Line.TheVariants.{Delete, Commit, Drop, Rotate, Flush, Keep, Plan, Drain, Install}
use Rattle.vl_script.specs.declared.line.Line.TheVariants.{Sweep, Stats, Pick, Batch, Move}

-- the line asks for one, where there is a line
record Asks (o : Option Line) : Type 0 where
  all : (line : Line) → o ≡ Some line → AsksForRow line

none : Asks None
none = record { all = λ line is. absurd (none_some line is) }
  where
    none_some : (line : Line) → None ≡ Some line → ⊥
    none_some line e = cc

one : (line : Line) → AsksForRow line → Asks (Some line)
one line asks = record { all = λ other is. subst AsksForRow (same line other is) asks }
  where
    same : (a b : Line) → Some a ≡ Some b → a ≡ b
    same a b e = cc

either : (b : Bool) (x y : Option Line) → Asks x → Asks y → Asks (cond b x y)
either true x y p q = p
either false x y p q = q

mapped : {A : Type 0} (o : Option A) (f : A → Line) → ((x : A) → AsksForRow (f x)) → Asks (option_map f o)
mapped None f all = none
mapped (Some x) f all = one (f x) (all x)

bound : {A : Type 0} (o : Option A) (f : A → Option Line) → ((x : A) → Asks (f x)) → Asks (o >>= f)
bound None f all = none
bound (Some x) f all = all x

some_row : (name low high : List ℕ) (way : Way) (n : ℕ) (b : Bool) → (n == 0) ≡ b → Asks (cond b None (Some (Scan name low high n way)))
some_row name low high way n true is = none
some_row name low high way n false is = one (Scan name low high n way) (let some : 1 ≤ n = grind (arith, nat_tests, is) in some)

scans : (way : Way) (words : List (List ℕ)) → Asks (scan_of way words)
scans way words = bound (with_number 65535 words) (λ w. if w.3 == 0 then None else Some (Scan w.0 w.1 w.2 w.3 way))
    (λ w. some_row w.0 w.1 w.2 way w.3 (w.3 == 0) refl)

sets : (words : List (List ℕ)) → Asks (set_of words)
sets [] = none
sets (name ∷ []) = none
sets (name ∷ key ∷ []) = none
sets (name ∷ key ∷ value ∷ []) = mapped (ident_and_two name key value) (λ w. Set w.0 w.1 w.2) (λ w. tt)
sets (name ∷ key ∷ value ∷ other ∷ words) = none

olds : (words : List (List ℕ)) → Asks (get_at_of words)
olds [] = none
olds (name ∷ []) = none
olds (name ∷ key ∷ []) = none
olds (name ∷ key ∷ number ∷ []) = bound (number_of 18446744073709551615 number)
    (λ n. option_map (λ w. GetAt w.0 w.1 n) (named_key name key))
    (λ n. mapped (named_key name key) (λ w. GetAt w.0 w.1 n) (λ w. tt))
olds (name ∷ key ∷ number ∷ other ∷ words) = none

keeps : (words : List (List ℕ)) → Asks (keep_of words)
keeps [] = none
keeps (versions ∷ []) = mapped (number_of 255 versions) Keep (λ v. tt)
keeps (versions ∷ other ∷ words) = none

alones : (line : Line) → AsksForRow line → (words : List (List ℕ)) → Asks (alone line words)
alones line asks [] = one line asks
alones line asks (word ∷ words) = none

asks_in : (words : List (List ℕ)) → Asks (line_of_words words)
asks_in [] = none
asks_in (command ∷ words) =
    either (bytes_eq command (codes "begin")) _ _ (mapped (ident_alone words) Begin (λ w. tt))
    (either (bytes_eq command (codes "view")) _ _ (mapped (ident_alone words) View (λ w. tt))
    (either (bytes_eq command (codes "get")) _ _ (mapped (ident_and_key words) (λ p. Get p.0 p.1) (λ w. tt))
    (either (bytes_eq command (codes "set")) _ _ (sets words)
    (either (bytes_eq command (codes "setb")) _ _ (mapped (with_number 255 words) (λ w. SetTagged w.0 w.1 w.2 w.3) (λ w. tt))
    (either (bytes_eq command (codes "getb")) _ _ (mapped (ident_and_key words) (λ p. GetTagged p.0 p.1) (λ w. tt))
    (either (bytes_eq command (codes "getat")) _ _ (olds words)
    (either (bytes_eq command (codes "scan")) _ _ (scans Up words)
    (either (bytes_eq command (codes "rscan")) _ _ (scans Down words)
    (either (bytes_eq command (codes "del")) _ _ (mapped (ident_and_key words) (λ p. Delete p.0 p.1) (λ w. tt))
    (either (bytes_eq command (codes "commit")) _ _ (mapped (ident_alone words) Commit (λ w. tt))
    (either (bytes_eq command (codes "drop")) _ _ (mapped (ident_alone words) Drop (λ w. tt))
    (either (bytes_eq command (codes "rotate")) _ _ (alones Rotate tt words)
    (either (bytes_eq command (codes "flush")) _ _ (alones Flush tt words)
    (either (bytes_eq command (codes "keep")) _ _ (keeps words)
    (either (bytes_eq command (codes "plan")) _ _ (mapped (ident_alone words) Plan (λ w. tt))
    (either (bytes_eq command (codes "drain")) _ _ (mapped (ident_and_number 4294967295 words) (λ w. Drain w.0 w.1) (λ w. tt))
    (either (bytes_eq command (codes "install")) _ _ (mapped (ident_alone words) Install (λ w. tt))
    (either (bytes_eq command (codes "sweep")) _ _ (alones Sweep tt words)
    (either (bytes_eq command (codes "stats")) _ _ (alones Stats tt words)
    (either (bytes_eq command (codes "pick")) _ _ (mapped (ident_and_number 255 words) (λ w. Pick w.0 w.1) (λ w. tt))
    (either (bytes_eq command (codes "batch")) _ _ (mapped (ident_alone words) Batch (λ w. tt))
    (either (bytes_eq command (codes "move")) _ _ (mapped (ident_alone words) Move (λ w. tt)) none))))))))))))))))))))))

pub line_asks : (text : List ℕ) (line : Line) → line_of text ≡ Some line → AsksForRow line
line_asks text line is =
    (either (nat_le (length text) longest_line) (line_of_words (words_of text)) None (asks_in (words_of text)) none).all line is
