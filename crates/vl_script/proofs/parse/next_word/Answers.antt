use Rattle.std.proofs.Common.{sym, ◌∙◌}
use Rattle.std.proofs.lemmas.List.{take_rest}
use Rattle.vl_script.proofs.ScriptWords.{words_of_one, words_of_first}
use Rattle.vl_script.proofs.parse.next_word.Goals as goal

pub returns-in-Some : goal.returns-in-Some
returns-in-Some c = rw take_rest (words_of_first _ _ (sym c.find_byte.ensures ∙ c.in-Some.is))

pub returns-in-None : goal.returns-in-None
returns-in-None c = words_of_one _ (sym c.find_byte.ensures ∙ c.in-None.is)
