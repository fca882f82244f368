-- the words so far are the texts of the strings so far
use Rattle.std.proofs.Common.{◌≡◌, map, string_bytes, take}
use Rattle.git_words.specs.Words.{words_of}
use Rattle.git_main.proofs.runs.answer.Given as goal

abbrev pub invariant-loop-word : goal.invariant-loop-word
invariant-loop-word g l = words_of l.words.items ≡ map string_bytes (take l.word-index l.owned)
