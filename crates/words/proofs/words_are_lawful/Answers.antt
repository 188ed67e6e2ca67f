-- The laws of words, at every width.
use Rattle.words.proofs.Wrapping.{words_lawful}
use Rattle.words.proofs.words_are_lawful.Goals as goal

pub returns : goal.returns
returns c = words_lawful
