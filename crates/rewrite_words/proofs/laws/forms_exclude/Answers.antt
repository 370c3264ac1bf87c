use Rattle.rewrite_words.proofs.Forms.{exclude}
use Rattle.rewrite_words.proofs.laws.forms_exclude.Goals as goal

pub returns : goal.returns
returns c = exclude
