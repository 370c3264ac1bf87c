use Rattle.std.proofs.Common.{refl}
use Rattle.std.proofs.lemmas.Str.{IsUtf8-from_ascii}
use Rattle.read_leaf.specs.Strings.{IsText}
use Rattle.read_leaf.proofs.texts.is_text.Goals as goal

pub returns-then-is_ascii : goal.returns-then-is_ascii
unfolding IsText
returns-then-is_ascii c = (λ _. IsUtf8-from_ascii c.args.bytes.now c.if-is_ascii.ensures.cases, λ _. refl)
