use Rattle.std.proofs.Common.{refl, sym, ap, ◌∙◌}
use Rattle.columns_core.specs.Bits.{bits_eq, bits_eq-laws}
use Rattle.nested_paths.proofs.merge.same_masks.Goals as goal

pub returns-then-same_words : goal.returns-then-same_words
returns-then-same_words c = sym (ap (bits_eq c.args.a.now) (sym (c.if-same_words.ensures refl)) ∙ bits_eq-laws.refl c.args.a.now)
