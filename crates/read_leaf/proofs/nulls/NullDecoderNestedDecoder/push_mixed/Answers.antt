use Rattle.std.proofs.Common.{sym, ◌∙◌}
use Rattle.std.proofs.lemmas.Result.{on_ok_weaker}
use Rattle.read_leaf.proofs.SetBits.{mixed-none}
use Rattle.read_leaf.proofs.nulls.NullDecoderNestedDecoder.push_mixed.Goals as goal

pub returns-then-wanted-eq0-clause-ok : goal.returns-then-wanted-eq0-clause-ok
returns-then-wanted-eq0-clause-ok c = on_ok_weaker c.push_null.result (λ p. mixed-none c.args.valid c.args.count _ _ _ (sym c.if-wanted-eq0.true ∙ c.count_set-wanted.ensures) p) c.push_null.ensures.ok
