use Rattle.std.proofs.Common.{inl, inr, refl, sym, ◌∙◌}
use Rattle.std.proofs.lemmas.Result.{on_ok_weaker}
use Rattle.columns_core.specs.Bits.{word_bits}
use Rattle.read_walk.specs.Values.{ones}
use Rattle.read_leaf.proofs.NumberSlots.{too-few}
use Rattle.read_leaf.proofs.SetBits.{mixed-all, mixed-none}
use Rattle.read_leaf.proofs.primitive.PrimitiveDecoderNestedDecoder.push_mixed.Goals as goal

pub returns-then-wanted-count-clause-ok : goal.returns-then-wanted-count-clause-ok
returns-then-wanted-count-clause-ok g c = on_ok_weaker c.push_valid.result (λ d. mixed-all c.args.valid c.args.count _ _ _ _ (sym c.if-wanted-count.true ∙ c.count_set-wanted.ensures) d) c.push_valid.ensures.ok

pub returns-then-wanted-eq0-clause-ok : goal.returns-then-wanted-eq0-clause-ok
returns-then-wanted-eq0-clause-ok g c = on_ok_weaker c.push_null.result (λ p. mixed-none c.args.valid c.args.count _ _ _ (sym c.if-wanted-eq0.true ∙ c.count_set-wanted.ensures) p) c.push_null.ensures.ok

pub returns-then-state-width-clause-err : goal.returns-then-state-width-clause-err
returns-then-state-width-clause-err g c = inr (inl (refl, too-few g.T.FromStored.loaded g.P.StoredNumber.spelled g.P.PlainNumber.byte_count (ones (word_bits c.args.valid c.args.count)) c.args.state.now.values.now (rw (c.width.ensures, c.count_set-wanted.ensures) at c.if-state-width.true)))
