use Rattle.std.proofs.Common.{inl, inr, ℕ, arith, refl, subst, sym}
use Rattle.read_leaf.specs.Numbers.{stored_numbers}
use Rattle.read_pieces.specs.Leaves.{BeginsWithValue}
use Rattle.read_types.proofs.Sizes.{number-none, number-outside, number-value}
use Rattle.read_types.proofs.numbers.number_size.Goals as goal

pub returns-then-bytes-width-clause-err : goal.returns-then-bytes-width-clause-err
returns-then-bytes-width-clause-err g c = inl (refl, number-none g.T.FromStored.loaded g.P.StoredNumber.spelled g.P.PlainNumber.byte_count c.args.bytes.now (omega (arith, c.if-bytes-width.true, c.width.ensures)))

pub returns-in-Some-clause-ok : goal.returns-in-Some-clause-ok
returns-in-Some-clause-ok g c =
    subst (λ (n : ℕ). BeginsWithValue (stored_numbers g.T.FromStored.loaded g.P.StoredNumber.spelled g.P.PlainNumber.byte_count) n c.args.bytes.now) (sym c.width-in-Some.ensures) (number-value g.T.FromStored.loaded g.P.StoredNumber.spelled g.P.PlainNumber.byte_count c.args.bytes.now _ g.met.P.StoredNumber.some_bytes (omega (arith, c.if-bytes-width.false, c.width.ensures)) c.in-Some.ensures)

pub returns-in-None-clause-err : goal.returns-in-None-clause-err
returns-in-None-clause-err g c = inr (refl, number-outside g.T.FromStored.loaded g.P.StoredNumber.spelled g.P.PlainNumber.byte_count c.args.bytes.now g.met.P.StoredNumber.some_bytes (omega (arith, c.if-bytes-width.false, c.width.ensures)) c.in-None.ensures)
