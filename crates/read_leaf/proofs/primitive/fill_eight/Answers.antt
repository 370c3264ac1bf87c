use Rattle.std.proofs.Common.{◌-◌, ◌*◌, ℕ, map, drop, arith, ap, refl, ◌∙◌}
use Rattle.columns_core.specs.Bits.{word_bits}
use Rattle.read_walk.specs.Values.{ones}
use Rattle.read_leaf.proofs.Pairs.{all-at, mixed-at, one-before}
use Rattle.read_leaf.proofs.primitive.fill_eight.Goals as goal

pub returns-then-word-eq255 : goal.returns-then-word-eq255
returns-then-word-eq255 g c e =
    let size : ℕ = g.P.PlainNumber.byte_count in
    let bytes = c.args.bytes.now in
    let source = c.skip.ensures ∙ ap (λ (k : ℕ). drop (k * c.args.at) bytes) c.width.ensures in
    all-at g.T.FromStored.loaded g.P.StoredNumber.spelled size c.args.word c.args.at bytes c.skip.result.now (map g.T.FromStored.loaded_number c.copy_block.new.places) (omega (arith, c.if-word-eq255.true)) source (c.copy_block.ensures e)

pub returns : goal.returns
returns g c e =
    let size : ℕ = g.P.PlainNumber.byte_count in
    let bytes = c.args.bytes.now in
    let bits = word_bits c.args.word 8 in
    let source = c.skip-2.ensures ∙ ap (λ (k : ℕ). drop (k * (c.args.at - 1)) bytes) c.width-2.ensures in
    let before = one-before g.T.FromStored.loaded g.P.StoredNumber.spelled size c.args.at bytes c.skip-2.result.now (omega (arith, c.if-at-eq0.false)) source in
    mixed-at g.T.FromStored.loaded g.P.StoredNumber.spelled size bits c.args.at bytes (drop size c.skip-2.result.now) (drop (size * ones bits) (drop size c.skip-2.result.now)) (map g.T.FromStored.loaded_number c.spread_pairs.new.places) before refl (c.spread_pairs.ensures e)
