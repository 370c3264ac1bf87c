use Rattle.std.proofs.Common.{◌≡◌, ◌+◌, suc, ℕ, ◌++◌, ap, sym, ◌∙◌, Bool, List, map, nat_le, arith}
use Rattle.columns_core.specs.Bits.{word_bits}
use Rattle.read_state.specs.Reach.{chosen}
use Rattle.read_state.proofs.Listing.{if-ok}
use Rattle.read_state.proofs.plain.push_valid.Goals as goal

pub returns : goal.returns
returns c made =
    let e : c.args.def + 1 ≡ suc c.args.def = omega arith in
    let there = c.from-there.ensures ∙ ap (λ (k : ℕ). map (λ d. nat_le k d) c.args.defs.now) e in
    let bits = ap (word_bits c.pick_bits.result) c.ones_of.ensures.is ∙ (c.pick_bits.ensures ∙ ap (chosen (word_bits c.args.pushed 64)) there) in
    if-ok c.extend_from_word.result c.extend_from_word.ensures.ok (sym c.is_ok.ensures.value ∙ made) ∙ ap (λ (bs : List Bool). c.args.validity.now.0 ++ bs) bits
