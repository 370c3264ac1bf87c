use Rattle.std.proofs.Common.{List, ℕ, refl, subst, sym}
use Rattle.dictionary_leaves.proofs.Flat.{all_decoded, none_decoded}
use Rattle.dictionary_leaves.proofs.entries.decode.Goals as goal

pub returns-in-Ok-clause-ok : goal.returns-in-Ok-clause-ok
returns-in-Ok-clause-ok g c = all_decoded (λ (text : List ℕ). g.L.LeafReader.stored c.args.leaf.now text 0) c.args.count c.args.body.now c.extend_leaf.new.page (g.L.LeafReader.stored c.args.leaf.now c.extend_leaf.new.bytes.values.now c.extend_leaf.new.bytes.bit) c.extend_leaf.new.nested (g.L.LeafReader.slots c.extend_leaf.new.values) (rw (c.in_ok-page.ensures, c.in_ok-nested.ensures.ok, c.in_ok-values.ensures.ok) at c.in-Ok.ensures.ok)

pub returns-in-Ok-clause-suits : goal.returns-in-Ok-clause-suits
returns-in-Ok-clause-suits g c =
    subst (λ (n : ℕ). g.L.LeafReader.suits c.args.leaf.now n) (sym c.extend_leaf.ensures.width) (c.in_ok-values.ensures.suits c.in_ok-values.values refl)

pub returns-clause-err : goal.returns-clause-err
returns-clause-err g c = none_decoded (λ (text : List ℕ). g.L.LeafReader.stored c.args.leaf.now text 0) g.L.LeafReader.byte_limit c.args.count c.args.body.now c.in-Err.error (rw (c.in_ok-page.ensures, c.in_ok-nested.ensures.ok, c.in_ok-values.ensures.ok) at c.in-Err.ensures.err)
