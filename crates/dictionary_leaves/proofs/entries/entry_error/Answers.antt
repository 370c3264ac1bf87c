use Rattle.std.proofs.Common.{List, ℕ, inr, ◌∙◌, sym}
use Rattle.dictionary_leaves.proofs.Whole.{past}
use Rattle.dictionary_leaves.proofs.entries.entry_error.Goals as goal

pub returns : goal.returns
returns g c = inr (past (λ (text : List ℕ). g.L.LeafReader.stored c.args.leaf.now text 0) g.L.LeafReader.byte_limit c.args.count c.args.body.now c.in_default.field-0 c.args.error (sym c.is_past_bound.ensures ∙ c.if-not-is_past_bound.false) c.in_default.ensures.ok c.requires)
