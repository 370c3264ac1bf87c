use Rattle.std.proofs.Common.{ℕ, ◌%◌, ◌^◌, sym, ap, ◌∙◌}
use Rattle.schema_fb.proofs.Lengths.{numbers_length}
use Rattle.schema_fb.proofs.size.numbers_size.Goals as goal

pub returns : goal.returns
returns c = c.block.ensures ∙ ap (λ (n : ℕ). n % 2 ^ 64) (sym (numbers_length c.args.ids.now))
