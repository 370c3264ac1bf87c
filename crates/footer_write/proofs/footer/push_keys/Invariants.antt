use Rattle.pq_files.specs.Written.{key_value}
use Rattle.pq_tree.specs.Views.{key_view}
use Rattle.thrift_fields.proofs.Chains.{Left}
use Rattle.footer_write.proofs.footer.push_keys.Given as goal

abbrev pub invariant-pairs : goal.invariant-pairs
invariant-pairs l = Left (λ k. key_value (key_view k)) l.pairs l.pair-index l.initial.out.items l.out.items
