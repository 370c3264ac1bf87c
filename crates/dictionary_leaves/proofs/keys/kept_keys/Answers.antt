use Rattle.dictionary_leaves.proofs.KeySlots.{keys_kept}
use Rattle.dictionary_leaves.proofs.keys.kept_keys.Goals as goal

pub returns-clause-ok : goal.returns-clause-ok
returns-clause-ok g c = keys_kept g.K.KeyNumber.kept g.K.KeyNumber.loaded_key c.args.count c.args.values.0 c.into_parts-numbers.result.0.items c.args.values.1 c.into_parts-numbers.result.1.0 c.in_ok-validity.validity c.in_ok-bits.bits.0 c.in_ok-into_bitmap.field-0 c.keys.result c.into_parts-numbers.ensures.even c.into_parts-numbers.ensures.values c.into_parts-numbers.ensures.validity c.in_ok-validity.ensures.ok (rw c.deref.ensures.value at c.in_ok-bits.ensures.ok) c.in_ok-into_bitmap.ensures.ok c.keys.ensures.keys c.keys.ensures.mask
