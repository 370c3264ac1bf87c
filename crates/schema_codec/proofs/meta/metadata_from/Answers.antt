use Rattle.std.proofs.Common.{refl}
use Rattle.schema_codec.proofs.Turns.{put_last}
use Rattle.schema_codec.proofs.meta.metadata_from.Goals as goal

pub loop-key-init : goal.loop-key-init
loop-key-init c = rw (c.new-metadata.ensures, c.into_iter-key-iterator.ensures.into_iter_gives.0) (refl, refl)

pub loop-key-preserved-in_ok-insert : goal.loop-key-preserved-in_ok-insert
loop-key-preserved-in_ok-insert c = put_last c.loop-key.metadata c.insert.new.self (c.in-Some.key, c.in-Some.text) c.loop-key.yielded c.loop-key.key-iterator.rest.items c.next.new.self.rest.items c.args.entries.items c.requires c.in-Some.ensures.steps.0 c.in_ok-insert.ensures.ok c.loop-key.invariant.0 c.loop-key.invariant.1

pub loop-key-preserved : goal.loop-key-preserved
loop-key-preserved c = put_last c.loop-key.metadata c.insert.new.self (c.in-Some.key, c.in-Some.text) c.loop-key.yielded c.loop-key.key-iterator.rest.items c.next.new.self.rest.items c.args.entries.items c.requires c.in-Some.ensures.steps.0 c.in_ok-insert.ensures.ok c.loop-key.invariant.0 c.loop-key.invariant.1
