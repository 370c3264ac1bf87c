use Rattle.std.proofs.Common.{◌^◌, arith, refl}
use Rattle.columns_leaf.specs.Keyed.{keys_of}
use Rattle.columns_slots.specs.Slots.{entry_at}
use Rattle.levels.specs.Nested.{parts_of}
use Rattle.write_places.specs.Places.{path_places}
use Rattle.dictionary_pages.proofs.Written.{all_low, none_written, runs_written}
use Rattle.dictionary_pages.proofs.indices.push_indices.Goals as goal

pub overflow_cast-width : goal.overflow_cast-width
overflow_cast-width c = omega (arith, c.get_bit_width-width.ensures.least 32 c.requires.low)

pub returns-then-width-eq0-clause-ok : goal.returns-then-width-eq0-clause-ok
returns-then-width-eq0-clause-ok c =
    none_written c.get_bit_width-width.result c.args.largest c.get_bit_width-width.result c.args.out.items _ _ c.get_bit_width-width.ensures c.if-width-eq0.true refl c.in_ok-push.ensures.items c.requires.largest

pub push_runs-requires-clause-most : goal.push_runs-requires-clause-most
push_runs-requires-clause-most c = c.get_bit_width-width.ensures.least 32 c.requires.low

pub push_runs-requires-clause-low : goal.push_runs-requires-clause-low
push_runs-requires-clause-low c =
    all_low (entry_at (keys_of c.args.keys.now)) c.args.largest (2 ^ 32) (2 ^ c.get_bit_width-width.result) (path_places (parts_of c.args.nested.now)) c.requires.low c.get_bit_width-width.ensures.holds c.requires.largest

pub returns-clause-ok : goal.returns-clause-ok
returns-clause-ok c =
    runs_written c.get_bit_width-width.result c.args.largest c.get_bit_width-width.result c.args.out.items _ _ _ c.get_bit_width-width.ensures (c.get_bit_width-width.ensures.least 32 c.requires.low) refl c.in_ok-push.ensures.items c.requires.largest c.in_ok-written.ensures.ok
