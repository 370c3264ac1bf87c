use Rattle.std.proofs.Common.{◌+◌, ◌*◌, ◌%◌, ◌^◌, ◌++◌, length, flat_map}
use Rattle.std.proofs.lemmas.Result.{on_ok_weaker}
use Rattle.schema_codec.specs.Spelling.{count_bytes, id_bytes}
use Rattle.schema_fb.proofs.Lengths.{numbers_rest}
use Rattle.schema_fb.proofs.Steps.{appended, padded_appended}
use Rattle.schema_fb.proofs.pushing.push_numbers.Goals as goal

pub returns : goal.returns
returns c =
    let out = c.args.out.now.items in
    let ids = c.args.ids.now in
    let head = count_bytes (length ids) in
    let second = appended out head (flat_map id_bytes ids) c.push_count.new.out.items c.push_ids.new.out.items c.in_ok-push_count.ensures c.in_ok-push_ids.ensures in
    on_ok_weaker c.push_gap.result (padded_appended out (head ++ flat_map id_bytes ids) c.push_ids.new.out.items c.push_gap.new.out.items ((length ids * 4 % 2 ^ 64 + 4) % 2 ^ 64) second (numbers_rest ids)) c.push_gap.ensures
