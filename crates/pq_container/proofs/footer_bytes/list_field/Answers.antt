use Rattle.std.proofs.Common.{◌<◌, ◌≤◌, rules, Fits, w8, arith}
use Rattle.std.proofs.lemmas.Int.{ints}
use Rattle.pq_container.proofs.Lists.{short_list, long_list}
use Rattle.pq_container.proofs.footer_bytes.list_field.Goals as goal

pub returns-then-byte-lt240 : goal.returns-then-byte-lt240
returns-then-byte-lt240 c =
    let low : c.in_ok-byte.byte < 240 = omega (arith, c.if-byte-lt240.true) in
    record { middle = c.in_ok-list.list.now; parts = c.in_ok-list.ensures; fronts = short_list c.args.kind c.in_ok-byte.byte c.in_ok-list.list.now c.in_ok-byte.rest.now c.if-elements-kind.false low c.in_ok-byte.ensures }

pub returns : goal.returns
returns c =
    let high : 240 ≤ c.in_ok-byte.byte = omega (arith, c.if-byte-lt240.false) in
    let fits : Fits w8 c.in_ok-byte.byte = search rules in
    let small : c.in_ok-byte.byte < 256 = omega (arith, ints, fits) in
    record { middle = c.in_ok-list.list.now; parts = c.in_ok-list.ensures; fronts = long_list c.args.kind c.in_ok-byte.byte c.in_ok-count.count c.in_ok-list.list.now c.in_ok-byte.rest.now c.in_ok-count.behind_count.now c.if-elements-kind.false high small c.in_ok-byte.ensures c.in_ok-count.ensures }
